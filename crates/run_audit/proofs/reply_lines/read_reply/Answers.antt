use Rattle.run_audit.proofs.Texts.{ok_text}
use Rattle.run_audit.proofs.reply_lines.read_reply.Goals as goal

pub returns-clause-inverse : goal.returns-clause-inverse
returns-clause-inverse c = ok_text c.args.text.now c.reply_of.result c.reply_of.ensures
