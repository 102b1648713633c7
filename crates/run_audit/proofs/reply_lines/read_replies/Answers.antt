use Rattle.std.proofs.Common.{ap, ◌∙◌, arith, subst}
use Rattle.fs_text.specs.Input.{lines_of}
use Rattle.fs_text.specs.Reading.{Answers}
use Rattle.run_audit.specs.Parting.{items_of}
use Rattle.run_audit.specs.Replies.{replies_from}
use Rattle.run_audit.proofs.RepliesRead.{all_read}
use Rattle.run_audit.proofs.reply_lines.read_replies.Goals as goal

pub returns-clause-inverse : goal.returns-clause-inverse
returns-clause-inverse c = λ rs w is.
    subst (λ s. Answers (items_of c.replies_of_lines.result) s)
    (ap (λ t. replies_from c.args.number c.args.bytes 0 (lines_of t)) is ∙ all_read c.args.number c.args.bytes 0 rs w.each w.small (let few = w.few in omega arith))
    c.replies_of_lines.ensures.exact
