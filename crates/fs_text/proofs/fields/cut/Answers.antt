use Rattle.std.proofs.Common.{sym}
use Rattle.fs_text.proofs.FirstBytes.{cut_found, cut_missing, missing}
use Rattle.fs_text.proofs.fields.cut.Goals as goal

pub returns-in-Some : goal.returns-in-Some
returns-in-Some c = cut_found c.args.bytes.now c.in-Some.end c.in-Some.ensures.0 c.in-Some.ensures.1

pub returns-in-None : goal.returns-in-None
returns-in-None c = sym (cut_missing c.args.bytes.now (missing 32 c.args.bytes.now c.in-None.ensures))
