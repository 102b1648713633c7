use Rattle.fs_text.proofs.FirstBytes.{lines_found, lines_unfound}
use Rattle.fs_text.proofs.fields.first_line.Goals as goal

pub returns-in-Some-clause-lines : goal.returns-in-Some-clause-lines
returns-in-Some-clause-lines c = lines_found c.args.bytes.now c.in-Some.end c.in-Some.ensures.0 c.in-Some.ensures.1

pub returns-in-None-clause-lines : goal.returns-in-None-clause-lines
returns-in-None-clause-lines c = lines_unfound c.args.bytes.now c.requires c.in-None.ensures
