use Rattle.std.proofs.Common.{refl}
use Rattle.fs_text.proofs.FirstBytes.{lines_found, lines_unfound}
use Rattle.run_audit.proofs.Lines.{line_found, short_found, short_unfound, rest_unfound}
use Rattle.run_audit.proofs.parted_line.first_line.Goals as goal

pub returns-in-Some-clause-parted : goal.returns-in-Some-clause-parted
returns-in-Some-clause-parted c = record {
  lines = lines_found c.args.bytes.now c.in-Some.end c.in-Some.ensures.0 c.in-Some.ensures.1;
  line = λ e. line_found c.args.bytes.now c.in-Some.end c.in-Some.ensures.0 c.in-Some.ensures.1;
  last = λ e. absurd (cc e);
  short = short_found c.args.bytes.now c.in-Some.end c.in-Some.ensures.0 c.in-Some.ensures.1;
}

pub returns-in-None-clause-parted : goal.returns-in-None-clause-parted
returns-in-None-clause-parted c = record {
  lines = lines_unfound c.args.bytes.now c.requires c.in-None.ensures;
  line = λ e. absurd (cc e);
  last = λ e. (refl, rest_unfound c.args.bytes.now);
  short = short_unfound c.args.bytes.now c.in-None.ensures;
}
