use Rattle.region_file.proofs.Lining.{keeps_sorted}
use Rattle.region_file.proofs.line_set.LineSet.sort.Goals as goal

pub invariant_of-self-clause-keeps : goal.invariant_of-self-clause-keeps
invariant_of-self-clause-keeps c =
    let s = c.args.self.now in
    keeps_sorted s.marks.items s.lines.items c.sort_unstable.new.self.items c.sort_unstable.ensures.permutation s.keeps
