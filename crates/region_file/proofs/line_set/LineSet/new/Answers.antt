use Rattle.std.proofs.Common.{false, ℕ, ◌≡◌, List, Bool, sym, subst}
use Rattle.region_file.specs.Marks.{is_marked, KeepsLines}
use Rattle.region_file.proofs.Lining.{keeps_none, unmarked}
use Rattle.region_file.proofs.line_set.LineSet.new.Goals as goal

pub invariant_of-result-clause-keeps : goal.invariant_of-result-clause-keeps
invariant_of-result-clause-keeps c =
    let is = c.in_ok-marks.ensures.items_if_clones_equal (λ y e. e) in
    let none : (k : ℕ) → is_marked c.in_ok-marks.marks.items k ≡ false = subst (λ (l : List Bool). (k : ℕ) → is_marked l k ≡ false) (sym is) (unmarked c.args.count) in
    subst (λ (l : List ℕ). KeepsLines c.in_ok-marks.marks.items l) (sym c.in_ok-lines.ensures.items) (keeps_none c.in_ok-marks.marks.items none)
