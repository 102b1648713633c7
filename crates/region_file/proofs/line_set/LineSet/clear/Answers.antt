use Rattle.std.proofs.Common.{◌≡◌, ℕ, ◌<◌, false, List, length, get_or, sym, subst, arith}
use Rattle.region_file.specs.Marks.{is_marked, KeepsLines}
use Rattle.region_file.proofs.Lining.{keeps_none, all_gone}
use Rattle.region_file.proofs.line_set.LineSet.clear.Goals as goal

none_left : (c : goal.After-clear) → (k : ℕ) → is_marked c.unmark.new.marks.items k ≡ false
none_left c =
    let s = c.args.self.now in
    all_gone s.marks.items c.unmark.new.marks.items s.lines.items s.keeps c.unmark.ensures.kept
    (subst (λ (l : List ℕ). (j : ℕ) → j < length l → is_marked c.unmark.new.marks.items (get_or l j 0) ≡ false) c.deref.ensures.value c.unmark.ensures.gone)

pub invariant_of-self-clause-keeps : goal.invariant_of-self-clause-keeps
invariant_of-self-clause-keeps c = subst (λ (l : List ℕ). KeepsLines c.unmark.new.marks.items l) (sym c.clear.ensures.items) (keeps_none c.unmark.new.marks.items (none_left c))

pub invariant_of-self-clause-few : goal.invariant_of-self-clause-few
invariant_of-self-clause-few c = let s = c.args.self.now in omega (arith, s.few, c.unmark.ensures.count)

pub invariant_of-self-clause-room : goal.invariant_of-self-clause-room
invariant_of-self-clause-room c = let s = c.args.self.now in omega (arith, s.room, c.unmark.ensures.count, c.clear.ensures.capacity)

pub returns : goal.returns
returns c = record { count_is = c.unmark.ensures.count; none = let s = c.args.self.now in all_gone s.marks.items c.unmark.new.marks.items s.lines.items s.keeps c.unmark.ensures.kept (subst (λ (l : List ℕ). (j : ℕ) → j < length l → is_marked c.unmark.new.marks.items (get_or l j 0) ≡ false) c.deref.ensures.value c.unmark.ensures.gone) }
