use Rattle.std.proofs.Common.{◌≡◌, ℕ, ◌<◌, true, false, length, get_or}
use Rattle.region_file.specs.Marks.{is_marked}
use Rattle.region_file.proofs.line_set.unmark.Given as goal

abbrev pub invariant-loop-line : goal.invariant-loop-line
invariant-loop-line l = record {
  count : length l.marks.items ≡ length l.initial.marks.items;
  kept : (k : ℕ) → is_marked l.marks.items k ≡ true → is_marked l.initial.marks.items k ≡ true;
  gone : (j : ℕ) → j < l.line-index → is_marked l.marks.items (get_or l.lines j 0) ≡ false;
}
