use Rattle.std.proofs.Common.{◌≡◌, ℕ, ◌+◌, ◌<◌, true, length, get_or}
use Rattle.region_file.specs.Lines.{has_line}
use Rattle.region_file.proofs.line_set.LineSet.insert_all.Given as goal

abbrev pub invariant-loop-line : goal.invariant-loop-line
invariant-loop-line l = record {
  count : length l.self.marks.items ≡ length l.initial.self.marks.items;
  keeps : (k : ℕ) → has_line l.initial.self k ≡ true → has_line l.self k ≡ true;
  takes : (j : ℕ) → j < l.line-index → has_line l.self (l.by + get_or l.other.lines.items j 0) ≡ true;
}
