use Rattle.std.proofs.Common.{◌≡◌, ◌⊎◌, ℕ, ◌+◌, ◌-◌, ◌≤◌, ◌<◌, length, get_or}
use Rattle.region_file.proofs.file_bytes.FileBytes.take_part.Given as goal

abbrev pub invariant-loop-done : goal.invariant-loop-done
invariant-loop-done l = record {
  most : l.done ≤ length l.part.items;
  count : length l.self.items ≡ length l.initial.self.items;
  inner : (j : ℕ) → j < l.done → get_or l.self.items (l.low + j) 0 ≡ get_or l.part.items j 0;
  outer : (k : ℕ) → (k < l.low) ⊎ (l.low + l.done ≤ k) → get_or l.self.items k 0 ≡ get_or l.initial.self.items k 0;
}

abbrev pub decreases-loop-done : goal.decreases-loop-done
decreases-loop-done l = length l.part.items - l.done
