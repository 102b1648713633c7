use Rattle.std.proofs.Common.{◌≡◌, ◌⊎◌, ℕ, ◌+◌, ◌≤◌, ◌<◌, length, get_or}
use Rattle.region_memory.proofs.history.overwrite.Given as goal

abbrev pub invariant-loop-i : goal.invariant-loop-i
invariant-loop-i l = record {
  same_length : length l.words.items ≡ length l.initial.words.items;
  inner : (k : ℕ) → k < l.i → get_or l.words.items (l.low + k) 0 ≡ get_or l.part k 0;
  outer : (k : ℕ) → (k < l.low) ⊎ (l.low + length l.part ≤ k) → get_or l.words.items k 0 ≡ get_or l.initial.words.items k 0;
}
