use Rattle.std.proofs.Common.{◌≡◌, ℕ, ◌+◌, ◌*◌, ◌<◌, true}
use Rattle.lazy_alloc.specs.Bits.{has_bit}
use Rattle.lazy_alloc.proofs.bits.first_unset.Given as goal

abbrev pub invariant-loop-i : goal.invariant-loop-i
invariant-loop-i l = (k : ℕ) → k < 64 * l.i → has_bit l.words (64 * l.from + k) ≡ true
