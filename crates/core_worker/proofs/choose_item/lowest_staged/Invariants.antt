use Rattle.std.proofs.Common.{◌≡◌, ℕ, ◌<◌, false}
use Rattle.core_worker.specs.OwnPlaces.{place_at, is_staged}
use Rattle.core_worker.proofs.choose_item.lowest_staged.Given as goal

-- no place before this one is staged
abbrev pub invariant-loop-slot : goal.invariant-loop-slot
invariant-loop-slot l = (t : ℕ) → t < l.slot → is_staged (place_at l.places.items t) ≡ false
