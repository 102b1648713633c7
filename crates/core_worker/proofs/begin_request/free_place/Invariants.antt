use Rattle.std.proofs.Common.{◌≡◌, ℕ, ◌<◌, false}
use Rattle.core_worker.specs.OwnPlaces.{place_at, is_free}
use Rattle.core_worker.proofs.begin_request.free_place.Given as goal

-- no place before this one is free
abbrev pub invariant-loop-slot : goal.invariant-loop-slot
invariant-loop-slot l = (t : ℕ) → t < l.slot → is_free (place_at l.places.items t) ≡ false
