use Rattle.std.proofs.Common.{◌≡◌, ℕ, ◌<◌, false}
use Rattle.core_worker.specs.OwnPlaces.{place_at, key_in, is_of}
use Rattle.core_worker.proofs.stopped_items.place_with.Given as goal

-- no place before this one has a change of the key
abbrev pub invariant-loop-slot : goal.invariant-loop-slot
invariant-loop-slot l = (t : ℕ) → t < l.slot → is_of l.key (key_in (place_at l.places.items t)) ≡ false
