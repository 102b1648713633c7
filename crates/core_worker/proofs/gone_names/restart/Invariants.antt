use Rattle.std.proofs.Common.{◌≡◌, ℕ, ◌<◌, ◌≤◌, length}
use Rattle.core_worker.specs.OwnPlaces.{place_at}
use Rattle.core_worker.specs.GoneNames.{restarted}
use Rattle.core_worker.proofs.gone_names.restart.Given as goal

-- so it is with the places before this one, and the others are as they were
abbrev pub invariant-loop-slot : goal.invariant-loop-slot
invariant-loop-slot l = record {
  count : length l.places.items ≡ 8;
  before : (s : ℕ) → s < l.slot → place_at l.places.items s ≡ restarted l.key (place_at l.fn.places.items s);
  after : (s : ℕ) → l.slot ≤ s → place_at l.places.items s ≡ place_at l.fn.places.items s;
}
