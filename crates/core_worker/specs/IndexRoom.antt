-- The room that a worker's index has for records to come.
use Rattle.std.specs.Prelude.{◌≡◌, ℕ, ◌+◌, false, length, if◌then◌else◌}
use Rattle.conflict_queue.specs.Waiting.{waiting}
use Rattle.core_index.specs.Index.{room_at}
use Rattle.core_worker.specs.declared.worker.Worker.{Worker}
use Rattle.core_worker.specs.OwnPlaces.{is_busy}

-- of how many requests a key may get a record before others are accepted: of those that wait for it, and the one whose change stands in a place
abbrev pub coming : Worker → ℕ → ℕ
coming w k = length (waiting w.queue k) + (if is_busy w.places.items k then 1 else 0)

-- The index has room for just these, until the core stops or winds down; so it has none for a key that isn't busy.
abbrev pub HasJustRoom : Worker → Type 0
HasJustRoom w = w.stopped ≡ false → w.winds_down ≡ false
    → (k : ℕ) → room_at w.index k ≡ coming w k
