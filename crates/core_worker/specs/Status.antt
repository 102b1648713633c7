-- What a worker tells of itself.
use Rattle.std.specs.Prelude.{Bool, true, false, not, ◌&&◌, ◌||◌, nat_lt, List, [], ◌∷◌, length, is_some, if◌then◌else◌}
use Rattle.core_worker.specs.declared.types.Leading.{Leading}
use Rattle.core_worker.specs.declared.types.Leading.TheVariants as leads
use Rattle.core_worker.specs.declared.types.Place.{Place}
use Rattle.core_worker.specs.declared.worker.Worker.{Worker}
use Rattle.core_worker.specs.declared.status.TheConstants.{WAITING}
use Rattle.core_worker.specs.OwnPlaces.{is_free}

abbrev pub any_free : List Place → Bool
any_free [] = false
any_free (x ∷ xs) = if is_free x then true else any_free xs

abbrev pub all_free : List Place → Bool
all_free [] = true
all_free (x ∷ xs) = if is_free x then all_free xs else false

-- a place is free, and there is room for one more request that waits
abbrev pub has_room : Worker → Bool
has_room w = any_free w.places.items && nat_lt (length w.queue) WAITING

-- it collects, persists, or gives changes back
abbrev pub is_leading : Leading → Bool
is_leading (leads.Nothing buffer) = false
is_leading (leads.Collecting c) = true
is_leading (leads.Batch b) = true
is_leading (leads.Persisted x) = true
is_leading (leads.Failed x) = true
is_leading leads.Between = false

-- a change stands in a place, or a request waits
abbrev pub is_pending : Worker → Bool
is_pending w = not (all_free w.places.items) || is_some w.in_hand || nat_lt 0 (length w.queue)
