-- Whether a change of a worker is out.
use Rattle.std.specs.Prelude.{Bool, true, false, List, [], ◌∷◌, if◌then◌else◌}
use Rattle.core_worker.specs.declared.types.Place.{Place}
use Rattle.core_worker.specs.OwnPlaces.{is_posted}

abbrev pub any_posted : List Place → Bool
any_posted [] = false
any_posted (x ∷ xs) = if is_posted x then true else any_posted xs
