-- Two places for entries of one key.
use Rattle.std.specs.Prelude.{ℕ, ◌<◌, ◌==◌, Bool, true, false, List, ◌++◌, Option, Some, None, if◌then◌else◌}
use Rattle.core_index.specs.declared.types.Pair.{Pair}
use Rattle.core_index.specs.declared.types.StandingEntry.{StandingEntry}
use Rattle.core_index.specs.Records.{list_of, standing_with}

-- what stands
abbrev pub in_pair : Pair → List StandingEntry
in_pair p = list_of p.first ++ list_of p.second

-- the greatest version, or 0 where there is none
abbrev pub top_by : Option StandingEntry → Option StandingEntry → ℕ
top_by a (Some s) = s.version
top_by (Some s) None = s.version
top_by None None = 0

abbrev pub top_of : Pair → ℕ
top_of p = top_by p.first p.second

-- the first is below the second
abbrev pub Rise : Option StandingEntry → Option StandingEntry → Type 0
Rise None b = Unit {0}
Rise (Some a) None = Unit {0}
Rise (Some a) (Some b) = a.version < b.version

abbrev pub IsRising : Pair → Type 0
IsRising p = Rise p.first p.second

abbrev pub has_version : Option StandingEntry → ℕ → Bool
has_version None v = false
has_version (Some s) v = s.version == v

-- a place once the death of a version was told
abbrev pub told_by : Option StandingEntry → ℕ → Option StandingEntry
told_by None v = None
told_by (Some s) v = if s.version == v then Some (standing_with s.version s.home true) else Some s

-- a place without a version
abbrev pub rid_of : Option StandingEntry → ℕ → Option StandingEntry
rid_of None v = None
rid_of (Some s) v = if s.version == v then None else Some s

-- no other version is there
abbrev pub lacks_others : Option StandingEntry → ℕ → Bool
lacks_others None v = true
lacks_others (Some s) v = s.version == v
