-- A copy less of each name of a list.
use Rattle.std.specs.Prelude.{◌≡◌, ℕ, ◌==◌, List, Option, Some, None, if◌then◌else◌}
use Rattle.std.specs.List.{count_by}
use Rattle.log_entry.specs.declared.entry.EntryName.{EntryName}
use Rattle.log_standing.specs.declared.types.Copies.{Copies}
use Rattle.log_standing.specs.NameCounts.{StandingState, copies_at, count_of, one_fewer, times_in}

abbrev pub one_less : Copies → Option Copies
one_less c = if c.count == 1 then None else Some (one_fewer c)

-- a copy less of a name, where it stands
abbrev pub lowered : Option Copies → Option Copies
lowered None = None
lowered (Some c) = one_less c

-- how many of these names have one copy
abbrev pub lone_in : StandingState → List EntryName → ℕ
lone_in st ns = count_by (λ n. count_of st n.key n.version == 1) ns

-- each name of a list that has each once was dropped
abbrev pub Drops : StandingState → StandingState → List EntryName → Type 0
Drops old new ns = (k v : ℕ) → copies_at new k v ≡ (if times_in ns k v == 0 then copies_at old k v
    else lowered (copies_at old k v))
