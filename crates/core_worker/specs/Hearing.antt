-- The dead entries of a core's own log are told to the core itself.
use Rattle.std.specs.Prelude.{◌≡◌, ℕ, ◌==◌, ◌&&◌, Bool, true, false, List, Option, Some, None, option_map, if◌then◌else◌}
use Rattle.log_entry.specs.declared.entry.Body.{Body}
use Rattle.core_index.specs.Index.{known_at, SameRoom}
use Rattle.core_index.specs.Records.{KeyRecord, Awaits, is_dead, standing_at, standing_of, standing_with}
use Rattle.core_index.specs.Slots as slots
use Rattle.core_index.specs.declared.types.StandingEntry.{StandingEntry}

-- the version is dead, as the record of its key has it
abbrev pub is_dead_by : Option KeyRecord → ℕ → Bool
is_dead_by None n = false
is_dead_by (Some r) n = is_dead r n

-- an entry of a key with this record, where the dead ones that stand at a home were told
abbrev pub heard_at : ℕ → Option KeyRecord → ℕ → StandingEntry → StandingEntry
heard_at home o n s = if s.home == home && is_dead_by o n then standing_with s.version s.home true
    else s

abbrev pub last_change : KeyRecord → ℕ × Body
last_change r = (r.version, r.body)

-- Exactly the dead entries that stand at this home were told, and nothing else changed.
pub record HearsAll (home : ℕ) (old new : List (ℕ × slots.Place)) : Type 0 where
  pub changes : (k : ℕ) → option_map last_change (known_at new k)
      ≡ option_map last_change (known_at old k)
  pub standing : (k n : ℕ) → standing_at (standing_of (known_at new k)) n
      ≡ option_map (heard_at home (known_at old k) n) (standing_at (standing_of (known_at old k)) n)
  pub room : SameRoom old new
  pub none : (k n : ℕ) → Awaits (known_at new k) home n → ⊥
