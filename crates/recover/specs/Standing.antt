-- Which entries of a key stand.
use Rattle.chunk_map.specs.declared.layouts.Geometry.{Geometry}
use Rattle.core_index.specs.declared.types.Standee.{Standee}
use Rattle.recover.specs.declared.found_entries.Found.{Found}
use Rattle.recover.specs.FoundEntries.{core_at}

-- an entry that was found, as the index has it
abbrev pub standee_at : Geometry → Found → Standee
standee_at l f = record { version = f.version; home = core_at l f.at }
