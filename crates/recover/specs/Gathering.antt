-- What is said of an image by reading its chunks one after another.
use Rattle.std.specs.Prelude.{◌≡◌, ℕ, ◌<◌, List, map, ◌++◌, None, Result, Ok, Err, Vec}
use Rattle.std.specs.Global.{Global}
use Rattle.chunk_map.specs.declared.layouts.Geometry.{Geometry}
use Rattle.store_image.specs.declared.types.PlacedEntry.{PlacedEntry}
use Rattle.store_image.specs.Parts.{part_entries, all_entries}
use Rattle.store_image.specs.Soundness.{part_fault, chunk_fault, clash_fault, damage}
use Rattle.recover.specs.Causes.{HasCause}
use Rattle.recover.specs.Logs.{SpellsLog}
use Rattle.recover.specs.declared.found_entries.Found.{Found}
use Rattle.recover.specs.declared.types.RecoverError.{RecoverError}
use Rattle.recover.specs.ByName.{IsByName}
use Rattle.recover.specs.FoundEntries.{found_of, entries_at, AreFound}

-- a part's entries are found and appended, or its first fault is answered
abbrev pub GathersPart : {T : Type 0} → Geometry → (ℕ → ℕ) → ℕ → List Found → List Found
    → Result T RecoverError → Type 0
GathersPart l image c old new (Ok x) = (part_fault l image c ≡ None)
    × (new ≡ old ++ map (found_of l) (part_entries l image c))
    × ((j : ℕ) → j < l.chunks → SpellsLog l image c j)
GathersPart l image c old new (Err e) = HasCause (part_fault l image c) e

-- the words of each log are a list of batches
abbrev pub AllSpell : Geometry → (ℕ → ℕ) → Type 0
AllSpell l image = (c j : ℕ) → c < l.cores → j < l.chunks → SpellsLog l image c j

-- all entries as they are found, or the fault of the first damaged chunk
abbrev pub Gathers : Geometry → (ℕ → ℕ) → Result (Vec Found Global) RecoverError → Type 0
Gathers l image (Ok found) = (chunk_fault l image ≡ None)
    × (found.items ≡ map (found_of l) (all_entries l image)) × AllSpell l image
Gathers l image (Err e) = HasCause (chunk_fault l image) e

-- all entries of an image that keeps rules 4 to 8, by their names
pub record AreAgreed (l : Geometry) (image : ℕ → ℕ) (es : List PlacedEntry) : Type 0 where
  pub all : IsByName (all_entries l image) es
  pub chunks : chunk_fault l image ≡ None
  pub clash : clash_fault (all_entries l image) ≡ None

-- those as they are found, or the first fault of an image that breaks one
abbrev pub Agrees : Geometry → (ℕ → ℕ) → Result (Vec Found Global) RecoverError → Type 0
Agrees l image (Ok found) = AreAgreed l image (entries_at l image found.items) × AllSpell l image
    × AreFound l image found.items
Agrees l image (Err e) = HasCause (damage l image) e

-- those of an image that keeps rules 4 to 11
abbrev pub Judges : Geometry → (ℕ → ℕ) → Result (Vec Found Global) RecoverError → Type 0
Judges l image (Ok found) = (damage l image ≡ None) × Agrees l image (Ok found)
Judges l image (Err e) = HasCause (damage l image) e
