-- The live pairs by the winners of all keys.
use Rattle.std.specs.Prelude.{◌≡◌, ℕ, List, [], ◌∷◌, Some, None, Result, Ok, Err, Vec}
use Rattle.std.specs.Global.{Global}
use Rattle.fs_model.specs.declared.model.Pair.{Pair}
use Rattle.chunk_map.specs.declared.layouts.Geometry.{Geometry}
use Rattle.chunk_map.specs.Layouts.{owner}
use Rattle.store_image.specs.declared.types.PlacedEntry.{PlacedEntry}
use Rattle.store_image.specs.Parts.{value_in_block}
use Rattle.store_image.specs.Winners.{cell_by, recovered}
use Rattle.store_image.specs.Listing.{ListsCells, with_pair}
use Rattle.store_image.specs.Soundness.{damage, first_fault}
use Rattle.store_image.specs.Facts.{IsStore}
use Rattle.recover.specs.declared.types.RecoverError.{RecoverError}
use Rattle.recover.specs.declared.types.RecoverError.TheVariants as errors
use Rattle.recover.specs.Causes.{HasCause}
use Rattle.recover.specs.Recovering.{cells_found}
use Rattle.recover.specs.Winning.{winners_of}
use Rattle.recover.specs.Judging.{winners_fault}

-- the pairs of the winners that leave a value
abbrev pub pairs_by : Geometry → (ℕ → ℕ) → List PlacedEntry → List Pair
pairs_by l image [] = []
pairs_by l image (x ∷ xs) = with_pair x.entry.key (cell_by
    (value_in_block l image (owner l x.entry.key)) x.entry.body) (pairs_by l image xs)

-- those of the winners of some entries, or the first one of rules 9 to 11 that a winner breaks
abbrev pub HasLeft : Geometry → (ℕ → ℕ) → List PlacedEntry → Result (Vec Pair Global) RecoverError
    → Type 0
HasLeft l image es (Ok pairs) = (winners_fault l image [] (winners_of es) ≡ None)
    × (pairs.items ≡ pairs_by l image (winners_of es))
HasLeft l image es (Err e) = HasCause (winners_fault l image [] (winners_of es)) e

-- the pairs of an image that keeps rules 4 to 11, or the first that it breaks
abbrev pub Lists : Geometry → (ℕ → ℕ) → Result (Vec Pair Global) RecoverError → Type 0
Lists l image (Ok pairs) = (damage l image ≡ None) × ListsCells (recovered l image) pairs.items
Lists l image (Err e) = HasCause (damage l image) e

-- the pairs of a sound image of so many bytes, or the first broken rule
abbrev pub ListsLive : ℕ → (ℕ → ℕ) → Result (Vec Pair Global) RecoverError → Type 0
ListsLive bytes image (Ok pairs) = IsStore bytes image × ListsCells (cells_found image) pairs.items
ListsLive bytes image (Err (errors.Fault fault)) = first_fault bytes image ≡ Some fault
ListsLive bytes image (Err errors.Memory) = Unit {0}
