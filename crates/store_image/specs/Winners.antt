-- The winner of each key, and the cell that it recovers.
use Rattle.std.specs.Prelude.{ℕ, ◌==◌, nat_lt, List, [], ◌∷◌, Option, Some, None, if◌then◌else◌}
use Rattle.std.specs.Option.{option_and_then}
use Rattle.log_entry.specs.declared.entry.Body.{Body}
use Rattle.log_entry.specs.declared.entry.Body.TheVariants.{Pointer, Embedded, Tombstone}
use Rattle.chunk_map.specs.declared.layouts.Geometry.{Geometry}
use Rattle.store_image.specs.declared.types.PlacedEntry.{PlacedEntry}
use Rattle.chunk_map.specs.Layouts.{owner}
use Rattle.store_image.specs.Parts.{all_entries, value_in_block}

-- of two entries of a key the one of greater version, and of two places of one the first
abbrev pub better : PlacedEntry → Option PlacedEntry → PlacedEntry
better x None = x
better x (Some y) = if nat_lt x.entry.version y.entry.version then y else x

-- the key's entry of greatest version, where it first stands
abbrev pub winner_in : ℕ → List PlacedEntry → Option PlacedEntry
winner_in k [] = None
winner_in k (x ∷ xs) = if x.entry.key == k then Some (better x (winner_in k xs)) else winner_in k xs

abbrev pub winner : Geometry → (ℕ → ℕ) → ℕ → Option PlacedEntry
winner l image k = winner_in k (all_entries l image)

-- the cell that a body leaves, by the blocks of a part
abbrev pub cell_by : (ℕ → Option (List ℕ)) → Body → Option (List ℕ)
cell_by blocks (Pointer p) = blocks p
cell_by blocks (Embedded v) = Some v
cell_by blocks Tombstone = None

abbrev pub recovered : Geometry → (ℕ → ℕ) → ℕ → Option (List ℕ)
recovered l image k =
    option_and_then (λ x. cell_by (value_in_block l image (owner l k)) x.entry.body)
    (winner l image k)

-- a rising list of keys with one more
abbrev pub with_key : ℕ → List ℕ → List ℕ
with_key k [] = k ∷ []
with_key k (x ∷ xs) =
    if nat_lt k x then k ∷ x ∷ xs else (if k == x then x ∷ xs else x ∷ with_key k xs)

-- the keys of entries, rising
abbrev pub keys_of : List PlacedEntry → List ℕ
keys_of [] = []
keys_of (x ∷ xs) = with_key x.entry.key (keys_of xs)
