-- The names of a log in a list by rising rank, in which one that is gone keeps its place; and the notes that it is made of.
use Rattle.std.specs.Prelude.{◌≡◌, ℕ, ◌+◌, ◌-◌, ◌*◌, ◌<◌, ◌≤◌, ◌==◌, ◌&&◌, Bool, true, false, List, [], ◌∷◌, length, slice_index_or, Option, Some, None, if◌then◌else◌}
use Rattle.std.specs.List.{All, AllByRecursion, list_any, count_by}
use Rattle.std.specs.List.Sorted.{IsNonDecreasingBy}
use Rattle.std.specs.Map.{lookup}
use Rattle.core_log.specs.declared.types.LogChunk.{LogChunk}
use Rattle.log_standing.specs.declared.name_item.NameItem.{NameItem}
use Rattle.log_standing.specs.declared.name_item.TheConstants.{CHUNK_NUMBERS, MOST_IN_ITEM, VERSIONS}
use Rattle.log_standing.specs.declared.types.Copies.{Copies}
use Rattle.log_standing.specs.declared.types.Spot.{Spot}
use Rattle.log_standing.specs.NameCounts.{name_eq, copies_with, count_in}

-- where a name comes among all, and an item: by key, then by version, then by chunk
abbrev pub rank_of : ℕ → ℕ → ℕ
rank_of k v = k * VERSIONS + v

abbrev pub rank_in : NameItem → ℕ
rank_in x = rank_of x.key x.version

abbrev pub order_of : NameItem → ℕ
order_of x = rank_in x * CHUNK_NUMBERS + x.chunk

-- the item is the name's
abbrev pub is_item : ℕ → ℕ → NameItem → Bool
is_item k v x = name_eq (x.key, x.version) (k, v)

-- where a search found the name's entry
abbrev pub item_spot : NameItem → Spot
item_spot x = record { chunk = x.chunk; words = x.words }

-- what an item's name has
abbrev pub copies_of : NameItem → Option Copies
copies_of x = if x.count == 0 then None else Some (copies_with x.count x.dead (item_spot x))

-- the names of the items that are not gone
abbrev pub live : List NameItem → List ((ℕ × ℕ) × Copies)
live [] = []
live (x ∷ xs) = if x.count == 0 then live xs
    else ((x.key, x.version), copies_with x.count x.dead (item_spot x)) ∷ live xs

-- what a name has in such a list
abbrev pub copies_among : List ((ℕ × ℕ) × Copies) → ℕ → ℕ → Option Copies
copies_among es k v = lookup (name_eq (k, v)) es

-- one name where there is one
abbrev pub one_of : Option Copies → ℕ
one_of None = 0
one_of (Some c) = 1

-- no name has more copies than fit into an item, and none has none
abbrev pub AreSmall : List ((ℕ × ℕ) × Copies) → Type 0
AreSmall es = (k v : ℕ) (c : Copies) → copies_among es k v ≡ Some c
    → (0 < c.count) × (c.count ≤ MOST_IN_ITEM)

-- each rank is below those behind it
abbrev pub Rises : List NameItem → Type 0
Rises [] = Unit {0}
Rises (x ∷ xs) = AllByRecursion (λ y. rank_in x < rank_in y) xs × Rises xs

-- the item at this place is the name's, and none is
pub record IsPlace (xs : List NameItem) (k v i : ℕ) : Type 0 where
  pub within : i < length xs
  pub named : (d : NameItem) → is_item k v (slice_index_or xs i d) ≡ true

abbrev pub IsAbsent : List NameItem → ℕ → ℕ → Type 0
IsAbsent xs k v = AllByRecursion (λ x. is_item k v x ≡ false) xs

-- the item has a name, and these copies
pub record IsItemOf (x : NameItem) (k v : ℕ) (o : Option Copies) : Type 0 where
  pub key : x.key ≡ k
  pub version : x.version ≡ v
  pub copies : copies_of x ≡ o

-- the name has this now, and every other name what it had
abbrev pub Writes : List ((ℕ × ℕ) × Copies) → List ((ℕ × ℕ) × Copies) → ℕ → ℕ → Option Copies → Type 0
Writes old new k v now = (j w : ℕ)
    → copies_among new j w ≡ (if name_eq (k, v) (j, w) then now else copies_among old j w)

-- how many names there are: one more where this one stands now and didn't, and one less where it did and doesn't
abbrev pub Recounts : List ((ℕ × ℕ) × Copies) → List ((ℕ × ℕ) × Copies) → ℕ → ℕ → Option Copies → Type 0
Recounts old new k v now = length new + one_of (copies_among old k v) ≡ length old + one_of now

-- an item notes that a name stands in a chunk
abbrev pub is_note : ℕ → ℕ → ℕ → NameItem → Bool
is_note k v j x = is_item k v x && x.chunk == j

abbrev pub has_note : List NameItem → ℕ → ℕ → ℕ → Bool
has_note xs k v j = list_any (is_note k v j) xs

-- in how many of these chunks a name was noted
abbrev pub chunks_noted : List LogChunk → List NameItem → ℕ → ℕ → ℕ
chunks_noted cs xs k v = count_by (λ (c : LogChunk). has_note xs k v c.chunk) cs

-- each item's chunk is one of these, once
abbrev pub AreIn : List LogChunk → List NameItem → Type 0
AreIn cs xs = All (λ x. count_by (λ (c : LogChunk). c.chunk == x.chunk) cs ≡ 1) xs

-- the numbers fit their fields
pub record Fits (x : NameItem) : Type 0 where
  pub version : x.version < VERSIONS
  pub chunk : x.chunk < CHUNK_NUMBERS

-- by name, then by chunk
pub record InOrder (xs : List NameItem) : Type 0 where
  pub rising : IsNonDecreasingBy order_of xs
  pub fits : All Fits xs

-- an item after a merge: not told dead, and with no more copies than chunks up to its own
pub record IsCounted (x : NameItem) : Type 0 where
  pub some : 0 < x.count
  pub most : x.count ≤ x.chunk + 1
  pub chunk : x.chunk < CHUNK_NUMBERS
  pub untold : x.dead ≡ false

-- the same name, and the same chunk
pub record IsNoteOf (x y : NameItem) : Type 0 where
  pub key : x.key ≡ y.key
  pub version : x.version ≡ y.version
  pub chunk : x.chunk ≡ y.chunk

-- The items are merged into one a name, each with the number of its chunks.
pub record IsMerged (xs out : List NameItem) : Type 0 where
  pub rises : Rises out
  pub each : All IsCounted out
  pub counts : (cs : List LogChunk) → AreIn cs xs → (k v : ℕ)
      → count_in (copies_among (live out) k v) ≡ chunks_noted cs xs k v
  pub some : 0 < length xs → 0 < length out
  pub no_more : length out ≤ length xs
  pub last : (d : NameItem) → 0 < length xs → IsNoteOf (slice_index_or out (length out - 1) d)
      (slice_index_or xs (length xs - 1) d)
