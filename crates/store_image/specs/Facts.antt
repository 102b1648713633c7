-- What a sound image keeps to, rule by rule and in no order.
use Rattle.std.specs.Prelude.{◌≡◌, ◌⊎◌, ℕ, ◌<◌, List, [], ◌∷◌, true, Some, None}
use Rattle.log_entry.specs.declared.entry.Body.TheVariants.{Pointer}
use Rattle.chunk_map.specs.declared.layouts.Geometry.{Geometry}
use Rattle.store_image.specs.declared.types.PlacedEntry.{PlacedEntry}
use Rattle.chunk_map.specs.Layouts.{superblock_rule, layout_of, chunk_first, owner, is_of_group}
use Rattle.store_image.specs.Parts.{chunk_reads, chunk_entries, all_entries, value_in_block, block_bytes}
use Rattle.store_image.specs.Winners.{winner_in}

abbrev pub In : {X : Type 0} → X → List X → Type 0
In x [] = ⊥
In x (y ∷ ys) = (x ≡ y) ⊎ In x ys

-- two entries of one key and version have one body and stand in one part
abbrev pub Agree : List PlacedEntry → Type 0
Agree es = (x y : PlacedEntry) → In x es → In y es → x.entry.key ≡ y.entry.key
    → x.entry.version ≡ y.entry.version → (x.entry.body ≡ y.entry.body) × (x.core ≡ y.core)

-- rules 4 to 11 of an image with this layout
pub record KeepsRules (l : Geometry) (image : ℕ → ℕ) : Type 0 where
  -- each head is one, and the words up to a log's tail spell batches
  pub reads : (c j : ℕ) → c < l.cores → j < l.chunks
      → chunk_reads l image (chunk_first l c j) ≡ true
  -- each key is owned by a core of the part's group
  pub grouped : (c j : ℕ) (x : PlacedEntry) → c < l.cores → j < l.chunks
      → In x (chunk_entries l image c j) → is_of_group l c x.entry.key ≡ true
  pub agree : Agree (all_entries l image)
  -- a winner's pointer is that of a block of the owner's part, with a length of its class
  pub holds : (k p : ℕ) (x : PlacedEntry) → winner_in k (all_entries l image) ≡ Some x
      → x.entry.body ≡ Pointer p → value_in_block l image (owner l k) p ≡ Some (block_bytes image p)
  -- and no other key's winner has it
  pub own : (j k p : ℕ) (x y : PlacedEntry) → winner_in j (all_entries l image) ≡ Some x
      → winner_in k (all_entries l image) ≡ Some y → x.entry.body ≡ Pointer p
      → y.entry.body ≡ Pointer p → j ≡ k

-- all eleven
pub record IsStore (bytes : ℕ) (image : ℕ → ℕ) : Type 0 where
  pub superblock : superblock_rule bytes image ≡ None
  pub rules : KeepsRules (layout_of image) image
