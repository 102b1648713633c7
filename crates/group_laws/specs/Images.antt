-- What a crash may leave, and what it recovers, in the words of the parts: one image for each member.
use Rattle.std.specs.Prelude.{◌≡◌, ℕ, ◌+◌, ◌<◌, ◌≤◌, false, true, List, map, Option, Some, ◌⊎◌}
use Rattle.std.specs.List.{flat_map}
use Rattle.std.specs.Option.{option_and_then}
use Rattle.log_entry.specs.declared.entry.Body.TheVariants.{Pointer}
use Rattle.log_entry.specs.declared.entry.Entry.{Entry}
use Rattle.chunk_map.specs.Layouts.{numbers, part_first}
use Rattle.store_image.specs.declared.types.PlacedEntry.{PlacedEntry}
use Rattle.store_image.specs.Parts.{part_entries, reads, value_in_block}
use Rattle.store_image.specs.Winners.{winner_in, cell_by}
use Rattle.store_image.specs.Facts.{In, Agree}
use Rattle.group_laws.specs.declared.types.Block.{Block}
use Rattle.group_laws.specs.Places.{Place, members, core_of, owner}
use Rattle.group_laws.specs.State.{Group}
use Rattle.group_laws.specs.MemberViews.{View, view_of}
use Rattle.group_laws.specs.Crashes.{IsNext}

-- the entries of a member's log with their places
abbrev pub log_of : Place → (ℕ → ℕ) → ℕ → List PlacedEntry
log_of p image h = part_entries p.layout image (core_of p h)

-- the entry stands in a member's log
abbrev pub StandsIn : Place → (ℕ → ℕ) → ℕ → Entry → Type 0
StandsIn p image h e = In e (map (λ x. x.entry) (log_of p image h))

-- what a block of a member's part holds
abbrev pub block_of : Place → (ℕ → ℕ) → ℕ → ℕ → Option (List ℕ)
block_of p image h at = value_in_block p.layout image (core_of p h) at

-- A crash may leave this image of the part of member h, who has v. It reads well, and has all that is certain but what may vanish, nothing that isn't logged, what was in flight wholly or not at all, and the blocks.
pub record IsLicensedBy (p : Place) (h : ℕ) (v : View) (image : ℕ → ℕ) : Type 0 where
  pub well : reads p.layout image (core_of p h) ≡ true
  pub has : (e : Entry) → In e v.kept → v.doomed e.key e.version ≡ false → StandsIn p image h e
  pub only : (e : Entry) → StandsIn p image h e → In e v.kept ⊎ In e v.flying
  pub whole : ((e : Entry) → In e v.flying → StandsIn p image h e)
      ⊎ ((e : Entry) → In e v.flying → StandsIn p image h e → In e v.kept)
  pub blocks : (q : ℕ) (b : Block) → v.blocks q ≡ Some b → block_of p image h q ≡ Some b.bytes

-- the same of a member of this state
abbrev pub IsLicensedImage : Group → ℕ → (ℕ → ℕ) → Type 0
IsLicensedImage w h image = IsLicensedBy w.place h (view_of w h) image

-- two images have the same words in the part of member h
abbrev pub SamePart : Place → ℕ → (ℕ → ℕ) → (ℕ → ℕ) → Type 0
SamePart p h i j = (n : ℕ) → part_first p.layout (core_of p h) ≤ n
    → n < part_first p.layout (core_of p h + 1) → i n ≡ j n

-- all entries of a group's parts
abbrev pub group_entries : Place → (ℕ → ℕ → ℕ) → List PlacedEntry
group_entries p images = flat_map (λ h. log_of p (images h) h) (numbers 0 (members p))

-- the cell that the group's parts recover for a key
abbrev pub recovered : Place → (ℕ → ℕ → ℕ) → ℕ → Option (List ℕ)
recovered p images k = option_and_then (λ x. cell_by (block_of p (images (owner p k)) (owner p k))
    x.entry.body) (winner_in k (group_entries p images))

-- The parts break no rule of soundness from the fourth on, and recover each key's cell, or the one that its pending entry leaves.
pub record IsSafe (w : Group) (images : ℕ → ℕ → ℕ) : Type 0 where
  -- heads, tails and batches
  pub well : (h : ℕ) → h < members w.place → reads w.place.layout (images h) (core_of w.place h)
      ≡ true
  -- each key is one of the group's
  pub grouped : (x : PlacedEntry) → In x (group_entries w.place images) → owner w.place x.entry.key
      < members w.place
  -- a name has one body and stands in one part
  pub agree : Agree (group_entries w.place images)
  -- a winner's pointer is that of a block of the owner's part, with a length of its class
  pub block : (k p : ℕ) (x : PlacedEntry) → winner_in k (group_entries w.place images) ≡ Some x
      → x.entry.body ≡ Pointer p → (v : List ℕ)
      × (block_of w.place (images (owner w.place k)) (owner w.place k) p ≡ Some v)
  -- and no other key's winner has it
  pub own : (j k p : ℕ) (x y : PlacedEntry) → winner_in j (group_entries w.place images) ≡ Some x
      → winner_in k (group_entries w.place images) ≡ Some y → x.entry.body ≡ Pointer p
      → y.entry.body ≡ Pointer p → j ≡ k
  pub cells : (k : ℕ) → (recovered w.place images k ≡ w.cell k)
      ⊎ IsNext w k (recovered w.place images k)
