-- The state with which a group opens on an image, made of the image's words.
use Rattle.std.specs.Prelude.{◌≡◌, ℕ, ◌-◌, ◌*◌, ◌<◌, ◌==◌, ◌&&◌, ◌||◌, not, nat_lt, List, [], map, find, Bool, false, Option, Some, None, Ok, option_map, unwrap_or, is_none, if◌then◌else◌}
use Rattle.std.specs.List.{list_all}
use Rattle.std.specs.Option.{option_and_then}
use Rattle.log_entry.specs.declared.entry.Entry.{Entry}
use Rattle.chunk_map.specs.declared.layouts.Geometry.{Geometry}
use Rattle.chunk_map.specs.declared.heads.Head.TheVariants.{Free}
use Rattle.chunk_map.specs.Layouts.{chunk_first, head_at}
use Rattle.store_image.specs.declared.types.PlacedEntry.{PlacedEntry}
use Rattle.store_image.specs.Parts.{all_entries}
use Rattle.store_image.specs.Winners.{winner, keys_of}
use Rattle.store_image.specs.Winners as images
use Rattle.store_image.specs.Soundness.{points_to}
use Rattle.group_laws.specs.declared.types.Slot.TheVariants.{Empty}
use Rattle.group_laws.specs.declared.types.Block.{Block}
use Rattle.group_laws.specs.Places.{Place, members, owner}
use Rattle.group_laws.specs.State.{Group}
use Rattle.group_laws.specs.Images.{log_of, block_of}

-- all entries of the image, those of other groups' parts too
abbrev pub entries_of : Place → (ℕ → ℕ) → List PlacedEntry
entries_of p image = all_entries p.layout image

-- the key is one of the group's
abbrev pub is_own : Place → ℕ → Bool
is_own p k = nat_lt (owner p k) (members p)

-- the entries of a member's log
abbrev pub kept_in : Place → (ℕ → ℕ) → ℕ → List Entry
kept_in p image h = if nat_lt h (members p) then map (λ x. x.entry) (log_of p image h) else []

-- the winner of a key of the group
abbrev pub winner_of : Place → (ℕ → ℕ) → ℕ → Option PlacedEntry
winner_of p image k = if is_own p k then winner p.layout image k else None

-- its version, and 0 where there is none
abbrev pub last_of : Place → (ℕ → ℕ) → ℕ → ℕ
last_of p image k = unwrap_or (option_map (λ x. x.entry.version) (winner_of p image k)) 0

-- the cell that the image recovers for a key of the group
abbrev pub cell_of : Place → (ℕ → ℕ) → ℕ → Option (List ℕ)
cell_of p image k = if is_own p k then images.recovered p.layout image k else None

-- the member in whose log the entry of this key and version stands
abbrev pub home_of : Place → (ℕ → ℕ) → ℕ → ℕ → Option ℕ
home_of p image k v = if is_own p k then option_map (λ x. x.core - p.group * p.layout.group)
    (find (λ x. x.entry.key == k && x.entry.version == v) (entries_of p image)) else None

-- the key of member m whose winner points to a block
abbrev pub pointing : Place → (ℕ → ℕ) → ℕ → ℕ → Option ℕ
pointing p image m q = find (λ k. owner p k == m && points_to q (winner p.layout image k))
    (keys_of (entries_of p image))

-- what m's block must hold, and for which key
abbrev pub block_at : Place → (ℕ → ℕ) → ℕ → ℕ → Option Block
block_at p image m q = if nat_lt m (members p) then option_and_then
    (λ k. option_map (λ v. record { key = k; bytes = v }) (block_of p image m q))
    (pointing p image m q) else None

-- Before the two rules: the logs as they stand, each key as its winner has it, the winners' blocks, and nothing under way.
abbrev pub found : Place → (ℕ → ℕ) → Group
found p image =
    record {
      place = p;
      holder = None;
      slot = λ m s. Empty;
      mail = λ a b. None;
      kept = kept_in p image;
      flying = λ h. [];
      taken = λ h a s. None;
      broken = λ h. false;
      holds = λ h. false;
      looked = λ h. [];
      last = last_of p image;
      cell = cell_of p image;
      pending = λ k. None;
      present = home_of p image;
      told = λ k v. false;
      dead = λ h k v. false;
      doomed = λ h k v. false;
      leaving = λ h k v. false;
      mailed = λ a b. record { dead = []; gone = [] };
      blocks = block_at p image;
      posted = λ h. [];
      took = λ h. [];
    }

-- each entry of the key has this version
abbrev pub alone : Place → (ℕ → ℕ) → ℕ → ℕ → Bool
alone p image k v = list_all (λ x. not (x.entry.key == k) || x.entry.version == v)
    (entries_of p image)

-- The name is dead: its key has a newer entry, or it is a tombstone that stands alone.
abbrev pub is_dead : Place → (ℕ → ℕ) → ℕ → ℕ → Bool
is_dead p image k v = nat_lt v (last_of p image k)
    || (v == last_of p image k && (is_none (cell_of p image k) && alone p image k v))

-- the name stands in this member's log
abbrev pub is_at : ℕ → Option ℕ → Bool
is_at h None = false
is_at h (Some i) = i == h

-- The owner of a dead entry has it in its own log. So the rules tell it of itself.
abbrev pub is_own_dead : Place → (ℕ → ℕ) → ℕ → ℕ → Bool
is_own_dead p image k v = is_at (owner p k) (home_of p image k v) && is_dead p image k v

-- The opened state: what was found, after the two rules. No key is forgotten, since each that has a record has an entry.
abbrev pub opened : Place → (ℕ → ℕ) → Group
opened p image = record (found p image) {
  told = is_own_dead p image;
  dead = λ h k v. h == owner p k
      && is_own_dead p image k v;
}

-- each chunk is free
abbrev pub IsBlank : Geometry → (ℕ → ℕ) → Type 0
IsBlank l image = (c j : ℕ) → c < l.cores → j < l.chunks → head_at l image (chunk_first l c j)
    ≡ Ok Free
