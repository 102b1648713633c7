-- The groups of a region whose words are certain and sound.
use Rattle.std.proofs.Common.{◌≡◌, ℕ, ◌+◌, ◌/◌, ◌<◌, ◌≤◌, cond, Bool, true, Option, Some, None, arith, refl, ◌∙◌, ap, subst}
use Rattle.std.specs.Prelude.{option_map, unwrap_or}
use Rattle.std.proofs.lemmas.Bool.{lt-ltb}
use Rattle.headline.specs.Limits.{version_in, version_of}
use Rattle.store_image.specs.declared.types.PlacedEntry.{PlacedEntry}
use Rattle.pm_region.specs.Cell.{Cell}
use Rattle.pm_region.specs.Words.{Surely}
use Rattle.chunk_map.specs.declared.layouts.Geometry.{Geometry}
use Rattle.chunk_map.specs.Layouts.{part_first, layout_of, IsLayout}
use Rattle.chunk_map.proofs.Clients.{part_within}
use Rattle.store_image.specs.Soundness.{IsSound}
use Rattle.store_image.specs.Winners as winners
use Rattle.store_image.proofs.Clients.{has_layout, sound_store, superblock_facts}
use Rattle.group_laws.specs.Places.{Place, core_of, members}
use Rattle.group_laws.specs.Places as places
use Rattle.group_laws.specs.State.{Group}
use Rattle.group_laws.specs.OpeningImages.{opened, is_own}
use Rattle.group_laws.proofs.Clients.{lawful as laws_lawful, licensed as laws_licensed, licensed_words}
use Rattle.group_laws.specs.MemberViews.{view_of}
use Rattle.group_laws.specs.Regions.{place_at, key_group}
use Rattle.engine_laws.specs.Parts.{group_of, member_of, AllLicensed, Groups, HasSuperblock}
use Rattle.engine_laws.proofs.Cores.{group_low, member_low, core_is, place_is, owner_member}

-- the states with which the groups open
abbrev pub opened_groups : (ℕ → ℕ) → ℕ → Group
opened_groups found g = opened (place_at (layout_of found) g) found

module _ (bytes : ℕ) (found : ℕ → ℕ) (sound : IsSound bytes found) where
  abbrev l : Geometry
  l = layout_of found

  is_layout : IsLayout l
  is_layout = (superblock_facts bytes found (has_layout bytes found sound)).1

  pub opens_lawful : Groups l (opened_groups found)
  opens_lawful = record {
    place = λ g low. refl;
    lawful = λ g low. laws_lawful (place_at l g) found (place_is l is_layout g low) (sound_store bytes found sound).rules;
  }

  -- Where each word is certain, each part is licensed.
  pub opens_licensed : (cells : ℕ → Cell) → ((w : ℕ) → w < bytes / 8 → Surely (cells w) (found w)) → AllLicensed l (opened_groups found) cells
  opens_licensed cells sure c low image may =
      let at = place_at l (group_of l c) in
      let core = core_is l is_layout c in
      let end = part_within l c is_layout low in
      let size = (superblock_facts bytes found (has_layout bytes found sound)).2 in
      licensed_words at (member_of l c) (view_of (opened at found) (member_of l c)) image found (place_is l is_layout (group_of l c) (group_low l is_layout c low))
      (λ n from to.
      let low' : part_first l c ≤ n = subst (λ (d : ℕ). part_first l d ≤ n) core from in
      let high' : n < part_first l (c + 1) = subst (λ (d : ℕ). n < part_first l (d + 1)) core to in
      sure n (omega (arith, end, size, high')) (image n) (may n from to))
      (laws_licensed at found (place_is l is_layout (group_of l c) (group_low l is_layout c low)) (sound_store bytes found sound).rules (member_of l c) (member_low l is_layout c))

  pub opens_superblock : (cells : ℕ → Cell) → ((w : ℕ) → w < bytes / 8 → Surely (cells w) (found w)) → HasSuperblock found cells
  opens_superblock cells sure w low = let f = superblock_facts bytes found (has_layout bytes found sound) in sure w (omega (arith, f.0, low))

  -- Each key's cell is the one that the image recovers, and no change is under way.
  pub opens_cells : (k : ℕ) → (opened_groups found (key_group l k)).cell k ≡ winners.recovered l found k
  opens_cells k = ap (λ (b : Bool). cond b (winners.recovered l found k) None) (lt-ltb (places.owner (place_at l (key_group l k)) k) l.group (owner_member l is_layout k))

  pub opens_idle : (k : ℕ) → (opened_groups found (key_group l k)).pending k ≡ None
  opens_idle k = refl

  -- each key is one of its group's
  pub opens_own : (k : ℕ) → is_own (place_at l (key_group l k)) k ≡ true
  opens_own k = lt-ltb (places.owner (place_at l (key_group l k)) k) l.group (owner_member l is_layout k)

-- and its last version is that of its winner
version_is : (o : Option PlacedEntry) → unwrap_or (option_map (λ (x : PlacedEntry). x.entry.version) o) 0 ≡ version_in o
version_is None = refl
version_is (Some x) = refl

pub opens_last : (found : ℕ → ℕ) (k : ℕ) → is_own (place_at (layout_of found) (key_group (layout_of found) k)) k ≡ true → (opened_groups found (key_group (layout_of found) k)).last k ≡ version_of found k
opens_last found k own = ap (λ (b : Bool). unwrap_or (option_map (λ (x : PlacedEntry). x.entry.version) (cond b (winners.winner (layout_of found) found k) None)) 0) own ∙ version_is (winners.winner (layout_of found) found k)
