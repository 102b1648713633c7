-- A board that just opened agrees with its journal.
use Rattle.std.proofs.Common.{◌≡◌, ℕ, ◌+◌, ◌-◌, ◌*◌, ◌/◌, ◌<◌, ◌≤◌, ◌==◌, ◌&&◌, ◌||◌, Bool, true, false, cond, List, [], ◌∷◌, map, find, get_or, Option, Some, None, option_map, refl, sym, ap, ◌∙◌, subst}
use Rattle.chunk_map.specs.Layouts.{layout_of}
use Rattle.chunk_map.proofs.Clients.{numbers_of}
use Rattle.store_image.specs.declared.types.PlacedEntry.{PlacedEntry}
use Rattle.store_image.specs.Soundness as images
use Rattle.store_image.proofs.Clients.{superblock_facts, sound_store}
use Rattle.group_laws.specs.declared.types.Slot.{Slot}
use Rattle.group_laws.specs.declared.types.Slot.TheVariants.{Empty}
use Rattle.group_laws.specs.Places.{Place, members}
use Rattle.group_laws.specs.Updates.{has}
use Rattle.group_laws.specs.Invariant.{Lawful}
use Rattle.group_laws.specs.OpeningImages.{opened, entries_of, is_own}
use Rattle.group_laws.proofs.Clients.{lawful as laws_lawful}
use Rattle.group_board.specs.declared.names.Notices.{Notices}
use Rattle.group_board.specs.Mailing.{notices_of}
use Rattle.group_board.specs.declared.board_journal.BoardJournal.{BoardJournal}
use Rattle.group_board.specs.Tidies.{Covers}
use Rattle.group_board.specs.Journals.{image_of, place_in, begun, name_of, names_in, names, state}
use Rattle.group_board.specs.Kept.{IsKept}
use Rattle.group_board.proofs.Journals.{state_begun, names_begun}

-- an entry that a search finds has its name in the list
found_has : (f : PlacedEntry → ℕ) (xs : List PlacedEntry) (k v h : ℕ) → option_map f (find (λ (x : PlacedEntry). x.entry.key == k && x.entry.version == v) xs) ≡ Some h → has (map (λ (x : PlacedEntry). name_of x.entry) xs) k v ≡ true
found_has f [] k v h e = absurd (cc)
found_has f (x ∷ xs) k v h e = by_test (x.entry.key == k && x.entry.version == v) (found_has f xs k v h) e where
  by_test : (b : Bool) → (option_map f (find (λ (y : PlacedEntry). y.entry.key == k && y.entry.version == v) xs) ≡ Some h → has (map (λ (y : PlacedEntry). name_of y.entry) xs) k v ≡ true) → option_map f (cond b (Some x) (find (λ (y : PlacedEntry). y.entry.key == k && y.entry.version == v) xs)) ≡ Some h → b || has (map (λ (y : PlacedEntry). name_of y.entry) xs) k v ≡ true
  by_test true later q = refl
  by_test false later q = later q

opened_covers : (p : Place) (image : ℕ → ℕ) → Covers (map (λ (x : PlacedEntry). name_of x.entry) (entries_of p image)) (opened p image)
opened_covers p image k v h e = by_test (is_own p k) e where
  by_test : (b : Bool) → cond b (option_map (λ (x : PlacedEntry). x.core - p.group * p.layout.group) (find (λ (x : PlacedEntry). x.entry.key == k && x.entry.version == v) (entries_of p image))) None ≡ Some h → has (map (λ (x : PlacedEntry). name_of x.entry) (entries_of p image)) k v ≡ true
  by_test true q = found_has (λ (x : PlacedEntry). x.core - p.group * p.layout.group) (entries_of p image) k v h q
  by_test false q = absurd (cc)

module _ (bytes g : ℕ) (ws : List ℕ) (sound : images.IsSound bytes (image_of ws)) (low : g < (layout_of (image_of ws)).cores / (layout_of (image_of ws)).group) where
  -- a group has at most 8 members
  pub opened_few : (layout_of (image_of ws)).group ≤ 8
  opened_few = (numbers_of (layout_of (image_of ws)) (superblock_facts bytes (image_of ws) (sound_store bytes (image_of ws) sound).superblock).1).group_high

  pub opened_lawful : Lawful (opened (place_in g ws) (image_of ws))
  opened_lawful =
      let store = sound_store bytes (image_of ws) sound in
      laws_lawful (place_in g ws) (image_of ws) (record { layout = (superblock_facts bytes (image_of ws) store.superblock).1; group = low }) store.rules

  pub opened_kept : (n : ℕ) (slots : List Slot) (mail : List (Option Notices)) (j : BoardJournal) → (layout_of (image_of ws)).group ≡ n → j ≡ begun g ws
      → ((i : ℕ) → get_or slots i Empty ≡ Empty) → ((i : ℕ) → option_map notices_of (get_or mail i None) ≡ None) → IsKept n None slots mail j
  opened_kept n slots mail j size is no_slot no_mail =
      let made = ap state is ∙ state_begun g ws in
      record {
        size = ap (λ x. members x.place) made ∙ size;
        holder_is = ap (λ x. x.holder) made;
        slots_are = λ a s p q. ap (λ x. x.slot a s) made ∙ sym (no_slot (8 * a + s));
        mail_is = λ a b p q. ap (λ x. x.mail a b) made ∙ sym (no_mail (8 * a + b));
        covers = subst (λ ns. Covers ns (state j)) (sym (ap names is ∙ names_begun g ws)) (subst (Covers (names_in g ws)) (sym made) (opened_covers (place_in g ws) (image_of ws)));
        lawful = subst Lawful (sym made) opened_lawful;
      }
