-- What a region that was just attached says.
use Rattle.std.proofs.Common.{◌≡◌, inl, inr, ℕ, ◌/◌, ◌%◌, ◌<◌, ◌≤◌, ◌==◌, ◌&&◌, List, [], refl, sym, ◌∙◌, ap, subst, arith, true, false, Bool, cond, Option, Some, None, nat_le}
use Rattle.std.specs.Prelude.{is_none}
use Rattle.std.proofs.lemmas.Bool.{cases_lt, le-leb, lt-leb}
use Rattle.pm_region.specs.Cell.{Cell, certain}
use Rattle.pm_region.specs.State.{State, InRange, IsTold, IsTelling, cell_now}
use Rattle.pm_region.specs.Words.{lasts}
use Rattle.pm_region.specs.Split.{Attached}
use Rattle.fs_model.specs.declared.model.Request.{Request}
use Rattle.chunk_map.specs.Layouts.{layout_of, layout_rule, total_bytes, magic}
use Rattle.store_image.specs.declared.types.Fault.TheVariants.{NotARegion}
use Rattle.store_image.specs.Soundness.{IsSound, first_fault, fault_by}
use Rattle.store_image.proofs.Clients.{fault_agrees, layout_numbers, superblock_facts, has_layout}
use Rattle.headline.specs.Headline.{cells_of, RecoversThroughout}
use Rattle.headline.proofs.Clients.{at_attach}
use Rattle.flatstore_commands.specs.Played.{StandsWhole}

-- a region that is too long breaks the first rule, whatever its words
too_long : (bytes : ℕ) (image : ℕ → ℕ) → 268439552 < bytes → first_fault bytes image ≡ Some (NotARegion 1)
unfolding first_fault
too_long bytes image big = ap (fault_by image) (by (bytes % 8 == 0 && nat_le 4096 bytes)) where
  by : (b : Bool) → cond {A = Option ℕ} (b && nat_le bytes 268439552) (cond (image 0 == magic && image 1 == 1) (cond (is_none (layout_rule (layout_of image)) && bytes == total_bytes (layout_of image)) None (Some 3)) (Some 2)) (Some 1) ≡ Some 1
  by true = ap (λ b. cond {A = Option ℕ} b (cond (image 0 == magic && image 1 == 1) (cond (is_none (layout_rule (layout_of image)) && bytes == total_bytes (layout_of image)) None (Some 3)) (Some 2)) (Some 1)) (lt-leb bytes 268439552 big)
  by false = refl

module _ (old s : State) (found : ℕ → ℕ) (A : Attached old s s.frame.bytes found) where
  -- it has the words that were found
  pub found_last : IsTelling s → (w : ℕ) → InRange s.frame w → lasts s w ≡ found w
  found_last telling w inside = ap (λ (c : Cell). c.last) (A.certainly w inside telling)

  pub certain_last : IsTelling s → (w : ℕ) → InRange s.frame w → cell_now s w ≡ certain (lasts s w)
  certain_last telling w inside = A.certainly w inside telling ∙ ap certain (sym (found_last telling w inside))

  -- of which a rule that is broken is the same,
  pub found_words : s.frame.bytes ≤ 268439552 → IsTelling s → (w : ℕ) → w < s.frame.bytes / 8 → lasts s w ≡ found w
  found_words small telling w lt =
      let first = A.first in
      let words : s.frame.words ≡ s.frame.bytes / 8 = A.words ∙ ap (λ b. cond b (s.frame.bytes / 8) 0) (le-leb s.frame.bytes 268439552 small) in
      found_last telling w (record { low = omega (arith, first); high = omega (arith, first, words, lt) })

  pub found_fault : IsTelling s → first_fault s.frame.bytes (lasts s) ≡ first_fault s.frame.bytes found
  found_fault telling = elim (cases_lt 268439552 s.frame.bytes) [
    | inr small ↦ fault_agrees s.frame.bytes (lasts s) found (found_words small telling)
    | inl big ↦ too_long s.frame.bytes (lasts s) big ∙ sym (too_long s.frame.bytes found big)
  ]

  -- and so what a sound one says.
  pub sound_small : IsSound s.frame.bytes found → s.frame.bytes ≤ 268439552
  sound_small sound =
      let f = superblock_facts s.frame.bytes found (has_layout s.frame.bytes found sound) in
      let n = layout_numbers (layout_of found) f.1 in
      let total = n.total in
      let bytes = f.2 in
      omega (arith, total, bytes)

  -- Where nothing was done since, each image recovers the cells that were found.
  pub crash_at_attach : IsSound s.frame.bytes found → (trace : List Request) → RecoversThroughout s (cells_of found) trace (record { finishes = []; refusals = [] })
  crash_at_attach sound trace n told image may =
      let stamp = A.stamp in
      let seen = told.seen in
      let is : n ≡ s.stamp = omega (arith, stamp, seen) in
      let telling : IsTelling s = subst (IsTold s) is told in
      let small = sound_small sound in
      let words : s.frame.words ≡ s.frame.bytes / 8 = A.words ∙ ap (λ b. cond b (s.frame.bytes / 8) 0) (le-leb s.frame.bytes 268439552 small) in
      at_attach s.frame (s.cells n) found A.first words (λ w inside. ap (λ m. s.cells m w) is ∙ A.certainly w inside telling) image may sound trace (record { finishes = []; refusals = [] })

  -- It stands whole, each word certain.
  pub stands_whole : StandsWhole s
  stands_whole = record { first = A.first; words = A.words; parted = A.parted; certain = certain_last }
