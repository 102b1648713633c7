-- Images of a region whose words are certain, and what a sound one keeps to.
use Rattle.std.proofs.Common.{◌≡◌, inl, inr, ℕ, ◌/◌, ◌<◌, List, ◌∙◌, subst, arith}
use Rattle.pm_region.specs.Cell.{Cell, certain, MayBe}
use Rattle.pm_region.specs.State.{Frame, InRange, MayLeave}
use Rattle.fs_model.specs.declared.model.Request.{Request}
use Rattle.store_image.specs.Soundness.{first_fault, IsSound}
use Rattle.store_image.proofs.Clients.{fault_agrees, cells_agree, own_blocks, has_layout}
use Rattle.headline.specs.Headline.{cells_of, HasOwnBlocks, Recovers, Told}

pub certain_may_be : (v x : ℕ) → MayBe (certain v) x → x ≡ v
certain_may_be v x (inl e) = e
certain_may_be v x (inr h) = absurd h

-- a whole region whose words are certain and those of an image
module _ (f : Frame) (cells : ℕ → Cell) (found : ℕ → ℕ) (first : f.first ≡ 0) (words : f.words ≡ f.bytes / 8) (is : (w : ℕ) → InRange f w → cells w ≡ certain (found w)) where
  agrees : (image : ℕ → ℕ) → MayLeave f cells image → (w : ℕ) → w < f.bytes / 8 → image w ≡ found w
  agrees image may w less =
      let within : InRange f w = record { low = omega (arith, first); high = omega (arith, first, words, less) } in
      certain_may_be (found w) (image w) (subst (λ c. MayBe c (image w)) (is w within) (may w within))

  -- each of its images is judged as that one,
  pub judged : (image : ℕ → ℕ) → MayLeave f cells image → first_fault f.bytes image ≡ first_fault f.bytes found
  judged image may = fault_agrees f.bytes image found (agrees image may)

  -- and recovers the same cells, where it is sound
  pub recovers_found : (image : ℕ → ℕ) → MayLeave f cells image → IsSound f.bytes found → (k : ℕ) → cells_of image k ≡ cells_of found k
  recovers_found image may sound k = cells_agree f.bytes image found (agrees image may) (has_layout f.bytes found sound) k

  -- so nothing has happened yet: the crash claim at the attach
  pub at_attach : (image : ℕ → ℕ) → MayLeave f cells image → IsSound f.bytes found → (trace : List Request) (r : Told) → Recovers f.bytes (cells_of found) trace r (λ k. 0) image
  at_attach image may sound trace r = record { sound = judged image may ∙ sound; cells = λ k low. inl (recovers_found image may sound k) }

-- no two winners of a sound image share a block
pub sound_blocks : (bytes : ℕ) (image : ℕ → ℕ) → IsSound bytes image → HasOwnBlocks image
sound_blocks bytes image sound j k p x y ix iy bx by = own_blocks bytes image sound j k p x y ix iy bx by
