-- What is said of a region by its superblock.
use Rattle.std.proofs.Common.{◌≡◌, ℕ, ◌+◌, ◌*◌, ◌/◌, Option, Some, None, refl, sym, ◌∙◌, ap, subst, arith}
use Rattle.std.specs.Prelude.{Ok, Err}
use Rattle.pm_region.specs.State.{Frame}
use Rattle.chunk_map.specs.declared.layouts.Geometry.{Geometry}
use Rattle.chunk_map.specs.declared.superblock.NotARegion.{NotARegion}
use Rattle.chunk_map.specs.Layouts.{IsLayout, layout_of, superblock_rule, total_bytes, chunk_words}
use Rattle.chunk_map.specs.Checked.{superblock_by, checked_superblock, IsLength}
use Rattle.store_image.proofs.Clients.{layout_numbers, judged, sound_store}
use Rattle.store_image.specs.Soundness.{damage}
use Rattle.store_image.specs.Facts.{KeepsRules, IsStore}
use Rattle.recover.specs.Regions.{Covers}

module _ (bytes : ℕ) (image : ℕ → ℕ) where
  kept_by : (o : Option ℕ) (l : Geometry) → Ok l ≡ superblock_by image o → (o ≡ None) × (l ≡ layout_of image)
  kept_by None l is = (refl, cc is)
  kept_by (Some rule) l is = absurd (cc is)

  broken_by : (o : Option ℕ) (bad : NotARegion) → Err bad ≡ superblock_by image o → o ≡ Some bad.rule
  broken_by None bad is = absurd (cc is)
  broken_by (Some rule) bad is = let same : bad ≡ record { rule = rule } = cc is in ap Some (sym (ap (λ (b : NotARegion). b.rule) same))

  pub superblock_kept : (l : Geometry) → Ok l ≡ checked_superblock bytes image → (superblock_rule bytes image ≡ None) × (l ≡ layout_of image)
  superblock_kept l is = kept_by (superblock_rule bytes image) l is

  pub superblock_broken : (bad : NotARegion) → Err bad ≡ checked_superblock bytes image → superblock_rule bytes image ≡ Some bad.rule
  superblock_broken bad is = broken_by (superblock_rule bytes image) bad is

-- a layout's length is one that a region may have
pub is_length : (l : Geometry) (bytes : ℕ) → IsLayout l → total_bytes l ≡ bytes → IsLength bytes
is_length l bytes layout total =
    let is = layout_numbers l layout in
    let most = is.total in
    let size = is.whole in
    let eight : l.chunk_bytes ≡ 8 * chunk_words l = omega (arith, size) in
    let whole : total_bytes l ≡ 4096 + 8 * (l.cores * l.chunks * chunk_words l) = ap (λ b. 4096 + l.cores * l.chunks * b) eight ∙ omega arith in
    record {
      whole = omega (arith, whole, total);
      low = omega (arith, total);
      high = omega (arith, total, most);
    }

pub covers_all : (f : Frame) (l : Geometry) (bytes : ℕ) → f.first ≡ 0 → (IsLength bytes → f.words ≡ bytes / 8) → IsLayout l → total_bytes l ≡ bytes → Covers f l
covers_all f l bytes first words layout total = record {
  layout = layout;
  first = first;
  words = words (is_length l bytes layout total) ∙ ap (λ b. b / 8) (sym total);
}

-- a region that broke no rule
pub store_found : (bytes : ℕ) (image : ℕ → ℕ) (l : Geometry) → superblock_rule bytes image ≡ None → l ≡ layout_of image → damage l image ≡ None → IsStore bytes image
store_found bytes image l kept is none = sound_store bytes image (sym (judged bytes image l None kept is (sym none)))

-- and keeps them all
pub rules_kept : (bytes : ℕ) (image : ℕ → ℕ) (l : Geometry) → superblock_rule bytes image ≡ None → l ≡ layout_of image → damage l image ≡ None → KeepsRules l image
rules_kept bytes image l kept is none = subst (λ (k : Geometry). KeepsRules k image) (sym is) (store_found bytes image l kept is none).rules
