-- Where blocks lie in a region of a layout.
use Rattle.std.proofs.Common.{◌≡◌, ℕ, ◌+◌, ◌-◌, ◌*◌, ◌/◌, ◌^◌, ◌<◌, ◌≤◌, List, take, cond, true, false, Some, None, sym, ◌∙◌, ap, arith}
use Rattle.log_entry.specs.Words.{words_for, unpacked, words_from}
use Rattle.pm_region.specs.State.{Frame}
use Rattle.chunk_map.specs.declared.layouts.Geometry.{Geometry}
use Rattle.chunk_map.specs.Layouts.{chunk_words, total_bytes, has_class}
use Rattle.store_image.specs.Parts.{chunk_units, chunk_at, unit_at, is_start, block_bytes, value_by_class}
use Rattle.store_image.proofs.Clients.{layout_numbers, in_region, chunk_within, start_facts, two_positive}
use Rattle.recover.specs.Regions.{Covers}

module _ (f : Frame) (l : Geometry) (covers : Covers f l) where
  -- a block that begins at a pointer into a part lies in the region
  pub block_lies : (c p class : ℕ) → c < l.cores → 16 ≤ p → chunk_at l p / l.chunks ≡ c → is_start l class (unit_at l p) ≡ true → 32 * p + 32 * 2 ^ class ≤ total_bytes l / 8
  block_lies c p class low low' part start =
      let is = layout_numbers l covers.layout in
      let inside = chunk_within l is c p low part in
      let top = (start_facts l class (unit_at l p) start).1 in
      let some = two_positive class in
      let size = is.whole in
      let big = is.size in
      let split : chunk_units l * chunk_at l p + unit_at l p ≡ p - 16 = omega (arith, big) in
      let units : chunk_words l ≡ 32 * chunk_units l = omega (arith, size) in
      let first : chunk_at l p * chunk_words l ≡ 32 * (chunk_units l * chunk_at l p) = ap (λ w. chunk_at l p * w) units ∙ omega arith in
      let last : 32 * unit_at l p + (32 * 2 ^ class - 1) < chunk_words l = omega (arith, units, top, some) in
      let there = in_region l is (chunk_at l p) (32 * unit_at l p + (32 * 2 ^ class - 1)) inside last in
      omega (arith, split, first, low', some, there)

  -- a region isn't large
  pub small : total_bytes l / 8 < 2 ^ 32
  small =
      let is = layout_numbers l covers.layout in
      let total = is.total in
      omega (arith, total)

-- what was read of a block is what it holds
pub block_value : (image : ℕ → ℕ) (p class n : ℕ) (words bytes value : List ℕ) → n ≡ image (32 * p) → has_class n class ≡ true → words ≡ words_from image (32 * p + 1) (words_for n) → bytes ≡ unpacked words → value ≡ take n bytes
    → Some value ≡ value_by_class image p (Some class)
block_value image p class n words bytes value there has read spelled is =
    let same : value ≡ block_bytes image p = is ∙ ap (take n) (spelled ∙ ap unpacked read) ∙ ap (λ m. take m (unpacked (words_from image (32 * p + 1) (words_for m)))) there in
    ap Some same ∙ ap (λ b. cond b (Some (block_bytes image p)) None) (sym (ap (λ m. has_class m class) (sym there) ∙ has))

pub no_value : (image : ℕ → ℕ) (p class n : ℕ) → n ≡ image (32 * p) → has_class n class ≡ false → None ≡ value_by_class image p (Some class)
no_value image p class n there has = ap (λ b. cond b (Some (block_bytes image p)) None) (sym (ap (λ m. has_class m class) (sym there) ∙ has))
