-- Where chunks lie in a region of a layout.
use Rattle.std.proofs.Common.{◌≡◌, ℕ, ◌+◌, ◌*◌, ◌/◌, ◌^◌, ◌<◌, ◌≤◌, sym, ◌∙◌, ap, arith}
use Rattle.std.specs.Prelude.{Result, Ok, Err}
use Rattle.chunk_map.specs.declared.heads.Head.{Head}
use Rattle.chunk_map.specs.Checked.{checked_head}
use Rattle.pm_region.specs.State.{Frame}
use Rattle.chunk_map.specs.declared.layouts.Geometry.{Geometry}
use Rattle.chunk_map.specs.Layouts.{chunk_words, payload_words, chunk_first}
use Rattle.chunk_map.specs.Setting.{HeadLies}
use Rattle.chunk_map.proofs.Clients.{numbers_of, chunk_first_whole}
use Rattle.store_image.proofs.Clients.{layout_numbers, chunk_ends, chunk_number}
use Rattle.recover.specs.Regions.{Covers}

module _ (f : Frame) (l : Geometry) (covers : Covers f l) where
  -- the head of the chunk with number q among all
  pub head_lies : (q : ℕ) → q < l.cores * l.chunks → HeadLies f (512 + q * chunk_words l)
  head_lies q lt =
      let is = layout_numbers l covers.layout in
      let ends = (chunk_ends l is q lt).0 in
      let size = is.size in
      let first = covers.first in
      let words = covers.words in
      let zero_of : 0 * l.chunks + q ≡ q = omega arith in
      let line : 512 + q * chunk_words l ≡ 8 * (64 + q * (l.chunk_bytes / 64)) = ap (λ n. 512 + n * chunk_words l) (sym zero_of) ∙ chunk_first_whole l 0 q (numbers_of l covers.layout).size ∙ ap (λ n. 8 * (64 + n * (l.chunk_bytes / 64))) zero_of in
      record {
        low = omega (arith, first);
        high = omega (arith, ends, size, first, words);
        line = omega (arith, line);
      }

  -- the payload of a chunk, up to a tail
  pub payload_lies : (c j tail : ℕ) → c < l.cores → j < l.chunks → tail ≤ payload_words l → (chunk_first l c j + 32 + tail ≤ f.first + f.words) × (chunk_first l c j + 32 + tail < 2 ^ 32)
  payload_lies c j tail low high fits =
      let is = layout_numbers l covers.layout in
      let ends = chunk_ends l is (c * l.chunks + j) (chunk_number l is c j low high) in
      let size = is.size in
      let end = ends.0 in
      let small = ends.1 in
      let first = covers.first in
      let words = covers.words in
      (omega (arith, end, size, first, words, fits), omega (arith, end, small, size, fits))

  pub chunk_lies : (c j : ℕ) → c < l.cores → j < l.chunks → HeadLies f (chunk_first l c j)
  chunk_lies c j low high = head_lies (c * l.chunks + j) (chunk_number l (layout_numbers l covers.layout) c j low high)

-- a head that was read
pub head_read : (r : Result Head ℕ) (h : Head) → Ok h ≡ checked_head r → r ≡ Ok h
head_read (Ok h) k e = let same : h ≡ k = cc e in ap Ok same
head_read (Err rule) k e = absurd (cc e)
