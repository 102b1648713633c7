-- The words of bytes.
use Rattle.std.specs.Prelude.{◌≡◌, ℕ, ◌*◌, ◌<◌, List, length, drop, slice_index}
use Rattle.pm_region.specs.declared.region_sizes.TheConstants.{WORD_BYTES}
use Rattle.byteorder.specs.Endian.{little_number}

-- the word at a place: eight bytes, the lowest first
abbrev pub word_at : List ℕ → ℕ → ℕ
word_at bytes k = little_number WORD_BYTES (drop (WORD_BYTES * k) bytes)

-- the first n words of the bytes
pub record AreWords (bytes words : List ℕ) (n : ℕ) : Type 0 where
  pub count : length words ≡ n
  pub each : (k : ℕ) → k < n → slice_index words k ≡ word_at bytes k
