-- What is written of some lines of a file.
use Rattle.std.specs.Prelude.{◌≡◌, ◌⊎◌, ℕ, ◌+◌, ◌*◌, ◌≤◌, ◌<◌, List, ◌∷◌, length, take, drop, slice_index}
use Rattle.pm_region.specs.declared.region_sizes.TheConstants.{LINE_BYTES}
use Rattle.region_file.specs.Calls.{Call, failed, byte_after, OnlyWrites}

-- the byte is in none of the first n lines, of a file whose bytes begin at `start`
abbrev pub IsClear : ℕ → List ℕ → ℕ → ℕ → Type 0
IsClear start lines n byte = (j : ℕ) → j < n → (byte < start + LINE_BYTES * slice_index lines j)
    ⊎ (start + LINE_BYTES * slice_index lines j + LINE_BYTES ≤ byte)

-- From some calls to others only writes were made, by which each byte of the first n lines has its place, and no other
-- byte of the file changed.
pub record AreRuns (start : ℕ) (lines bytes : List ℕ) (n : ℕ) (before after : List Call) :
    Type 0 where
  pub writes : OnlyWrites before after
  pub own : (disk : ℕ → ℕ) (j byte : ℕ) → j < n → byte < LINE_BYTES
      → byte_after disk after (start + (LINE_BYTES * slice_index lines j + byte)) ≡ slice_index bytes
      (LINE_BYTES * slice_index lines j + byte)
  pub others : (disk : ℕ → ℕ) (byte : ℕ) → IsClear start lines n byte → byte_after disk after byte
      ≡ byte_after disk before byte

-- The first n of these lines were written, and then a call failed. No call followed it.
pub record AreCutShort (start : ℕ) (lines bytes : List ℕ) (before after : List Call) : Type 0 where
  pub n : ℕ
  pub within : n ≤ length lines
  pub calls : List Call
  pub runs : AreRuns start lines bytes n before calls
  pub failed_last : after ≡ failed ∷ calls

-- the bytes of some neighbouring lines, from a place of the list on
pub record IsRun (lines bytes : List ℕ) (from : ℕ) (run : List ℕ) : Type 0 where
  pub count : ℕ
  pub some : 0 < count
  pub size : length run ≡ LINE_BYTES * count
  pub within : from + count ≤ length lines
  pub neighbours : (j : ℕ) → from + j < from + count → slice_index lines (from + j)
      ≡ slice_index lines from + j
  pub fits : LINE_BYTES * slice_index lines from + LINE_BYTES * count ≤ length bytes
  pub bytes_are : run ≡ take (LINE_BYTES * count) (drop (LINE_BYTES * slice_index lines from) bytes)
