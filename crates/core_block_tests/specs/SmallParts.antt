-- The layout of these tests, and a region with nothing in it.
use Rattle.std.specs.Prelude.{◌≡◌, ℕ}
use Rattle.pm_region.specs.Cell.{certain}
use Rattle.pm_region.specs.State.{State, IsTelling, InRange, cell_now}
use Rattle.chunk_map.specs.declared.layouts.Geometry.{Geometry}

-- one part with four chunks of 4,096 bytes
abbrev pub small : Geometry
small = record { cores = 1; group = 1; chunks = 4; chunk_bytes = 4096 }

-- a region of so many words with nothing in them
pub record IsBlank (n : ℕ) (s : State) : Type 0 where
  pub first : s.frame.first ≡ 0
  pub words : s.frame.words ≡ n
  pub zeros : (w : ℕ) → InRange s.frame w → IsTelling s → cell_now s w ≡ certain 0
