-- A whole region of a layout.
use Rattle.std.specs.Prelude.{◌≡◌, ℕ}
use Rattle.pm_region.specs.State.{State, Frame, IsTelling, InRange, cell_now}
use Rattle.pm_region.specs.Words.{Surely, lasts}
use Rattle.chunk_map.specs.declared.layouts.Geometry.{Geometry}
use Rattle.chunk_map.specs.Layouts.{IsLayout, total_words}

-- the layout is one, and the region has its words from 0 on
pub record Covers (f : Frame) (l : Geometry) : Type 0 where
  pub layout : IsLayout l
  pub first : f.first ≡ 0
  pub words : f.words ≡ total_words l

-- where it tells, a crash leaves one value of each word: the one that a load gives
abbrev pub IsCertain : State → Type 0
IsCertain s = IsTelling s → (w : ℕ) → InRange s.frame w → Surely (cell_now s w) (lasts s w)
