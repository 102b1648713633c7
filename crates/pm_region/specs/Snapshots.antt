-- What is read of a region at one moment.
use Rattle.std.specs.Prelude.{◌≡◌, ℕ, ◌==◌}
use Rattle.pm_region.specs.Cell.{certain}
use Rattle.pm_region.specs.State.{State, Frame, IsTelling, cell_now}
use Rattle.pm_region.specs.Words.{Surely, lasts}

-- the frame of a region, whose moments begin at 0
abbrev pub from_zero : Frame → Frame
from_zero f = record {
  first = f.first;
  words = f.words;
  since = 0;
  parted = f.parted;
  cuts = f.cuts;
  bytes = f.bytes;
  refusals = f.refusals;
  opens = f.opens;
  validations = f.validations;
}

-- The state of a snapshot of a region with these words, after so many calls: only its first moment is told.
abbrev pub snapshot_state : State → (ℕ → ℕ) → ℕ → State
snapshot_state s word stamp = record {
  frame = from_zero s.frame;
  stamp = stamp;
  faults = s.faults;
  told = λ t. t == 0;
  cells = λ t w. certain (word w);
}

-- It has the region's range, and tells that each word is certainly the region's.
pub record IsSnapshot (s : State) (word : ℕ → ℕ) (read : State) : Type 0 where
  pub frame : read.frame ≡ from_zero s.frame
  pub telling : IsTelling read
  pub lasts_are : (w : ℕ) → lasts read w ≡ word w
  pub certainly : (w : ℕ) → Surely (cell_now read w) (word w)
