-- What a history says.
use Rattle.std.specs.Prelude.{◌⊎◌, ℕ, ◌+◌, ◌-◌, ◌≤◌, ◌<◌, List, slice_index}
use Rattle.pm_region.specs.Cell.{certain}
use Rattle.pm_region.specs.State.{State, Frame}
use Rattle.region_memory.specs.Journals.{cell_after, journal_told, steps_to}
use Rattle.region_memory.specs.declared.region_journal.Journal.{Journal}

-- the state of a region with this journal, that began with these words certain
abbrev pub state_by : Frame → ℕ → ℕ → List ℕ → Journal → State
state_by frame faults first start j = record {
  frame = frame;
  stamp = j.stamp;
  faults = faults;
  told = journal_told j;
  cells = λ t w. cell_after (steps_to j t) w (certain (slice_index start (w - first)));
}

abbrev pub Outside : ℕ → ℕ → ℕ → Type 0
Outside first words w = (w < first) ⊎ (first + words ≤ w)
