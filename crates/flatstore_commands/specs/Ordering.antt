-- The order of a replay's work: attaching, the region's rules, reading the source to its end, the input's rules, the run, the writing.
use Rattle.std.specs.Prelude.{◌≡◌, ◌⊎◌, ℕ, List, Bool, true, false, Option, Some, None, Result, Ok, Err}
use Rattle.pm_region.specs.State.{State, IsTold, IsTelling, Faulted, Rose}
use Rattle.pm_region.specs.Split.{Attached}
use Rattle.fs_text.specs.declared.line.Line.{Line}
use Rattle.fs_text.specs.Input.{input_of}
use Rattle.fs_text.specs.Streams.{IsReadOut}
use Rattle.store_image.specs.declared.types.Fault.{Fault}
use Rattle.store_image.specs.Soundness.{IsSound, first_fault}
use Rattle.flatstore_commands.specs.Ends.{SourceUse, SinkUse}
use Rattle.flatstore_commands.specs.Statuses.{fault_status}
use Rattle.flatstore_commands.specs.declared.report.Status.{Status}
use Rattle.flatstore_commands.specs.declared.report.Status.TheVariants as statuses
use Rattle.flatstore_commands.specs.declared.report.CommandReport.{CommandReport}

abbrev pub status_of : Result (List Line) (ℕ × ℕ) → Status
status_of (Ok lines) = statuses.Done
status_of (Err (line, rule)) = statuses.BadInput line rule

-- the status that the words found and the input alone decide; word 2 is the number of cores
abbrev pub due : (ℕ → ℕ) → List ℕ → Option Fault → Status
due found input (Some fault) = fault_status fault
due found input None = status_of (input_of (found 2) input)

abbrev pub IsDue : ℕ → (ℕ → ℕ) → List ℕ → Status → Type 0
IsDue bytes found input status = status ≡ due found input (first_fault bytes found)

-- a fault, or want of memory
abbrev pub IsFault : State → State → SourceUse → SinkUse → Status → Type 0
IsFault old new source sink status =
    (status ≡ statuses.Memory)
    ⊎ (((status ≡ statuses.SourceFault) × Rose source.faults source.faults')
    ⊎ (((status ≡ statuses.SinkFault) × Rose sink.faults sink.faults')
    ⊎ ((status ≡ statuses.RegionFault) × Faulted old new)))

-- a status at which nothing was written and no word of the region changed
abbrev pub is_quiet : Status → Bool
is_quiet statuses.Done = false
is_quiet statuses.Usage = true
is_quiet (statuses.BadInput line rule) = true
is_quiet statuses.SourceFault = true
is_quiet statuses.SinkFault = false
is_quiet statuses.RegionFault = false
is_quiet (statuses.Damaged part chunk rule) = true
is_quiet (statuses.NotARegion rule) = true
is_quiet statuses.Memory = false

-- a line breaks a rule
abbrev pub is_broken : Result (List Line) (ℕ × ℕ) → Bool
is_broken (Ok lines) = false
is_broken (Err at) = true

-- a status that a broken rule of the region decides: nothing is read then
abbrev pub is_of_region : Status → Bool
is_of_region statuses.Done = false
is_of_region statuses.Usage = false
is_of_region (statuses.BadInput line rule) = false
is_of_region statuses.SourceFault = false
is_of_region statuses.SinkFault = false
is_of_region statuses.RegionFault = false
is_of_region (statuses.Damaged part chunk rule) = true
is_of_region (statuses.NotARegion rule) = true
is_of_region statuses.Memory = false

-- a status that a line of the input decides
abbrev pub is_of_line : Status → Bool
is_of_line statuses.Done = false
is_of_line statuses.Usage = false
is_of_line (statuses.BadInput line rule) = true
is_of_line statuses.SourceFault = false
is_of_line statuses.SinkFault = false
is_of_line statuses.RegionFault = false
is_of_line (statuses.Damaged part chunk rule) = false
is_of_line (statuses.NotARegion rule) = false
is_of_line statuses.Memory = false

-- a status of a run that came to its end, without a failed call of the region
abbrev pub is_whole : Status → Bool
is_whole statuses.Done = true
is_whole statuses.Usage = false
is_whole (statuses.BadInput line rule) = false
is_whole statuses.SourceFault = false
is_whole statuses.SinkFault = true
is_whole statuses.RegionFault = false
is_whole (statuses.Damaged part chunk rule) = false
is_whole (statuses.NotARegion rule) = false
is_whole statuses.Memory = false

-- a status of the run or of the writing, where it didn't lack memory
abbrev pub is_of_run : Status → Bool
is_of_run statuses.Done = true
is_of_run statuses.Usage = false
is_of_run (statuses.BadInput line rule) = false
is_of_run statuses.SourceFault = false
is_of_run statuses.SinkFault = true
is_of_run statuses.RegionFault = true
is_of_run (statuses.Damaged part chunk rule) = false
is_of_run (statuses.NotARegion rule) = false
is_of_run statuses.Memory = false

-- the region keeps its rules, where it tells
abbrev pub IsServed : State → (ℕ → ℕ) → Type 0
IsServed s found = IsTelling s → IsSound s.frame.bytes found

-- What an end says of the work before it, by the number of cores. Before the run begins no word of the region changes.
pub record KeepsOrder (old new : State) (found : ℕ → ℕ) (source : SourceUse) (cores : ℕ)
    (input : List ℕ) (r : CommandReport) : Type 0 where
  pub untouched : r.began ≡ false → Attached old new new.frame.bytes found
  -- The rules of the region go before the source,
  pub read : r.status ≡ statuses.SourceFault → IsServed new found
  -- and both before the rules of the input, which are those of all of it.
  pub line : is_of_line r.status ≡ true
      → IsServed new found × IsReadOut source.coming source.left
      × (r.status ≡ status_of (input_of cores input))
  -- All of these go before the run,
  pub began : r.began ≡ true
      → IsServed new found × IsReadOut source.coming source.left
      × (is_broken (input_of cores input) ≡ false)
  pub unbegun : is_quiet r.status ≡ true → r.began ≡ false
  -- and the whole run before the writing.
  pub run : is_of_run r.status ≡ true → r.began ≡ true
  pub written : r.complete ≡ true → r.began ≡ true
  pub whole : is_whole r.status ≡ true → r.complete ≡ true

-- The same, with the status: the words found and the input decide on it, but for faults that were counted and want of memory.
pub record GoesInOrder (old new : State) (found : ℕ → ℕ) (source : SourceUse) (cores : ℕ)
    (input : List ℕ) (sink : SinkUse) (r : CommandReport) : Type 0 where
  -- Of the region: its cores by the words read, which are those found, where it tells.
  pub cores_are : (t : ℕ) → IsTold new t → cores ≡ found 2
  pub order : KeepsOrder old new found source cores input r
  pub due : IsTelling new → IsDue new.frame.bytes found input r.status
      ⊎ IsFault old new source sink r.status
