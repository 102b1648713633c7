-- What a call promises that writes a text of what the words of its region say, and changes nothing of it.
use Rattle.std.specs.Prelude.{◌≡◌, ◌⊎◌, ℕ, List, Bool, true, false, Option, Some, None}
use Rattle.pm_region.specs.State.{State, InRange, IsTelling, Rose}
use Rattle.pm_region.specs.Split.{Attached}
use Rattle.store_image.specs.declared.types.Fault.{Fault}
use Rattle.store_image.specs.Soundness.{IsSound, first_fault}
use Rattle.fs_text.specs.Streams.{Takes, TakesPrefix}
use Rattle.flatstore_commands.specs.Attaching.{Attaches}
use Rattle.flatstore_commands.specs.declared.report.Status.{Status}
use Rattle.flatstore_commands.specs.declared.report.Status.TheVariants as statuses
use Rattle.flatstore_commands.specs.declared.report.CommandReport.{CommandReport}
use Rattle.flatstore_commands.specs.Ends.{SinkUse}
use Rattle.flatstore_commands.specs.Statuses.{fault_status}

-- the status that the first broken rule alone decides
abbrev pub status_by : Option Fault → Status
status_by None = statuses.Done
status_by (Some fault) = fault_status fault

-- a status of the writing, where it didn't lack memory
abbrev pub is_of_writing : Status → Bool
is_of_writing statuses.Done = true
is_of_writing statuses.Usage = false
is_of_writing (statuses.BadInput line rule) = false
is_of_writing statuses.SourceFault = false
is_of_writing statuses.SinkFault = true
is_of_writing statuses.RegionFault = false
is_of_writing (statuses.Damaged part chunk rule) = false
is_of_writing (statuses.NotARegion rule) = false
is_of_writing statuses.Memory = false

-- The sink took a text of this kind, or the beginning of one.
abbrev pub WritesText : (List ℕ → Type 0) → SinkUse → Type 0
WritesText IsText sink = (text : List ℕ) × IsText text × Takes sink.before sink.now text

abbrev pub BeginsText : (List ℕ → Type 0) → SinkUse → Type 0
BeginsText IsText sink = (text : List ℕ) × IsText text × TakesPrefix sink.before sink.now text

-- the status that the words decide, or want of memory, or, of a sound region, a write that failed
abbrev pub IsDueOf : ℕ → (ℕ → ℕ) → SinkUse → Status → Type 0
IsDueOf bytes word sink status =
    (status ≡ status_by (first_fault bytes word)) ⊎ ((status ≡ statuses.Memory)
    ⊎ ((status ≡ statuses.SinkFault) × Rose sink.faults sink.faults' × IsSound bytes word))

-- Of the kind of its texts, a region before and after the call, the words that an attach finds and those that the region
-- then reads, the sink and the report.
pub record Shows (IsText : List ℕ → Type 0) (old new : State) (found word : ℕ → ℕ)
    (sink : SinkUse) (r : CommandReport) : Type 0 where
  pub attaches : Attaches old new found r
  -- Where the region tells, the words read are those found.
  pub reads : r.attached ≡ true → IsTelling new
      → (w : ℕ) → InRange new.frame w → word w ≡ found w
  -- The words read decide on the status, but for want of memory and, of a sound region, a write that failed.
  pub due : r.attached ≡ true → IsDueOf new.frame.bytes word sink r.status
  pub no_fault : r.attached ≡ true → r.status ≡ statuses.RegionFault → ⊥
  -- At the end the whole text was written and flushed, and else the beginning of it, where the writing began. It begins
  -- after the rules of the region.
  pub done : r.status ≡ statuses.Done → WritesText IsText sink × (sink.flushed ≡ true)
  pub begins : r.complete ≡ true → BeginsText IsText sink
  pub sound : r.complete ≡ true → IsSound new.frame.bytes word
  pub written : is_of_writing r.status ≡ true → r.complete ≡ true
  -- The region is as it was attached.
  pub untouched : r.attached ≡ true → Attached old new new.frame.bytes found

-- what a writing of a text did, and its status
abbrev pub HasShown : List ℕ → SinkUse → Status → Type 0
HasShown text sink status =
    ((status ≡ statuses.Done) × Takes sink.before sink.now text × (sink.flushed ≡ true))
    ⊎ (((status ≡ statuses.SinkFault) × Rose sink.faults sink.faults'
    × TakesPrefix sink.before sink.now text)
    ⊎ ((status ≡ statuses.Memory) × TakesPrefix sink.before sink.now text))

-- why there is no text: a broken rule, or want of memory
abbrev pub IsUnlisted : ℕ → (ℕ → ℕ) → Status → Type 0
IsUnlisted bytes word status =
    (status ≡ statuses.Memory) ⊎ ((fault : Fault) × (status ≡ status_by (Some fault))
    × (first_fault bytes word ≡ Some fault))
