-- What a run on threads did once its region was attached.
use Rattle.std.specs.Prelude.{◌≡◌, ◌⊎◌, ℕ, ◌≤◌, List, Bool, true, false, Option, Some, None}
use Rattle.pm_region.specs.State.{State, Faulted, Rose}
use Rattle.pm_region.specs.Split.{Stays}
use Rattle.recover.specs.declared.types.Recovered.{Recovered}
use Rattle.fs_text.specs.declared.line.Line.{Line}
use Rattle.engine_laws.specs.Ran.{asked_in}
use Rattle.engine_core.specs.declared.run_outcome.End.{End}
use Rattle.thread_engine.specs.declared.run_to_sink.SinkRun.{SinkRun}
use Rattle.thread_engine.specs.declared.text_outlet.Unwritten.{Unwritten}
use Rattle.thread_engine.specs.declared.text_outlet.Unwritten.TheVariants.{Astray, SinkFault, Memory}
use Rattle.thread_engine.specs.Printed.{RanToSink}
use Rattle.flatstore_commands.specs.Ends.{SourceUse, SinkUse}
use Rattle.flatstore_commands.specs.Played.{IsReady, IsRefused, is_ended, ended_as}
use Rattle.pm_region.specs.declared.split.AttachError.{AttachError}
use Rattle.pm_region.specs.declared.split.AttachError.TheVariants as attach
use Rattle.flatstore_commands.specs.declared.report.Status.{Status}
use Rattle.flatstore_commands.specs.declared.report.Status.TheVariants as statuses
use Rattle.flatstore_commands.specs.declared.run_threads.NotRun.{NotRun}
use Rattle.flatstore_commands.specs.declared.run_threads.NotRun.TheVariants.{Refused, Unsplit}

-- The input was read, and the cores ran over its requests, from the region's state s to t and to this outcome, and wrote
-- their replies window by window.
pub record PlayedApart (s : State) (word : ℕ → ℕ) (refused : Bool) (t : State)
    (source : SourceUse) (sink : SinkUse) (x : SinkRun) : Type 0 where
  pub recovered : Recovered
  pub lines : List Line
  pub ready : IsReady s word source recovered lines
  pub ran : RanToSink sink.before sink.now sink.flushed sink.faults sink.faults' s word refused
      recovered (asked_in lines) t x

-- the status of such a run
abbrev pub ran_as : End → Option Unwritten → Status
ran_as end None = ended_as end false
ran_as end (Some Astray) = statuses.RegionFault
ran_as end (Some SinkFault) = ended_as end true
ran_as end (Some Memory) = statuses.Memory

-- whether the region was found in its place before the last window of such a run was written
abbrev pub is_placed : End → Option Unwritten → Bool
is_placed end None = is_ended end
is_placed end (Some Astray) = false
is_placed end (Some SinkFault) = is_ended end
is_placed end (Some Memory) = is_ended end

-- The region was ready for the run, and a split of it failed.
pub record HasNotSplit (s : State) (word : ℕ → ℕ) (t : State)
    (source : SourceUse) : Type 0 where
  pub recovered : Recovered
  pub lines : List Line
  pub ready : IsReady s word source recovered lines
  pub fault : Faulted s t
  pub refused : Rose s.frame.refusals t.frame.refusals

-- why a run that was to begin didn't
abbrev pub why_of : AttachError → NotRun
why_of attach.RegionFault = Unsplit
why_of attach.Memory = Refused statuses.Memory

-- the status of a call in which no core ran
abbrev pub status_for : NotRun → Status
status_for (Refused status) = status
status_for Unsplit = statuses.RegionFault

-- a split is the beginning of a run
abbrev pub has_begun : NotRun → Bool
has_begun (Refused status) = false
has_begun Unsplit = true

-- Why no core ran: the work before the run was refused, there was no memory for the run, or the split failed.
abbrev pub WhyNotRun : State → (ℕ → ℕ) → State → SourceUse → NotRun → Type 0
WhyNotRun s word t source (Refused status) =
    ((t ≡ s) × IsRefused s source status) ⊎ (status ≡ statuses.Memory)
WhyNotRun s word t source Unsplit = HasNotSplit s word t source

-- No core ran, and the region is as it was, but for its counts.
pub record IsNotRun (s : State) (word : ℕ → ℕ) (t : State) (source : SourceUse)
    (why : NotRun) : Type 0 where
  pub stays : Stays s t
  pub later : s.faults ≤ t.faults
  pub cause : WhyNotRun s word t source why
