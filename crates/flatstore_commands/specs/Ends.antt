-- What a call did with its source and with its sink.
use Rattle.std.specs.Prelude.{◌≡◌, ◌⊎◌, ℕ, List, [], Bool, false, Option}
use Rattle.pm_region.specs.State.{State, Faulted, Rose}
use Rattle.flatstore_commands.specs.Finished.{finishes_of}
use Rattle.flatstore_commands.specs.declared.report.Status.{Status}
use Rattle.flatstore_commands.specs.declared.report.Status.TheVariants as statuses
use Rattle.flatstore_commands.specs.declared.report.CommandReport.{CommandReport}

-- A source before and after the call: what was still to come and what is left, where it tells, and how many reads had
-- failed and have failed.
pub record SourceUse : Type 0 where
  pub coming : Option (List ℕ)
  pub left : Option (List ℕ)
  pub faults : ℕ
  pub faults' : ℕ

-- A sink before and after the call: what it had taken and has taken, where it tells, whether all of that is flushed,
-- and how many writes had failed and have failed.
pub record SinkUse : Type 0 where
  pub before : Option (List ℕ)
  pub now : Option (List ℕ)
  pub flushed : Bool
  pub faults : ℕ
  pub faults' : ℕ

-- by what sources of a kind tell, and their counts: this one before the call, and the same after it
abbrev pub source_use : {Kind : Type 0} → (Kind → Option (List ℕ)) → (Kind → ℕ) → Kind → Kind
    → SourceUse
source_use coming count old new = record {
  coming = coming old;
  left = coming new;
  faults = count old;
  faults' = count new;
}

-- by what sinks of a kind tell, and their counts
abbrev pub sink_use : {Kind : Type 0} → (Kind → Option (List ℕ)) → (Kind → Bool) → (Kind → ℕ)
    → Kind → Kind → SinkUse
sink_use taken flushed count old new = record {
  before = taken old;
  now = taken new;
  flushed = flushed new;
  faults = count old;
  faults' = count new;
}

-- every reply was written: the end was one of the run, and no write failed
abbrev pub IsAllOut : Status → SinkUse → Type 0
IsAllOut status sink =
    (status ≡ statuses.Done) ⊎ ((status ≡ statuses.RegionFault)
    × (Rose sink.faults sink.faults' → ⊥))

-- The status of a fault comes only where the count of that very end rose.
pub record CountsFaults (old new : State) (source : SourceUse) (sink : SinkUse)
    (status : Status) : Type 0 where
  pub source_fault : status ≡ statuses.SourceFault → Rose source.faults source.faults'
  pub sink_fault : status ≡ statuses.SinkFault → Rose sink.faults sink.faults'
  pub region_fault : status ≡ statuses.RegionFault → Faulted old new

-- no request is reported as finished or refused, and no answer behind a run of where the region is
abbrev pub AnswersNothing : CommandReport → Type 0
AnswersNothing r = (finishes_of r.finishes ≡ []) × (r.refusals.items ≡ []) × (r.in_place ≡ false)

-- it is no report of a run
abbrev pub ReportsNothing : CommandReport → Type 0
ReportsNothing r = (r.began ≡ false) × AnswersNothing r
