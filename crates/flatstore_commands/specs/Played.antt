-- What a replay did between attaching and writing.
use Rattle.std.specs.Prelude.{◌≡◌, ◌⊎◌, ℕ, List, Bool, true, false, Some, None, if◌then◌else◌}
use Rattle.pm_region.specs.Cell.{certain}
use Rattle.pm_region.specs.State.{State, IsTelling, InRange, cell_now, Rose}
use Rattle.pm_region.specs.Split.{words_in}
use Rattle.pm_region.specs.Words.{lasts}
use Rattle.store_image.specs.declared.types.Fault.{Fault}
use Rattle.store_image.specs.Soundness.{first_fault}
use Rattle.fs_text.specs.declared.line.Line.{Line}
use Rattle.engine_core.specs.declared.run_outcome.End.{End}
use Rattle.engine_core.specs.declared.run_outcome.End.TheVariants as ends
use Rattle.engine_core.specs.declared.run_outcome.Outcome.{Outcome}
use Rattle.engine_core.specs.RunStarts.{StandsAsFound}
use Rattle.group_engine.specs.Replayed.{Replayed}
use Rattle.recover.specs.declared.types.Recovered.{Recovered}
use Rattle.fs_text.specs.Bounds.{IsWithin}
use Rattle.flatstore_commands.specs.Ends.{SourceUse, SinkUse}
use Rattle.flatstore_commands.specs.Promise.{TakesReplies, TakesFront}
use Rattle.flatstore_commands.specs.Reads.{IsRead, IsUnread}
use Rattle.flatstore_commands.specs.Statuses.{fault_status}
use Rattle.flatstore_commands.specs.declared.report.Status.{Status}
use Rattle.flatstore_commands.specs.declared.report.Status.TheVariants as statuses

-- A whole region, from word 0 on, of which each word is certain: as an attach leaves it.
pub record StandsWhole (s : State) : Type 0 where
  pub first : s.frame.first ≡ 0
  pub words : s.frame.words ≡ words_in s.frame.bytes
  pub parted : s.frame.parted ≡ false
  pub certain : IsTelling s → (w : ℕ) → InRange s.frame w → cell_now s w ≡ certain (lasts s w)

-- What recovery gave of the region, and the lines of the input for its cores.
pub record IsReady (s : State) (word : ℕ → ℕ) (source : SourceUse) (r : Recovered)
    (lines : List Line) : Type 0 where
  pub stands : StandsAsFound s word r
  pub read : IsRead source r.layout.cores lines
  pub within : IsWithin r.layout.cores lines

-- The region was recovered by the words that it reads, the input was read, and the engine ran over
-- its lines, from the region's state s to t and to this outcome.
pub record Played (s : State) (word : ℕ → ℕ) (t : State) (source : SourceUse)
    (x : Outcome) : Type 0 where
  pub recovered : Recovered
  pub lines : List Line
  pub ready : IsReady s word source recovered lines
  pub ran : Replayed s word recovered lines t x

-- Why a region is not served: it breaks a rule, or there was no memory.
abbrev pub IsUnserved : State → Status → Type 0
IsUnserved s status =
    ((fault : Fault) × (status ≡ fault_status fault)
    × (IsTelling s → first_fault s.frame.bytes (lasts s) ≡ Some fault)) ⊎ (status ≡ statuses.Memory)

-- the region keeps its rules, where it tells, and has so many cores
abbrev pub IsCounted : State → ℕ → Type 0
IsCounted s cores = IsTelling s → (first_fault s.frame.bytes (lasts s) ≡ None) × (lasts s 2 ≡ cores)

-- why a replay answered nothing
abbrev pub IsRefused : State → SourceUse → Status → Type 0
IsRefused s source status =
    IsUnserved s status ⊎ ((cores : ℕ) × IsCounted s cores × IsUnread source cores status)

-- it came to its end
abbrev pub is_ended : End → Bool
is_ended ends.Complete = true
is_ended ends.RegionFault = true
is_ended ends.Memory = false

-- What the writing did behind a run that came to this end: everything was written and flushed, or the front of it, and the
-- status says which. A fault of the region goes before one of the sink.
abbrev pub HasWritten : Type 0 → Type 0 → End → SinkUse → Status → Type 0
HasWritten All Front end sink status =
    ((status ≡ statuses.Done) × (end ≡ ends.Complete) × All × (sink.flushed ≡ true))
    ⊎ (((status ≡ statuses.RegionFault) × (end ≡ ends.RegionFault)
    × ((All × (sink.flushed ≡ true)) ⊎ (Rose sink.faults sink.faults' × Front)))
    ⊎ (((status ≡ statuses.SinkFault) × (end ≡ ends.Complete) × Rose sink.faults sink.faults'
    × Front)
    ⊎ ((status ≡ statuses.Memory) × (is_ended end ≡ true) × Front)))

-- the same, of the replies of a run
abbrev pub HasWrittenReplies : Outcome → SinkUse → Status → Type 0
HasWrittenReplies x sink status =
    HasWritten (TakesReplies sink x.replies.items) (TakesFront sink x.replies.items) x.end sink
    status

-- Why not everything was written: the run didn't come to its end, or the region was out of its place.
abbrev pub IsKeptBack : End → Status → Type 0
IsKeptBack end status = ((status ≡ statuses.Memory) × (is_ended end ≡ false))
    ⊎ ((status ≡ statuses.RegionFault) × (is_ended end ≡ true))

-- what became of the replies, by whether the region was found in its place behind the run
abbrev pub HasAnswered : Outcome → SinkUse → Bool → Status → Type 0
HasAnswered x sink true status = HasWrittenReplies x sink status × (is_ended x.end ≡ true)
HasAnswered x sink false status = (sink.now ≡ sink.before) × IsKeptBack x.end status

-- the same, but for what went out where not everything did
abbrev pub EndsAs : Type 0 → Type 0 → End → SinkUse → Bool → Status → Type 0
EndsAs All Front end sink true status =
    HasWritten All Front end sink status × (is_ended end ≡ true)
EndsAs All Front end sink false status = IsKeptBack end status

-- the status of a run by its end, and whether a write failed
abbrev pub ended_as : End → Bool → Status
ended_as ends.Complete sunk = if sunk then statuses.SinkFault else statuses.Done
ended_as ends.RegionFault sunk = statuses.RegionFault
ended_as ends.Memory sunk = statuses.Memory
