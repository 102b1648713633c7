-- The run of the engine that a report is of.
use Rattle.std.specs.Prelude.{◌≡◌, ℕ, ◌/◌, ◌<◌, List, [], ◌∷◌, ◌++◌, length, map, true, false, Ok}
use Rattle.std.specs.List.{AllByRecursion, slice_get}
use Rattle.pm_region.specs.declared.region_sizes.TheConstants.{WORD_BYTES}
use Rattle.pm_region.specs.State.{State, IsTelling, cell_now}
use Rattle.chunk_map.specs.Layouts.{layout_of}
use Rattle.fs_model.specs.declared.model.Request.{Request}
use Rattle.fs_text.specs.declared.line.Line.{Line}
use Rattle.fs_text.specs.Input.{input_of}
use Rattle.fs_text.specs.Output.{replies_text}
use Rattle.fs_text.specs.Streams.{Takes, TakesPrefix}
use Rattle.recover.specs.declared.types.Recovered.{Recovered}
use Rattle.core_worker.specs.declared.worker.Worker.{Worker}
use Rattle.engine_laws.specs.Engine.{Engine}
use Rattle.engine_laws.specs.Promises.{HasStopped}
use Rattle.engine_laws.specs.Ceasing.{HasCeased}
use Rattle.engine_laws.specs.Parts.{AllLicensed}
use Rattle.engine_laws.specs.Stands.{Origin, Stands}
use Rattle.engine_laws.specs.Ran.{Ran, asked_in}
use Rattle.engine_laws.specs.Idle.{IsDrained}
use Rattle.engine_laws.specs.Reports.{told_of, replies_of, AllAnswered}
use Rattle.engine_core.specs.Answers.{kept_at, ShowsAnswer}
use Rattle.engine_core.specs.RunStarts.{StandsAsFound, BeginsAt, AreNew}
use Rattle.engine_core.specs.Reports.{as_told, reply_in, finishes_in, refusals_in}
use Rattle.group_engine.specs.Runs.{RunState, CoreMoves, first_state, with_request}
use Rattle.headline.specs.Headline.{Told}
use Rattle.flatstore_commands.specs.Attaching.{GoesOnFrom, Asks}
use Rattle.flatstore_commands.specs.Ends.{SinkUse, IsAllOut}
use Rattle.flatstore_commands.specs.Finished.{finishes_of}
use Rattle.flatstore_commands.specs.Ordering.{is_whole}
use Rattle.flatstore_commands.specs.declared.report.Status.TheVariants as statuses
use Rattle.flatstore_commands.specs.declared.report.CommandReport.{CommandReport}

-- what a report says of the requests
abbrev pub told_in : CommandReport → Told
told_in r = as_told (finishes_of r.finishes) r.refusals.items

-- each number is above those before it
abbrev pub AreRising : List ℕ → Type 0
AreRising [] = Unit {0}
AreRising (n ∷ ns) = AllByRecursion (λ m. n < m) ns × AreRising ns

-- every core goes on to the end
abbrev pub NoneHasStopped : Engine → Type 0
NoneHasStopped e = (c : ℕ) → c < e.layout.cores → e.stopped c ≡ false

-- The report is on a state of the run, at the region's end, in which every worker has wound down: nobody leads, and all
-- that was posted or taken is finished. What was staged or waited has no answer.
pub record WindsDown (new : State) (r : CommandReport) : Type 0 where
  pub state : Engine
  pub region : state.region ≡ new
  pub ceased : HasCeased state
  pub told_is : told_in r ≡ told_of state

-- The words that a run begins with in a region that was just attached, and what recovery gave of them.
pub record Starts (at : State) (found : ℕ → ℕ) (cores : ℕ) : Type 0 where
  -- the words that the region reads, and what recovery gave of them
  pub word : ℕ → ℕ
  pub recovered : Recovered
  pub stands : StandsAsFound at word recovered
  -- The run begins at these words. Where the region tells, they are those that were found.
  pub origin : Origin
  pub begins : BeginsAt at word origin
  pub words : IsTelling at → (w : ℕ) → w < at.frame.bytes / WORD_BYTES → origin.found w ≡ found w
  pub count : (layout_of origin.found).cores ≡ cores

-- How it begins: every group opens on these words, and every worker is made of what recovery gave its
-- core of them.
pub record Opens (at : State) (found : ℕ → ℕ) (cores : ℕ) : Type 0 where
  pub start : Starts at found cores
  -- the workers, by core
  pub workers : List Worker
  pub new : AreNew start.recovered.starts.items start.recovered.layout workers

-- the state in which it begins: no request was given, and no answer
abbrev pub first_of : {at : State} {found : ℕ → ℕ} {cores : ℕ} → Opens at found cores
    → RunState Worker
first_of x = first_state x.start.origin x.workers

-- A report is made of the answers that are kept in a state of the run: the finishes with their stamps,
-- the refusals with what was counted.
pub record ReportsKept (new : State) (last : RunState Worker) (r : CommandReport) : Type 0 where
  pub finishes : finishes_of r.finishes ≡ finishes_in 0 last.answers
  pub refusals : r.refusals.items ≡ refusals_in 0 last.answers
  -- Those are the answers of the state, each with its stamp and the cause of its refusal; where the
  -- region doesn't tell, a get may have found another value.
  pub count : length last.answers ≡ length last.engine.given
  pub shown : (n : ℕ) → ShowsAnswer (IsTelling new) (slice_get last.engine.given n)
      (last.engine.answer n) (kept_at last.answers n)
  pub told_is : told_in r ≡ told_of last.engine
  pub replies : IsTelling new → map reply_in last.answers ≡ replies_of last.engine

-- The same, and what the sink took are their replies.
pub record ReportsAnswers (new : State) (sink : SinkUse) (last : RunState Worker)
    (r : CommandReport) : Type 0 where
  pub kept : ReportsKept new last r
  pub begins : TakesPrefix sink.before sink.now (replies_text (map reply_in last.answers))
  pub writes : r.in_place ≡ true → IsAllOut r.status sink
      → Takes sink.before sink.now (replies_text (map reply_in last.answers))

-- The lines of the input led the engine from the region, as it was attached with these words, to a
-- last state, and this is a report on it.
pub record RanTo (old new : State) (found : ℕ → ℕ) (cores : ℕ) (input : List ℕ)
    (sink : SinkUse) (r : CommandReport) : Type 0 where
  pub last : RunState Worker
  pub from : GoesOnFrom old last.engine.region new.frame.bytes found
  pub first : Opens from.at found cores
  -- The lines are those of the input: a request joins its owner's backlog, a `go` line is so many
  -- moves of its core's worker, and after the last come passes over all cores until nothing moves.
  pub lines : List Line
  pub good : input_of cores input ≡ Ok lines
  pub ran : Ran CoreMoves with_request cores lines (first_of first) last
  -- The region is as it is in the last state, but that behind it it was asked whether it is in its
  -- place. Everything is answered there, every slot is empty and nothing waits.
  pub ends : Asks true r.in_place last.engine.region new
  pub answered : AllAnswered last.engine
  pub drained : IsDrained last.engine
  pub reports : ReportsAnswers new sink last r
  -- The status tells a fault of the region exactly where a core has stopped, or the region was out of
  -- its place behind the run.
  pub stops : r.status ≡ statuses.RegionFault → r.in_place ≡ true → HasStopped last.engine
  pub goes : is_whole r.status ≡ true → NoneHasStopped last.engine
  -- Whatever a crash leaves of a part now is licensed by its core's view in that state.
  pub licensed : IsTelling new → AllLicensed last.engine.layout last.engine.group (cell_now new)

-- A run over the lines of the input that broke off for want of memory, and the state in which it did. That state comes from
-- the region, as it was attached with these words, and from the first requests of the input: every promise of a run
-- holds there, though the others were not given. All that was posted or taken is finished there, and this is a report on it.
pub record BreaksOff (old new : State) (found : ℕ → ℕ) (cores : ℕ) (input : List ℕ)
    (r : CommandReport) : Type 0 where
  pub last : RunState Worker
  pub from : GoesOnFrom old last.engine.region new.frame.bytes found
  pub start : Starts from.at found cores
  pub lines : List Line
  pub good : input_of cores input ≡ Ok lines
  pub given : (more : List Request) × (asked_in lines ≡ last.engine.given ++ more)
  pub stands : Stands start.origin last.engine
  pub ceased : HasCeased last.engine
  pub region : last.engine.region ≡ new
  pub reports : ReportsKept new last r
