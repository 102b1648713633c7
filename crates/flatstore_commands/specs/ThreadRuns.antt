-- What a call with the words of `run` promises.
use Rattle.std.specs.Prelude.{◌≡◌, ℕ, ◌*◌, ◌<◌, ◌≤◌, List, [], ◌++◌, length, map, Bool, true, false, Option, Ok}
use Rattle.fs_model.specs.declared.model.Request.{Request}
use Rattle.pm_region.specs.State.{State, IsTelling, cell_now, Rose, counted}
use Rattle.pm_region.specs.Split.{Attached, TellsFrom, IsNotRevalidated}
use Rattle.fs_text.specs.declared.line.Line.{Line}
use Rattle.fs_text.specs.Input.{input_of}
use Rattle.fs_text.specs.Output.{replies_text}
use Rattle.fs_text.specs.Streams.{Takes, TakesPrefix}
use Rattle.engine_laws.specs.Engine.{Engine}
use Rattle.engine_laws.specs.Idle.{IsDrained}
use Rattle.engine_laws.specs.Promises.{HasStopped}
use Rattle.engine_laws.specs.Parts.{AllLicensed}
use Rattle.engine_laws.specs.Reports.{told_of, AllAnswered}
use Rattle.engine_core.specs.declared.types.Stamped.{Stamped}
use Rattle.engine_core.specs.Reports.{reply_in, finishes_in, refusals_in}
use Rattle.answer_queue.specs.declared.window_sizes.TheConstants.{WINDOW}
use Rattle.thread_engine.specs.CoreRuns.{AllRan}
use Rattle.thread_engine.specs.Between.{HoldsBehind}
use Rattle.thread_engine.specs.Cuts.{HoldsInside}
use Rattle.thread_engine.specs.RanApart.{Rejoined, KeepsAnswers, TakesOnce}
use Rattle.thread_engine.specs.Printed.{IsOutInWindows}
use Rattle.flatstore_commands.specs.Attaching.{GoesOnBy}
use Rattle.flatstore_commands.specs.Ends.{SourceUse, SinkUse, IsAllOut}
use Rattle.flatstore_commands.specs.Finished.{finishes_of}
use Rattle.flatstore_commands.specs.LastStates.{told_in, NoneHasStopped, Starts}
use Rattle.flatstore_commands.specs.Ordering.{GoesInOrder, is_whole}
use Rattle.flatstore_commands.specs.Promise.{Serves, TakesReplies, TakesFront, asked_in}
use Rattle.flatstore_commands.specs.declared.report.Status.TheVariants as statuses
use Rattle.flatstore_commands.specs.declared.report.CommandReport.{CommandReport}

-- Each core worked off the requests of its keys among those that were begun, from the region as it was attached with these
-- words to an end, and this is a report on the answers that the cores' workers gave. `refused` says whether the gate may
-- hold a post back.
pub record CoresRan (old new : State) (found : ℕ → ℕ) (refused : Bool) (cores : ℕ)
    (begun : List Request) (r : CommandReport) : Type 0 where
  -- The region was attached, and then split and joined; so it is in the last state.
  pub f : Engine
  pub from : GoesOnBy Rejoined old f.region new.frame.bytes found
  pub start : Starts from.at found cores
  -- Each request that was begun is given to the owner of its key. Each core has a chain of its worker's moves, from the
  -- worker that opens on what recovery gave for it to an end; the groups' states are lawful.
  pub given : f.given ≡ begun
  pub ran : AllRan start.origin start.recovered refused f
  -- At each cut of the run a crash leaves, of each key, the changes that were finished before the cut, or one more.
  pub inside : HoldsInside start.origin start.recovered refused f ran.cores
  -- The region is as it is in the last state. It goes on telling by the stamp after the latest of its pieces' stamps, where
  -- each piece told to its end.
  pub ends : new ≡ f.region
  pub next : IsTelling from.at
      → ((c : ℕ) (low : c < f.layout.cores) → TellsFrom from.at (ran.cores c low).last.region)
      → (latest : ℕ) → from.at.stamp ≤ latest
      → ((c : ℕ) (low : c < f.layout.cores) → (ran.cores c low).last.region.stamp ≤ latest)
      → new.stamp ≤ counted latest
  -- The report's finishes and refusals are those of what the workers answered, at the joined region's stamp.
  pub kept : List (Option Stamped)
  pub keeps : KeepsAnswers start.origin start.recovered refused f ran.cores kept
  -- Each of these answers was put into the queue of its window once and taken out once, and no other was.
  pub once : TakesOnce start.origin start.recovered refused f ran.cores kept
  pub finishes : finishes_of r.finishes ≡ finishes_in 0 kept
  pub refusals : r.refusals.items ≡ refusals_in 0 kept
  pub told_is : told_in r ≡ told_of f
  -- Whatever a crash leaves of a part now is licensed by its core's view in that state.
  pub licensed : IsTelling new → AllLicensed f.layout f.group (cell_now new)

-- The cores worked off requests of an input, and the replies of each window were written behind it.
pub record WorkedInWindows (old new : State) (found : ℕ → ℕ) (refused : Bool) (cores : ℕ)
    (input : List ℕ) (begun : List Request) (sink : SinkUse) (r : CommandReport) : Type 0 where
  pub lines : List Line
  pub good : input_of cores input ≡ Ok lines
  pub worked : CoresRan old new found refused cores begun r
  -- What is out is the text of whole windows, each behind a look that found the region in its place, between the split and
  -- the join, and the beginning of that of one window more.
  pub parted : State
  pub behind : State
  pub unasked : IsNotRevalidated worked.from.at parted
  pub asked_since : IsNotRevalidated behind new
  pub out : IsOutInWindows parted behind sink.before sink.now (map reply_in worked.kept)
  -- A reply that went out survives: behind each window whose text is out every core rested, and whatever a crash leaves at a
  -- cut from there on recovers its changes; so behind the last window that was begun, where memory did not lack.
  pub between : (i : ℕ) → i ≤ length out.windows
      → HoldsBehind worked.start.origin worked.start.recovered refused worked.f
      worked.ran.cores (i * WINDOW)
  pub behind_all : r.complete ≡ true
      → HoldsBehind worked.start.origin worked.start.recovered refused worked.f
      worked.ran.cores (length begun)

-- There was memory for all of it: everything is answered in the last state, every slot is empty and nothing waits.
pub record HasEnded (f : Engine) (r : CommandReport) : Type 0 where
  pub answered : AllAnswered f
  pub drained : IsDrained f
  -- The status tells a fault of the region exactly where a core has stopped, or the region was out of its place.
  pub stops : r.status ≡ statuses.RegionFault → r.in_place ≡ true → HasStopped f
  pub goes : is_whole r.status ≡ true → NoneHasStopped f

-- They did, and came to their end.
pub record RanOnThreads (old new : State) (found : ℕ → ℕ) (refused : Bool) (cores : ℕ)
    (input : List ℕ) (begun : List Request) (sink : SinkUse) (r : CommandReport) : Type 0 where
  pub all : WorkedInWindows old new found refused cores input begun sink r
  pub ended : HasEnded all.worked.f r
  -- The text is that of what the workers answered.
  pub begins : TakesPrefix sink.before sink.now (replies_text (map reply_in all.worked.kept))
  pub writes : r.in_place ≡ true → IsAllOut r.status sink
      → Takes sink.before sink.now (replies_text (map reply_in all.worked.kept))

-- The headline, of a run: each core has a worker in a thread of its own, and the replies of each window of requests are
-- written behind it, before the next window is begun.
pub record RunsOnThreads (old new : State) (found : ℕ → ℕ) (source : SourceUse) (refused : Bool)
    (cores : ℕ) (input : List ℕ) (sink : SinkUse) (r : CommandReport) : Type 0 where
  -- The requests that were begun are the first of the input's, and all of them where every reply was written, or memory
  -- lacked in a window: then those that no core was dealt any more count too.
  pub begun : List Request
  pub unbegun : List Request
  pub split : asked_in cores input ≡ begun ++ unbegun
  pub all_begun : r.in_place ≡ true → IsAllOut r.status sink → unbegun ≡ []
  pub cut_begun : r.complete ≡ false → unbegun ≡ []
  pub order : GoesInOrder old new found source cores input sink r
  pub serves : Serves (TakesReplies sink) (TakesFront sink) old new found begun sink r
  -- A call of the region that failed kept it from its end only where that was the split: then it is as it was attached.
  pub unsplit : r.status ≡ statuses.RegionFault → r.complete ≡ false
      → Attached old new new.frame.bytes found × Rose old.frame.refusals new.frame.refusals
  -- Where cores began to work, they did so as is said, also where memory ran out then.
  pub worked : r.began ≡ true → (r.status ≡ statuses.RegionFault → r.complete ≡ true)
      → WorkedInWindows old new found refused cores input begun sink r
  -- A report that says so did come to the end.
  pub run : r.complete ≡ true → RanOnThreads old new found refused cores input begun sink r
