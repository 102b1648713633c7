-- What a call of the program promises, over the region, the source and the sink before and after it.
use Rattle.std.specs.Prelude.{◌≡◌, ◌⊎◌, ℕ, ◌+◌, ◌≤◌, List, [], take, true, false, Option, Some, None}
use Rattle.std.specs.List.{AllByRecursion, slice_get}
use Rattle.fs_model.specs.declared.model.Request.{Request}
use Rattle.fs_model.specs.declared.model.Reply.{Reply}
use Rattle.fs_model.specs.declared.model.Reply.TheVariants.{Full}
use Rattle.pm_region.specs.State.{State, IsTold, IsTelling, Faulted, Rose}
use Rattle.fs_text.specs.Input.{trace_of}
use Rattle.fs_text.specs.Output.{replies_text}
use Rattle.fs_text.specs.Streams.{Takes, TakesPrefix}
use Rattle.headline.specs.Headline.{Answers, Told, cells_of, finished_in, refused_in, RecoversThroughout, RecoversAll}
use Rattle.headline.specs.Ample.{IsAmpleFor}
use Rattle.headline.specs.Limits.{IsAsked, version_of, changes_asked, is_too_long, IsWithinLimits}
use Rattle.chunk_map.specs.Layouts.{layout_of, owner}
use Rattle.log_entry.specs.declared.entry_limits.TheConstants.{LAST_PUT_VERSION}
use Rattle.store_image.specs.Soundness.{IsSound}
use Rattle.core_room.specs.declared.types.Shortage.TheVariants.{Versions, Length}
use Rattle.engine_core.specs.Answers.{reply_to}
use Rattle.engine_core.specs.Reports.{ShowsWhy}
use Rattle.flatstore_commands.specs.Ends.{SourceUse, SinkUse}
use Rattle.flatstore_commands.specs.LastStates.{told_in, AreRising, RanTo, BreaksOff, WindsDown}
use Rattle.flatstore_commands.specs.Ordering.{GoesInOrder, is_whole}
use Rattle.flatstore_commands.specs.declared.report.Status.TheVariants as statuses
use Rattle.flatstore_commands.specs.declared.report.CommandReport.{CommandReport}

-- a source that tells what comes gives this input; one that doesn't may give any
abbrev pub IsInput : Option (List ℕ) → List ℕ → Type 0
IsInput None input = Unit {0}
IsInput (Some coming) input = coming ≡ input

-- the requests of an input to a region of so many cores, none where it breaks a rule
abbrev pub asked_in : ℕ → List ℕ → List Request
asked_in cores input = trace_of cores input

-- The sink took the whole text of these replies, or the beginning of it.
abbrev pub TakesReplies : SinkUse → List Reply → Type 0
TakesReplies sink replies = Takes sink.before sink.now (replies_text replies)

abbrev pub TakesFront : SinkUse → List Reply → Type 0
TakesFront sink replies = TakesPrefix sink.before sink.now (replies_text replies)

-- This is so of replies that fit the report. They are lawful where the cells are known. One is `stopped` only for a cause.
abbrev pub Says : (List Reply → Type 0) → Type 0 → (ℕ → Option (List ℕ)) → List Request → Told
    → Type 0 → Type 0
Says IsOut Known start trace r MayStop =
    (replies : List Reply) × Answers Known start trace r MayStop replies × IsOut replies

-- The headline, of a run of these requests on a region that was attached with these words, whoever makes the moves of its
-- cores. `All` is so of replies whose whole text the sink took, and `Front` of those of which it took the beginning.
pub record Serves (All Front : List Reply → Type 0) (old new : State) (found : ℕ → ℕ)
    (begun : List Request) (sink : SinkUse) (r : CommandReport) : Type 0 where
  -- Of a run that came to its end the region was asked whether it is in its place. Where it was not, that is a fault of
  -- the region.
  pub asked : r.in_place ≡ true → r.complete ≡ true
  pub astray : r.complete ≡ true → r.in_place ≡ false → r.status ≡ statuses.RegionFault
  -- At the end the whole text was written and flushed, without a `stopped`; also where a call of the region failed, and no write did.
  pub done : r.status ≡ statuses.Done
      → Says All (IsTelling new) (cells_of found) begun (told_in r) ⊥ × (sink.flushed ≡ true)
  pub failed : r.status ≡ statuses.RegionFault → r.in_place ≡ true
      → (Rose sink.faults sink.faults' → ⊥)
      → Says All (IsTelling new) (cells_of found) begun (told_in r) (Faulted old new)
      × (sink.flushed ≡ true)
  -- Where a write failed and no call of the region did, the beginning of such a text, without a `stopped`.
  pub sunk : r.status ≡ statuses.SinkFault
      → Says Front (IsTelling new) (cells_of found) begun (told_in r) ⊥
  -- Always the beginning of such a text, where a request is `stopped` only if a call of the region failed, or the run did not come to its end.
  pub begins : Says Front (IsTelling new) (cells_of found) begun (told_in r)
      (r.complete ≡ true → Faulted old new)
  -- Whatever a crash leaves at any told moment since the attach is sound, and recovers for each key its finished changes, or one more.
  pub crash : IsSound new.frame.bytes found → RecoversThroughout new (cells_of found)
      begun (told_in r)
  -- At the end it recovers all, also where a write failed.
  pub last : is_whole r.status ≡ true → RecoversAll new (cells_of found) begun
      (told_in r)
  -- Finishes and refusals stand in the order of the requests.
  pub rising : AreRising (finished_in (told_in r)) × AreRising (refused_in (told_in r))
  -- A change is refused for want of room only where the input is not ample for the part of its key's owner,
  -- a put for its version only where its key has so many versions, or the requests before it may use them up, and nothing is refused within all limits.
  pub full : IsTelling new → AllByRecursion (λ x. reply_to x.why ≡ Full → (k : ℕ)
      → IsAsked begun x.request k
      → IsAmpleFor (layout_of found) found begun (owner (layout_of found) k)
      → ⊥) r.refusals.items
  pub spent : IsTelling new → AllByRecursion (λ x. (last : ℕ) → x.why ≡ Versions last → (k : ℕ)
      → IsAsked begun x.request k
      → LAST_PUT_VERSION ≤ version_of found k + changes_asked k
      (take x.request begun)) r.refusals.items
  pub unrefused : IsTelling new → IsWithinLimits found begun
      → r.refusals.items ≡ []
  -- A request is refused for its length only where it is too long, as a put alone can be.
  pub long : IsTelling new → AllByRecursion (λ x. (bytes : ℕ) → x.why ≡ Length bytes
      → (q : Request) → slice_get begun x.request ≡ Some q
      → is_too_long (layout_of found) q ≡ true) r.refusals.items
  -- At every end and whatever the region tells, the numbers of a refusal show its cause: no place for its lines, no free block
  -- and no chunk to cut, no put behind the version that is told, the bytes of its value.
  pub counts : AllByRecursion (ShowsWhy begun) r.refusals.items
  -- Where there was no memory for all of a run that began, every worker wound down.
  pub short : r.status ≡ statuses.Memory → r.began ≡ true → r.complete ≡ false
      → WindsDown new r

-- The headline, of a replay: one thread makes the moves of all cores, by the lines of the input.
pub record Replays (old new : State) (found : ℕ → ℕ) (source : SourceUse) (cores : ℕ)
    (input : List ℕ) (sink : SinkUse) (r : CommandReport) : Type 0 where
  pub order : GoesInOrder old new found source cores input sink r
  -- All requests of the input were begun.
  pub serves : Serves (TakesReplies sink) (TakesFront sink) old new found
      (asked_in cores input) sink r
  -- Nothing was written where the region was out of its place behind the run.
  pub kept_back : r.complete ≡ true → r.in_place ≡ false → sink.now ≡ sink.before
  -- Where a call of the region failed, it came to its end all the same.
  pub ends : r.status ≡ statuses.RegionFault → r.complete ≡ true
  -- A report that says so did come to the end: then its answers and finishes are those of the last state of a run of the engine over the input's lines.
  pub run : r.complete ≡ true → RanTo old new found cores input sink r
  -- Where it began and didn't come to its end, for want of memory, the report is on the state in which it broke off.
  pub broke : r.began ≡ true → r.complete ≡ false → BreaksOff old new found cores input r
