-- What a run on threads comes to.
use Rattle.std.specs.Prelude.{◌≡◌, ◌≢◌, ℕ, ◌*◌, ◌<◌, ◌≤◌, List, [], ◌++◌, length, map, slice_index_or, Bool, true, false, Option, Some, IsPermutation}
use Rattle.fs_model.specs.declared.model.Request.{Request}
use Rattle.fs_model.specs.declared.model.Reply.{Reply}
use Rattle.pm_region.specs.State.{State, IsTelling, cell_now, counted, Rose}
use Rattle.pm_region.specs.Split.{TellsFrom, IsNotRevalidated}
use Rattle.store_image.specs.Facts.{In}
use Rattle.recover.specs.declared.types.Recovered.{Recovered}
use Rattle.engine_laws.specs.Engine.{Engine}
use Rattle.engine_laws.specs.Origins.{Origin}
use Rattle.engine_laws.specs.Parts.{HasSuperblock, AllLicensed}
use Rattle.engine_laws.specs.Promises.{HasStopped, Promised, IsDone}
use Rattle.engine_laws.specs.Ceasing.{HasCeased}
use Rattle.core_worker.specs.declared.types.Answer.{Answer}
use Rattle.answer_queue.specs.Accounts.{numbers, AreDistinct}
use Rattle.answer_queue.specs.declared.window_sizes.TheConstants.{WINDOW}
use Rattle.answer_cores.specs.Passes.{all_answers}
use Rattle.engine_core.specs.declared.types.Stamped.{Stamped}
use Rattle.engine_core.specs.declared.run_outcome.End.{End}
use Rattle.engine_core.specs.declared.run_outcome.End.TheVariants as ends
use Rattle.engine_core.specs.Answers.{kept_at, stored}
use Rattle.engine_core.specs.RunStarts.{BeginsAt}
use Rattle.engine_core.specs.Reports.{reply_in, listed_of, ReportsOn}
use Rattle.thread_engine.specs.CoreRuns.{CoreRun, AllRan, gave_at}
use Rattle.thread_engine.specs.Cuts.{HoldsInside}
use Rattle.thread_engine.specs.Between.{HoldsBehind}
use Rattle.thread_engine.specs.declared.run_apart.RunOutcome.{RunOutcome}
use Rattle.thread_engine.specs.declared.run_apart.HandedRun.{HandedRun}
use Rattle.thread_engine.specs.Collected.{AreBlank, had_memory, restamped}
use Rattle.thread_engine.specs.Noted.{IsNoted}
use Rattle.thread_engine.specs.Outlets.{IsAsked, HandsOut}

-- A region was split and joined, and between that only its pieces were used.
pub record Rejoined (old new : State) : Type 0 where
  pub first : new.frame.first ≡ old.frame.first
  pub words : new.frame.words ≡ old.frame.words
  pub bytes : new.frame.bytes ≡ old.frame.bytes
  pub parted : new.frame.parted ≡ old.frame.parted
  pub opens : new.frame.opens ≡ old.frame.opens
  pub refusals : new.frame.refusals ≡ old.frame.refusals
  pub faults : old.faults ≤ new.faults
  pub later : old.stamp ≤ new.stamp
  pub rose : Rose old.stamp new.stamp
  -- it tells one moment, the last
  pub since : new.frame.since ≡ new.stamp
  pub tells : IsTelling new → IsTelling old

-- what is kept of a worker's answer
abbrev pub stamped : ℕ → Answer → Stamped
stamped t a = record { reply = a.reply; refusal = a.refusal; stamp = t }

-- What is kept by number are the answers that the cores' workers gave, each with the region's last stamp.
pub record KeepsAnswers (o : Origin) (r : Recovered) (refused : Bool) (e : Engine)
    (cores : (c : ℕ) → c < e.layout.cores → CoreRun o r refused e c)
    (kept : List (Option Stamped)) : Type 0 where
  pub count : length kept ≡ length e.given
  pub all : (c : ℕ) (low : c < e.layout.cores) (a : Answer)
      → In a (gave_at (cores c low))
      → kept_at kept a.number ≡ Some (stamped e.region.stamp a)
  pub only : (n : ℕ) (y : Stamped) → kept_at kept n ≡ Some y → (c : ℕ) × (low : c < e.layout.cores)
      × (a : Answer) × In a (gave_at (cores c low)) × (a.number ≡ n)

-- The answers that the workers gave were put into their windows' queues and taken out, each once and no other, and are kept by number with the region's last stamp. No two have the same number.
pub record TakesOnce (o : Origin) (r : Recovered) (refused : Bool) (e : Engine)
    (cores : (c : ℕ) → c < e.layout.cores → CoreRun o r refused e c)
    (kept : List (Option Stamped)) : Type 0 where
  pub put : List (List Answer)
  pub few : length put ≤ e.layout.cores
  pub gave : (c : ℕ) (low : c < e.layout.cores) → gave_at (cores c low) ≡ slice_index_or put c []
  pub taken : List Answer
  pub all : IsPermutation (all_answers put) taken
  pub distinct : AreDistinct (numbers taken)
  pub blanks : List (Option Stamped)
  pub blank : AreBlank blanks
  pub stored_are : kept ≡ stored taken e.region.stamp blanks

-- A run of requests on a region, one worker for each core and each in a thread of its own, led from the region's state and words to its state t, and this is how it ended. `refused` says whether the gate may hold posts back.
pub record RanApart (s : State) (word : ℕ → ℕ) (refused : Bool) (r : Recovered) (asked : List Request)
    (t : State) (end : End) : Type 0 where
  pub origin : Origin
  pub last : Engine
  pub begins : BeginsAt s word origin
  pub rejoined : Rejoined s t
  -- all of them were given, each to its key's owner, and each core made its moves
  pub region : last.region ≡ t
  pub given : last.given ≡ asked
  pub ran : AllRan origin r refused last
  -- where each piece told to its end, the region goes on telling by the stamp after the latest of theirs
  pub next : IsTelling s → ((c : ℕ) (low : c < last.layout.cores)
      → TellsFrom s (ran.cores c low).last.region)
      → (latest : ℕ) → s.stamp ≤ latest → ((c : ℕ) (low : c < last.layout.cores)
      → (ran.cores c low).last.region.stamp ≤ latest) → t.stamp ≤ counted latest
  -- inside the run, at each cut, a crash recovers what was finished before it
  pub inside : HoldsInside origin r refused last ran.cores
  -- each image of a part is licensed by its core's view
  pub licensed : IsTelling t → AllLicensed last.layout last.group (cell_now t)
  pub superblock : IsTelling t → HasSuperblock origin.found (cell_now t)
  -- the answers by number, which nobody holds in the end
  pub kept : List (Option Stamped)
  pub keeps : KeepsAnswers origin r refused last ran.cores kept
  pub once : TakesOnce origin r refused last ran.cores kept
  pub reports : ReportsOn t origin last (listed_of kept)
  -- whatever the end, the promises hold; the region tells its last moment alone
  pub promised : Promised origin last
  -- With memory everything is answered and nothing is under way. Without it what was posted or taken is finished.
  pub done : end ≢ ends.Memory → IsDone origin last
  pub ceased : end ≡ ends.Memory → HasCeased last
  -- without it every worker winds down, and with it none does
  pub wound : end ≡ ends.Memory → (c : ℕ) (low : c < last.layout.cores)
      → (ran.cores c low).last.worker.winds_down ≡ true
  pub works : end ≢ ends.Memory → (c : ℕ) (low : c < last.layout.cores)
      → (ran.cores c low).last.worker.winds_down ≡ false
  pub fault : end ≡ ends.RegionFault → HasStopped last
  pub complete : end ≡ ends.Complete → (c : ℕ) → c < last.layout.cores → last.stopped c ≡ false

-- What a run came to whose answers were these, by number: its notes are of them, and all have the region's last stamp.
pub record ComesTo (t : State) (kept : List (Option Stamped)) (x : RunOutcome) : Type 0 where
  pub noted : IsNoted kept x.notes
  pub stamp : x.stamp ≡ t.stamp
  pub alike : restamped t.stamp kept ≡ kept

-- A run whose replies were handed to an outlet, each window's behind its window: it is a run of the first of these requests, of all of them unless the outlet did not take a window's replies. Then it is one of the requests up to that window's end, and nothing was begun behind it. Between the split and the join the region said what it said at the split, but for its counts, and neither of the two asked it whether it is in its place.
pub record RanInWindows {T : Type 0} (takes : State → T → List Reply → Bool → State → T → Type 0)
    (s : State) (word : ℕ → ℕ) (refused : Bool) (r : Recovered) (asked : List Request) (t : State)
    (x : HandedRun) (old new : T) : Type 0 where
  pub given : List Request
  pub more : List Request
  pub split : asked ≡ given ++ more
  pub whole : x.heard ≡ true → more ≡ []
  pub ran : RanApart s word refused r given t x.outcome.end
  pub comes : ComesTo t ran.kept x.outcome
  pub before : State
  pub behind : State
  pub parted : s.faults ≤ before.faults
  pub looks : IsAsked before behind
  pub joined : behind.faults ≤ t.faults
  pub unasked : IsNotRevalidated s before
  pub asked_since : IsNotRevalidated behind t
  pub hands : HandsOut takes (had_memory x.outcome.end) x.heard (map reply_in ran.kept)
      before old behind new
  -- Behind each window that was handed over every core rested, and a crash from there on leaves all of its changes; so behind the last one, where it was.
  pub between : (i : ℕ) → i ≤ length hands.windows
      → HoldsBehind ran.origin r refused ran.last ran.ran.cores (i * WINDOW)
  pub ended : had_memory x.outcome.end ≡ true
      → HoldsBehind ran.origin r refused ran.last ran.ran.cores (length given)
