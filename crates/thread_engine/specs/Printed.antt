-- What an outlet over a sink makes of a window's replies.
use Rattle.std.specs.Prelude.{◌≡◌, ◌≢◌, ◌⊎◌, ℕ, ◌*◌, ◌≤◌, List, [], ◌++◌, length, map, Bool, true, false, Option, Some, None}
use Rattle.std.specs.List.{AllByRecursion}
use Rattle.fs_model.specs.declared.model.Reply.{Reply}
use Rattle.fs_model.specs.declared.model.Request.{Request}
use Rattle.pm_region.specs.State.{State, Rose, Faulted}
use Rattle.pm_region.specs.Split.{IsRevalidated, IsNotRevalidated, IsOutOfPlace}
use Rattle.answer_queue.specs.declared.window_sizes.TheConstants.{WINDOW}
use Rattle.thread_engine.specs.Collected.{had_memory}
use Rattle.thread_engine.specs.Outlets.{IsAsked, all_replies, TakesAll}
use Rattle.thread_engine.specs.RanApart.{RanApart, ComesTo}
use Rattle.thread_engine.specs.Between.{HoldsBehind}
use Rattle.fs_text.specs.Output.{replies_text}
use Rattle.fs_text.specs.Streams.{Takes, TakesPrefix}
use Rattle.recover.specs.declared.types.Recovered.{Recovered}
use Rattle.engine_core.specs.Reports.{reply_in}
use Rattle.engine_core.specs.declared.run_outcome.End.TheVariants as ends
use Rattle.thread_engine.specs.declared.run_to_sink.SinkRun.{SinkRun}
use Rattle.thread_engine.specs.declared.text_outlet.Unwritten.{Unwritten}
use Rattle.thread_engine.specs.declared.text_outlet.Unwritten.TheVariants.{Astray, SinkFault, Memory}

-- Why a window's text is not out: the region was not found in its place, and nothing was written; a write or a flush failed behind a front of the text, or there was no memory.
abbrev pub WhyUnwritten : {S : Type 0} → (S → Option (List ℕ)) → (S → ℕ) → State → S → List Reply
    → State → S → Unwritten → Type 0
WhyUnwritten taken count s old replies t new Astray = IsOutOfPlace s t × (new ≡ old)
WhyUnwritten taken count s old replies t new SinkFault = IsRevalidated s t
    × Rose (count old) (count new) × TakesPrefix (taken old) (taken new) (replies_text replies)
WhyUnwritten taken count s old replies t new Memory = IsRevalidated s t
    × TakesPrefix (taken old) (taken new) (replies_text replies)

-- The region was asked whether it is in its place, and where it is the window's text was written and flushed, or a front of it.
pub record WritesWindow {S : Type 0} (taken : S → Option (List ℕ)) (flushed : S → Bool) (count : S → ℕ)
    (s : State) (old : S) (replies : List Reply) (heard : Bool) (t : State) (new : S)
    (cause : Option Unwritten) : Type 0 where
  pub later : count old ≤ count new
  pub all : heard ≡ true → IsRevalidated s t
      × Takes (taken old) (taken new) (replies_text replies) × (flushed new ≡ true)
  pub front : heard ≡ false → (why : Unwritten) × (cause ≡ Some why)
      × WhyUnwritten taken count s old replies t new why

-- A window's text went out, behind a look that found the region in its place.
abbrev pub Prints : State → Option (List ℕ) → List Reply → Bool → State → Option (List ℕ) → Type 0
Prints s before replies heard t now = IsRevalidated s t
    × Takes before now (replies_text replies)

-- The beginning of a window's text went out behind such a look. Or nothing did: the region was not found in its place, or memory had run out, and it was not asked.
abbrev pub PrintsFront : State → Option (List ℕ) → List Reply → State → Option (List ℕ) → Type 0
PrintsFront s before replies t now = (IsRevalidated s t
    × TakesPrefix before now (replies_text replies))
    ⊎ ((IsOutOfPlace s t ⊎ (t ≡ s)) × (now ≡ before))

-- What went out of replies is the text of whole windows, and the beginning of that of one window more.
pub record IsOutInWindows (s t : State) (before now : Option (List ℕ))
    (replies : List Reply) : Type 0 where
  pub windows : List (List Reply)
  pub full : AllByRecursion (λ w. length w ≡ WINDOW) windows
  pub last : List Reply
  pub few : length last ≤ WINDOW
  pub rest : List Reply
  pub split : replies ≡ all_replies windows ++ (last ++ rest)
  pub at : State
  pub mid : Option (List ℕ)
  pub whole : TakesAll Prints windows s before at mid
  pub front : PrintsFront at mid last t now

-- What went out of replies that were handed over window by window: always a beginning of their text, and all of it, flushed, where memory did not run out and every window was taken. Where one was not, there is a cause.
pub record HasPrinted {S : Type 0} (taken : S → Option (List ℕ)) (flushed : S → Bool) (count : S → ℕ)
    (all heard : Bool) (replies : List Reply) (s : State) (old : S) (t : State) (new : S)
    (cause : Option Unwritten) : Type 0 where
  pub later : count old ≤ count new
  pub begins : TakesPrefix (taken old) (taken new) (replies_text replies)
  pub out : IsOutInWindows s t (taken old) (taken new) replies
  pub writes : all ≡ true → heard ≡ true → Takes (taken old) (taken new) (replies_text replies)
      × (flushed new ≡ true)
  pub fails : heard ≡ false → (why : Unwritten) × (cause ≡ Some why)
  pub sunk : heard ≡ false → cause ≡ Some SinkFault → Rose (count old) (count new)
  pub astray : heard ≡ false → cause ≡ Some Astray → (at : State) × IsAsked s at × IsOutOfPlace at t
  pub found : all ≡ true → (heard ≡ false → cause ≢ Some Astray)
      → Rose s.frame.validations t.frame.validations

-- A run whose replies went to a sink, each window's behind its window: it is a run of the first of these requests, of all of them unless a window's text is not out. What went out is the text of whole windows and the beginning of that of one more, so a beginning of the text of their replies, and all of it, flushed, where memory did not run out and nothing failed. A write that failed raised the sink's count of faults, and a place that was lost the region's. Of the sink: what it had taken and has taken, where it tells, whether all of that is flushed, and how many writes had failed and have failed.
pub record RanToSink (before now : Option (List ℕ)) (flushed : Bool) (count count' : ℕ)
    (s : State) (word : ℕ → ℕ) (refused : Bool) (r : Recovered) (asked : List Request) (t : State)
    (x : SinkRun) : Type 0 where
  pub given : List Request
  pub more : List Request
  pub split : asked ≡ given ++ more
  pub whole : x.unwritten ≡ None → more ≡ []
  pub ran : RanApart s word refused r given t x.outcome.end
  pub comes : ComesTo t ran.kept x.outcome
  pub memory : x.outcome.end ≡ ends.Memory → x.unwritten ≡ None
  pub later : count ≤ count'
  pub begins : TakesPrefix before now (replies_text (map reply_in ran.kept))
  -- between the split, before which nobody asked the region whether it is in its place, and the join
  pub parted : State
  pub behind : State
  pub unasked : IsNotRevalidated s parted
  pub asked_since : IsNotRevalidated behind t
  pub out : IsOutInWindows parted behind before now (map reply_in ran.kept)
  -- Behind each window whose text is out every core rested, and a crash from there on leaves all of its changes; so behind the last one, where it was to go out.
  pub between : (i : ℕ) → i ≤ length out.windows
      → HoldsBehind ran.origin r refused ran.last ran.ran.cores (i * WINDOW)
  pub ended : had_memory x.outcome.end ≡ true
      → HoldsBehind ran.origin r refused ran.last ran.ran.cores (length given)
  pub writes : had_memory x.outcome.end ≡ true → x.unwritten ≡ None
      → Takes before now (replies_text (map reply_in ran.kept)) × (flushed ≡ true)
  pub sunk : x.unwritten ≡ Some SinkFault → Rose count count'
  -- it was found in its place, or was not
  pub found : had_memory x.outcome.end ≡ true → x.unwritten ≢ Some Astray
      → Rose s.frame.validations t.frame.validations
  pub astray : x.unwritten ≡ Some Astray → Faulted s t
