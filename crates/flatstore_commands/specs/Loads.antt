-- What a call with the words of `load` promises.
use Rattle.std.specs.Prelude.{◌≡◌, ◌⊎◌, ℕ, List, map, Bool, true, false, Some}
use Rattle.fs_model.specs.declared.model.Pair.{Pair}
use Rattle.fs_model.specs.declared.model.Reply.{Reply}
use Rattle.fs_model.specs.declared.model.Request.{Request}
use Rattle.pm_region.specs.State.{State, IsTold, IsTelling, Faulted, Rose}
use Rattle.pm_region.specs.Split.{Attached}
use Rattle.store_image.specs.declared.types.Fault.{Fault}
use Rattle.store_image.specs.Listing.{ListsCells}
use Rattle.store_image.specs.Soundness.{first_fault}
use Rattle.fs_text.specs.Output.{tally_text}
use Rattle.fs_text.specs.Streams.{Takes, TakesPrefix}
use Rattle.headline.specs.Headline.{cells_of}
use Rattle.load_requests.specs.Generated.{requests_of_load}
use Rattle.load_tally.specs.Tallied.{tally_of}
use Rattle.engine_core.specs.Reports.{reply_in}
use Rattle.flatstore_commands.specs.Attaching.{Asks, AsksBehind, AttachesBy, MayRejoin}
use Rattle.flatstore_commands.specs.Ends.{SinkUse, IsAllOut}
use Rattle.flatstore_commands.specs.Ordering.{IsServed, is_of_region, is_of_run, is_whole}
use Rattle.flatstore_commands.specs.Promise.{Serves}
use Rattle.flatstore_commands.specs.Shows.{status_by}
use Rattle.flatstore_commands.specs.Statuses.{fault_status}
use Rattle.flatstore_commands.specs.ThreadRuns.{CoresRan, HasEnded}
use Rattle.flatstore_commands.specs.declared.report.Status.TheVariants as statuses
use Rattle.flatstore_commands.specs.declared.report.CommandReport.{CommandReport}

-- a text of the tally of replies, and of the live pairs of the cells that these words recover
abbrev pub IsTallyText : (ℕ → ℕ) → List Reply → List ℕ → Type 0
IsTallyText word replies text =
    (pairs : List Pair) × ListsCells (cells_of word) pairs
    × (text ≡ tally_text (tally_of replies pairs))

-- The sink took such a text, or nothing or the beginning of one.
abbrev pub TakesTally : (ℕ → ℕ) → SinkUse → List Reply → Type 0
TakesTally word sink replies =
    (text : List ℕ) × IsTallyText word replies text × Takes sink.before sink.now text

abbrev pub TakesTallyFront : (ℕ → ℕ) → SinkUse → List Reply → Type 0
TakesTallyFront word sink replies =
    (sink.now ≡ sink.before)
    ⊎ ((text : List ℕ) × IsTallyText word replies text × TakesPrefix sink.before sink.now text)

-- a load splits the region and joins it again, or leaves it as it was, and asks it behind the run
abbrev pub AttachesToLoad : State → State → (ℕ → ℕ) → CommandReport → Type 0
AttachesToLoad old new found r = AttachesBy (AsksBehind MayRejoin r) old new found r

-- the status that the words found decide, want of memory, or a fault that was counted
abbrev pub IsDueOfLoad : State → State → (ℕ → ℕ) → SinkUse → CommandReport → Type 0
IsDueOfLoad old new found sink r =
    (r.status ≡ status_by (first_fault new.frame.bytes found))
    ⊎ ((r.status ≡ statuses.Memory)
    ⊎ (((r.status ≡ statuses.SinkFault) × Rose sink.faults sink.faults')
    ⊎ ((r.status ≡ statuses.RegionFault) × Faulted old new)))

-- What an end says of the work before it. There is no input: the region's rules go before the run, and the run before the
-- writing.
pub record LoadsInOrder (old new : State) (found word : ℕ → ℕ) (sink : SinkUse)
    (r : CommandReport) : Type 0 where
  pub untouched : r.began ≡ false → Attached old new new.frame.bytes found
  pub began : r.began ≡ true → IsServed new found
  pub run : is_of_run r.status ≡ true → r.began ≡ true
  pub written : r.complete ≡ true → r.began ≡ true
  pub whole : is_whole r.status ≡ true → r.complete ≡ true
  pub due : IsTelling new → IsDueOfLoad old new found sink r
  -- Where the words that are read behind the run break a rule, so that no live pairs can be counted, the status says which.
  -- It does not come where the region tells.
  pub broken : r.began ≡ true → is_of_region r.status ≡ true
      → (fault : Fault) × (r.status ≡ fault_status fault)
      × (first_fault new.frame.bytes word ≡ Some fault) × (IsTelling new → ⊥)

-- They did, and there was memory for all of it: what was written is the tally of the replies that the cores' workers gave,
-- with the live pairs of the words that the region reads then.
pub record LoadedOnThreads (old left : State) (found word : ℕ → ℕ) (refused : Bool) (cores : ℕ)
    (made : List Request) (sink : SinkUse) (r : CommandReport) : Type 0 where
  pub all : CoresRan old left found refused cores made r
  pub ended : HasEnded all.f r
  pub begins : TakesTallyFront word sink (map reply_in all.kept)
  pub writes : r.in_place ≡ true → IsAllOut r.status sink
      → TakesTally word sink (map reply_in all.kept)

-- The headline, of a load: the requests are made, each core has a worker in a thread of its own, and behind the run their
-- replies' tally is written, with the live pairs of the region as it is then.
pub record LoadsOnThreads (old new : State) (found word : ℕ → ℕ) (refused : Bool)
    (start count : ℕ) (sink : SinkUse) (r : CommandReport) : Type 0 where
  -- Of the region: its cores by the words read, which are those found, where it tells.
  pub cores : ℕ
  pub cores_are : (t : ℕ) → IsTold new t → cores ≡ found 2
  pub order : LoadsInOrder old new found word sink r
  pub serves : Serves (TakesTally word sink) (TakesTallyFront word sink) old new found
      (requests_of_load start count) sink r
  -- Nothing was written where the region was out of its place behind the run, or the run did not come to its end.
  pub kept_back : r.in_place ≡ false → sink.now ≡ sink.before
  -- A call of the region that failed kept it from its end only where that was the split: then it is as it was attached.
  pub unsplit : r.status ≡ statuses.RegionFault → r.complete ≡ false
      → Attached old new new.frame.bytes found × Rose old.frame.refusals new.frame.refusals
  -- as it was behind the join
  pub left : State
  pub asks : Asks r.complete r.in_place left new
  -- Where cores began to work, they did so as is said, also where memory ran out then.
  pub worked : r.began ≡ true → (r.status ≡ statuses.RegionFault → r.complete ≡ true)
      → CoresRan old left found refused cores (requests_of_load start count) r
  -- A report that says so did come to the end.
  pub run : r.complete ≡ true
      → LoadedOnThreads old left found word refused cores (requests_of_load start count) sink r
