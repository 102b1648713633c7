-- From what the cores did in a load, or why none ran, to what the program promises.
use Rattle.std.proofs.Common.{◌≡◌, ◌≢◌, ◌⊎◌, inl, inr, ℕ, ◌≤◌, List, [], ◌∷◌, ◌++◌, map, refl, sym, ◌∙◌, ap, subst, arith, true, false, Bool, Option, Some, None, Result, Ok, Err, append-nil}
use Rattle.std.specs.Prelude.{IfErr}
use Rattle.std.specs.Result.{IsErrAnd}
use Rattle.fs_model.specs.declared.model.Pair.{Pair}
use Rattle.fs_model.specs.declared.model.Reply.{Reply}
use Rattle.fs_model.specs.declared.model.Request.{Request}
use Rattle.pm_region.specs.Cell.{MayBe, HasValue}
use Rattle.pm_region.specs.State.{State, InRange, IsTold, IsTelling, MayLeave, Faulted, Rose, cell_now}
use Rattle.pm_region.specs.Split.{Attached, Stays, Refuses, IsOpenedOnceMore, IsNotOpened}
use Rattle.pm_region.specs.declared.split.AttachError.{AttachError}
use Rattle.pm_region.specs.declared.split.AttachError.TheVariants as attach
use Rattle.pm_region.specs.Words.{lasts}
use Rattle.fs_text.specs.declared.line.LoadTally.{LoadTally}
use Rattle.fs_text.specs.Streams.{Takes, TakesPrefix}
use Rattle.fs_text.specs.Output.{tally_text}
use Rattle.store_image.specs.declared.types.Fault.{Fault}
use Rattle.store_image.specs.declared.types.Fault.TheVariants as faults
use Rattle.store_image.specs.Listing.{ListsCells}
use Rattle.store_image.specs.Soundness.{IsSound, first_fault}
use Rattle.headline.specs.Headline.{cells_of}
use Rattle.recover.specs.declared.types.Recovered.{Recovered}
use Rattle.engine_laws.specs.Engine.{Engine}
use Rattle.engine_laws.specs.Stands.{Origin}
use Rattle.engine_core.specs.declared.run_outcome.End.{End}
use Rattle.engine_core.specs.declared.run_outcome.End.TheVariants as ends
use Rattle.engine_core.specs.RunStarts.{StandsAsFound}
use Rattle.engine_core.specs.Reports.{Listed, reply_in, listed_of, finishes_in, refusals_in, told_by}
use Rattle.load_requests.specs.Generated.{requests_of_load}
use Rattle.load_run.specs.declared.load.LoadRun.{LoadRun}
use Rattle.load_tally.specs.Tallied.{tally_of}
use Rattle.flatstore_commands.specs.Finished.{finishes_of, finishes_from}
use Rattle.flatstore_commands.specs.Attaching.{Asks, AttachesBy, AsksBehind, MayRejoin}
use Rattle.flatstore_commands.specs.Ends.{SourceUse, SinkUse, IsAllOut, CountsFaults}
use Rattle.flatstore_commands.specs.LastStates.{told_in}
use Rattle.flatstore_commands.specs.Loads.{AttachesToLoad, IsDueOfLoad, IsTallyText, LoadsInOrder, LoadedOnThreads, LoadsOnThreads, TakesTally, TakesTallyFront}
use Rattle.flatstore_commands.specs.LoadPlays.{Loaded, IsNotLoaded, WhyNotLoaded, HasShownTally, HasTallied}
use Rattle.flatstore_commands.specs.Ordering.{IsServed, is_of_region, is_of_run, is_quiet, is_whole}
use Rattle.flatstore_commands.specs.Played.{HasWritten, EndsAs, IsUnserved, is_ended}
use Rattle.flatstore_commands.specs.Promise.{Serves}
use Rattle.flatstore_commands.specs.Shows.{IsUnlisted, status_by}
use Rattle.flatstore_commands.specs.Statuses.{fault_status}
use Rattle.flatstore_commands.specs.ThreadPlays.{why_of, status_for, has_begun}
use Rattle.flatstore_commands.specs.ThreadRuns.{CoresRan}
use Rattle.flatstore_commands.specs.declared.report.Status.{Status}
use Rattle.flatstore_commands.specs.declared.report.Status.TheVariants as statuses
use Rattle.flatstore_commands.specs.declared.report.CommandReport.{CommandReport}
use Rattle.flatstore_commands.specs.declared.run_threads.NotRun.{NotRun}
use Rattle.flatstore_commands.specs.declared.run_threads.NotRun.TheVariants.{Refused, Unsplit}
use Rattle.flatstore_commands.proofs.ThreadRunning.{memory_of}
use Rattle.flatstore_commands.proofs.FinishesNoted.{finishes_noted}
use Rattle.flatstore_commands.proofs.Apart as apart
use Rattle.flatstore_commands.proofs.Attached.{found_fault}
use Rattle.flatstore_commands.proofs.Refused.{served_by, none_serves}
use Rattle.flatstore_commands.proofs.Serving as serving
use Rattle.flatstore_commands.proofs.Standing.{counted_by}
use Rattle.flatstore_commands.proofs.Staying.{told_still, tells_still, attached_still, asks_stays, asks_later, asks_none, asks_rose}
use Rattle.flatstore_commands.proofs.Texts.{both}
use Rattle.flatstore_commands.proofs.Written.{all_written, whole_end, fault_end, answered_loud}

-- a load reads isnt input
none : SourceUse
none = record { coming = None; left = None; faults = 0; faults' = 0 }

-- a status that a broken rule of the region decides
broken_quiet : (status : Status) → is_of_region status ≡ true → is_quiet status ≡ true
broken_quiet statuses.Done is = cc is
broken_quiet statuses.Usage is = cc is
broken_quiet (statuses.BadInput line rule) is = refl
broken_quiet statuses.SourceFault is = refl
broken_quiet statuses.SinkFault is = cc is
broken_quiet statuses.RegionFault is = cc is
broken_quiet (statuses.Damaged part chunk rule) is = refl
broken_quiet (statuses.NotARegion rule) is = refl
broken_quiet statuses.Memory is = cc is

-- is none of a run
fault_apart : (fault : Fault) (other : Status) → is_of_region other ≡ false → fault_status fault ≡ other → ⊥
fault_apart (faults.NotARegion rule) other isnt is = both (is_of_region other) (sym (ap is_of_region is)) isnt
fault_apart (faults.Damaged part chunk rule) other isnt is = both (is_of_region other) (sym (ap is_of_region is)) isnt

fault_no_run : (fault : Fault) → (is_of_run (fault_status fault) ≡ false) × (is_whole (fault_status fault) ≡ false)
fault_no_run (faults.NotARegion rule) = (refl, refl)
fault_no_run (faults.Damaged part chunk rule) = (refl, refl)

written_more : {A B C D : Type 0} (end : End) (sink : SinkUse) (status : Status) → (A → C) → (B → D) → HasWritten A B end sink status → HasWritten C D end sink status
written_more end sink status whole front (inl w) = inl (w.0, w.1, whole w.2, w.3)
written_more end sink status whole front (inr (inl w)) = inr (inl (w.0, w.1, elim w.2 [ inl all ↦ inl (whole all.0, all.1) | inr some ↦ inr (some.0, front some.1) ]))
written_more end sink status whole front (inr (inr (inl w))) = inr (inr (inl (w.0, w.1, w.2, front w.3)))
written_more end sink status whole front (inr (inr (inr w))) = inr (inr (inr (w.0, w.1, front w.2)))

-- what was written of a tally is what was written of that of these replies and pairs
pub tally_shown : (bytes : ℕ) (word : ℕ → ℕ) (replies : List Reply) (tally : LoadTally) (pairs : List Pair) (end : End) (sink : SinkUse) (status : Status) → ListsCells (cells_of word) pairs → tally ≡ tally_of replies pairs
    → HasWritten (Takes sink.before sink.now (tally_text tally)) (TakesPrefix sink.before sink.now (tally_text tally)) end sink status → HasShownTally bytes word replies end sink status
tally_shown bytes word replies tally pairs end sink status lists is w = inl (written_more end sink status (λ took. (tally_text tally, text, took)) (λ took. inr (tally_text tally, text, took)) w) where
  text : IsTallyText word replies (tally_text tally)
  text = (pairs, lists, ap tally_text is)

-- and nothing was where isnt pairs were found
pub none_shown : (bytes : ℕ) (word : ℕ → ℕ) (replies : List Reply) (end : End) (sink : SinkUse) (status : Status) → sink.now ≡ sink.before → is_ended end ≡ true → IsUnlisted bytes word status → HasShownTally bytes word replies end sink status
none_shown bytes word replies end sink status same ended (inl memory) = inl (inr (inr (inr (memory, ended, inl same))))
none_shown bytes word replies end sink status same ended (inr u) = inr (same, u.0, u.1, u.2)

-- a split that was refused, or for which there was isnt memory
module _ (s t : State) (word : ℕ → ℕ) (S : Stays s t) {X : Type 0} (r : Result X AttachError) (R : Refuses s t r) (recovered : Recovered) (stands : StandsAsFound s word recovered) where
  why_split : (error : AttachError) → r ≡ Err error → WhyNotLoaded s word t (why_of error)
  why_split attach.RegionFault is = let rose = R.fault is in (recovered, stands, rose.0, rose.1)
  why_split attach.Memory is = inr refl

  pub split_refused : (error : AttachError) → r ≡ Err error → {T : Type 0} (x : Result T NotRun) → IsErrAnd x (λ e. e ≡ why_of error) → IfErr x (IsNotLoaded s word t)
  split_refused error is (Ok x) e = tt
  split_refused error is (Err x) e = subst (IsNotLoaded s word t) (sym e) (record { stays = S; later = R.later; cause = why_split error is })

-- what was done to a region that was attached
pub loads_then : (old s t : State) (found : ℕ → ℕ) → Attached old s s.frame.bytes found → IsOpenedOnceMore old s → s.frame.refusals ≡ old.frame.refusals → t.frame.bytes ≡ s.frame.bytes
    → (r : CommandReport) → r.attached ≡ true → AsksBehind MayRejoin r s t → AttachesToLoad old t found r
loads_then old s t found A once granted bytes r opened done = record {
  attached = λ attached. record {
    at = s;
    attached = subst (λ n. Attached old s n found) (sym bytes) A;
    once = once;
    granted = granted;
    on = done;
  };
  unattached = λ isnt. both r.attached opened isnt;
  cause = λ isnt. both r.attached opened isnt;
}

-- nothing was asked of a region that was left as it was
pub not_asked_behind : (s t : State) → Stays s t → IsNotOpened s t → (r : CommandReport) → r.complete ≡ false → AsksBehind MayRejoin r s t
not_asked_behind s t S opens r cut = record { left = t; done = inr (S, opens); asks = subst (λ b. Asks b r.in_place t t) (sym cut) refl }

-- No core ran.
module _ (old s t : State) (found word : ℕ → ℕ) (A : Attached old s s.frame.bytes found) (tells : (w : ℕ) → IsTelling s → lasts s w ≡ word w) (low : old.faults ≤ s.faults) (granted : s.frame.refusals ≡ old.frame.refusals) (why : NotRun)
    (N : IsNotLoaded s word t why) where
  -- the region says what it said when it was attached
  pub still_attached : Attached old t t.frame.bytes found
  still_attached = attached_still s t N.stays old found A

  -- the status is one of the region's rules, or want of memory
  early_apart : (status : Status) → WhyNotLoaded s word t (Refused status) → (other : Status) → is_of_region other ≡ false → other ≢ statuses.Memory → status ≡ other → ⊥
  early_apart status (inl (same, inl u)) other isnt unlike is = fault_apart u.0 other isnt (sym u.1 ∙ is)
  early_apart status (inl (same, inr m)) other isnt unlike is = unlike (sym is ∙ m)
  early_apart status (inr m) other isnt unlike is = unlike (sym is ∙ m)

  apart_by : (y : NotRun) → WhyNotLoaded s word t y → (other : Status) → is_of_region other ≡ false → other ≢ statuses.Memory → other ≢ statuses.RegionFault → status_for y ≡ other → ⊥
  apart_by (Refused status) h other isnt unlike failed is = early_apart status h other isnt unlike is
  apart_by Unsplit h other isnt unlike failed is = failed (sym is)

  fault_by : (y : NotRun) → WhyNotLoaded s word t y → status_for y ≡ statuses.RegionFault → Rose old.faults t.faults
  fault_by (Refused status) h is = absurd (early_apart status h statuses.RegionFault refl (λ q. cc q) is)
  fault_by Unsplit h is = let fault = h.2 in omega (arith, fault, low)

  pub why_usage : status_for why ≡ statuses.Usage → ⊥
  why_usage is = apart_by why N.cause statuses.Usage refl (λ q. cc q) (λ q. cc q) is

  pub why_source : status_for why ≡ statuses.SourceFault → ⊥
  why_source is = apart_by why N.cause statuses.SourceFault refl (λ q. cc q) (λ q. cc q) is

  pub why_sink : status_for why ≡ statuses.SinkFault → ⊥
  why_sink is = apart_by why N.cause statuses.SinkFault refl (λ q. cc q) (λ q. cc q) is

  pub why_fault : status_for why ≡ statuses.RegionFault → Rose old.faults t.faults
  why_fault is = fault_by why N.cause is

  -- the status is none of the writing
  early_whole : (status : Status) → WhyNotLoaded s word t (Refused status) → (is_of_run status ≡ false) × (is_whole status ≡ false)
  early_whole status (inl (same, inl u)) = (ap is_of_run u.1 ∙ (fault_no_run u.0).0, ap is_whole u.1 ∙ (fault_no_run u.0).1)
  early_whole status (inl (same, inr m)) = (ap is_of_run m, ap is_whole m)
  early_whole status (inr m) = (ap is_of_run m, ap is_whole m)

  whole_by : (y : NotRun) → WhyNotLoaded s word t y → is_whole (status_for y) ≡ false
  whole_by (Refused status) h = (early_whole status h).1
  whole_by Unsplit h = refl

  run_by : (y : NotRun) → WhyNotLoaded s word t y → is_of_run (status_for y) ≡ true → has_begun y ≡ true
  run_by (Refused status) h run = both (is_of_run status) run (early_whole status h).0
  run_by Unsplit h run = refl

  broken_by : (y : NotRun) → has_begun y ≡ true → is_of_region (status_for y) ≡ true → ⊥
  broken_by (Refused status) begun is = cc begun
  broken_by Unsplit begun is = cc is

  short_by : (y : NotRun) → has_begun y ≡ true → status_for y ≡ statuses.Memory → ⊥
  short_by (Refused status) begun is = cc begun
  short_by Unsplit begun is = cc is

  served_by_why : (y : NotRun) → WhyNotLoaded s word t y → has_begun y ≡ true → IsServed t found
  served_by_why (Refused status) h begun = cc begun
  served_by_why Unsplit h begun = λ telling. subst (λ n. IsSound n found) (sym N.stays.bytes)
      (served_by old s found A h.0.layout.cores (counted_by s word tells h.0 h.1 h.0.layout.cores refl) (tells_still s t N.stays telling)).0

  unsplit_by : (y : NotRun) → WhyNotLoaded s word t y → status_for y ≡ statuses.RegionFault → Attached old t t.frame.bytes found × Rose old.frame.refusals t.frame.refusals
  unsplit_by (Refused status) h is = absurd (early_apart status h statuses.RegionFault refl (λ q. cc q) is)
  unsplit_by Unsplit h is = (still_attached, subst (λ n. Rose n t.frame.refusals) granted h.3)

  module _ (r : CommandReport) (status : r.status ≡ status_for why) (begun_is : r.began ≡ has_begun why) (fin : finishes_of r.finishes ≡ []) (ref : r.refusals.items ≡ []) (cut : r.complete ≡ false) (unplaced : r.in_place ≡ false) (sink : SinkUse) (same : sink.now ≡ sink.before) (word' : ℕ → ℕ)
      (refused : Bool) (start count : ℕ) where
    begun_then : r.began ≡ true → has_begun why ≡ true
    begun_then begun = sym begun_is ∙ begun

    due_by : (y : NotRun) → WhyNotLoaded s word t y → r.status ≡ status_for y → IsTelling t → IsDueOfLoad old t found sink r
    due_by (Refused other) (inl (stays, inl u)) is telling =
        let was = tells_still s t N.stays telling in
        inl (is ∙ u.1 ∙ sym (ap status_by (ap (λ n. first_fault n found) N.stays.bytes ∙ sym (found_fault old s found A was) ∙ u.2 was)))
    due_by (Refused other) (inl (stays, inr m)) is telling = inr (inl (is ∙ m))
    due_by (Refused other) (inr m) is telling = inr (inl (is ∙ m))
    due_by Unsplit h is telling = inr (inr (inr (is, fault_by Unsplit h refl)))

    early_order : LoadsInOrder old t found word' sink r
    early_order = record {
      untouched = λ isnt. still_attached;
      began = λ begun. served_by_why why N.cause (begun_then begun);
      run = λ run. begun_is ∙ run_by why N.cause (sym (ap is_of_run status) ∙ run);
      written = λ complete. both r.complete complete cut;
      whole = λ whole. both (is_whole r.status) whole (ap is_whole status ∙ whole_by why N.cause);
      due = due_by why N.cause status;
      broken = λ begun is. absurd (broken_by why (begun_then begun) (sym (ap is_of_region status) ∙ is));
    }

    pub not_loaded : LoadsOnThreads old t found word' refused start count sink r
    not_loaded = record {
      cores = found 2;
      cores_are = λ n told. refl;
      order = early_order;
      serves = none_serves old t found still_attached r fin ref cut (requests_of_load start count) (TakesTally word' sink) (TakesTallyFront word' sink) sink (λ replies. inl same) unplaced (ap is_whole status ∙ whole_by why N.cause)
          (λ memory begun. absurd (short_by why (begun_then begun) (sym status ∙ memory)));
      kept_back = λ gone. same;
      unsplit = λ failed isnt. unsplit_by why N.cause (sym status ∙ failed);
      left = t;
      asks = subst (λ b. Asks b r.in_place t t) (sym cut) refl;
      worked = λ begun steady. both r.complete (steady (split_by why N.cause status (begun_then begun))) cut;
      run = λ complete. both r.complete complete cut;
    } where
      split_by : (y : NotRun) → WhyNotLoaded s word t y → r.status ≡ status_for y → has_begun y ≡ true → r.status ≡ statuses.RegionFault
      split_by (Refused other) h is begun = cc begun
      split_by Unsplit h is begun = is

-- a value that stands at the end of a list is one of it
has_last : (xs : List ℕ) (v : ℕ) → HasValue (xs ++ v ∷ []) v
has_last [] v = inl refl
has_last (x ∷ xs) v = inr (has_last xs v)

has_behind : (xs ys : List ℕ) (v : ℕ) → HasValue ys v → HasValue (xs ++ ys) v
has_behind [] ys v h = h
has_behind (x ∷ xs) ys v h = inr (has_behind xs ys v h)

-- a crash may leave the last value of each word
leaves_lasts : (s : State) → MayLeave s.frame (cell_now s) (lasts s)
leaves_lasts s w inside = let c = cell_now s w in has_behind c.before (c.marked ++ c.last ∷ []) c.last (has_last c.marked c.last)

-- What a writing promises holds where the words behind the run break a rule, for nothing was written.
module _ (All Front : List Reply → Type 0) (old t : State) (found : ℕ → ℕ) (trace : List Request) (sink : SinkUse) (r : CommandReport) (fault : Fault) (is : r.status ≡ fault_status fault) (here : r.in_place ≡ true)
    (S : Serves All Front old t found trace sink (record r { status = statuses.Memory })) where
  pub broken_serves : Serves All Front old t found trace sink r
  broken_serves = record {
    asked = S.asked;
    astray = λ complete gone. both r.in_place here gone;
    done = λ done. absurd (fault_apart fault statuses.Done refl (sym is ∙ done));
    failed = λ failed. absurd (fault_apart fault statuses.RegionFault refl (sym is ∙ failed));
    sunk = λ sunk. absurd (fault_apart fault statuses.SinkFault refl (sym is ∙ sunk));
    begins = S.begins;
    crash = S.crash;
    last = λ whole. both (is_whole r.status) whole (ap is_whole is ∙ (fault_no_run fault).1);
    rising = S.rising;
    full = S.full;
    spent = S.spent;
    unrefused = S.unrefused;
    long = S.long;
    counts = S.counts;
    short = λ memory. absurd (fault_apart fault statuses.Memory refl (sym is ∙ memory));
  }

-- All cores ran.
module _ (old s left t : State) (found word word' : ℕ → ℕ) (A : Attached old s s.frame.bytes found) (once : IsOpenedOnceMore old s) (granted : s.frame.refusals ≡ old.frame.refusals) (low : old.faults ≤ s.faults) (refused : Bool) (start count : ℕ) (sink : SinkUse) (y : LoadRun)
    (P : Loaded s word refused start count left y) (tells : (w : ℕ) → IsTelling t → lasts t w ≡ word' w) where
  abbrev end : End
  end = y.outcome.end

  -- what its answers list
  abbrev x : Listed
  x = listed_of P.ran.ran.kept

  abbrev made : List Request
  made = requests_of_load start count

  abbrev o : Origin
  o = P.ran.ran.origin

  abbrev f : Engine
  f = P.ran.ran.last

  abbrev cores : ℕ
  cores = P.recovered.layout.cores

  abbrev All : List Reply → Type 0
  All = TakesTally word' sink

  abbrev Front : List Reply → Type 0
  Front = TakesTallyFront word' sink

  known : serving.Known old found cores made o f end x
  known = apart.known old s left found word A once granted low refused P.recovered P.stands made end P.ran.ran

  module _ (r : CommandReport) (W : (replies : List Reply) → (is_ended end ≡ true → y.tally ≡ tally_of replies []) → HasTallied t.frame.bytes word' replies end sink r.in_place r.status) (asks : Asks r.complete r.in_place left t) (finishes : finishes_of r.finishes ≡ finishes_from 0 y.outcome.notes.finished.items y.outcome.stamp) (refusals : r.refusals.items ≡ y.outcome.notes.refusals.items) (begun : r.began ≡ true)
      (complete_is : r.complete ≡ is_ended end) (kept_back : r.in_place ≡ false → sink.now ≡ sink.before) where
    asks_last : Asks r.complete r.in_place f.region t
    asks_last = subst (λ z. Asks r.complete r.in_place z t) (sym P.ran.ran.region) asks

    still : Stays f.region t
    still = asks_stays r.complete r.in_place f.region t asks_last

    later : (n : ℕ) → n ≤ f.region.faults → Rose n f.region.faults → Rose n t.faults
    later = asks_later r.complete r.in_place f.region t asks_last

    lost : r.complete ≡ true → r.in_place ≡ false → Rose old.faults t.faults
    lost complete gone =
        let rose = asks_rose r.complete r.in_place f.region t asks_last complete gone in
        let first = known.low in
        let kept = known.kept in
        omega (arith, rose, first, kept)

    unasked : r.complete ≡ false → f.region ≡ t
    unasked = asks_none r.complete r.in_place f.region t asks_last

    silent : sink.now ≡ sink.before → (replies : List Reply) → Front replies
    silent same replies = inl same

    -- the status tells what was written, or which rule the words break that were read behind the run
    shown : (EndsAs (All x.replies) (Front x.replies) end sink r.in_place r.status)
        ⊎ ((r.in_place ≡ true) × (is_ended end ≡ true) × (sink.now ≡ sink.before) × (fault : Fault) × (r.status ≡ fault_status fault) × (first_fault t.frame.bytes word' ≡ Some fault))
    shown = by r.in_place refl (W x.replies (λ whole. P.ran.tally (memory_of end whole))) where
      by : (p : Bool) → r.in_place ≡ p → HasTallied t.frame.bytes word' x.replies end sink p r.status
          → (EndsAs (All x.replies) (Front x.replies) end sink p r.status) ⊎ ((r.in_place ≡ true) × (is_ended end ≡ true) × (sink.now ≡ sink.before) × (fault : Fault) × (r.status ≡ fault_status fault) × (first_fault t.frame.bytes word' ≡ Some fault))
      by true is (inl w, whole) = inl (w, whole)
      by true is (inr w, whole) = inr (is, whole, w.0, w.1, w.2, w.3)
      by false is w = inl w.1

    front_of : EndsAs (All x.replies) (Front x.replies) end sink r.in_place r.status → Front x.replies
    front_of w = by r.in_place refl w where
      whole_front : All x.replies → Front x.replies
      whole_front out = inr (out.0, out.1, ([], (out.0, sym (append-nil out.0), out.2)))

      by : (p : Bool) → r.in_place ≡ p → EndsAs (All x.replies) (Front x.replies) end sink p r.status → Front x.replies
      by true is (inl w, any) = whole_front w.2
      by true is (inr (inl w), any) = elim w.2 [ inl all ↦ whole_front all.0 | inr some ↦ some.1 ]
      by true is (inr (inr (inl w)), any) = w.3
      by true is (inr (inr (inr w)), any) = w.2
      by false is w = inl (kept_back is)

    served : IsServed t found
    served = serving.served old t found cores made o f end x known still later

    finishes_are : finishes_of r.finishes ≡ finishes_in 0 P.ran.ran.kept
    finishes_are = finishes ∙ finishes_noted left P.ran.ran.kept y.outcome P.ran.comes

    refusals_are : r.refusals.items ≡ refusals_in 0 P.ran.ran.kept
    refusals_are = refusals ∙ P.ran.comes.noted.refusals

    report_told : told_in r ≡ told_by x
    report_told = apart.report_told old s left found word A once granted low refused P.recovered P.stands made end P.ran.ran r finishes_are refusals_are

    held : is_ended end ≡ false → (sink.now ≡ sink.before) ⊎ (known.more ≡ [])
    unfolding known
    held cut = inr (apart.none_more old s left found word A once granted low refused P.recovered P.stands made end P.ran.ran)

    abbrev cores_ran : CoresRan old left found refused cores made r
    cores_ran = apart.cores_ran old s left found word A once granted low refused P.recovered P.stands made end P.ran.ran r finishes_are refusals_are

    -- The tally was written, or what of it could be.
    module _ (w : EndsAs (All x.replies) (Front x.replies) end sink r.in_place r.status) where
      serves_then : Serves All Front old t found made sink r
      serves_then = serving.serves old t found cores made o f end x known still later All Front sink silent r w (front_of w) held lost unasked report_told refusals_are begun complete_is

      ends_then : r.status ≡ statuses.RegionFault → r.complete ≡ true
      ends_then = serving.ends_then old t found cores made o f end x known still later All Front sink silent r w (front_of w) held lost unasked report_told refusals_are begun complete_is

      loud : is_quiet r.status ≡ false
      loud = answered_loud (All x.replies) (Front x.replies) end sink r.status r.in_place w

      not_quiet : (status : Status) → is_quiet status ≡ true → r.status ≡ status → ⊥
      not_quiet status quiet is = both (is_quiet r.status) (ap is_quiet is ∙ quiet) loud

      faults_then : CountsFaults old t none sink r.status
      faults_then = serving.counts_faults old t found cores made o f end x known still later All Front sink silent r w (front_of w) held lost unasked report_told refusals_are begun complete_is none

      due_then : IsTelling t → IsDueOfLoad old t found sink r
      due_then telling = by r.in_place w where
        by : (p : Bool) → EndsAs (All x.replies) (Front x.replies) end sink p r.status → IsDueOfLoad old t found sink r
        by true (inl v, any) = inl (v.0 ∙ sym (ap status_by (served telling)))
        by true (inr (inl v), any) = inr (inr (inr (v.0, faults_then.region_fault v.0)))
        by true (inr (inr (inl v)), any) = inr (inr (inl (v.0, v.2)))
        by true (inr (inr (inr v)), any) = inr (inl v.0)
        by false (inl cut) = inr (inl cut.0)
        by false (inr out) = inr (inr (inr (out.0, faults_then.region_fault out.0)))

      order_then : LoadsInOrder old t found word' sink r
      order_then = record {
        untouched = λ isnt. both r.began begun isnt;
        began = λ begun. served;
        run = λ run. begun;
        written = λ complete. begun;
        whole = λ whole. complete_is ∙ ap is_ended (whole_end (All x.replies) (Front x.replies) end sink r.status r.in_place w whole);
        due = due_then;
        broken = λ begun is. both (is_quiet r.status) (broken_quiet r.status is) loud;
      }

      loaded_then : end ≢ ends.Memory → LoadedOnThreads old left found word' refused cores made sink r
      loaded_then not_cut = record {
        all = cores_ran;
        ended = record {
          answered = (P.ran.ran.done not_cut).answered;
          drained = (P.ran.ran.done not_cut).drained;
          stops = λ fault here. P.ran.ran.fault (fault_end (All x.replies) (Front x.replies) end sink r.status r.in_place w fault here);
          goes = λ whole. P.ran.ran.complete (whole_end (All x.replies) (Front x.replies) end sink r.status r.in_place w whole);
        };
        begins = front_of w;
        writes = λ here out. (all_written (All x.replies) (Front x.replies) end sink r.status r.in_place w here out);
      }

    -- The words that were read behind the run break a rule.
    module _ (here : r.in_place ≡ true) (whole : is_ended end ≡ true) (same : sink.now ≡ sink.before) (fault : Fault) (is : r.status ≡ fault_status fault) (broken : first_fault t.frame.bytes word' ≡ Some fault) where
      abbrev blank : CommandReport
      blank = record r { status = statuses.Memory }

      blank_ends : EndsAs (All x.replies) (Front x.replies) end sink r.in_place statuses.Memory
      blank_ends = subst (λ p. EndsAs (All x.replies) (Front x.replies) end sink p statuses.Memory) (sym here) (inr (inr (inr (refl, whole, inl same))), whole)

      serves_none : Serves All Front old t found made sink r
      serves_none = broken_serves All Front old t found made sink r fault is here
          (serving.serves old t found cores made o f end x known still later All Front sink silent blank blank_ends (inl same) held lost unasked report_told refusals_are begun complete_is)

      not_run : (status : Status) → is_of_region status ≡ false → r.status ≡ status → ⊥
      not_run status isnt e = fault_apart fault status isnt (sym is ∙ e)

      -- that does not come where the region tells
      untold : IsTelling t → ⊥
      untold telling =
          let words : lasts t ≡ word' = (λ i w. tells w telling i) in
          let sound : first_fault t.frame.bytes (lasts t) ≡ None = (serves_none.crash (served telling) t.stamp telling (lasts t) (leaves_lasts t)).sound in
          cc (sym sound ∙ ap (first_fault t.frame.bytes) words ∙ broken)

      order_none : LoadsInOrder old t found word' sink r
      order_none = record {
        untouched = λ isnt. both r.began begun isnt;
        began = λ begun. served;
        run = λ run. begun;
        written = λ complete. begun;
        whole = λ whole. both (is_whole r.status) whole (ap is_whole is ∙ (fault_no_run fault).1);
        due = λ telling. absurd (untold telling);
        broken = λ begun is_broken. (fault, is, broken, untold);
      }

      loaded_none : end ≢ ends.Memory → LoadedOnThreads old left found word' refused cores made sink r
      loaded_none not_cut = record {
        all = cores_ran;
        ended = record {
          answered = (P.ran.ran.done not_cut).answered;
          drained = (P.ran.ran.done not_cut).drained;
          stops = λ failed. absurd (not_run statuses.RegionFault refl failed);
          goes = λ whole. both (is_whole r.status) whole (ap is_whole is ∙ (fault_no_run fault).1);
        };
        begins = inl same;
        writes = λ here out. absurd (elim out [ inl done ↦ not_run statuses.Done refl done | inr failed ↦ not_run statuses.RegionFault refl failed.0 ]);
      }

    serves : Serves All Front old t found made sink r
    serves = elim shown [ inl w ↦ serves_then w | inr b ↦ serves_none b.0 b.1 b.2 b.3 b.4 b.5 ]

    order : LoadsInOrder old t found word' sink r
    order = elim shown [ inl w ↦ order_then w | inr b ↦ order_none b.0 b.1 b.2 b.3 b.4 b.5 ]

    loaded : r.complete ≡ true → LoadedOnThreads old left found word' refused cores made sink r
    loaded complete = elim shown [ inl w ↦ loaded_then w not_cut | inr b ↦ loaded_none b.0 b.1 b.2 b.3 b.4 b.5 not_cut ] where
      not_cut : end ≢ ends.Memory
      not_cut m = both (is_ended end) (sym complete_is ∙ complete) (ap is_ended m)

    whole_then : r.status ≡ statuses.RegionFault → r.complete ≡ true
    whole_then failed = elim shown [ inl w ↦ ends_then w failed | inr b ↦ absurd (not_run b.0 b.1 b.2 b.3 b.4 b.5 statuses.RegionFault refl failed) ]

    -- The status is none of a call that reads an input, or of words that are isnt form, and a fault was counted.
    pub load_usage : r.status ≡ statuses.Usage → ⊥
    load_usage is = elim shown [ inl w ↦ not_quiet w statuses.Usage refl is | inr b ↦ not_run b.0 b.1 b.2 b.3 b.4 b.5 statuses.Usage refl is ]

    pub load_source : r.status ≡ statuses.SourceFault → ⊥
    load_source is = elim shown [ inl w ↦ not_quiet w statuses.SourceFault refl is | inr b ↦ not_run b.0 b.1 b.2 b.3 b.4 b.5 statuses.SourceFault refl is ]

    pub load_sink : r.status ≡ statuses.SinkFault → Rose sink.faults sink.faults'
    load_sink is = elim shown [ inl w ↦ (faults_then w).sink_fault is | inr b ↦ absurd (not_run b.0 b.1 b.2 b.3 b.4 b.5 statuses.SinkFault refl is) ]

    pub load_fault : r.status ≡ statuses.RegionFault → Rose old.faults t.faults
    load_fault is = elim shown [ inl w ↦ (faults_then w).region_fault is | inr b ↦ absurd (not_run b.0 b.1 b.2 b.3 b.4 b.5 statuses.RegionFault refl is) ]

    pub asked_behind : AsksBehind MayRejoin r s t
    asked_behind = record { left = left; done = inl P.ran.ran.rejoined; asks = asks }

    pub same_bytes : t.frame.bytes ≡ s.frame.bytes
    same_bytes = (asks_stays r.complete r.in_place left t asks).bytes ∙ P.ran.ran.rejoined.bytes

    pub loads : LoadsOnThreads old t found word' refused start count sink r
    loads = record {
      cores = cores;
      cores_are = λ n told. serving.cores_found old t found cores made o f end x known still later (known.was n (told_still f.region t still n told));
      order = order;
      serves = serves;
      kept_back = kept_back;
      unsplit = λ failed isnt. both r.complete (whole_then failed) isnt;
      left = left;
      asks = asks;
      worked = λ begun steady. cores_ran;
      run = loaded;
    }
