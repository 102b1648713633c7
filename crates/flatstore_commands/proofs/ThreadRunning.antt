-- From what the cores did in a run on threads, or why none ran, to what the program promises.
use Rattle.std.proofs.Common.{◌≡◌, ◌≢◌, ◌⊎◌, inl, inr, ℕ, ◌/◌, ◌<◌, ◌≤◌, List, [], ◌++◌, map, refl, sym, ◌∙◌, ap, subst, arith, true, false, Bool, Option, Some, None, Result, Ok, Err, append-nil}
use Rattle.std.specs.Prelude.{IfErr}
use Rattle.std.specs.Result.{IsErrAnd}
use Rattle.fs_model.specs.declared.model.Request.{Request}
use Rattle.pm_region.specs.Cell.{Cell}
use Rattle.pm_region.specs.State.{State, InRange, IsTold, IsTelling, MayLeave, Rose, cell_now, counted}
use Rattle.pm_region.specs.Split.{Attached, Stays, Refuses, IsOpenedOnceMore, IsNotOpened}
use Rattle.pm_region.specs.declared.split.AttachError.{AttachError}
use Rattle.pm_region.specs.declared.split.AttachError.TheVariants as attach
use Rattle.pm_region.specs.Words.{lasts}
use Rattle.fs_text.specs.declared.line.Line.{Line}
use Rattle.fs_text.specs.Output.{replies_text}
use Rattle.fs_text.specs.Streams.{Takes, TakesPrefix}
use Rattle.chunk_map.specs.Layouts.{layout_of}
use Rattle.store_image.specs.Soundness.{IsSound}
use Rattle.recover.specs.declared.types.Recovered.{Recovered}
use Rattle.engine_laws.specs.Engine.{Engine}
use Rattle.engine_laws.specs.Parts.{AllLicensed}
use Rattle.engine_laws.specs.Stands.{Origin}
use Rattle.engine_laws.specs.Ran as runs
use Rattle.engine_core.specs.declared.run_outcome.End.{End}
use Rattle.engine_core.specs.declared.run_outcome.End.TheVariants as ends
use Rattle.engine_core.specs.Reports.{Listed, ReportsOn, reply_in, listed_of, finishes_in, refusals_in, as_told, told_by}
use Rattle.thread_engine.specs.declared.run_to_sink.SinkRun.{SinkRun}
use Rattle.thread_engine.specs.declared.text_outlet.Unwritten.{Unwritten}
use Rattle.thread_engine.specs.declared.text_outlet.Unwritten.TheVariants.{Astray, SinkFault, Memory}
use Rattle.thread_engine.specs.Collected.{had_memory}
use Rattle.thread_engine.specs.Printed.{RanToSink}
use Rattle.thread_engine.specs.RanApart.{Rejoined}
use Rattle.flatstore_commands.specs.Finished.{finishes_of, finishes_from}
use Rattle.flatstore_commands.specs.Attaching.{GoesOnBy, Asks, AsksMeanwhile, AttachesToSplit}
use Rattle.flatstore_commands.specs.Ends.{SourceUse, SinkUse, IsAllOut, CountsFaults}
use Rattle.flatstore_commands.specs.LastStates.{told_in}
use Rattle.flatstore_commands.specs.Ordering.{GoesInOrder, KeepsOrder, IsServed, is_broken, is_of_line, is_quiet, is_whole}
use Rattle.flatstore_commands.specs.Promise.{IsInput, Serves, TakesReplies, TakesFront, asked_in}
use Rattle.flatstore_commands.specs.Played.{IsReady, IsRefused, EndsAs, is_ended}
use Rattle.flatstore_commands.specs.ThreadPlays.{PlayedApart, HasNotSplit, IsNotRun, WhyNotRun, why_of, status_for, has_begun, ran_as, is_placed}
use Rattle.flatstore_commands.specs.ThreadRuns.{CoresRan, WorkedInWindows, RanOnThreads, RunsOnThreads}
use Rattle.flatstore_commands.specs.declared.report.Status.{Status}
use Rattle.flatstore_commands.specs.declared.report.Status.TheVariants as statuses
use Rattle.flatstore_commands.specs.declared.report.CommandReport.{CommandReport}
use Rattle.flatstore_commands.specs.declared.run_threads.NotRun.{NotRun}
use Rattle.flatstore_commands.specs.declared.run_threads.NotRun.TheVariants.{Refused, Unsplit}
use Rattle.flatstore_commands.proofs.FinishesNoted.{finishes_noted}
use Rattle.flatstore_commands.proofs.Apart as apart
use Rattle.flatstore_commands.proofs.Inputs.{read_trace}
use Rattle.flatstore_commands.proofs.Refused.{served_by, apart_from, told_now, none_serves, refused_serves, refused_fault, refused_source}
use Rattle.flatstore_commands.proofs.Serving.{Known, serves, in_order, ends_then, counts_faults, words_found, cut_end}
use Rattle.flatstore_commands.proofs.Standing.{counted_by, origin_cores}
use Rattle.flatstore_commands.proofs.Staying.{tells_still, attached_still, asks_stays, asks_later}
use Rattle.flatstore_commands.proofs.Texts.{both, silent_front}
use Rattle.flatstore_commands.proofs.Written.{all_written, fault_end, whole_end, answered_loud}

-- what was done to a region that was attached
pub attaches_then : (old s t : State) (found : ℕ → ℕ) → Attached old s s.frame.bytes found → IsOpenedOnceMore old s → s.frame.refusals ≡ old.frame.refusals → t.frame.bytes ≡ s.frame.bytes
    → (r : CommandReport) → r.attached ≡ true → AsksMeanwhile r s t → AttachesToSplit old t found r
attaches_then old s t found A once granted bytes r opened done = record {
  attached = λ attached. record {
    at = s;
    attached = subst (λ n. Attached old s n found) (sym bytes) A;
    once = once;
    granted = granted;
    on = done;
  };
  unattached = λ isnt. both r.attached opened isnt;
  cause = λ isnt. both r.attached opened isnt;
}

-- nothing was asked of a region that was left as it was
pub not_asked : (s t : State) → Stays s t → IsNotOpened s t → (r : CommandReport) → r.complete ≡ false → r.in_place ≡ false → AsksMeanwhile r s t
not_asked s t S opens r cut unplaced = record {
  done = inr (S, opens);
  found = λ here. both r.in_place here unplaced;
  lost = λ complete gone. both r.complete complete cut;
}

-- A split that was refused, or for which there was no memory.
module _ (s t : State) (word : ℕ → ℕ) (S : Stays s t) (source : SourceUse) (r : Result SinkRun AttachError) (R : Refuses s t r) (recovered : Recovered) (lines : List Line) (ready : IsReady s word source recovered lines) where
  why_split : (error : AttachError) → r ≡ Err error → WhyNotRun s word t source (why_of error)
  why_split attach.RegionFault is = let rose = R.fault is in record { recovered = recovered; lines = lines; ready = ready; fault = rose.0; refused = rose.1 }
  why_split attach.Memory is = inr refl

  pub split_refused : (error : AttachError) → r ≡ Err error → {T : Type 0} (x : Result T NotRun) → IsErrAnd x (λ e. e ≡ why_of error) → IfErr x (IsNotRun s word t source)
  split_refused error is (Ok x) e = tt
  split_refused error is (Err x) e = subst (IsNotRun s word t source) (sym e) (record { stays = S; later = R.later; cause = why_split error is })

-- a status that leaves the region and the sink as they were is none of a split
pub quiet_why : (why : NotRun) → is_quiet (status_for why) ≡ true → has_begun why ≡ false
quiet_why (Refused status) quiet = refl
quiet_why Unsplit quiet = cc quiet

-- No core ran.
module _ (old s t : State) (found word : ℕ → ℕ) (A : Attached old s s.frame.bytes found) (tells : (w : ℕ) → IsTelling s → lasts s w ≡ word w) (low : old.faults ≤ s.faults) (granted : s.frame.refusals ≡ old.frame.refusals) (source : SourceUse) (why : NotRun)
    (N : IsNotRun s word t source why) where
  -- the region says what it said when it was attached
  pub still : Attached old t t.frame.bytes found
  still = attached_still s t N.stays old found A

  early_source : (status : Status) → WhyNotRun s word t source (Refused status) → status ≡ statuses.SourceFault → Rose source.faults source.faults'
  early_source status (inl x) e = refused_source old s found A source status x.1 e
  early_source status (inr m) e = cc (sym m ∙ e)

  early_fault : (status : Status) → WhyNotRun s word t source (Refused status) → status ≡ statuses.RegionFault → ⊥
  early_fault status (inl x) e = apart_from old s found A source status x.1 statuses.RegionFault refl e
  early_fault status (inr m) e = cc (sym m ∙ e)

  early_usage : (status : Status) → WhyNotRun s word t source (Refused status) → status ≡ statuses.Usage → ⊥
  early_usage status (inl x) e = apart_from old s found A source status x.1 statuses.Usage refl e
  early_usage status (inr m) e = cc (sym m ∙ e)

  early_sink : (status : Status) → WhyNotRun s word t source (Refused status) → status ≡ statuses.SinkFault → ⊥
  early_sink status (inl x) e = apart_from old s found A source status x.1 statuses.SinkFault refl e
  early_sink status (inr m) e = cc (sym m ∙ e)

  risen : HasNotSplit s word t source → Rose old.faults t.faults
  risen h = let fault = h.fault in omega (arith, fault, low)

  source_by : (y : NotRun) → WhyNotRun s word t source y → status_for y ≡ statuses.SourceFault → Rose source.faults source.faults'
  source_by (Refused status) h e = early_source status h e
  source_by Unsplit h e = cc e

  fault_by : (y : NotRun) → WhyNotRun s word t source y → status_for y ≡ statuses.RegionFault → Rose old.faults t.faults
  fault_by (Refused status) h e = absurd (early_fault status h e)
  fault_by Unsplit h e = risen h

  usage_by : (y : NotRun) → WhyNotRun s word t source y → status_for y ≡ statuses.Usage → ⊥
  usage_by (Refused status) h e = early_usage status h e
  usage_by Unsplit h e = cc e

  sink_by : (y : NotRun) → WhyNotRun s word t source y → status_for y ≡ statuses.SinkFault → ⊥
  sink_by (Refused status) h e = early_sink status h e
  sink_by Unsplit h e = cc e

  pub why_source : status_for why ≡ statuses.SourceFault → Rose source.faults source.faults'
  why_source e = source_by why N.cause e

  pub why_fault : status_for why ≡ statuses.RegionFault → Rose old.faults t.faults
  why_fault e = fault_by why N.cause e

  pub why_usage : status_for why ≡ statuses.Usage → ⊥
  why_usage e = usage_by why N.cause e

  pub why_sink : status_for why ≡ statuses.SinkFault → ⊥
  why_sink e = sink_by why N.cause e

  module _ (r : CommandReport) (fin : finishes_of r.finishes ≡ []) (ref : r.refusals.items ≡ []) (cut : r.complete ≡ false) (unplaced : r.in_place ≡ false) (sink : SinkUse) (same : sink.now ≡ sink.before) (refused : Bool) where
    abbrev Promised : Type 0
    Promised = (input : List ℕ) × (cores : ℕ) × IsInput source.coming input × RunsOnThreads old t found source refused cores input sink r

    -- the work before the run ended with a status
    module _ (status : Status) (is : r.status ≡ status) (unbegun : r.began ≡ false) (u : State) (B : Attached old u u.frame.bytes found) (U : IsRefused u source status) where
      early_serves : (input : List ℕ) × (cores : ℕ) × IsInput source.coming input × RunsOnThreads old u found source refused cores input sink r
      early_serves =
          let x = refused_serves old u found B source status U r is fin ref unbegun cut unplaced sink same in
          (x.0, x.1, x.2, record { begun = asked_in x.1 x.0; unbegun = []; split = sym (append-nil (asked_in x.1 x.0)); all_begun = λ here out. refl; cut_begun = λ no. refl; order = x.3; serves = x.4; unsplit = λ failed no. absurd (refused_fault old u found B source status U r is failed); worked = λ began steady. both r.began began unbegun; run = λ complete. both r.complete complete cut })

    early : (status : Status) → WhyNotRun s word t source (Refused status) → r.status ≡ status → r.began ≡ false → Promised
    early status (inl x) is unbegun = subst (λ z. (input : List ℕ) × (cores : ℕ) × IsInput source.coming input × RunsOnThreads old z found source refused cores input sink r) (sym x.0)
        (early_serves status is unbegun s A x.1)
    early status (inr m) is unbegun = early_serves status is unbegun t still (inl (inr m))

    -- the region could not be split
    module _ (h : HasNotSplit s word t source) (is : r.status ≡ statuses.RegionFault) (begun : r.began ≡ true) where
      abbrev own_cores : ℕ
      own_cores = h.recovered.layout.cores

      abbrev own_input : List ℕ
      own_input = h.ready.read.input

      served_then : IsTelling t → IsSound s.frame.bytes found × (own_cores ≡ found 2)
      served_then telling = served_by old s found A own_cores (counted_by s word tells h.recovered h.ready.stands own_cores refl) (tells_still s t N.stays telling)

      served : IsServed t found
      served telling = subst (λ n. IsSound n found) (sym N.stays.bytes) (served_then telling).0

      order : KeepsOrder old t found source own_cores own_input r
      order = record {
        untouched = λ no. still;
        read = λ e. cc (sym is ∙ e);
        line = λ line. both (is_of_line r.status) line (ap is_of_line is);
        began = λ yes. (served, h.ready.read.whole, ap is_broken h.ready.read.good);
        unbegun = λ quiet. both (is_quiet r.status) quiet (ap is_quiet is);
        run = λ run. begun;
        written = λ complete. begun;
        whole = λ whole. both (is_whole r.status) whole (ap is_whole is);
      }

      split_order : GoesInOrder old t found source own_cores own_input sink r
      split_order = record {
        cores_are = λ n told. (served_then (told_now old t found still r fin ref cut [] n told)).1;
        order = order;
        due = λ telling. inr (inr (inr (inr (is, risen h))));
      }

      split_serves : Serves (TakesReplies sink) (TakesFront sink) old t found (asked_in own_cores own_input) sink r
      split_serves = none_serves old t found still r fin ref cut (asked_in own_cores own_input) (TakesReplies sink) (TakesFront sink) sink (silent_front sink same) unplaced (ap is_whole is) (λ memory began. cc (sym is ∙ memory))

      unsplit : Promised
      unsplit = (
        own_input,
        own_cores,
        h.ready.read.is_input,
        record {
          begun = asked_in own_cores own_input;
          unbegun = [];
          split = sym (append-nil (asked_in own_cores own_input));
          all_begun = λ here out. refl;
          cut_begun = λ no. refl;
          order = split_order;
          serves = split_serves;
          unsplit = λ failed no. (still, subst (λ n. Rose n t.frame.refusals) granted h.refused);
          worked = λ began steady. both r.complete (steady is) cut;
          run = λ complete. both r.complete complete cut;
        },
      )

    by_why : (y : NotRun) → WhyNotRun s word t source y → r.status ≡ status_for y → r.began ≡ has_begun y → Promised
    by_why (Refused status) h is began = early status h is began
    by_why Unsplit h is began = unsplit h is began

    pub not_run : r.status ≡ status_for why → r.began ≡ has_begun why → Promised
    not_run is began = by_why why N.cause is began

-- What the end of a run and the cause that a window's text is not out say of its report.
astray_by : (end : End) (why : Option Unwritten) → is_ended end ≡ true → is_placed end why ≡ false → why ≡ Some Astray
astray_by end None whole gone = both (is_ended end) whole gone
astray_by end (Some Astray) whole gone = refl
astray_by end (Some SinkFault) whole gone = both (is_ended end) whole gone
astray_by end (Some Memory) whole gone = both (is_ended end) whole gone

unastray : (end : End) (why : Option Unwritten) → is_placed end why ≡ true → why ≢ Some Astray
unastray end None here is = cc is
unastray end (Some Astray) here is = cc here
unastray end (Some SinkFault) here is = cc is
unastray end (Some Memory) here is = cc is

pub memory_of : (end : End) → is_ended end ≡ true → had_memory end ≡ true
memory_of ends.Complete whole = refl
memory_of ends.RegionFault whole = refl
memory_of ends.Memory whole = cc whole

memory_by : (end : End) (why : Option Unwritten) → is_placed end why ≡ true → had_memory end ≡ true
memory_by end None here = memory_of end here
memory_by end (Some Astray) here = cc here
memory_by end (Some SinkFault) here = memory_of end here
memory_by end (Some Memory) here = memory_of end here

-- where every reply was written, no window's text is missing
unwritten_none : (end : End) (why : Option Unwritten) (sink : SinkUse) → (why ≡ Some SinkFault → Rose sink.faults sink.faults') → is_placed end why ≡ true → IsAllOut (ran_as end why) sink → why ≡ None
unwritten_none end None sink sunk here out = refl
unwritten_none end (Some Astray) sink sunk here out = cc here
unwritten_none ends.Complete (Some SinkFault) sink sunk here (inl out) = cc out
unwritten_none ends.Complete (Some SinkFault) sink sunk here (inr out) = cc out.0
unwritten_none ends.RegionFault (Some SinkFault) sink sunk here (inl out) = cc out
unwritten_none ends.RegionFault (Some SinkFault) sink sunk here (inr out) = absurd (out.1 (sunk refl))
unwritten_none ends.Memory (Some SinkFault) sink sunk here out = cc here
unwritten_none end (Some Memory) sink sunk here (inl out) = cc out
unwritten_none end (Some Memory) sink sunk here (inr out) = cc out.0

-- and the status says what was written
ends_as : (s : State) (word : ℕ → ℕ) (refused : Bool) (r : Recovered) (asked : List Request) (t : State) (sink : SinkUse) (y : SinkRun)
    → (W : RanToSink sink.before sink.now sink.flushed sink.faults sink.faults' s word refused r asked t y) → EndsAs (TakesReplies sink (map reply_in W.ran.kept)) (TakesFront sink (map reply_in W.ran.kept)) y.outcome.end sink (is_placed y.outcome.end y.unwritten) (ran_as y.outcome.end y.unwritten)
ends_as s word refused r asked t sink y W = by y.outcome.end y.unwritten refl refl where
  none_lacks : {w : Unwritten} → y.outcome.end ≡ ends.Memory → y.unwritten ≡ Some w → ⊥
  none_lacks e f = cc (sym (W.memory e) ∙ f)

  by : (end : End) (why : Option Unwritten) → y.outcome.end ≡ end → y.unwritten ≡ why → EndsAs (TakesReplies sink (map reply_in W.ran.kept)) (TakesFront sink (map reply_in W.ran.kept)) y.outcome.end sink (is_placed end why) (ran_as end why)
  by ends.Complete None e f = (let out = W.writes (ap had_memory e) f in (inl (refl, e, out.0, out.1), ap is_ended e))
  by ends.RegionFault None e f = (let out = W.writes (ap had_memory e) f in (inr (inl (refl, e, inl (out.0, out.1))), ap is_ended e))
  by ends.Memory None e f = inl (refl, ap is_ended e)
  by ends.Complete (Some Astray) e f = inr (refl, ap is_ended e)
  by ends.RegionFault (Some Astray) e f = inr (refl, ap is_ended e)
  by ends.Memory (Some Astray) e f = absurd (none_lacks e f)
  by ends.Complete (Some SinkFault) e f = (inr (inr (inl (refl, e, W.sunk f, W.begins))), ap is_ended e)
  by ends.RegionFault (Some SinkFault) e f = (inr (inl (refl, e, inr (W.sunk f, W.begins))), ap is_ended e)
  by ends.Memory (Some SinkFault) e f = absurd (none_lacks e f)
  by ends.Complete (Some Memory) e f = (inr (inr (inr (refl, ap is_ended e, W.begins))), ap is_ended e)
  by ends.RegionFault (Some Memory) e f = (inr (inr (inr (refl, ap is_ended e, W.begins))), ap is_ended e)
  by ends.Memory (Some Memory) e f = absurd (none_lacks e f)

-- All cores ran.
module _ (old s t : State) (found word : ℕ → ℕ) (A : Attached old s s.frame.bytes found) (once : IsOpenedOnceMore old s) (granted : s.frame.refusals ≡ old.frame.refusals) (low : old.faults ≤ s.faults) (refused : Bool) (source : SourceUse) (sink : SinkUse) (y : SinkRun)
    (P : PlayedApart s word refused t source sink y) where
  abbrev end : End
  end = y.outcome.end

  -- what its answers list
  abbrev x : Listed
  x = listed_of P.ran.ran.kept

  -- the requests that were begun
  abbrev trace : List Request
  trace = P.ran.given

  abbrev o : Origin
  o = P.ran.ran.origin

  abbrev f : Engine
  f = P.ran.ran.last

  abbrev cores : ℕ
  cores = P.recovered.layout.cores

  abbrev input : List ℕ
  input = P.ready.read.input

  known : Known old found cores trace o f end x
  known = apart.known old s t found word A once granted low refused P.recovered P.ready.stands trace end P.ran.ran

  -- The report is on the last state of the cores, which is the region's.
  module _ (r : CommandReport) (status_is : r.status ≡ ran_as end y.unwritten) (placed : r.in_place ≡ is_placed end y.unwritten)
      (finishes : finishes_of r.finishes ≡ finishes_from 0 y.outcome.notes.finished.items y.outcome.stamp) (refusals : r.refusals.items ≡ y.outcome.notes.refusals.items) (begun : r.began ≡ true) (complete_is : r.complete ≡ is_ended end) where
    stays : Stays f.region t
    stays = apart.stays old s t found word A once granted low refused P.recovered P.ready.stands trace end P.ran.ran

    later : (n : ℕ) → n ≤ f.region.faults → Rose n f.region.faults → Rose n t.faults
    later = apart.later old s t found word A once granted low refused P.recovered P.ready.stands trace end P.ran.ran

    unasked : r.complete ≡ false → f.region ≡ t
    unasked cut = P.ran.ran.region

    lost : r.complete ≡ true → r.in_place ≡ false → Rose old.faults t.faults
    lost complete gone =
        let rose = P.ran.astray (astray_by end y.unwritten (sym complete_is ∙ complete) (sym placed ∙ gone)) in
        omega (arith, low, rose)

    ended : EndsAs (TakesReplies sink x.replies) (TakesFront sink x.replies) end sink r.in_place r.status
    ended = subst (λ p. EndsAs (TakesReplies sink x.replies) (TakesFront sink x.replies) end sink p r.status) (sym placed) (subst (EndsAs (TakesReplies sink x.replies) (TakesFront sink x.replies) end sink (is_placed end y.unwritten)) (sym status_is) (ends_as s word refused P.recovered (runs.asked_in P.lines) t sink y P.ran))

    held : is_ended end ≡ false → (sink.now ≡ sink.before) ⊎ (known.more ≡ [])
    unfolding known
    held cut = inr (apart.none_more old s t found word A once granted low refused P.recovered P.ready.stands trace end P.ran.ran)

    pub meanwhile : AsksMeanwhile r s t
    meanwhile = record {
      done = inl P.ran.ran.rejoined;
      found = λ here. P.ran.found (memory_by end y.unwritten (sym placed ∙ here)) (unastray end y.unwritten (sym placed ∙ here));
      lost = λ complete gone. P.ran.astray (astray_by end y.unwritten (sym complete_is ∙ complete) (sym placed ∙ gone));
    }

    finishes_are : finishes_of r.finishes ≡ finishes_in 0 P.ran.ran.kept
    finishes_are = finishes ∙ finishes_noted t P.ran.ran.kept y.outcome P.ran.comes

    refusals_are : r.refusals.items ≡ refusals_in 0 P.ran.ran.kept
    refusals_are = refusals ∙ P.ran.comes.noted.refusals

    report_told : told_in r ≡ told_by x
    report_told i = as_told (finishes_are i) (refusals_are i)

    abbrev cores_ran : CoresRan old t found refused cores trace r
    cores_ran = apart.cores_ran old s t found word A once granted low refused P.recovered P.ready.stands trace end P.ran.ran r finishes_are refusals_are

    by_windows : WorkedInWindows old t found refused cores input trace sink r
    by_windows = record {
      lines = P.lines;
      good = P.ready.read.good;
      worked = cores_ran;
      parted = P.ran.parted;
      behind = P.ran.behind;
      unasked = P.ran.unasked;
      asked_since = P.ran.asked_since;
      out = P.ran.out;
      between = P.ran.between;
      behind_all = λ complete. P.ran.ended (memory_of end (sym complete_is ∙ complete));
    }

    ran_then : r.complete ≡ true → RanOnThreads old t found refused cores input trace sink r
    unfolding by_windows
    ran_then complete =
        let whole_is : is_ended end ≡ true = sym complete_is ∙ complete in
        let not_cut : end ≢ ends.Memory = ended_by whole_is in
        record {
          all = by_windows;
          begins = P.ran.begins;
          writes = λ here out. (all_written (TakesReplies sink x.replies) (TakesFront sink x.replies) end sink r.status r.in_place ended here out);
          ended = record {
            answered = (P.ran.ran.done not_cut).answered;
            drained = (P.ran.ran.done not_cut).drained;
            stops = λ fault here. P.ran.ran.fault (fault_end (TakesReplies sink x.replies) (TakesFront sink x.replies) end sink r.status r.in_place ended fault here);
            goes = λ whole. P.ran.ran.complete (whole_end (TakesReplies sink x.replies) (TakesFront sink x.replies) end sink r.status r.in_place ended whole);
          };
        }
      where
        ended_by : is_ended end ≡ true → end ≢ ends.Memory
        ended_by is m = both (is_ended end) is (ap is_ended m)

    pub run_counts : CountsFaults old t source sink r.status
    run_counts = counts_faults old t found cores trace o f end x known stays later (TakesReplies sink) (TakesFront sink) sink (silent_front sink) r ended P.ran.begins held lost unasked report_told refusals_are begun complete_is source

    -- a fault of the region did not keep it from its end
    pub run_ends : r.status ≡ statuses.RegionFault → r.complete ≡ true
    run_ends = ends_then old t found cores trace o f end x known stays later (TakesReplies sink) (TakesFront sink) sink (silent_front sink) r ended P.ran.begins held lost unasked report_told refusals_are begun complete_is

    -- it ended with no status that leaves the region and the sink as they were
    pub run_loud : is_quiet r.status ≡ false
    run_loud = answered_loud (TakesReplies sink x.replies) (TakesFront sink x.replies) end sink r.status r.in_place ended

    all_out : r.in_place ≡ true → IsAllOut r.status sink → P.ran.more ≡ []
    all_out here out = P.ran.whole (unwritten_none end y.unwritten sink P.ran.sunk (sym placed ∙ here) (subst (λ z. IsAllOut z sink) status_is out))

    cut_out : r.complete ≡ false → P.ran.more ≡ []
    cut_out cut = P.ran.whole (P.ran.memory (cut_end end (sym complete_is ∙ cut)))

    pub ran_on : (input : List ℕ) × (cores : ℕ) × IsInput source.coming input × RunsOnThreads old t found source refused cores input sink r
    ran_on = (
      input,
      cores,
      P.ready.read.is_input,
      record {
        begun = trace;
        unbegun = P.ran.more;
        split = read_trace cores input P.lines P.ready.read.good ∙ P.ran.split;
        all_begun = all_out;
        cut_begun = cut_out;
        order = in_order old t found cores trace o f end x known stays later (TakesReplies sink) (TakesFront sink) sink (silent_front sink) r ended P.ran.begins held lost unasked report_told refusals_are begun complete_is source input P.lines P.ready.read.good P.ready.read.whole;
        serves = serves old t found cores trace o f end x known stays later (TakesReplies sink) (TakesFront sink) sink (silent_front sink) r ended P.ran.begins held lost unasked report_told refusals_are begun complete_is;
        unsplit = λ failed no. both r.complete (run_ends failed) no;
        worked = λ begun_is steady. by_windows;
        run = ran_then;
      },
    )
