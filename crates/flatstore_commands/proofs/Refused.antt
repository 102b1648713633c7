-- From a replay that answered nothing to what the program promises.
use Rattle.std.proofs.Common.{◌≡◌, ◌⊎◌, inl, inr, ℕ, ◌+◌, ◌≤◌, take, arith, List, [], ◌∷◌, sym, ◌∙◌, ap, subst, refl, true, false, Bool, Option, Some, None, Result, Ok, Err}
use Rattle.std.specs.List.{AllByRecursion, slice_get}
use Rattle.pm_region.specs.State.{State, IsTold, IsTelling, Rose}
use Rattle.pm_region.specs.Split.{Attached}
use Rattle.pm_region.specs.Words.{lasts}
use Rattle.fs_model.specs.declared.model.Request.{Request}
use Rattle.fs_model.specs.declared.model.Reply.{Reply}
use Rattle.fs_model.specs.declared.model.Reply.TheVariants.{Full}
use Rattle.fs_model.specs.Lawful.{is_stopped}
use Rattle.fs_text.specs.declared.line.Line.{Line}
use Rattle.fs_text.specs.Input.{input_of}
use Rattle.fs_text.specs.Streams.{IsReadOut}
use Rattle.log_entry.specs.declared.entry_limits.TheConstants.{LAST_PUT_VERSION}
use Rattle.chunk_map.specs.Layouts.{layout_of, owner}
use Rattle.store_image.specs.declared.types.Fault.{Fault}
use Rattle.store_image.specs.declared.types.Fault.TheVariants as faults
use Rattle.store_image.specs.Soundness.{IsSound, first_fault}
use Rattle.store_image.proofs.Clients.{superblock_facts, has_layout}
use Rattle.core_room.specs.declared.types.Shortage.TheVariants.{Versions, Length}
use Rattle.headline.specs.Ample.{IsAmpleFor}
use Rattle.headline.specs.Limits.{IsAsked, version_of, changes_asked, is_too_long}
use Rattle.headline.specs.Headline.{Told, Answers, cells_of, finished_in, refused_in, RecoversThroughout}
use Rattle.headline.specs.Run.{Recorded}
use Rattle.headline.proofs.Clients.{recorded}
use Rattle.engine_core.specs.declared.run_report.Refusal.{Refusal}
use Rattle.engine_core.specs.Answers.{reply_to}
use Rattle.engine_core.specs.Reports.{as_told, ShowsWhy}
use Rattle.flatstore_commands.specs.Finished.{finishes_of}
use Rattle.flatstore_commands.specs.Ends.{SourceUse, SinkUse}
use Rattle.flatstore_commands.specs.LastStates.{told_in, AreRising, WindsDown}
use Rattle.flatstore_commands.specs.Ordering.{GoesInOrder, KeepsOrder, IsServed, due, IsDue, IsFault, status_of, is_broken, is_of_region, is_of_line, is_of_run, is_whole}
use Rattle.flatstore_commands.specs.Promise.{Says, IsInput, Serves, Replays, TakesReplies, TakesFront, asked_in}
use Rattle.flatstore_commands.specs.Reads.{IsUnread}
use Rattle.flatstore_commands.specs.Statuses.{fault_status}
use Rattle.flatstore_commands.specs.Played.{IsUnserved, IsCounted, IsRefused}
use Rattle.flatstore_commands.specs.declared.report.Status.{Status}
use Rattle.flatstore_commands.specs.declared.report.Status.TheVariants as statuses
use Rattle.flatstore_commands.specs.declared.report.CommandReport.{CommandReport}
use Rattle.flatstore_commands.proofs.Answering.{all_stopped, all_stop, each_stop, nothing_answered}
use Rattle.flatstore_commands.proofs.Attached.{found_words, found_fault, sound_small, crash_at_attach}
use Rattle.flatstore_commands.proofs.Texts.{both, silent_front}

may_all : (MayStop : Type 0) (replies : List Reply) → MayStop → AllByRecursion (λ x. is_stopped x ≡ true → MayStop) replies
may_all MayStop [] may = tt
may_all MayStop (x ∷ xs) may = ((λ stopped. may), may_all MayStop xs may)

-- a status at which no request was answered for want of more than memory
abbrev pub answers_none : Status → Bool
answers_none statuses.Done = false
answers_none statuses.Usage = false
answers_none (statuses.BadInput line rule) = true
answers_none statuses.SourceFault = true
answers_none statuses.SinkFault = false
answers_none statuses.RegionFault = false
answers_none (statuses.Damaged part chunk rule) = true
answers_none (statuses.NotARegion rule) = true
answers_none statuses.Memory = true

-- and so none of the run
no_run : (status : Status) → answers_none status ≡ true → (is_of_run status ≡ false) × (is_whole status ≡ false)
no_run statuses.Done h = cc h
no_run statuses.Usage h = cc h
no_run (statuses.BadInput line rule) h = (refl, refl)
no_run statuses.SourceFault h = (refl, refl)
no_run statuses.SinkFault h = cc h
no_run statuses.RegionFault h = cc h
no_run (statuses.Damaged part chunk rule) h = (refl, refl)
no_run (statuses.NotARegion rule) h = (refl, refl)
no_run statuses.Memory h = (refl, refl)

broken_none : (r : Result (List Line) (ℕ × ℕ)) → is_broken r ≡ true → answers_none (status_of r) ≡ true
broken_none (Ok lines) h = cc h
broken_none (Err (line, rule)) h = refl

-- a line that breaks a rule is none of the region's rules
broken_apart : (r : Result (List Line) (ℕ × ℕ)) → is_broken r ≡ true → is_of_region (status_of r) ≡ false
broken_apart (Ok lines) h = cc h
broken_apart (Err (line, rule)) h = refl

fault_none : (fault : Fault) → answers_none (fault_status fault) ≡ true
fault_none (faults.NotARegion rule) = refl
fault_none (faults.Damaged part chunk rule) = refl

fault_apart : (fault : Fault) → is_of_line (fault_status fault) ≡ false
fault_apart (faults.NotARegion rule) = refl
fault_apart (faults.Damaged part chunk rule) = refl

fault_no_source : (fault : Fault) → fault_status fault ≡ statuses.SourceFault → ⊥
fault_no_source (faults.NotARegion rule) q = cc q
fault_no_source (faults.Damaged part chunk rule) q = cc q

broken_no_source : (r : Result (List Line) (ℕ × ℕ)) → status_of r ≡ statuses.SourceFault → ⊥
broken_no_source (Ok lines) q = cc q
broken_no_source (Err (line, rule)) q = cc q

pub some_input : (coming : Option (List ℕ)) → (input : List ℕ) × IsInput coming input
some_input None = ([], tt)
some_input (Some bytes) = (bytes, refl)

-- what was read is nothing that the region's rules decide
pub unread_apart : (source : SourceUse) (cores : ℕ) (status : Status) → IsUnread source cores status → is_of_region status ≡ false
unread_apart source cores status (inl u) = ap is_of_region u.4 ∙ broken_apart (input_of cores u.1) u.3
unread_apart source cores status (inr (inl u)) = ap is_of_region u.0
unread_apart source cores status (inr (inr u)) = ap is_of_region u

memory_source : statuses.Memory ≡ statuses.SourceFault → ⊥
memory_source q = cc q

module _ (old s : State) (found : ℕ → ℕ) (A : Attached old s s.frame.bytes found) where
  -- the words in the superblock, where it is sound
  core_found : IsTelling s → first_fault s.frame.bytes (lasts s) ≡ None → (first_fault s.frame.bytes found ≡ None) × (lasts s 2 ≡ found 2)
  core_found telling sound =
      let sound' : first_fault s.frame.bytes found ≡ None = sym (found_fault old s found A telling) ∙ sound in
      let low = (superblock_facts s.frame.bytes found (has_layout s.frame.bytes found sound')).0 in
      (sound', found_words old s found A (sound_small old s found A sound') telling 2 (omega (arith, low)))

  pub served_by : (cores : ℕ) → IsCounted s cores → IsTelling s → IsSound s.frame.bytes found × (cores ≡ found 2)
  served_by cores u telling = let h = u telling in let f = core_found telling h.0 in (f.0, sym h.1 ∙ f.1)

-- What is so of a report that answers nothing, on a region that says what it said when it was attached, whatever the status.
module _ (old s : State) (found : ℕ → ℕ) (A : Attached old s s.frame.bytes found) (r : CommandReport) (fin : finishes_of r.finishes ≡ []) (ref : r.refusals.items ≡ []) (cut : r.complete ≡ false) (trace : List Request) where
  abbrev none : Told
  none = record { finishes = []; refusals = [] }

  nothing : told_in r ≡ none
  nothing = (λ i. as_told (fin i) (ref i))

  abbrev MayStop : Type 0
  MayStop = r.complete ≡ true → Rose old.faults s.faults

  may : MayStop
  may complete = both r.complete complete cut

  stopped : Recorded (IsTelling s) (cells_of found) trace (all_stopped trace) none
  stopped = all_stop (IsTelling s) (cells_of found) [] [] none trace (recorded (IsTelling s) (cells_of found) [] [] none 0 (cells_of found) (nothing_answered (IsTelling s) (cells_of found) 0))

  said : Answers (IsTelling s) (cells_of found) trace none MayStop (all_stopped trace)
  said = record { each = each_stop [] [] trace tt; lawful = stopped.lawful; fits = stopped.fits; stops = may_all MayStop (all_stopped trace) may }

  -- every moment that is told is that of the attach
  pub told_now : (n : ℕ) → IsTold s n → IsTelling s
  told_now n told =
      let stamp = A.stamp in
      let seen = told.seen in
      let is : n ≡ s.stamp = omega (arith, stamp, seen) in
      subst (IsTold s) is told

  none_begins : (Front : List Reply → Type 0) → Front (all_stopped trace) → Says Front (IsTelling s) (cells_of found) trace (told_in r) MayStop
  none_begins Front out = subst (λ x. Says Front (IsTelling s) (cells_of found) trace x MayStop) (sym nothing) (all_stopped trace, said, out)

  none_lost : IsSound s.frame.bytes found → RecoversThroughout s (cells_of found) trace (told_in r)
  none_lost sound = subst (λ x. RecoversThroughout s (cells_of found) trace x) (sym nothing) (crash_at_attach old s found A sound trace)

  none_rising : AreRising (finished_in (told_in r)) × AreRising (refused_in (told_in r))
  none_rising = subst (λ (z : Told). AreRising (finished_in z) × AreRising (refused_in z)) (sym nothing) (tt, tt)

  none_full : AllByRecursion (λ (x : Refusal). reply_to x.why ≡ Full → (k : ℕ) → IsAsked trace x.request k → IsAmpleFor (layout_of found) found trace (owner (layout_of found) k) → ⊥) r.refusals.items
  none_full = subst (λ xs. AllByRecursion (λ (x : Refusal). reply_to x.why ≡ Full → (k : ℕ) → IsAsked trace x.request k → IsAmpleFor (layout_of found) found trace (owner (layout_of found) k) → ⊥) xs) (sym ref) tt

  none_spent : AllByRecursion (λ (x : Refusal). (last : ℕ) → x.why ≡ Versions last → (k : ℕ) → IsAsked trace x.request k → LAST_PUT_VERSION ≤ version_of found k + changes_asked k (take x.request trace)) r.refusals.items
  none_spent = subst (λ xs. AllByRecursion (λ (x : Refusal). (last : ℕ) → x.why ≡ Versions last → (k : ℕ) → IsAsked trace x.request k → LAST_PUT_VERSION ≤ version_of found k + changes_asked k (take x.request trace)) xs) (sym ref) tt

  none_long : AllByRecursion (λ (x : Refusal). (n : ℕ) → x.why ≡ Length n → (q : Request) → slice_get trace x.request ≡ Some q → is_too_long (layout_of found) q ≡ true) r.refusals.items
  none_long = subst (λ xs. AllByRecursion (λ (x : Refusal). (n : ℕ) → x.why ≡ Length n → (q : Request) → slice_get trace x.request ≡ Some q → is_too_long (layout_of found) q ≡ true) xs) (sym ref) tt

  none_counted : AllByRecursion (ShowsWhy trace) r.refusals.items
  none_counted = subst (AllByRecursion (ShowsWhy trace)) (sym ref) tt

  -- So is what it promises, where its status is none of the writing's.
  module _ (All Front : List Reply → Type 0) (sink : SinkUse) (out : (replies : List Reply) → Front replies) (unplaced : r.in_place ≡ false) (unwritten : is_whole r.status ≡ false) (short : r.status ≡ statuses.Memory → r.began ≡ true → WindsDown s r) where
    pub none_serves : Serves All Front old s found trace sink r
    none_serves = record {
      asked = λ here. both r.in_place here unplaced;
      astray = λ complete gone. both r.complete complete cut;
      done = λ done. both (is_whole r.status) (ap is_whole done) unwritten;
      failed = λ failed here steady. both r.in_place here unplaced;
      sunk = λ sunk. both (is_whole r.status) (ap is_whole sunk) unwritten;
      begins = none_begins Front (out (all_stopped trace));
      crash = none_lost;
      last = λ whole. both (is_whole r.status) whole unwritten;
      rising = none_rising;
      full = λ telling. none_full;
      spent = λ telling. none_spent;
      unrefused = λ telling within. ref;
      long = λ telling. none_long;
      counts = none_counted;
      short = λ memory began no. short memory began;
    }

module _ (old s : State) (found : ℕ → ℕ) (A : Attached old s s.frame.bytes found) (source : SourceUse) (status : Status) (U : IsRefused s source status) where
  unread_none : (cores : ℕ) → IsUnread source cores status → answers_none status ≡ true
  unread_none cores (inl u) = ap answers_none u.4 ∙ broken_none (input_of cores u.1) u.3
  unread_none cores (inr (inl u)) = ap answers_none u.0
  unread_none cores (inr (inr u)) = ap answers_none u

  refused_none : IsRefused s source status → answers_none status ≡ true
  refused_none (inl (inl u)) = ap answers_none u.1 ∙ fault_none u.0
  refused_none (inl (inr u)) = ap answers_none u
  refused_none (inr u) = unread_none u.0 u.2

  is_none : answers_none status ≡ true
  is_none = refused_none U

  pub apart_from : (other : Status) → answers_none other ≡ false → status ≡ other → ⊥
  apart_from other unlike e = both (answers_none other) (sym (ap answers_none e) ∙ is_none) unlike

  -- What a run that answered nothing promises, by the input that it read, if any.
  module _ (r : CommandReport) (is : r.status ≡ status) (fin : finishes_of r.finishes ≡ []) (ref : r.refusals.items ≡ []) (unbegun : r.began ≡ false) (cut : r.complete ≡ false) (unplaced : r.in_place ≡ false) (sink : SinkUse) (same : sink.now ≡ sink.before) (cores : ℕ) (input : List ℕ)
      (count : IsTelling s → cores ≡ found 2) (line : is_of_line r.status ≡ true → IsServed s found × IsReadOut source.coming source.left × (r.status ≡ status_of (input_of cores input))) (fault : r.status ≡ statuses.SourceFault → IsServed s found)
      (judged : IsTelling s → IsDue s.frame.bytes found input r.status ⊎ IsFault old s source sink r.status) where
    no_status : (other : Status) → answers_none other ≡ false → r.status ≡ other → ⊥
    no_status other unlike e = apart_from other unlike (sym is ∙ e)

    order : KeepsOrder old s found source cores input r
    order = record {
      untouched = λ not. A;
      read = fault;
      line = line;
      began = λ yes. both r.began yes unbegun;
      unbegun = λ quiet. unbegun;
      run = λ run. both (is_of_run r.status) run (ap is_of_run is ∙ (no_run status is_none).0);
      written = λ complete. both r.complete complete cut;
      whole = λ whole. both (is_whole r.status) whole (ap is_whole is ∙ (no_run status is_none).1);
    }

    in_order : GoesInOrder old s found source cores input sink r
    in_order = record {
      cores_are = λ n told. count (told_now old s found A r fin ref cut [] n told);
      order = order;
      due = judged;
    }

    serves : Serves (TakesReplies sink) (TakesFront sink) old s found (asked_in cores input) sink r
    serves = none_serves old s found A r fin ref cut (asked_in cores input) (TakesReplies sink) (TakesFront sink) sink (silent_front sink same) unplaced (ap is_whole is ∙ (no_run status is_none).1) (λ memory began. both r.began began unbegun)

    kept_order : GoesInOrder old s found source cores input sink r × Serves (TakesReplies sink) (TakesFront sink) old s found (asked_in cores input) sink r
    kept_order = (in_order, serves)

  unserved_due : IsUnserved s status → (input : List ℕ) → IsTelling s → (sink : SinkUse) → IsDue s.frame.bytes found input status ⊎ IsFault old s source sink status
  unserved_due (inl u) input telling sink = inl (u.1 ∙ sym (ap (due found input) (sym (found_fault old s found A telling) ∙ u.2 telling)))
  unserved_due (inr u) input telling sink = inr (inl u)

  unserved_line : IsUnserved s status → is_of_line status ≡ false
  unserved_line (inl u) = ap is_of_line u.1 ∙ fault_apart u.0
  unserved_line (inr u) = ap is_of_line u

  unserved_source : IsUnserved s status → status ≡ statuses.SourceFault → ⊥
  unserved_source (inl u) e = fault_no_source u.0 (sym u.1 ∙ e)
  unserved_source (inr u) e = cc (sym u ∙ e)

  pub refused_source : status ≡ statuses.SourceFault → Rose source.faults source.faults'
  refused_source e = by U where
    by : IsRefused s source status → Rose source.faults source.faults'
    by (inl u) = absurd (unserved_source u e)
    by (inr u) = elim u.2 [
      | inl x ↦ absurd (broken_no_source (input_of u.0 x.1) (sym x.4 ∙ e))
      | inr y ↦ elim y [ inl f ↦ f.1 | inr m ↦ absurd (memory_source (sym m ∙ e)) ]
    ]

  pub refused_serves : (r : CommandReport) → r.status ≡ status → finishes_of r.finishes ≡ [] → r.refusals.items ≡ [] → r.began ≡ false → r.complete ≡ false → r.in_place ≡ false → (sink : SinkUse) → sink.now ≡ sink.before
      → (input : List ℕ) × (cores : ℕ) × IsInput source.coming input × GoesInOrder old s found source cores input sink r × Serves (TakesReplies sink) (TakesFront sink) old s found (asked_in cores input) sink r
  refused_serves r is fin ref unbegun cut unplaced sink same = by U where
    in_status : (input : List ℕ) → IsDue s.frame.bytes found input status ⊎ IsFault old s source sink status → IsDue s.frame.bytes found input r.status ⊎ IsFault old s source sink r.status
    in_status input h = subst (λ st. IsDue s.frame.bytes found input st ⊎ IsFault old s source sink st) (sym is) h

    due_line : (cores : ℕ) (input : List ℕ) → IsSound s.frame.bytes found × (cores ≡ found 2) → status ≡ status_of (input_of cores input) → IsDue s.frame.bytes found input status
    due_line cores input h e = e ∙ ap (λ c. status_of (input_of c input)) h.1 ∙ sym (ap (due found input) h.0)

    by : IsRefused s source status → (input : List ℕ) × (cores : ℕ) × IsInput source.coming input × GoesInOrder old s found source cores input sink r × Serves (TakesReplies sink) (TakesFront sink) old s found (asked_in cores input) sink r
    by (inl u) =
        let input = some_input source.coming in
        let k = kept_order r is fin ref unbegun cut unplaced sink same (found 2) input.0 (λ telling. refl) (λ line. both (is_of_line r.status) line (ap is_of_line is ∙ unserved_line u)) (λ e. absurd (unserved_source u (sym is ∙ e)))
        (λ telling. in_status input.0 (unserved_due u input.0 telling sink)) in
        (input.0, found 2, input.1, k.0, k.1)
    by (inr (cores, counted, inl x)) =
        let k = kept_order r is fin ref unbegun cut unplaced sink same cores x.1 (λ telling. (served_by old s found A cores counted telling).1) (λ line. ((λ telling. (served_by old s found A cores counted telling).0), x.0, is ∙ x.4)) (λ e. absurd (broken_no_source (input_of cores x.1) (sym x.4 ∙ sym is ∙ e)))
        (λ telling. in_status x.1 (inl (due_line cores x.1 (served_by old s found A cores counted telling) x.4))) in
        (x.1, cores, x.2, k.0, k.1)
    by (inr (cores, counted, inr (inl f))) =
        let input = some_input source.coming in
        let k = kept_order r is fin ref unbegun cut unplaced sink same cores input.0 (λ telling. (served_by old s found A cores counted telling).1) (λ line. both (is_of_line r.status) line (ap is_of_line (is ∙ f.0))) (λ e telling. (served_by old s found A cores counted telling).0)
        (λ telling. in_status input.0 (inr (inr (inl f)))) in
        (input.0, cores, input.1, k.0, k.1)
    by (inr (cores, counted, inr (inr m))) =
        let input = some_input source.coming in
        let k = kept_order r is fin ref unbegun cut unplaced sink same cores input.0 (λ telling. (served_by old s found A cores counted telling).1) (λ line. both (is_of_line r.status) line (ap is_of_line (is ∙ m))) (λ e. absurd (memory_source (sym m ∙ sym is ∙ e)))
        (λ telling. in_status input.0 (inr (inl m))) in
        (input.0, cores, input.1, k.0, k.1)

  -- A run that was refused so didn't end with a fault of the region.
  pub refused_fault : (r : CommandReport) → r.status ≡ status → r.status ≡ statuses.RegionFault → ⊥
  refused_fault r is failed = apart_from statuses.RegionFault refl (sym is ∙ failed)

  pub refused_replays : (r : CommandReport) → r.status ≡ status → finishes_of r.finishes ≡ [] → r.refusals.items ≡ [] → r.began ≡ false → r.complete ≡ false → r.in_place ≡ false → (sink : SinkUse) → sink.now ≡ sink.before
      → (input : List ℕ) × (cores : ℕ) × IsInput source.coming input × Replays old s found source cores input sink r
  refused_replays r is fin ref unbegun cut unplaced sink same =
      let x = refused_serves r is fin ref unbegun cut unplaced sink same in
      (x.0, x.1, x.2, record { order = x.3; serves = x.4; kept_back = λ complete gone. same; ends = λ failed. absurd (refused_fault r is failed); run = λ complete. both r.complete complete cut; broke = λ began no. both r.began began unbegun })
