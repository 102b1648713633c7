-- From the last state of a run to what the program promises of it, whoever made the moves of its cores.
use Rattle.std.proofs.Common.{◌≡◌, ◌≢◌, ◌⊎◌, inl, inr, ℕ, zero, suc, ◌∷◌, ◌/◌, ◌<◌, ◌≤◌, List, [], ◌++◌, length, refl, sym, ◌∙◌, ap, subst, arith, true, false, Bool, Some, None, append-nil, map, take, ◌+◌, ◌%◌, length-append, Ok}
use Rattle.std.specs.List.{AllByRecursion, slice_get}
use Rattle.pm_region.specs.Cell.{Cell}
use Rattle.pm_region.specs.State.{State, IsTold, IsTelling, MayLeave, Rose, cell_now}
use Rattle.pm_region.specs.Split.{Attached, Stays}
use Rattle.pm_region.specs.Words.{lasts}
use Rattle.fs_model.specs.declared.model.Request.{Request}
use Rattle.fs_model.specs.declared.model.Reply.{Reply}
use Rattle.fs_model.specs.Changes.{cell_after_all, finished_by}
use Rattle.fs_model.specs.declared.model.Reply.TheVariants.{Full}
use Rattle.fs_model.specs.Lawful.{IsLawful, Fits, is_finish, is_told, is_stopped}
use Rattle.fs_text.specs.declared.line.Line.{Line}
use Rattle.fs_text.specs.Input.{input_of}
use Rattle.fs_text.specs.Streams.{IsReadOut}
use Rattle.log_entry.specs.declared.entry_limits.TheConstants.{LAST_PUT_VERSION}
use Rattle.chunk_map.specs.declared.layouts.Geometry.{Geometry}
use Rattle.chunk_map.specs.Layouts.{layout_of, superblock_rule, owner}
use Rattle.store_image.specs.Soundness.{IsSound, first_fault}
use Rattle.store_image.proofs.Clients.{cells_agree, fault_agrees, has_layout}
use Rattle.headline.specs.Headline.{Answers, Told, finished_in, refused_in, cells_of, Recovers, RecoversThroughout, RecoversAll, changes_in}
use Rattle.headline.specs.Kinds.{AreReplies}
use Rattle.headline.specs.Ample.{IsAmpleFor}
use Rattle.headline.specs.Limits.{IsAsked, version_of, changes_asked, is_too_long, IsWithinLimits}
use Rattle.core_room.specs.declared.types.Shortage.TheVariants.{Versions, Length}
use Rattle.engine_laws.specs.Engine.{Engine}
use Rattle.engine_laws.specs.Stands.{Origin, start_of}
use Rattle.engine_laws.specs.Promises.{IsOrigin, Promised, IsDone, HasStopped}
use Rattle.engine_laws.specs.Ceasing.{HasCeased}
use Rattle.engine_laws.specs.Reports.{told_of, replies_from, AllAnswered}
use Rattle.engine_core.specs.declared.run_outcome.End.{End}
use Rattle.engine_core.specs.declared.run_outcome.End.TheVariants as ends
use Rattle.engine_core.specs.Reports.{Listed, ReportsOn, ShowsWhy, told_by}
use Rattle.engine_core.specs.Answers.{reply_to}
use Rattle.engine_core.specs.declared.run_report.Refusal.{Refusal}
use Rattle.flatstore_commands.specs.Ends.{SourceUse, SinkUse, CountsFaults}
use Rattle.flatstore_commands.specs.LastStates.{told_in, AreRising, WindsDown}
use Rattle.flatstore_commands.specs.Ordering.{GoesInOrder, KeepsOrder, IsServed, due, IsDue, IsFault, status_of, is_broken, is_quiet, is_of_line, is_whole}
use Rattle.flatstore_commands.specs.Promise.{Says, Serves}
use Rattle.flatstore_commands.specs.Played.{EndsAs, is_ended}
use Rattle.flatstore_commands.specs.declared.report.Status.{Status}
use Rattle.flatstore_commands.specs.declared.report.Status.TheVariants as statuses
use Rattle.flatstore_commands.specs.declared.report.CommandReport.{CommandReport}
use Rattle.flatstore_commands.proofs.Attached.{found_words}
use Rattle.flatstore_commands.proofs.Agreeing as agreeing
use Rattle.flatstore_commands.proofs.Numbering.{all_map, rising}
use Rattle.flatstore_commands.proofs.Staying.{told_still, tells_still, leaves_still, leaves_now}
use Rattle.flatstore_commands.proofs.Causing.{HasCauses, full_of, spent_of, unrefused_of, long_of}
use Rattle.flatstore_commands.proofs.Texts.{both, small_sound}

-- what did not come to its end wanted memory
pub cut_end : (e : End) → is_ended e ≡ false → e ≡ ends.Memory
cut_end ends.Complete is = absurd (cc is)
cut_end ends.RegionFault is = absurd (cc is)
cut_end ends.Memory is = refl

-- a request keeps its number where more come behind
get_front : (xs ys : List Request) (n : ℕ) (q : Request) → slice_get xs n ≡ Some q → slice_get (xs ++ ys) n ≡ Some q
get_front [] ys n q e = absurd (cc e)
get_front (x ∷ xs) ys zero q e = e
get_front (x ∷ xs) ys (suc n) q e = get_front xs ys n q e

-- What is known of a run on a region that was attached, by the requests that were begun, whoever made the moves of its cores.
pub record Known (old : State) (found : ℕ → ℕ) (cores : ℕ) (trace : List Request) (o : Origin) (f : Engine) (end : End) (x : Listed) : Type 0 where
  pub attached : Attached old o.region o.region.frame.bytes found
  pub low : old.faults ≤ o.region.faults
  pub kept : o.region.faults ≤ f.region.faults
  pub origin : IsOrigin o
  pub words : IsTelling o.region → (w : ℕ) → w < o.region.frame.bytes / 8 → o.found w ≡ lasts o.region w
  pub count : (layout_of o.found).cores ≡ cores
  -- the region at the end is as long, tells nothing that it didn't tell then, and a crash leaves nothing else of it
  pub was : (n : ℕ) → IsTold f.region n → IsTelling o.region
  pub bytes : f.region.frame.bytes ≡ o.region.frame.bytes
  pub leaves : (cells : ℕ → Cell) (image : ℕ → ℕ) → MayLeave f.region.frame cells image → MayLeave o.region.frame cells image
  pub promised : Promised o f
  pub more : List Request
  pub given : trace ≡ f.given ++ more
  pub all_given : end ≢ ends.Memory → more ≡ []
  pub reports : ReportsOn f.region o f x
  pub done : end ≢ ends.Memory → IsDone o f
  pub fault : end ≡ ends.RegionFault → HasStopped f
  pub whole : end ≡ ends.Complete → (c : ℕ) → c < f.layout.cores → f.stopped c ≡ false
  pub ceased : end ≡ ends.Memory → HasCeased f
  pub causes : HasCauses o.found (f.given ++ more) f.answer

-- The region says what it said in the last state, but for its counts.
module _ (old t : State) (found : ℕ → ℕ) (cores : ℕ) (trace : List Request) (o : Origin) (f : Engine) (end : End) (x : Listed) (K : Known old found cores trace o f end x)
    (still : Stays f.region t) (later : (n : ℕ) → n ≤ f.region.faults → Rose n f.region.faults → Rose n t.faults) where
  abbrev s : State
  s = o.region

  abbrev bytes : ℕ
  bytes = s.frame.bytes

  attached : Attached old s bytes found
  attached = K.attached

  telling_then : IsTelling t → IsTelling s
  telling_then telling = K.was t.stamp (told_still f.region t still t.stamp telling)

  bytes_then : t.frame.bytes ≡ bytes
  bytes_then = still.bytes ∙ K.bytes

  -- The words that were read are those found, where the region tells.
  pub words_found : IsTelling s → (w : ℕ) → w < bytes / 8 → o.found w ≡ found w
  words_found telling w lt = K.words telling w lt ∙ found_words old s found attached (small_sound bytes o.found K.origin.sound) telling w lt

  rule : superblock_rule bytes o.found ≡ None
  rule = has_layout bytes o.found K.origin.sound

  start_is : IsTelling s → cells_of found ≡ start_of o
  start_is telling = (λ i k. cells_agree bytes found o.found (λ w lt. sym (words_found telling w lt)) rule k i)

  sound_found : IsTelling s → IsSound bytes found
  sound_found telling = fault_agrees bytes found o.found (λ w lt. sym (words_found telling w lt)) ∙ K.origin.sound

  layout_is : IsTelling s → layout_of found ≡ layout_of o.found
  layout_is telling = agreeing.layout_agrees bytes found o.found (λ w lt. sym (words_found telling w lt)) rule

  pub cores_found : IsTelling s → cores ≡ found 2
  cores_found telling = sym K.count ∙ sym (ap (λ (l : Geometry). l.cores) (layout_is telling))

  pub served : IsServed t found
  served telling = subst (λ n. IsSound n found) (sym bytes_then) (sound_found (telling_then telling))

  trace_is : trace ≡ f.given ++ K.more
  trace_is = K.given

  -- of a report on it, and what was written
  module _ (All Front : List Reply → Type 0) (sink : SinkUse) (silent : sink.now ≡ sink.before → (replies : List Reply) → Front replies) (r : CommandReport) (W : EndsAs (All x.replies) (Front x.replies) end sink r.in_place r.status)
      (front : Front x.replies) (held : is_ended end ≡ false → (sink.now ≡ sink.before) ⊎ (K.more ≡ []))
      (lost : r.complete ≡ true → r.in_place ≡ false → Rose old.faults t.faults) (unasked : r.complete ≡ false → f.region ≡ t) (report_told : told_in r ≡ told_by x) (report_refused : r.refusals.items ≡ x.refusals) (report_began : r.began ≡ true) (report_complete : r.complete ≡ is_ended end) where
    pub told_is : told_in r ≡ told_of f
    told_is = report_told ∙ K.reports.told_is

    -- Replies of the state are replies to the input, by the cells found.
    said_of : (MayStop May : Type 0) (replies : List Reply) → Answers (IsTelling f.region) (start_of o) (f.given ++ K.more) (told_of f) May replies → (May → MayStop) → Answers (IsTelling t) (cells_of found) trace (told_in r) MayStop replies
    said_of MayStop May replies a to = record {
      each = subst (λ q. AreReplies q replies) (sym trace_is) a.each;
      lawful = λ telling. subst (λ q. IsLawful (cells_of found) q replies) (sym trace_is) (subst (λ c. IsLawful c (f.given ++ K.more) replies) (sym (start_is (telling_then telling))) (a.lawful (tells_still f.region t still telling)));
      fits = subst (λ (z : Told). Fits (finished_in z) z.refusals replies) (sym told_is) a.fits;
      stops = all_map (λ y. is_stopped y ≡ true → May) (λ y. is_stopped y ≡ true → MayStop) (λ y h stopped. to (h stopped)) replies a.stops;
    }

    risen : HasStopped f → Rose old.faults t.faults
    risen h =
        let c = K.promised.cause h in
        let low = K.low in
        let kept = K.kept in
        later old.faults (omega (arith, low, kept)) (omega (arith, c, low))

    abbrev FrontMayStop : Type 0
    FrontMayStop = r.complete ≡ true → Rose old.faults t.faults

    pub ended : is_ended end ≡ true → end ≢ ends.Memory
    ended is m = both (is_ended end) is (ap is_ended m)

    completed : end ≡ ends.Complete → end ≢ ends.Memory
    completed e m = cc (sym e ∙ m)

    faulted : end ≡ ends.RegionFault → end ≢ ends.Memory
    faulted e m = cc (sym e ∙ m)

    never : end ≡ ends.Complete → HasStopped f → ⊥
    never e h = both (f.stopped h.0) h.2 (K.whole e h.0 h.1)

    -- of a run that came to its end
    module _ (not_cut : end ≢ ends.Memory) where
      given_all : f.given ++ K.more ≡ f.given
      given_all = ap (λ m. f.given ++ m) (K.all_given not_cut) ∙ append-nil f.given

      said_whole : (MayStop : Type 0) → (HasStopped f → MayStop) → Answers (IsTelling t) (cells_of found) trace (told_in r) MayStop x.replies
      said_whole MayStop to = said_of MayStop (AllAnswered f → HasStopped f) x.replies
          (subst (λ q. Answers (IsTelling f.region) (start_of o) q (told_of f) (AllAnswered f → HasStopped f) x.replies) (sym given_all) K.reports.answers) (λ h. to (h (K.done not_cut).answered))

      text_of : (MayStop : Type 0) → (HasStopped f → MayStop) → All x.replies → Says All (IsTelling t) (cells_of found) trace (told_in r) MayStop
      text_of MayStop to out = (x.replies, said_whole MayStop to, out)

      front_of : (MayStop : Type 0) → (HasStopped f → MayStop) → Front x.replies → Says Front (IsTelling t) (cells_of found) trace (told_in r) MayStop
      front_of MayStop to out = (x.replies, said_whole MayStop to, out)

    abbrev Beginning : Type 0
    Beginning = Says Front (IsTelling t) (cells_of found) trace (told_in r) FrontMayStop

    -- of a run that didn't, each request without an answer counts as one that is stopped
    cut_front : is_ended end ≡ false → sink.now ≡ sink.before → Beginning
    cut_front cut same = (
      replies_from f.answer 0 (length (f.given ++ K.more)),
      said_of FrontMayStop (AllAnswered f → K.more ≡ [] → HasStopped f) (replies_from f.answer 0 (length (f.given ++ K.more))) (K.promised.replies K.more) (λ any complete. both r.complete complete (report_complete ∙ cut)),
      silent same (replies_from f.answer 0 (length (f.given ++ K.more))),
    )

    -- also where a part of it went out, and all were given
    cut_text : is_ended end ≡ false → K.more ≡ [] → Beginning
    cut_text cut none = (
      x.replies,
      said_of FrontMayStop (AllAnswered f → HasStopped f) x.replies
          (subst (λ q. Answers (IsTelling f.region) (start_of o) q (told_of f) (AllAnswered f → HasStopped f) x.replies) (sym (ap (λ m. f.given ++ m) none ∙ append-nil f.given)) K.reports.answers)
          (λ any complete. both r.complete complete (report_complete ∙ cut)),
      front,
    )

    begun : (ended_is : Bool) → is_ended end ≡ ended_is → Beginning
    begun true is = front_of (ended is) FrontMayStop (λ h complete. risen h) front
    begun false cut = elim (held cut) [ inl same ↦ cut_front cut same | inr none ↦ cut_text cut none ]

    -- the statuses that it cannot have
    no_status : (Q : Status → Bool) → Q statuses.Done ≡ false → Q statuses.RegionFault ≡ false → Q statuses.SinkFault ≡ false → Q statuses.Memory ≡ false → Q r.status ≡ true → ⊥
    no_status Q done failed sunk memory is = by r.in_place W where
      by : (p : Bool) → EndsAs (All x.replies) (Front x.replies) end sink p r.status → ⊥
      by true (inl w, any) = both (Q r.status) is (ap Q w.0 ∙ done)
      by true (inr (inl w), any) = both (Q r.status) is (ap Q w.0 ∙ failed)
      by true (inr (inr (inl w)), any) = both (Q r.status) is (ap Q w.0 ∙ sunk)
      by true (inr (inr (inr w)), any) = both (Q r.status) is (ap Q w.0 ∙ memory)
      by false (inl cut) = both (Q r.status) is (ap Q cut.0 ∙ memory)
      by false (inr out) = both (Q r.status) is (ap Q out.0 ∙ failed)

    written : r.status ≡ statuses.Done → Says All (IsTelling t) (cells_of found) trace (told_in r) ⊥ × (sink.flushed ≡ true)
    written done = by r.in_place W where
      by : (p : Bool) → EndsAs (All x.replies) (Front x.replies) end sink p r.status → Says All (IsTelling t) (cells_of found) trace (told_in r) ⊥ × (sink.flushed ≡ true)
      by true (inl w, any) = (text_of (completed w.1) ⊥ (never w.1) w.2, w.3)
      by true (inr (inl w), any) = cc (sym done ∙ w.0)
      by true (inr (inr (inl w)), any) = cc (sym done ∙ w.0)
      by true (inr (inr (inr w)), any) = cc (sym done ∙ w.0)
      by false (inl cut) = cc (sym done ∙ cut.0)
      by false (inr out) = cc (sym done ∙ out.0)

    written_failed : r.status ≡ statuses.RegionFault → r.in_place ≡ true → (Rose sink.faults sink.faults' → ⊥) → Says All (IsTelling t) (cells_of found) trace (told_in r) (Rose old.faults t.faults) × (sink.flushed ≡ true)
    written_failed failed here steady = by r.in_place here W where
      by : (p : Bool) → p ≡ true → EndsAs (All x.replies) (Front x.replies) end sink p r.status → Says All (IsTelling t) (cells_of found) trace (told_in r) (Rose old.faults t.faults) × (sink.flushed ≡ true)
      by true is (inl w, any) = cc (sym failed ∙ w.0)
      by true is (inr (inl w), any) = elim w.2 [
        | inl all ↦ (text_of (faulted w.1) (Rose old.faults t.faults) risen all.0, all.1)
        | inr some ↦ absurd (steady some.0)
      ]
      by true is (inr (inr (inl w)), any) = cc (sym failed ∙ w.0)
      by true is (inr (inr (inr w)), any) = cc (sym failed ∙ w.0)
      by false is any = cc is

    written_sunk : r.status ≡ statuses.SinkFault → Says Front (IsTelling t) (cells_of found) trace (told_in r) ⊥
    written_sunk sunk = by r.in_place W where
      by : (p : Bool) → EndsAs (All x.replies) (Front x.replies) end sink p r.status → Says Front (IsTelling t) (cells_of found) trace (told_in r) ⊥
      by true (inl w, any) = cc (sym sunk ∙ w.0)
      by true (inr (inl w), any) = cc (sym sunk ∙ w.0)
      by true (inr (inr (inl w)), any) = front_of (completed w.1) ⊥ (never w.1) w.3
      by true (inr (inr (inr w)), any) = cc (sym sunk ∙ w.0)
      by false (inl cut) = cc (sym sunk ∙ cut.0)
      by false (inr out) = cc (sym sunk ∙ out.0)

    whole_ends : is_whole r.status ≡ true → end ≡ ends.Complete
    whole_ends whole = by r.in_place W where
      by : (p : Bool) → EndsAs (All x.replies) (Front x.replies) end sink p r.status → end ≡ ends.Complete
      by true (inl w, any) = w.1
      by true (inr (inl w), any) = both (is_whole r.status) whole (ap is_whole w.0)
      by true (inr (inr (inl w)), any) = w.1
      by true (inr (inr (inr w)), any) = both (is_whole r.status) whole (ap is_whole w.0)
      by false (inl cut) = both (is_whole r.status) whole (ap is_whole cut.0)
      by false (inr out) = both (is_whole r.status) whole (ap is_whole out.0)

    -- Where the region was in its place, the run came to its end; where it was not, though the run did, that was a fault.
    asked_then : r.in_place ≡ true → r.complete ≡ true
    asked_then here = by r.in_place here W where
      by : (p : Bool) → p ≡ true → EndsAs (All x.replies) (Front x.replies) end sink p r.status → r.complete ≡ true
      by true is w = report_complete ∙ w.1
      by false is w = cc is

    kept_back : r.complete ≡ true → r.in_place ≡ false → r.status ≡ statuses.RegionFault
    kept_back complete gone = by r.in_place gone W where
      by : (p : Bool) → p ≡ false → EndsAs (All x.replies) (Front x.replies) end sink p r.status → r.status ≡ statuses.RegionFault
      by true is w = cc (sym is)
      by false is (inl cut) = both r.complete complete (report_complete ∙ cut.1)
      by false is (inr out) = out.0

    -- a fault of the region that was counted
    failed_rose : r.status ≡ statuses.RegionFault → Rose old.faults t.faults
    failed_rose failed = by r.in_place refl W where
      by : (p : Bool) → r.in_place ≡ p → EndsAs (All x.replies) (Front x.replies) end sink p r.status → Rose old.faults t.faults
      by true is (inl w, any) = cc (sym failed ∙ w.0)
      by true is (inr (inl w), any) = risen (K.fault w.1)
      by true is (inr (inr (inl w)), any) = cc (sym failed ∙ w.0)
      by true is (inr (inr (inr w)), any) = cc (sym failed ∙ w.0)
      by false is (inl cut) = cc (sym failed ∙ cut.0)
      by false is (inr out) = lost (report_complete ∙ out.1) is

    crash_then : RecoversThroughout t (cells_of found) trace (told_in r)
    crash_then n told image may =
        let stamp = attached.stamp in
        let before : IsTold f.region n = told_still f.region t still n told in
        let telling : IsTelling s = K.was n before in
        let here : MayLeave s.frame (f.region.cells n) image = K.leaves (f.region.cells n) image (leaves_still f.region t still n image may) in
        let shown = K.promised.crash K.more n before (omega (arith, stamp)) image here in
        subst (λ z. Recovers t.frame.bytes (cells_of found) trace z (λ k. finished_by k trace z.finishes n) image) (sym told_is)
        (subst (λ q. Recovers t.frame.bytes (cells_of found) q (told_of f) (λ k. finished_by k q (told_of f).finishes n) image) (sym trace_is)
        (subst (λ c. Recovers t.frame.bytes c (f.given ++ K.more) (told_of f) (λ k. finished_by k (f.given ++ K.more) (told_of f).finishes n) image) (sym (start_is telling))
        (subst (λ m. Recovers m (start_of o) (f.given ++ K.more) (told_of f) (λ k. finished_by k (f.given ++ K.more) (told_of f).finishes n) image) (sym bytes_then) shown)))

    recovers_all : is_whole r.status ≡ true → RecoversAll t (cells_of found) trace (told_in r)
    recovers_all whole telling image may k small =
        let e = whole_ends whole in
        let here : MayLeave s.frame (cell_now f.region) image = K.leaves (cell_now f.region) image (leaves_now f.region t still image may) in
        let start : start_of o ≡ cells_of found = sym (start_is (telling_then telling)) in
        let qs : f.given ≡ trace = sym (given_all (completed e)) ∙ sym trace_is in
        let told : told_of f ≡ told_in r = sym told_is in
        K.promised.last (K.done (completed e)).answered (K.whole e) (tells_still f.region t still telling) image here k ∙ (λ i. cell_after_all (changes_in (start i) (qs i) (told i) k) (start i k))

    -- The causes of refusals, by the words found.
    module _ (telling : IsTelling t) where
      abbrev l : Geometry
      l = layout_of found

      rule_found : superblock_rule bytes found ≡ None
      rule_found = has_layout bytes found (sound_found (telling_then telling))

      some_cores : 1 ≤ l.cores
      some_cores = (agreeing.is bytes found found (λ w lt. refl) rule_found).cores

      causes_found : HasCauses found trace f.answer
      causes_found =
          let C = subst (λ q. HasCauses o.found q f.answer) (sym trace_is) K.causes in
          let same = words_found (telling_then telling) in
          let layout = layout_is (telling_then telling) in
          record {
            full = λ n k a is why asked ample. C.full n k a is why asked
                (subst (λ c. IsAmpleFor (layout_of o.found) o.found trace c) (ap (λ m. owner m k) layout) (agreeing.ample_agrees bytes o.found found same rule_found trace (owner l k) (below k) ample));
            spent = λ n a is why k asked. let more = C.spent n a is why k asked in let version = agreeing.version_agrees bytes o.found found same rule_found k in omega (arith, more, version);
            kinds = C.kinds;
            long = λ n a is why q asked. ap (λ m. is_too_long m q) layout ∙ C.long n a is why q asked;
          }
        where
          below : (k : ℕ) → k % l.cores < l.cores
          below k = let c = some_cores in omega (arith, c)

      abbrev told_refused : map (λ (y : Refusal). (y.request, reply_to y.why)) r.refusals.items ≡ (told_of f).refusals
      told_refused = ap (λ (z : Told). z.refusals) told_is

      within : length f.given ≤ length trace
      within = let sum = length-append f.given K.more in let all = ap length trace_is in omega (arith, sum, all)

      pub full_then : AllByRecursion (λ (y : Refusal). reply_to y.why ≡ Full → (k : ℕ) → IsAsked trace y.request k → IsAmpleFor l found trace (owner l k) → ⊥) r.refusals.items
      full_then = full_of found trace f.answer causes_found (length f.given) within r.refusals.items told_refused some_cores

      pub spent_then : AllByRecursion (λ (y : Refusal). (last : ℕ) → y.why ≡ Versions last → (k : ℕ) → IsAsked trace y.request k → LAST_PUT_VERSION ≤ version_of found k + changes_asked k (take y.request trace)) r.refusals.items
      spent_then = spent_of found trace f.answer causes_found (length f.given) within r.refusals.items told_refused some_cores

      pub unrefused_then : IsWithinLimits found trace → r.refusals.items ≡ []
      unrefused_then = unrefused_of found trace f.answer causes_found (length f.given) within r.refusals.items told_refused some_cores

      pub long_then : AllByRecursion (λ (y : Refusal). (n : ℕ) → y.why ≡ Length n → (q : Request) → slice_get trace y.request ≡ Some q → is_too_long l q ≡ true) r.refusals.items
      long_then = long_of found trace f.answer causes_found (length f.given) within r.refusals.items told_refused some_cores

    -- The refusals are those of requests of the input.
    counts_then : AllByRecursion (ShowsWhy trace) r.refusals.items
    counts_then = subst (AllByRecursion (ShowsWhy trace)) (sym report_refused)
        (subst (λ q. AllByRecursion (ShowsWhy q) x.refusals) (sym trace_is) (all_map (ShowsWhy f.given) (ShowsWhy (f.given ++ K.more)) (λ y why. (why.0, get_front f.given K.more y.request why.0 why.1, why.2)) x.refusals K.reports.counts))

    -- there was no memory before the end
    short_then : r.complete ≡ false → WindsDown t r
    short_then cut = record { state = f; region = unasked cut; ceased = K.ceased (cut_end end (sym report_complete ∙ cut)); told_is = told_is }

    pub serves : Serves All Front old t found trace sink r
    serves = record {
      asked = asked_then;
      astray = kept_back;
      done = written;
      failed = written_failed;
      sunk = written_sunk;
      begins = begun (is_ended end) refl;
      crash = λ sound. crash_then;
      last = recovers_all;
      rising = subst (λ (z : Told). AreRising (finished_in z) × AreRising (refused_in z)) (sym told_is) (rising is_finish (λ a. a.stamp) f.answer 0 (length f.given), rising is_told (λ a. a.reply) f.answer 0 (length f.given));
      full = full_then;
      spent = spent_then;
      unrefused = unrefused_then;
      long = long_then;
      counts = counts_then;
      short = λ memory began cut. short_then cut;
    }

    -- Each fault that the status tells was counted.
    pub counts_faults : (source : SourceUse) → CountsFaults old t source sink r.status
    counts_faults source = record {
      source_fault = λ is. absurd (no_status is_quiet refl refl refl refl (ap is_quiet is));
      sink_fault = sunk_rose;
      region_fault = failed_rose;
    } where
      sunk_rose : r.status ≡ statuses.SinkFault → Rose sink.faults sink.faults'
      sunk_rose sunk = by r.in_place W where
        by : (p : Bool) → EndsAs (All x.replies) (Front x.replies) end sink p r.status → Rose sink.faults sink.faults'
        by true (inl w, any) = cc (sym sunk ∙ w.0)
        by true (inr (inl w), any) = cc (sym sunk ∙ w.0)
        by true (inr (inr (inl w)), any) = w.2
        by true (inr (inr (inr w)), any) = cc (sym sunk ∙ w.0)
        by false (inl cut) = cc (sym sunk ∙ cut.0)
        by false (inr out) = cc (sym sunk ∙ out.0)

    -- A call of the region that failed doesn't keep it from its end.
    pub ends_then : r.status ≡ statuses.RegionFault → r.complete ≡ true
    ends_then failed = by r.in_place W where
      by : (p : Bool) → EndsAs (All x.replies) (Front x.replies) end sink p r.status → r.complete ≡ true
      by true w = report_complete ∙ w.1
      by false (inl cut) = cc (sym failed ∙ cut.0)
      by false (inr out) = report_complete ∙ out.1

    -- by the input whose requests they are
    module _ (source : SourceUse) (input : List ℕ) (lines : List Line) (good : input_of cores input ≡ Ok lines) (read_out : IsReadOut source.coming source.left) where
      order : KeepsOrder old t found source cores input r
      order = record {
        untouched = λ no. both r.began report_began no;
        read = λ is. absurd (no_status is_quiet refl refl refl refl (ap is_quiet is));
        line = λ is. absurd (no_status is_of_line refl refl refl refl is);
        began = λ yes. (served, read_out, ap is_broken good);
        unbegun = λ quiet. absurd (no_status is_quiet refl refl refl refl quiet);
        run = λ is. report_began;
        written = λ complete. report_began;
        whole = λ whole. report_complete ∙ ap is_ended (whole_ends whole);
      }

      -- the status that is due
      due_of : IsTelling t → IsDue t.frame.bytes found input r.status ⊎ IsFault old t source sink r.status
      due_of telling = by r.in_place W where
        by : (p : Bool) → EndsAs (All x.replies) (Front x.replies) end sink p r.status → IsDue t.frame.bytes found input r.status ⊎ IsFault old t source sink r.status
        by true (inl w, any) =
            let sound : first_fault t.frame.bytes found ≡ None = served telling in
            inl (w.0 ∙ sym (ap (due found input) sound ∙ ap (λ c. status_of (input_of c input)) (sym (cores_found (telling_then telling))) ∙ ap status_of good))
        by true (inr (inl w), any) = inr (inr (inr (inr (w.0, failed_rose w.0))))
        by true (inr (inr (inl w)), any) = inr (inr (inr (inl (w.0, w.2))))
        by true (inr (inr (inr w)), any) = inr (inl w.0)
        by false (inl cut) = inr (inl cut.0)
        by false (inr out) = inr (inr (inr (inr (out.0, failed_rose out.0))))

      pub in_order : GoesInOrder old t found source cores input sink r
      in_order = record {
        cores_are = λ n told. cores_found (K.was n (told_still f.region t still n told));
        order = order;
        due = due_of;
      }
