-- From what became of the input of an audit to what the program promises.
use Rattle.std.specs.Prelude.{IfErr}
use Rattle.std.proofs.Common.{◌≡◌, ◌⊎◌, inl, inr, ℕ, ◌/◌, List, [], append-nil, sym, ◌∙◌, ap, subst, refl, true, false, Bool, Option, Some, None, Result, Ok, Err}
use Rattle.pm_region.specs.Snapshots.{IsSnapshot}
use Rattle.pm_region.specs.State.{State, Frame, InRange, IsTelling, Rose}
use Rattle.pm_region.specs.Split.{Attached}
use Rattle.pm_region.specs.Words.{lasts}
use Rattle.fs_model.specs.declared.model.Pair.{Pair}
use Rattle.fs_model.specs.declared.model.Request.{Request}
use Rattle.fs_model.specs.declared.model.Reply.{Reply}
use Rattle.fs_text.specs.Streams.{Takes, TakesPrefix, IsReadOut}
use Rattle.store_image.specs.declared.types.Fault.{Fault}
use Rattle.store_image.specs.declared.types.Fault.TheVariants as faults
use Rattle.store_image.specs.Listing.{ListsCells}
use Rattle.store_image.specs.Soundness.{IsSound, first_fault}
use Rattle.headline.specs.Headline.{cells_of}
use Rattle.recover.specs.declared.types.Recovered.{Recovered}
use Rattle.recover.specs.Regions.{Covers}
use Rattle.recover.specs.Recovering.{IsFound}
use Rattle.chunk_map.specs.Layouts.{total_bytes}
use Rattle.chunk_map.specs.declared.layouts.Geometry.{Geometry}
use Rattle.engine_core.specs.RunStarts.{StandsAsFound}
use Rattle.run_audit.specs.FirstFault.{Judges, cells_in}
use Rattle.run_audit.specs.Replies.{audit_input_of}
use Rattle.run_audit.specs.VerdictText.{verdict_text}
use Rattle.run_audit.specs.declared.audit_input.AuditInput.{AuditInput}
use Rattle.run_audit.specs.declared.verdict.Verdict.{Verdict}
use Rattle.flatstore_commands.specs.Audits.{AuditsBy, IsVerdict, IsVerdictText, IsJudged, IsUnjudged, IsUnreadAudit, IsReadAudit, input_status, is_bad_input, due_by}
use Rattle.flatstore_commands.specs.Ends.{CountsFaults, SourceUse, SinkUse}
use Rattle.flatstore_commands.specs.Ordering.{IsServed, IsFault, is_of_line, is_of_region}
use Rattle.flatstore_commands.specs.Played.{IsCounted, IsUnserved}
use Rattle.flatstore_commands.specs.Promise.{IsInput}
use Rattle.flatstore_commands.specs.Shows.{HasShown, WritesText, BeginsText, is_of_writing}
use Rattle.flatstore_commands.specs.Statuses.{fault_status}
use Rattle.flatstore_commands.specs.declared.report.Status.{Status}
use Rattle.flatstore_commands.specs.declared.report.Status.TheVariants as statuses
use Rattle.flatstore_commands.specs.declared.report.CommandReport.{CommandReport}
use Rattle.flatstore_commands.proofs.Attached.{found_fault, found_last}
use Rattle.flatstore_commands.proofs.Refused.{served_by, some_input}
use Rattle.flatstore_commands.proofs.Standing.{counted_by}

pub both : (b : Bool) {P : Type 0} → b ≡ true → b ≡ false → P
both b t f = cc (sym t ∙ f)

-- ---- what was recovered serves as a start
pub covers : (s : State) (word : ℕ → ℕ) (r : Recovered) → StandsAsFound s word r → (view : State) → IsSnapshot s word view → Covers view.frame r.layout
covers s word r S view V = subst (λ (f : Frame). Covers f r.layout) (sym V.frame) (record {
  layout = S.made.layout;
  first = S.first;
  words = S.words ∙ ap (λ b. b / 8) (sym S.made.total);
})

pub found_read : (s : State) (word : ℕ → ℕ) (r : Recovered) → StandsAsFound s word r → (view : State) → IsSnapshot s word view → IsTelling view → IsFound (total_bytes r.layout) (lasts view) r
found_read s word r S view V telling =
    let same : lasts view ≡ word = (λ i w. V.lasts_are w i) in
    subst (λ b. IsFound b (lasts view) r) (sym S.made.total) (subst (λ (f : ℕ → ℕ). IsFound s.frame.bytes f r) (sym same) S.found)

-- word 2 is the number of cores
pub cores_read : (s : State) (word : ℕ → ℕ) (r : Recovered) → StandsAsFound s word r → (cores : ℕ) → cores ≡ r.layout.cores → cores ≡ word 2
cores_read s word r S cores is = is ∙ ap (λ (l : Geometry). l.cores) S.found.is_of.layout_is

pub counted_read : (s : State) (word : ℕ → ℕ) (tells : (w : ℕ) → IsTelling s → lasts s w ≡ word w) (r : Recovered) → StandsAsFound s word r → IsCounted s (word 2)
counted_read s word tells r S = counted_by s word tells r S (word 2) (sym (ap (λ (l : Geometry). l.cores) S.found.is_of.layout_is))

pub is_judged : (s : State) (word : ℕ → ℕ) (source : SourceUse) (cores : ℕ) (x : AuditInput) (pairs : List Pair) (verdict : Verdict) → IsCounted s (word 2) → cores ≡ word 2 → IsReadAudit source cores x
    → ListsCells (cells_of word) pairs → Judges (cells_in pairs) x.trace.items x.replies.items verdict → IsJudged s word source verdict
is_judged s word source cores x pairs verdict counted is read lists judges = record {
  counted = counted;
  whole = read.whole;
  input = read.input;
  is_input = read.is_input;
  verdict_is = (
    (x.trace.items, x.replies.items),
    ap (λ c. audit_input_of c read.input) (sym is) ∙ read.good,
    (let same : cells_in pairs ≡ cells_of word = (λ i k. lists.each k i) in subst (λ (f : ℕ → Option (List ℕ)). Judges f x.trace.items x.replies.items verdict) same judges),
  );
}

-- ---- statuses
fault_line : (fault : Fault) → is_of_line (fault_status fault) ≡ false
fault_line (faults.NotARegion rule) = refl
fault_line (faults.Damaged part chunk rule) = refl

fault_writing : (fault : Fault) → is_of_writing (fault_status fault) ≡ false
fault_writing (faults.NotARegion rule) = refl
fault_writing (faults.Damaged part chunk rule) = refl

fault_region : (fault : Fault) → fault_status fault ≡ statuses.RegionFault → ⊥
fault_region (faults.NotARegion rule) e = cc e
fault_region (faults.Damaged part chunk rule) e = cc e

fault_source : (fault : Fault) → fault_status fault ≡ statuses.SourceFault → ⊥
fault_source (faults.NotARegion rule) e = cc e
fault_source (faults.Damaged part chunk rule) e = cc e

fault_usage : (fault : Fault) → fault_status fault ≡ statuses.Usage → ⊥
fault_usage (faults.NotARegion rule) e = cc e
fault_usage (faults.Damaged part chunk rule) e = cc e

bad_writing : (i : Result (List Request × List Reply) (ℕ × ℕ)) → is_bad_input i ≡ true → is_of_writing (input_status i) ≡ false
bad_writing (Ok x) h = cc h
bad_writing (Err (line, rule)) h = refl

bad_region : (i : Result (List Request × List Reply) (ℕ × ℕ)) → input_status i ≡ statuses.RegionFault → ⊥
bad_region (Ok x) e = cc e
bad_region (Err (line, rule)) e = cc e

bad_source : (i : Result (List Request × List Reply) (ℕ × ℕ)) → input_status i ≡ statuses.SourceFault → ⊥
bad_source (Ok x) e = cc e
bad_source (Err (line, rule)) e = cc e

bad_usage : (i : Result (List Request × List Reply) (ℕ × ℕ)) → input_status i ≡ statuses.Usage → ⊥
bad_usage (Ok x) e = cc e
bad_usage (Err (line, rule)) e = cc e

bad_apart : (i : Result (List Request × List Reply) (ℕ × ℕ)) → is_of_region (input_status i) ≡ false
bad_apart (Ok x) = refl
bad_apart (Err (line, rule)) = refl

done_line : is_of_line statuses.Done ≡ false
done_line = refl

pub unread_apart : (source : SourceUse) (cores : ℕ) (status : Status) → IsUnreadAudit source cores status → is_of_region status ≡ false
unread_apart source cores status (inl u) = ap is_of_region u.4 ∙ bad_apart (audit_input_of cores u.1)
unread_apart source cores status (inr (inl u)) = ap is_of_region u.0
unread_apart source cores status (inr (inr u)) = ap is_of_region u

-- an audit that came to no verdict ends with none of these statuses
module _ (s : State) (word : ℕ → ℕ) (source : SourceUse) (status : Status) where
  pub unjudged_source : IsUnjudged s word source status → status ≡ statuses.SourceFault → Rose source.faults source.faults'
  unjudged_source (inl (inl (fault, is, told))) e = absurd (fault_source fault (sym is ∙ e))
  unjudged_source (inl (inr m)) e = absurd (apart (sym m ∙ e)) where
    apart : statuses.Memory ≡ statuses.SourceFault → ⊥
    apart q = cc q
  unjudged_source (inr (counted, inl u)) e = absurd (bad_source (audit_input_of (word 2) u.1) (sym u.4 ∙ e))
  unjudged_source (inr (counted, inr (inl f))) e = f.1
  unjudged_source (inr (counted, inr (inr m))) e = absurd (apart (sym m ∙ e)) where
    apart : statuses.Memory ≡ statuses.SourceFault → ⊥
    apart q = cc q

  pub unjudged_region : IsUnjudged s word source status → status ≡ statuses.RegionFault → ⊥
  unjudged_region (inl (inl (fault, is, told))) e = fault_region fault (sym is ∙ e)
  unjudged_region (inl (inr m)) e = cc (sym m ∙ e)
  unjudged_region (inr (counted, inl u)) e = bad_region (audit_input_of (word 2) u.1) (sym u.4 ∙ e)
  unjudged_region (inr (counted, inr (inl f))) e = cc (sym f.0 ∙ e)
  unjudged_region (inr (counted, inr (inr m))) e = cc (sym m ∙ e)

  pub unjudged_usage : IsUnjudged s word source status → status ≡ statuses.Usage → ⊥
  unjudged_usage (inl (inl (fault, is, told))) e = fault_usage fault (sym is ∙ e)
  unjudged_usage (inl (inr m)) e = cc (sym m ∙ e)
  unjudged_usage (inr (counted, inl u)) e = bad_usage (audit_input_of (word 2) u.1) (sym u.4 ∙ e)
  unjudged_usage (inr (counted, inr (inl f))) e = cc (sym f.0 ∙ e)
  unjudged_usage (inr (counted, inr (inr m))) e = cc (sym m ∙ e)

  pub unjudged_writing : IsUnjudged s word source status → is_of_writing status ≡ false
  unjudged_writing (inl (inl (fault, is, told))) = ap is_of_writing is ∙ fault_writing fault
  unjudged_writing (inl (inr m)) = ap is_of_writing m
  unjudged_writing (inr (counted, inl u)) = ap is_of_writing u.4 ∙ bad_writing (audit_input_of (word 2) u.1) u.3
  unjudged_writing (inr (counted, inr (inl f))) = ap is_of_writing f.0
  unjudged_writing (inr (counted, inr (inr m))) = ap is_of_writing m

module _ (old s : State) (found word : ℕ → ℕ) (A : Attached old s s.frame.bytes found) (tells : (w : ℕ) → IsTelling s → lasts s w ≡ word w) (source : SourceUse) (sink : SinkUse) where
  words_found : IsTelling s → (w : ℕ) → InRange s.frame w → word w ≡ found w
  words_found telling w inside = sym (tells w telling) ∙ found_last old s found A telling w inside

  -- ---- no verdict
  by_none : (status : Status) → IsUnjudged s word source status → (r : CommandReport) → r.status ≡ status → r.complete ≡ false → (input : List ℕ)
      → (IsTelling s → (status ≡ due_by found input (first_fault s.frame.bytes found)) ⊎ IsFault old s source sink status)
      → (is_of_line status ≡ true → IsServed s found × IsReadOut source.coming source.left × (status ≡ input_status (audit_input_of (word 2) input)))
      → AuditsBy old s found word source input sink r
  by_none status u r is cut input due line = record {
    reads = words_found;
    due = λ telling. subst (λ st. (st ≡ due_by found input (first_fault s.frame.bytes found)) ⊎ IsFault old s source sink st) (sym is) (due telling);
    no_fault = λ failed. unjudged_region s word source status u (sym is ∙ failed);
    line = λ of_line. let l = line (ap is_of_line (sym is) ∙ of_line) in (l.0, l.1, is ∙ l.2);
    done = λ done. both (is_of_writing r.status) (ap is_of_writing done) (ap is_of_writing is ∙ unjudged_writing s word source status u);
    begins = λ complete. both r.complete complete cut;
    read = λ complete. both r.complete complete cut;
    written = λ written. both (is_of_writing r.status) written (ap is_of_writing is ∙ unjudged_writing s word source status u);
    untouched = A;
  }

  pub unjudged_audits : (status : Status) → IsUnjudged s word source status → (r : CommandReport) → r.status ≡ status → r.complete ≡ false
      → (input : List ℕ) × IsInput source.coming input × AuditsBy old s found word source input sink r
  unjudged_audits status (inl (inl (fault, why, told))) r is cut =
      let input = some_input source.coming in (
        input.0,
        input.1,
        by_none status (inl (inl (fault, why, told))) r is cut input.0
            (λ telling. inl (why ∙ sym (ap (due_by found input.0) (sym (found_fault old s found A telling) ∙ told telling))))
            (λ of_line. both (is_of_line status) of_line (ap is_of_line why ∙ fault_line fault)),
      )
  unjudged_audits status (inl (inr m)) r is cut =
      let input = some_input source.coming in (
        input.0,
        input.1,
        by_none status (inl (inr m)) r is cut input.0 (λ telling. inr (inl m)) (λ of_line. both (is_of_line status) of_line (ap is_of_line m)),
      )
  unjudged_audits status (inr (counted, inl u)) r is cut = (
    u.1,
    u.2,
    by_none status (inr (counted, inl u)) r is cut u.1
        (λ telling. let served = served_by old s found A (word 2) counted telling in
        inl (u.4 ∙ ap (λ c. input_status (audit_input_of c u.1)) served.1 ∙ sym (ap (due_by found u.1) served.0)))
        (λ of_line. ((λ telling. (served_by old s found A (word 2) counted telling).0), u.0, u.4)),
  )
  unjudged_audits status (inr (counted, inr (inl f))) r is cut =
      let input = some_input source.coming in (
        input.0,
        input.1,
        by_none status (inr (counted, inr (inl f))) r is cut input.0 (λ telling. inr (inr (inl f))) (λ of_line. both (is_of_line status) of_line (ap is_of_line f.0)),
      )
  unjudged_audits status (inr (counted, inr (inr m))) r is cut =
      let input = some_input source.coming in (
        input.0,
        input.1,
        by_none status (inr (counted, inr (inr m))) r is cut input.0 (λ telling. inr (inl m)) (λ of_line. both (is_of_line status) of_line (ap is_of_line m)),
      )

  -- ---- a verdict
  whole_begun : (text : List ℕ) → Takes sink.before sink.now text → TakesPrefix sink.before sink.now text
  whole_begun text takes = ([], (text, sym (append-nil text), takes))

  begun : (text : List ℕ) (status : Status) → HasShown text sink status → TakesPrefix sink.before sink.now text
  begun text status (inl w) = whole_begun text w.1
  begun text status (inr (inl w)) = w.2
  begun text status (inr (inr w)) = w.1

  whole : (text : List ℕ) (status : Status) → HasShown text sink status → status ≡ statuses.Done → Takes sink.before sink.now text × (sink.flushed ≡ true)
  whole text status (inl w) done = (w.1, w.2)
  whole text status (inr (inl w)) done = absurd (apart (sym w.0 ∙ done)) where
    apart : statuses.SinkFault ≡ statuses.Done → ⊥
    apart q = cc q
  whole text status (inr (inr w)) done = absurd (apart (sym w.0 ∙ done)) where
    apart : statuses.Memory ≡ statuses.Done → ⊥
    apart q = cc q

  no_line : (text : List ℕ) (status : Status) → HasShown text sink status → is_of_line status ≡ false
  no_line text status (inl w) = ap is_of_line w.0
  no_line text status (inr (inl w)) = ap is_of_line w.0
  no_line text status (inr (inr w)) = ap is_of_line w.0

  no_region : (text : List ℕ) (status : Status) → HasShown text sink status → status ≡ statuses.RegionFault → ⊥
  no_region text status (inl w) e = cc (sym w.0 ∙ e)
  no_region text status (inr (inl w)) e = cc (sym w.0 ∙ e)
  no_region text status (inr (inr w)) e = cc (sym w.0 ∙ e)

  due_judged : (text : List ℕ) (status : Status) (input : List ℕ) → HasShown text sink status → statuses.Done ≡ due_by found input (first_fault s.frame.bytes found)
      → (status ≡ due_by found input (first_fault s.frame.bytes found)) ⊎ IsFault old s source sink status
  due_judged text status input (inl w) due = inl (w.0 ∙ due)
  due_judged text status input (inr (inl w)) due = inr (inr (inr (inl (w.0, w.1))))
  due_judged text status input (inr (inr w)) due = inr (inl w.0)

  pub judged_audits : (verdict : Verdict) → IsJudged s word source verdict → (r : CommandReport) → HasShown (verdict_text verdict) sink r.status → r.complete ≡ true
      → (input : List ℕ) × IsInput source.coming input × AuditsBy old s found word source input sink r
  judged_audits verdict j r shown complete =
      let text = verdict_text verdict in
      let is = j.verdict_is in (
        j.input,
        j.is_input,
        record {
          reads = words_found;
          due = λ telling. let served = served_by old s found A (word 2) j.counted telling in
              due_judged text r.status j.input shown (sym (ap (due_by found j.input) served.0 ∙ ap (λ c. input_status (audit_input_of c j.input)) (sym served.1) ∙ ap input_status is.1));
          no_fault = no_region text r.status shown;
          line = λ of_line. both (is_of_line r.status) of_line (no_line text r.status shown);
          done = λ done. let w = whole text r.status shown done in ((text, (verdict, is, refl), w.0), w.1);
          begins = λ begins. (text, (verdict, is, refl), begun text r.status shown);
          read = λ begins. ((λ telling. (served_by old s found A (word 2) j.counted telling).0), j.whole);
          written = λ written. complete;
          untouched = A;
        },
      )

pub never_of_region : {T : Type 0} (r : Result T Status) (P : Type 0) → IfErr r (λ st. is_of_region st ≡ false) → IfErr r (λ st. is_of_region st ≡ true → P)
never_of_region (Ok x) P h = tt
never_of_region (Err st) P h = λ broken. both (is_of_region st) broken h

-- ---- statuses of a verdict that was written, or the beginning of it
module _ (text : List ℕ) (sink : SinkUse) (status : Status) where
  -- it ends with one of three statuses
  pub shown_apart : (other : Status) → (statuses.Done ≡ other → ⊥) → (statuses.SinkFault ≡ other → ⊥) → (statuses.Memory ≡ other → ⊥) → HasShown text sink status → status ≡ other → ⊥
  shown_apart other a b c (inl w) e = a (sym w.0 ∙ e)
  shown_apart other a b c (inr (inl w)) e = b (sym w.0 ∙ e)
  shown_apart other a b c (inr (inr w)) e = c (sym w.0 ∙ e)

  pub shown_test : (test : Status → Bool) → test statuses.Done ≡ false → test statuses.SinkFault ≡ false → test statuses.Memory ≡ false → HasShown text sink status → test status ≡ false
  shown_test test a b c (inl w) = ap test w.0 ∙ a
  shown_test test a b c (inr (inl w)) = ap test w.0 ∙ b
  shown_test test a b c (inr (inr w)) = ap test w.0 ∙ c

  done_sink : statuses.Done ≡ statuses.SinkFault → ⊥
  done_sink q = cc q

  memory_sink : statuses.Memory ≡ statuses.SinkFault → ⊥
  memory_sink q = cc q

  pub shown_sink : HasShown text sink status → status ≡ statuses.SinkFault → Rose sink.faults sink.faults'
  shown_sink (inl w) e = absurd (done_sink (sym w.0 ∙ e))
  shown_sink (inr (inl w)) e = w.1
  shown_sink (inr (inr w)) e = absurd (memory_sink (sym w.0 ∙ e))

pub shown_counts : (old new : State) (source : SourceUse) (text : List ℕ) (sink : SinkUse) (status : Status) → HasShown text sink status → CountsFaults old new source sink status
shown_counts old new source text sink status h = record {
  source_fault = λ e. absurd (shown_apart text sink status statuses.SourceFault (λ q. cc q) (λ q. cc q) (λ q. cc q) h e);
  sink_fault = shown_sink text sink status h;
  region_fault = λ e. absurd (shown_apart text sink status statuses.RegionFault (λ q. cc q) (λ q. cc q) (λ q. cc q) h e);
}

pub unjudged_counts : (old s : State) (word : ℕ → ℕ) (source : SourceUse) (sink : SinkUse) (status : Status) → IsUnjudged s word source status → CountsFaults old s source sink status
unjudged_counts old s word source sink status u = record {
  source_fault = unjudged_source s word source status u;
  sink_fault = λ e. both (is_of_writing status) (ap is_of_writing e) (unjudged_writing s word source status u);
  region_fault = λ e. absurd (unjudged_region s word source status u e);
}
