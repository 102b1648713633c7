-- From what a scan read and wrote to what the program promises.
use Rattle.std.proofs.Common.{◌≡◌, ◌⊎◌, inl, inr, ℕ, ◌/◌, List, [], sym, ◌∙◌, ap, subst, refl, true, false, Bool, Option, Some, None, Result, Ok, Err}
use Rattle.fs_model.specs.declared.model.Pair.{Pair}
use Rattle.pm_region.specs.Snapshots.{IsSnapshot}
use Rattle.pm_region.specs.State.{State, Frame, InRange, IsTelling, Rose}
use Rattle.pm_region.specs.Words.{lasts}
use Rattle.pm_region.specs.Split.{Attached}
use Rattle.store_image.specs.declared.types.Fault.{Fault}
use Rattle.store_image.specs.declared.types.Fault.TheVariants as faults
use Rattle.store_image.specs.Listing.{ListsCells}
use Rattle.store_image.specs.Soundness.{IsSound, first_fault}
use Rattle.store_image.proofs.Clients.{store_sound}
use Rattle.fs_text.specs.Streams.{IsReadOut, TakesPrefix}
use Rattle.recover.specs.declared.types.CoreStart.{CoreStart}
use Rattle.recover.specs.declared.types.Recovered.{Recovered}
use Rattle.recover.specs.Recovering.{IsFound, cells_found}
use Rattle.range_scan.specs.Starts.{AreStartsOf, AreStartsIn}
use Rattle.query_text.specs.declared.query.Query.{Query}
use Rattle.query_text.specs.Queries.{queries_of}
use Rattle.engine_core.specs.RunStarts.{StandsAsFound}
use Rattle.flatstore_commands.specs.Attaching.{Attaches}
use Rattle.flatstore_commands.specs.Ends.{SourceUse, SinkUse, CountsFaults}
use Rattle.flatstore_commands.specs.Ordering.{IsServed, is_of_line, is_of_region, is_quiet}
use Rattle.flatstore_commands.specs.Played.{IsUnserved}
use Rattle.flatstore_commands.specs.Promise.{IsInput}
use Rattle.flatstore_commands.specs.Scans.{answers_text, IsScanText, queries_status, scan_due, IsScanFault, AnswersQueries, Scans}
use Rattle.flatstore_commands.specs.Shows.{HasShown, WritesText, is_of_writing}
use Rattle.flatstore_commands.specs.Statuses.{fault_status}
use Rattle.flatstore_commands.specs.Asking.{AreUnread, IsReadyFor, IsUnasked, KeepsAll, is_refused}
use Rattle.flatstore_commands.specs.declared.scan_ranges.Scan.{Scan}
use Rattle.flatstore_commands.specs.declared.report.Status.{Status}
use Rattle.flatstore_commands.specs.declared.report.Status.TheVariants as statuses
use Rattle.flatstore_commands.specs.declared.report.CommandReport.{CommandReport}
use Rattle.flatstore_commands.proofs.Attached.{found_fault, found_last}
use Rattle.flatstore_commands.proofs.Refused.{some_input}
use Rattle.flatstore_commands.proofs.Texts.{both, takes_front}

-- a status that is none of the writing's, and says nothing of a fault of the region
abbrev pub is_unwritten : Status → Bool
is_unwritten statuses.Done = false
is_unwritten statuses.Usage = false
is_unwritten (statuses.BadInput line rule) = true
is_unwritten statuses.SourceFault = true
is_unwritten statuses.SinkFault = false
is_unwritten statuses.RegionFault = false
is_unwritten (statuses.Damaged part chunk rule) = true
is_unwritten (statuses.NotARegion rule) = true
is_unwritten statuses.Memory = true

none_written : (status : Status) → is_unwritten status ≡ true → is_of_writing status ≡ false
none_written statuses.Done h = cc h
none_written statuses.Usage h = refl
none_written (statuses.BadInput line rule) h = refl
none_written statuses.SourceFault h = refl
none_written statuses.SinkFault h = cc h
none_written statuses.RegionFault h = refl
none_written (statuses.Damaged part chunk rule) h = refl
none_written (statuses.NotARegion rule) h = refl
none_written statuses.Memory h = refl

fault_unwritten : (fault : Fault) → is_unwritten (fault_status fault) ≡ true
fault_unwritten (faults.NotARegion rule) = refl
fault_unwritten (faults.Damaged part chunk rule) = refl

fault_no_line : (fault : Fault) → is_of_line (fault_status fault) ≡ false
fault_no_line (faults.NotARegion rule) = refl
fault_no_line (faults.Damaged part chunk rule) = refl

fault_no_source : (fault : Fault) → fault_status fault ≡ statuses.SourceFault → ⊥
fault_no_source (faults.NotARegion rule) q = cc q
fault_no_source (faults.Damaged part chunk rule) q = cc q

refused_unwritten : (r : Result (List Query) (ℕ × ℕ)) → is_refused r ≡ true → is_unwritten (queries_status r) ≡ true
refused_unwritten (Ok queries) h = cc h
refused_unwritten (Err (line, rule)) h = refl

refused_no_source : (r : Result (List Query) (ℕ × ℕ)) → queries_status r ≡ statuses.SourceFault → ⊥
refused_no_source (Ok queries) q = cc q
refused_no_source (Err (line, rule)) q = cc q

refused_apart : (r : Result (List Query) (ℕ × ℕ)) → is_of_region (queries_status r) ≡ false
refused_apart (Ok queries) = refl
refused_apart (Err (line, rule)) = refl

-- what was read is nothing that the region's rules decide
pub unread_apart : (source : SourceUse) (status : Status) → AreUnread source status → is_of_region status ≡ false
unread_apart source status (inl u) = ap is_of_region u.4 ∙ refused_apart (queries_of u.1)
unread_apart source status (inr (inl u)) = ap is_of_region u.0
unread_apart source status (inr (inr u)) = ap is_of_region u

memory_source : statuses.Memory ≡ statuses.SourceFault → ⊥
memory_source q = cc q

module _ (old s : State) (found word : ℕ → ℕ) (A : Attached old s s.frame.bytes found) (tells : (w : ℕ) → IsTelling s → lasts s w ≡ word w) (source : SourceUse) (sink : SinkUse) where
  words_found : IsTelling s → (w : ℕ) → InRange s.frame w → word w ≡ found w
  words_found telling w inside = sym (tells w telling) ∙ found_last old s found A telling w inside

  served : KeepsAll s → IsServed s found
  served keeps telling = sym (found_fault old s found A telling) ∙ keeps telling

  -- nothing is answered
  unanswered : (input : List ℕ) (r : CommandReport) → r.complete ≡ false → is_unwritten r.status ≡ true
      → (IsTelling s → (r.status ≡ scan_due (first_fault s.frame.bytes found) input) ⊎ IsScanFault source sink r.status)
      → (r.status ≡ statuses.SourceFault → IsServed s found)
      → (is_of_line r.status ≡ true → IsServed s found × IsReadOut source.coming source.left × (r.status ≡ queries_status (queries_of input)))
      → AnswersQueries old s found word source input sink r
  unanswered input r incomplete unwritten due read line = record {
    reads = words_found;
    due = due;
    no_fault = λ failed. both (is_unwritten r.status) unwritten (ap is_unwritten failed);
    read = read;
    line = line;
    judged = λ complete. both r.complete complete incomplete;
    written = λ written. both (is_of_writing r.status) written (none_written r.status unwritten);
    done = λ done. both (is_unwritten r.status) unwritten (ap is_unwritten done);
    begins = λ complete. both r.complete complete incomplete;
    untouched = A;
  }

  refused_by : (status : Status) (r : CommandReport) → r.status ≡ status → r.complete ≡ false → IsUnasked s source status
      → (input : List ℕ) × IsInput source.coming input × AnswersQueries old s found word source input sink r
  refused_by status r is incomplete (inl (inl (fault, at, told))) =
      let some = some_input source.coming in (
        some.0,
        some.1,
        unanswered some.0 r incomplete (ap is_unwritten (is ∙ at) ∙ fault_unwritten fault)
            (λ telling. inl (is ∙ at ∙ ap (λ (o : Option Fault). scan_due o some.0) (sym (told telling) ∙ found_fault old s found A telling)))
            (λ q. absurd (fault_no_source fault (sym (is ∙ at) ∙ q)))
            (λ line. both (is_of_line r.status) line (ap is_of_line (is ∙ at) ∙ fault_no_line fault)),
      )
  refused_by status r is incomplete (inl (inr memory)) =
      let some = some_input source.coming in (
        some.0,
        some.1,
        unanswered some.0 r incomplete (ap is_unwritten (is ∙ memory))
            (λ telling. inr (inl (is ∙ memory)))
            (λ q. absurd (memory_source (sym (is ∙ memory) ∙ q)))
            (λ line. both (is_of_line r.status) line (ap is_of_line (is ∙ memory))),
      )
  refused_by status r is incomplete (inr (keeps, inl (whole, input, is_input, broken, at))) = (
    input,
    is_input,
    unanswered input r incomplete (ap is_unwritten (is ∙ at) ∙ refused_unwritten (queries_of input) broken)
        (λ telling. inl (is ∙ at ∙ ap (λ (o : Option Fault). scan_due o input) (sym (served keeps telling))))
        (λ q. served keeps)
        (λ line. (served keeps, whole, is ∙ at)),
  )
  refused_by status r is incomplete (inr (keeps, inr (inl (failed, rose)))) =
      let some = some_input source.coming in (
        some.0,
        some.1,
        unanswered some.0 r incomplete (ap is_unwritten (is ∙ failed))
            (λ telling. inr (inr (inl (is ∙ failed, rose))))
            (λ q. served keeps)
            (λ line. both (is_of_line r.status) line (ap is_of_line (is ∙ failed))),
      )
  refused_by status r is incomplete (inr (keeps, inr (inr memory))) =
      let some = some_input source.coming in (
        some.0,
        some.1,
        unanswered some.0 r incomplete (ap is_unwritten (is ∙ memory))
            (λ telling. inr (inl (is ∙ memory)))
            (λ q. served keeps)
            (λ line. both (is_of_line r.status) line (ap is_of_line (is ∙ memory))),
      )

  pub refused_scans : (status : Status) → IsUnasked s source status → (r : CommandReport) → r.status ≡ status → r.complete ≡ false → Attaches old s found r → Scans old s found word source sink r
  refused_scans status why r is incomplete attaches = record { attaches = attaches; answers = λ attached. refused_by status r is incomplete why }

  -- its counts
  pub refused_counts : (status : Status) → IsUnasked s source status → (r : CommandReport) → r.status ≡ status → CountsFaults old s source sink r.status
  refused_counts status why r is = record {
    source_fault = λ q. rose why (sym is ∙ q);
    sink_fault = λ q. both (is_unwritten status) (unwritten why) (ap is_unwritten (sym is ∙ q));
    region_fault = λ q. both (is_unwritten status) (unwritten why) (ap is_unwritten (sym is ∙ q));
  } where
    unwritten : IsUnasked s source status → is_unwritten status ≡ true
    unwritten (inl (inl (fault, at, told))) = ap is_unwritten at ∙ fault_unwritten fault
    unwritten (inl (inr memory)) = ap is_unwritten memory
    unwritten (inr (keeps, inl u)) = ap is_unwritten u.4 ∙ refused_unwritten (queries_of u.1) u.3
    unwritten (inr (keeps, inr (inl u))) = ap is_unwritten u.0
    unwritten (inr (keeps, inr (inr memory))) = ap is_unwritten memory

    rose : IsUnasked s source status → status ≡ statuses.SourceFault → Rose source.faults source.faults'
    rose (inl (inl (fault, at, told))) q = absurd (fault_no_source fault (sym at ∙ q))
    rose (inl (inr memory)) q = absurd (memory_source (sym memory ∙ q))
    rose (inr (keeps, inl u)) q = absurd (refused_no_source (queries_of u.1) (sym u.4 ∙ q))
    rose (inr (keeps, inr (inl u))) q = u.1
    rose (inr (keeps, inr (inr memory))) q = absurd (memory_source (sym memory ∙ q))

  -- the answers were written, or the beginning of them
  module _ (keeps : KeepsAll s) (scan : Scan) (ready : IsReadyFor s word source scan) where
    abbrev pub pairs : List Pair
    pairs = ready.pairs.0

    pub lists : ListsCells (cells_found word) pairs
    lists = ready.pairs.1

    kind : IsScanText word ready.asked.input (answers_text pairs scan.queries)
    kind = record {
      queries = scan.queries;
      judged = ready.asked.good;
      pairs = pairs;
      live = lists;
      answers = refl;
    }

    good_status : queries_status (queries_of ready.asked.input) ≡ statuses.Done
    good_status = ap queries_status ready.asked.good

    sink_done : statuses.SinkFault ≡ statuses.Done → ⊥
    sink_done e = cc e

    memory_done : statuses.Memory ≡ statuses.Done → ⊥
    memory_done e = cc e

    pub written_scans : (r : CommandReport) → HasShown (answers_text pairs scan.queries) sink r.status → r.complete ≡ true → Attaches old s found r → Scans old s found word source sink r
    written_scans r W complete attaches = record {
      attaches = attaches;
      answers = λ attached. (
        ready.asked.input,
        ready.asked.is_input,
        record {
          reads = words_found;
          due = λ telling. due_of W telling;
          no_fault = λ failed. none_failed W failed;
          read = λ q. served keeps;
          line = λ line. none_line W line;
          judged = λ whole. (served keeps, ready.asked.whole);
          written = λ written. complete;
          done = λ done. whole W done;
          begins = λ begins. (answers_text pairs scan.queries, kind, begun W);
          untouched = A;
        },
      );
    } where
      due_of : HasShown (answers_text pairs scan.queries) sink r.status → IsTelling s → (r.status ≡ scan_due (first_fault s.frame.bytes found) ready.asked.input) ⊎ IsScanFault source sink r.status
      due_of (inl w) telling = inl (w.0 ∙ sym good_status ∙ ap (λ (o : Option Fault). scan_due o ready.asked.input) (sym (served keeps telling)))
      due_of (inr (inl w)) telling = inr (inr (inr (w.0, w.1)))
      due_of (inr (inr w)) telling = inr (inl w.0)

      none_failed : HasShown (answers_text pairs scan.queries) sink r.status → r.status ≡ statuses.RegionFault → ⊥
      none_failed (inl w) failed = cc (sym w.0 ∙ failed)
      none_failed (inr (inl w)) failed = cc (sym w.0 ∙ failed)
      none_failed (inr (inr w)) failed = cc (sym w.0 ∙ failed)

      none_line : {P : Type 0} → HasShown (answers_text pairs scan.queries) sink r.status → is_of_line r.status ≡ true → P
      none_line (inl w) line = both (is_of_line r.status) line (ap is_of_line w.0)
      none_line (inr (inl w)) line = both (is_of_line r.status) line (ap is_of_line w.0)
      none_line (inr (inr w)) line = both (is_of_line r.status) line (ap is_of_line w.0)

      whole : HasShown (answers_text pairs scan.queries) sink r.status → r.status ≡ statuses.Done → WritesText (IsScanText word ready.asked.input) sink × (sink.flushed ≡ true)
      whole (inl w) done = ((answers_text pairs scan.queries, kind, w.1), w.2)
      whole (inr (inl w)) done = absurd (sink_done (sym w.0 ∙ done))
      whole (inr (inr w)) done = absurd (memory_done (sym w.0 ∙ done))

      begun : HasShown (answers_text pairs scan.queries) sink r.status → TakesPrefix sink.before sink.now (answers_text pairs scan.queries)
      begun (inl w) = takes_front sink.before sink.now (answers_text pairs scan.queries) w.1
      begun (inr (inl w)) = w.2
      begun (inr (inr w)) = w.1

    pub written_counts : (r : CommandReport) → HasShown (answers_text pairs scan.queries) sink r.status → CountsFaults old s source sink r.status
    written_counts r W = record {
      source_fault = λ q. no_source W q;
      sink_fault = λ q. rose W q;
      region_fault = λ q. no_region W q;
    } where
      no_source : {P : Type 0} → HasShown (answers_text pairs scan.queries) sink r.status → r.status ≡ statuses.SourceFault → P
      no_source (inl w) q = cc (sym w.0 ∙ q)
      no_source (inr (inl w)) q = cc (sym w.0 ∙ q)
      no_source (inr (inr w)) q = cc (sym w.0 ∙ q)

      no_region : {P : Type 0} → HasShown (answers_text pairs scan.queries) sink r.status → r.status ≡ statuses.RegionFault → P
      no_region (inl w) q = cc (sym w.0 ∙ q)
      no_region (inr (inl w)) q = cc (sym w.0 ∙ q)
      no_region (inr (inr w)) q = cc (sym w.0 ∙ q)

      rose : HasShown (answers_text pairs scan.queries) sink r.status → r.status ≡ statuses.SinkFault → Rose sink.faults sink.faults'
      rose (inl w) q = cc (sym w.0 ∙ q)
      rose (inr (inl w)) q = w.1
      rose (inr (inr w)) q = cc (sym w.0 ∙ q)

-- the statuses of a writing are none of a refusal
pub shown_loud : (text : List ℕ) (sink : SinkUse) (status : Status) → HasShown text sink status → (is_quiet status ≡ false) × (is_of_region status ≡ false)
shown_loud text sink status (inl w) = (ap is_quiet w.0, ap is_of_region w.0)
shown_loud text sink status (inr (inl w)) = (ap is_quiet w.0, ap is_of_region w.0)
shown_loud text sink status (inr (inr w)) = (ap is_quiet w.0, ap is_of_region w.0)

-- a region that was recovered keeps its rules
pub keeps_all : (s : State) (word : ℕ → ℕ) → ((w : ℕ) → IsTelling s → lasts s w ≡ word w) → (r : Recovered) → StandsAsFound s word r → KeepsAll s
keeps_all s word tells r S telling =
    let same : lasts s ≡ word = (λ i w. tells w telling i) in
    ap (first_fault s.frame.bytes) same ∙ store_sound s.frame.bytes word S.found.sound

-- and its starts are those of the words read
pub starts_found : (s : State) (word : ℕ → ℕ) (r : Recovered) → StandsAsFound s word r → (starts : List CoreStart) → starts ≡ r.starts.items → AreStartsOf word starts
starts_found s word r S starts is = record { bytes = s.frame.bytes; all = r; starts_are = sym is; made = S.made; found = S.found }

-- as those of a snapshot are, which tells
pub starts_seen : (s read : State) (word : ℕ → ℕ) (r : Recovered) → StandsAsFound s word r → IsSnapshot s word read → (starts : List CoreStart) → starts ≡ r.starts.items → AreStartsIn read starts
starts_seen s read word r S snap starts is =
    let words = S.words in
    let total = S.made.total in
    record {
      bytes = s.frame.bytes;
      all = r;
      starts_are = sym is;
      made = S.made;
      covers = record {
        layout = S.made.layout;
        first = ap (λ (f : Frame). f.first) snap.frame ∙ S.first;
        words = ap (λ (f : Frame). f.words) snap.frame ∙ words ∙ ap (λ n. n / 8) (sym total);
      };
      found = λ telling. subst (λ (image : ℕ → ℕ). IsFound s.frame.bytes image r) (λ i w. sym (snap.lasts_are w) i) S.found;
    }
