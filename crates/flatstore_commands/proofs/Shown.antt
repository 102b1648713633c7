-- What is written of what the words of a region that was just attached say.
use Rattle.std.proofs.Common.{◌≡◌, inl, inr, ℕ, List, [], append-nil, sym, ◌∙◌, ap, Bool, true, false, Option}
use Rattle.pm_region.specs.State.{State, InRange, IsTelling}
use Rattle.pm_region.specs.Words.{lasts}
use Rattle.pm_region.specs.Split.{Attached}
use Rattle.store_image.specs.declared.types.Fault.TheVariants as faults
use Rattle.store_image.specs.Soundness.{IsSound}
use Rattle.fs_text.specs.Streams.{Takes, TakesPrefix}
use Rattle.flatstore_commands.specs.declared.report.Status.{Status}
use Rattle.flatstore_commands.specs.declared.report.Status.TheVariants as statuses
use Rattle.flatstore_commands.specs.declared.report.CommandReport.{CommandReport}
use Rattle.flatstore_commands.specs.Ends.{SinkUse}
use Rattle.flatstore_commands.specs.Attaching.{Attaches}
use Rattle.flatstore_commands.specs.Shows.{Shows, HasShown, WritesText, IsDueOf, IsUnlisted, status_by, is_of_writing}
use Rattle.flatstore_commands.proofs.Attached.{found_last}

both : (b : Bool) {P : Type 0} → b ≡ true → b ≡ false → P
both b t f = cc (sym t ∙ f)

begun_whole : (before now : Option (List ℕ)) (text : List ℕ) → Takes before now text → TakesPrefix before now text
begun_whole before now text takes = ([], (text, sym (append-nil text), takes))

-- a broken rule and want of memory are none of the writing's statuses
module _ (bytes : ℕ) (word : ℕ → ℕ) (status : Status) where
  not_done : IsUnlisted bytes word status → status ≡ statuses.Done → ⊥
  not_done (inl memory) e = cc (sym memory ∙ e)
  not_done (inr (faults.NotARegion rule, is, told)) e = cc (sym is ∙ e)
  not_done (inr (faults.Damaged part chunk rule, is, told)) e = cc (sym is ∙ e)

  not_failed : IsUnlisted bytes word status → status ≡ statuses.RegionFault → ⊥
  not_failed (inl memory) e = cc (sym memory ∙ e)
  not_failed (inr (faults.NotARegion rule, is, told)) e = cc (sym is ∙ e)
  not_failed (inr (faults.Damaged part chunk rule, is, told)) e = cc (sym is ∙ e)

  not_written : IsUnlisted bytes word status → is_of_writing status ≡ true → ⊥
  not_written (inl memory) w = both (is_of_writing status) w (ap is_of_writing memory)
  not_written (inr (faults.NotARegion rule, is, told)) w = both (is_of_writing status) w (ap is_of_writing is)
  not_written (inr (faults.Damaged part chunk rule, is, told)) w = both (is_of_writing status) w (ap is_of_writing is)

module _ (IsText : List ℕ → Type 0) (old s : State) (found word : ℕ → ℕ) (A : Attached old s s.frame.bytes found) (tells : (w : ℕ) → IsTelling s → lasts s w ≡ word w) (sink : SinkUse) where
  words_found : IsTelling s → (w : ℕ) → InRange s.frame w → word w ≡ found w
  words_found telling w inside = sym (tells w telling) ∙ found_last old s found A telling w inside

  -- a rule is broken, or there was no memory for what is to be written
  pub shows_none : (status : Status) → IsUnlisted s.frame.bytes word status → (r : CommandReport) → r.status ≡ status → r.complete ≡ false → Attaches old s found r
      → Shows IsText old s found word sink r
  shows_none status why r is incomplete attaches = record {
    attaches = attaches;
    reads = λ attached. words_found;
    due = λ attached. by_cause why;
    no_fault = λ attached failed. absurd (not_failed s.frame.bytes word status why (sym is ∙ failed));
    done = λ done. absurd (not_done s.frame.bytes word status why (sym is ∙ done));
    begins = λ complete. both r.complete complete incomplete;
    sound = λ complete. both r.complete complete incomplete;
    written = λ written. absurd (not_written s.frame.bytes word status why (ap is_of_writing (sym is) ∙ written));
    untouched = λ attached. A;
  } where
    by_cause : IsUnlisted s.frame.bytes word status → IsDueOf s.frame.bytes word sink r.status
    by_cause (inl memory) = inr (inl (is ∙ memory))
    by_cause (inr broken) = inl (is ∙ broken.1 ∙ ap status_by (sym broken.2))

  -- the text was written, or the beginning of it
  pub shows_text : (text : List ℕ) → IsText text → IsSound s.frame.bytes word
      → (r : CommandReport) → HasShown text sink r.status → r.complete ≡ true → Attaches old s found r
      → Shows IsText old s found word sink r
  shows_text text kind sound r W complete attaches = record {
    attaches = attaches;
    reads = λ attached. words_found;
    due = λ attached. due_of W;
    no_fault = λ attached failed. absurd (none_failed W failed);
    done = λ done. whole W done;
    begins = λ complete. (text, kind, begun W);
    sound = λ complete. sound;
    written = λ written. complete;
    untouched = λ attached. A;
  } where
    due_of : HasShown text sink r.status → IsDueOf s.frame.bytes word sink r.status
    due_of (inl w) = inl (w.0 ∙ ap status_by (sym sound))
    due_of (inr (inl w)) = inr (inr (w.0, w.1, sound))
    due_of (inr (inr w)) = inr (inl w.0)

    none_failed : HasShown text sink r.status → r.status ≡ statuses.RegionFault → ⊥
    none_failed (inl w) failed = cc (sym w.0 ∙ failed)
    none_failed (inr (inl w)) failed = cc (sym w.0 ∙ failed)
    none_failed (inr (inr w)) failed = cc (sym w.0 ∙ failed)

    sink_done : statuses.SinkFault ≡ statuses.Done → ⊥
    sink_done e = cc e

    memory_done : statuses.Memory ≡ statuses.Done → ⊥
    memory_done e = cc e

    whole : HasShown text sink r.status → r.status ≡ statuses.Done → WritesText IsText sink × (sink.flushed ≡ true)
    whole (inl w) done = ((text, kind, w.1), w.2)
    whole (inr (inl w)) done = absurd (sink_done (sym w.0 ∙ done))
    whole (inr (inr w)) done = absurd (memory_done (sym w.0 ∙ done))

    begun : HasShown text sink r.status → TakesPrefix sink.before sink.now text
    begun (inl w) = begun_whole sink.before sink.now text w.1
    begun (inr (inl w)) = w.2
    begun (inr (inr w)) = w.1
