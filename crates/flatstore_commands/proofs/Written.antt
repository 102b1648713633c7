-- What was written behind a run, by the status.
use Rattle.std.proofs.Common.{◌≡◌, ◌≢◌, inl, inr, refl, sym, ◌∙◌, ap, subst, true, false, Bool}
use Rattle.pm_region.specs.State.{Rose}
use Rattle.fs_text.specs.Output.{replies_text}
use Rattle.engine_core.specs.declared.run_outcome.End.{End}
use Rattle.engine_core.specs.declared.run_outcome.End.TheVariants as ends
use Rattle.engine_core.specs.declared.run_outcome.Outcome.{Outcome}
use Rattle.flatstore_commands.specs.Ordering.{is_quiet, is_whole}
use Rattle.flatstore_commands.specs.Promise.{TakesReplies, TakesFront}
use Rattle.flatstore_commands.specs.Played.{HasAnswered, EndsAs, is_ended}
use Rattle.flatstore_commands.specs.Ends.{SinkUse, IsAllOut}
use Rattle.flatstore_commands.specs.declared.report.Status.{Status}
use Rattle.flatstore_commands.specs.declared.report.Status.TheVariants as statuses
use Rattle.flatstore_commands.proofs.Texts.{both, takes_front, no_front}

-- of the replies of a run
module _ (x : Outcome) (sink : SinkUse) (status : Status) where
  -- a run that came to its end wrote at least the beginning of its text, if nothing of it
  pub front_written : (p : Bool) → HasAnswered x sink p status → TakesFront sink x.replies.items
  front_written true (inl w, any) = takes_front sink.before sink.now (replies_text x.replies.items) w.2
  front_written true (inr (inl w), any) = elim w.2 [
    | inl all ↦ takes_front sink.before sink.now (replies_text x.replies.items) all.0
    | inr some ↦ some.1
  ]
  front_written true (inr (inr (inl w)), any) = w.3
  front_written true (inr (inr (inr w)), any) = w.2
  front_written false (same, any) = no_front sink.before sink.now (replies_text x.replies.items) same

  -- the same, but for what went out where not everything did
  pub ended_so : (p : Bool) → HasAnswered x sink p status → EndsAs (TakesReplies sink x.replies.items) (TakesFront sink x.replies.items) x.end sink p status
  ended_so true w = w
  ended_so false w = w.1

  -- nothing went out where the region was out of its place, or the run didn't come to its end
  pub unplaced_same : (p : Bool) → HasAnswered x sink p status → p ≡ false → sink.now ≡ sink.before
  unplaced_same true w gone = cc gone
  unplaced_same false w gone = w.0

  pub cut_same : (p : Bool) → HasAnswered x sink p status → is_ended x.end ≡ false → sink.now ≡ sink.before
  cut_same true w cut = both (is_ended x.end) w.1 cut
  cut_same false w cut = w.0

-- whatever was to be written
module _ (All Front : Type 0) (end : End) (sink : SinkUse) (status : Status) where
  out_of : (other : Status) → status ≡ other → other ≢ statuses.Done → other ≢ statuses.RegionFault → IsAllOut status sink → ⊥
  out_of other e done failed (inl is) = done (sym e ∙ is)
  out_of other e done failed (inr is) = failed (sym e ∙ is.0)

  no_rise : status ≡ statuses.RegionFault → IsAllOut status sink → Rose sink.faults sink.faults' → ⊥
  no_rise e (inl is) rose = cc (sym e ∙ is)
  no_rise e (inr is) rose = is.1 rose

  -- and the whole of it where the region was in its place and the status says that no write failed.
  pub all_written : (p : Bool) → EndsAs All Front end sink p status → p ≡ true → IsAllOut status sink → All
  all_written true (inl w, any) here out = w.2
  all_written true (inr (inl w), any) here out = elim w.2 [
    | inl all ↦ all.0
    | inr some ↦ absurd (no_rise w.0 out some.0)
  ]
  all_written true (inr (inr (inl w)), any) here out = absurd (out_of statuses.SinkFault w.0 (λ q. cc q) (λ q. cc q) out)
  all_written true (inr (inr (inr w)), any) here out = absurd (out_of statuses.Memory w.0 (λ q. cc q) (λ q. cc q) out)
  all_written false w here out = cc here

  not_whole : (other : Status) → status ≡ other → is_whole other ≡ false → is_whole status ≡ true → ⊥
  not_whole other e cut whole = both (is_whole status) whole (ap is_whole e ∙ cut)

  -- the end that the status tells: of a run in which no core stopped, and of one in which some did
  pub whole_end : (p : Bool) → EndsAs All Front end sink p status → is_whole status ≡ true → end ≡ ends.Complete
  whole_end true (inl w, any) whole = w.1
  whole_end true (inr (inl w), any) whole = absurd (not_whole statuses.RegionFault w.0 refl whole)
  whole_end true (inr (inr (inl w)), any) whole = w.1
  whole_end true (inr (inr (inr w)), any) whole = absurd (not_whole statuses.Memory w.0 refl whole)
  whole_end false (inl cut) whole = absurd (not_whole statuses.Memory cut.0 refl whole)
  whole_end false (inr out) whole = absurd (not_whole statuses.RegionFault out.0 refl whole)

  pub fault_end : (p : Bool) → EndsAs All Front end sink p status → status ≡ statuses.RegionFault → p ≡ true → end ≡ ends.RegionFault
  fault_end true (inl w, any) fault here = cc (sym w.0 ∙ fault)
  fault_end true (inr (inl w), any) fault here = w.1
  fault_end true (inr (inr (inl w)), any) fault here = cc (sym w.0 ∙ fault)
  fault_end true (inr (inr (inr w)), any) fault here = cc (sym w.0 ∙ fault)
  fault_end false w fault here = cc here

  -- a run that was begun ends with no status that leaves the region and the sink as they were
  pub answered_loud : (p : Bool) → EndsAs All Front end sink p status → is_quiet status ≡ false
  answered_loud true (inl w, is) = ap is_quiet w.0
  answered_loud true (inr (inl w), is) = ap is_quiet w.0
  answered_loud true (inr (inr (inl w)), is) = ap is_quiet w.0
  answered_loud true (inr (inr (inr w)), is) = ap is_quiet w.0
  answered_loud false (inl w) = ap is_quiet w.0
  answered_loud false (inr w) = ap is_quiet w.0
