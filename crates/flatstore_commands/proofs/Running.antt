-- The run that a report is of.
use Rattle.std.proofs.Common.{◌≡◌, ◌≢◌, ℕ, List, refl, sym, ◌∙◌, ap, subst, true, Ok, Option, Some, None}
use Rattle.fs_model.specs.declared.model.Request.{Request}
use Rattle.pm_region.specs.State.{State, Frame, IsTelling, cell_now}
use Rattle.pm_region.specs.Split.{Attached, IsOpenedOnceMore, Stays}
use Rattle.fs_text.specs.declared.line.Line.{Line}
use Rattle.fs_text.specs.Input.{input_of}
use Rattle.fs_text.specs.Streams.{Takes, TakesPrefix}
use Rattle.fs_text.specs.Output.{replies_text}
use Rattle.chunk_map.specs.Layouts.{layout_of}
use Rattle.store_image.specs.Soundness.{IsSound}
use Rattle.recover.specs.declared.types.Recovered.{Recovered}
use Rattle.engine_laws.specs.Stands.{Origin, opening, given_to}
use Rattle.engine_laws.specs.Promises.{AnyTurn}
use Rattle.engine_laws.specs.Parts.{AllLicensed}
use Rattle.engine_laws.specs.Ran.{Ran}
use Rattle.engine_laws.proofs.Clients.{ran_seen}
use Rattle.core_worker.specs.declared.worker.Worker.{Worker}
use Rattle.engine_core.specs.declared.run_outcome.End.TheVariants as ends
use Rattle.engine_core.specs.declared.run_outcome.Outcome.{Outcome}
use Rattle.engine_core.specs.RunStarts.{StandsAsFound}
use Rattle.group_engine.specs.Replayed.{Replayed}
use Rattle.engine_core.specs.Reports.{as_told}
use Rattle.engine_core.specs.Answers.{ShowsAnswer, kept_at}
use Rattle.engine_core.specs.declared.types.Stamped.{Stamped}
use Rattle.engine_laws.specs.Engine.{Answer}
use Rattle.std.specs.List.{slice_get}
use Rattle.group_engine.specs.Runs.{RunState, CoreMoves, first_state, with_request}
use Rattle.flatstore_commands.specs.Finished.{finishes_of}
use Rattle.flatstore_commands.specs.Attaching.{GoesOnFrom, Runs, Asks}
use Rattle.flatstore_commands.specs.Ends.{SinkUse}
use Rattle.flatstore_commands.specs.LastStates.{Starts, Opens, ReportsKept, ReportsAnswers, RanTo, BreaksOff}
use Rattle.flatstore_commands.specs.Promise.{TakesReplies, TakesFront}
use Rattle.flatstore_commands.specs.Played.{HasAnswered, is_ended}
use Rattle.flatstore_commands.specs.declared.report.CommandReport.{CommandReport}
use Rattle.flatstore_commands.proofs.Attached.{found_words}
use Rattle.flatstore_commands.proofs.Staying.{tells_still, cells_still}
use Rattle.flatstore_commands.proofs.Texts.{both, small_sound}
use Rattle.flatstore_commands.proofs.Written.{front_written, ended_so, all_written, fault_end, whole_end}

shows_still : (K L : Type 0) → (L → K) → (asked : Option Request) (a : Option Answer) (x : Option Stamped) → ShowsAnswer K asked a x → ShowsAnswer L asked a x
shows_still K L to asked None None is = tt
shows_still K L to asked None (Some x) is = absurd is
shows_still K L to asked (Some a) None is = absurd is
shows_still K L to asked (Some a) (Some x) is = record { stamp = is.stamp; reply = is.reply; known = λ telling. is.known (to telling); cause = is.cause; shows = is.shows }

module _ (old s t : State) (found word : ℕ → ℕ) (A : Attached old s s.frame.bytes found) (once : IsOpenedOnceMore old s) (granted : s.frame.refusals ≡ old.frame.refusals)
    (recovered : Recovered) (S : StandsAsFound s word recovered) (cores : ℕ) (input : List ℕ) (lines : List Line) (good : input_of cores input ≡ Ok lines)
    (x : Outcome) (P : Replayed s word recovered lines t x) (count : (layout_of P.origin.found).cores ≡ cores) where
  abbrev o : Origin
  o = P.origin

  abbrev last : RunState Worker
  last = P.last

  -- The region went from where it was attached to where it is.
  pub on : Runs s t
  on = subst (λ z. Runs s z) P.region (subst (λ z. Runs z last.engine.region) P.begins.region P.stands.run)

  abbrev pub start : Starts s found cores
  start =
      let sound : IsSound s.frame.bytes o.found = subst (λ (z : State). IsSound z.frame.bytes o.found) P.begins.region P.begins.is.sound in
      record {
        word = word;
        recovered = recovered;
        stands = S;
        origin = o;
        begins = P.begins;
        words = λ telling w lt. P.begins.tells telling w lt ∙ found_words old s found A (small_sound s.frame.bytes o.found sound) telling w lt;
        count = count;
      }

  module _ (not_cut : x.end ≢ ends.Memory) where
    abbrev pub first : Opens s found cores
    first = record { start = start; workers = P.workers; new = P.opened not_cut }

    -- as the laws on several cores read it
    pub engine_ran : Ran AnyTurn given_to cores lines (opening o) last.engine
    engine_ran = ran_seen (λ (e : RunState Worker). e.engine) CoreMoves AnyTurn (λ e c b f m. m.turn) with_request given_to (λ e q. refl) cores lines (first_state o P.workers) last
        (subst (λ n. Ran CoreMoves with_request n lines (first_state o P.workers) last) count (P.ran not_cut))

  -- Behind the last state it may have been asked whether it is in its place.
  module _ (u : State) (still : Stays t u) (r : CommandReport) (finishes : finishes_of r.finishes ≡ x.finishes.items) (refusals : r.refusals.items ≡ x.refusals.items) where
    abbrev pub from : GoesOnFrom old last.engine.region u.frame.bytes found
    from = record {
      at = s;
      attached = subst (λ n. Attached old s n found) (sym (still.bytes ∙ ap (λ (fr : Frame). fr.bytes) on.frame)) A;
      once = once;
      granted = granted;
      on = subst (λ z. Runs s z) (sym P.region) on;
    }

    shown : (n : ℕ) → ShowsAnswer (IsTelling u) (slice_get last.engine.given n) (last.engine.answer n) (kept_at last.answers n)
    shown n = shows_still (IsTelling t) (IsTelling u) (tells_still t u still) (slice_get last.engine.given n) (last.engine.answer n) (kept_at last.answers n) (P.shown n)

    kept : ReportsKept u last r
    kept = record {
      finishes = finishes ∙ P.kept.finishes;
      refusals = refusals ∙ P.kept.refusals;
      count = P.count;
      shown = shown;
      told_is = (λ i. as_told (finishes i) (refusals i)) ∙ P.reports.told_is;
      replies = λ telling. sym P.kept.replies ∙ P.reports.known (tells_still t u still telling);
    }

    -- There was no memory for all of it: it broke off.
    pub breaks_off : x.end ≡ ends.Memory → u ≡ t → BreaksOff old u found cores input r
    breaks_off memory same = record {
      last = last;
      from = from;
      start = start;
      lines = lines;
      good = good;
      given = P.given;
      stands = P.stands;
      ceased = P.ceased memory;
      region = P.region ∙ sym same;
      reports = kept;
    }

    -- It came to its end, and was asked.
    module _ (sink : SinkUse) (W : HasAnswered x sink r.in_place r.status) (report_complete : r.complete ≡ is_ended x.end) (complete : r.complete ≡ true) (asks : Asks true r.in_place t u) where
      not_cut : x.end ≢ ends.Memory
      not_cut m = both (is_ended x.end) (sym report_complete ∙ complete) (ap is_ended m)

      reports : ReportsAnswers u sink last r
      reports = record {
        kept = kept;
        begins = subst (λ rs. TakesPrefix sink.before sink.now (replies_text rs)) P.kept.replies (front_written x sink r.status r.in_place W);
        writes = λ here out. subst (λ rs. Takes sink.before sink.now (replies_text rs)) P.kept.replies (all_written (TakesReplies sink x.replies.items) (TakesFront sink x.replies.items) x.end sink r.status r.in_place (ended_so x sink r.status r.in_place W) here out);
      }

      licensed : IsTelling t → AllLicensed last.engine.layout last.engine.group (cell_now t)
      licensed = subst (λ (z : State). IsTelling z → AllLicensed last.engine.layout last.engine.group (cell_now z)) P.region P.stands.licensed

      pub ran_to : RanTo old u found cores input sink r
      ran_to = record {
        last = last;
        from = from;
        first = first not_cut;
        lines = lines;
        good = good;
        ran = subst (λ n. Ran CoreMoves with_request n lines (first_state o P.workers) last) count (P.ran not_cut);
        ends = subst (λ z. Asks true r.in_place z u) (sym P.region) asks;
        answered = (P.done not_cut).answered;
        drained = (P.done not_cut).drained;
        reports = reports;
        stops = λ fault here. P.fault (fault_end (TakesReplies sink x.replies.items) (TakesFront sink x.replies.items) x.end sink r.status r.in_place (ended_so x sink r.status r.in_place W) fault here);
        goes = λ whole. P.complete (whole_end (TakesReplies sink x.replies.items) (TakesFront sink x.replies.items) x.end sink r.status r.in_place (ended_so x sink r.status r.in_place W) whole);
        licensed = λ telling. subst (AllLicensed last.engine.layout last.engine.group) (λ i w. sym (cells_still t u still w) i) (licensed (tells_still t u still telling));
      }
