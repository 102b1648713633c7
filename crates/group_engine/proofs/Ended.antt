-- What a run on an engine comes to, by what it answered.
use Rattle.std.proofs.Common.{◌≡◌, ℕ, ◌<◌, List, [], length, Bool, true, false, Option, Result, Ok, Err, OnOk, OnErr, refl, sym, ◌∙◌, subst, append-nil}
use Rattle.std.specs.List.{slice_get}
use Rattle.fs_model.specs.declared.memory.Memory.{Memory}
use Rattle.fs_model.specs.declared.model.Request.{Request}
use Rattle.fs_text.specs.declared.line.Line.{Line}
use Rattle.pm_region.specs.State.{State, IsTelling}
use Rattle.chunk_map.specs.declared.layouts.Geometry.{Geometry}
use Rattle.chunk_map.specs.Layouts.{layout_of}
use Rattle.recover.specs.declared.types.Recovered.{Recovered}
use Rattle.group_board.specs.declared.local_board.LocalBoard.{LocalBoard}
use Rattle.engine_laws.specs.Engine.{Engine}
use Rattle.engine_laws.specs.Stands.{Origin, Stands, opening, given_to}
use Rattle.engine_laws.specs.Promises.{IsOrigin, HasStopped, Promised, AnyTurn, IsDone}
use Rattle.engine_laws.specs.Ran.{Ran, asked_in}
use Rattle.engine_laws.specs.Ceasing.{HasCeased}
use Rattle.engine_laws.proofs.Clients.{opens, promised, Delivers, ran_stands, ran_given, ran_seen}
use Rattle.core_worker.specs.declared.worker.Worker.{Worker}
use Rattle.core_worker.specs.Beginning.{answers_of}
use Rattle.core_worker.specs.Left.{fair}
use Rattle.core_worker.specs.WorkerMoves.{hands_of}
use Rattle.engine_core.specs.declared.types.Stamped.{Stamped}
use Rattle.engine_core.specs.declared.run_report.Report.{Report}
use Rattle.engine_core.specs.declared.run_outcome.End.TheVariants as ends
use Rattle.engine_core.specs.declared.run_outcome.Outcome.{Outcome}
use Rattle.engine_core.specs.Answers.{kept_at, ShowsAnswer}
use Rattle.group_engine.specs.Passes.{EndsIn}
use Rattle.engine_core.specs.Reports.{listed, IsReport, ReportsOn, IsBlank}
use Rattle.engine_core.specs.RunStarts.{BeginsAt, AreNew}
use Rattle.engine_core.specs.Endings.{end_by, outcome_by}
use Rattle.group_engine.specs.Replayed.{Replayed}
use Rattle.group_engine.specs.Runs.{RunState, CoreMoves, ShowsRun, run_state, first_state, with_request}
use Rattle.group_engine.specs.Shows.{Shows}
use Rattle.engine_core.specs.Working.{IsMember, may_take, leads}
use Rattle.engine_core.proofs.Clients.{reports_on, blank_report}

turn_delivers : Delivers AnyTurn
turn_delivers e f c b m = m.0

first_stands : (o : Origin) → IsOrigin o → Stands o (opening o)
first_stands o is = opens o is.sound is.first is.words is.certain

-- What a report on a state that a run of the engine led to is made of.
pub record Reported (t : State) (o : Origin) (f : Engine) (ks : List (Option Stamped)) (r : Report) : Type 0 where
  pub region : f.region ≡ t
  pub count : length ks ≡ length f.given
  pub shown : (n : ℕ) → ShowsAnswer (IsTelling t) (slice_get f.given n) (f.answer n) (kept_at ks n)
  pub kept : IsReport ks (listed r)
  pub reports : ReportsOn t o f (listed r)

module _ (s t : State) (word : ℕ → ℕ) (v : Recovered) (lines : List Line) (o : Origin) (B : BeginsAt s word o) (r : Report) where
  abbrev Run : List Worker → RunState Worker → Type 0
  Run ws f = Ran CoreMoves with_request (layout_of o.found).cores lines (first_state o ws) f

  seen : (ws : List Worker) (f : RunState Worker) → Run ws f → Ran AnyTurn given_to (layout_of o.found).cores lines (opening o) f.engine
  seen ws f run = ran_seen (λ (e : RunState Worker). e.engine) CoreMoves AnyTurn (λ e c b f m. m.turn) with_request given_to (λ e q. refl) (layout_of o.found).cores lines (first_state o ws) f run

  stands_ran : (ws : List Worker) (f : RunState Worker) → Run ws f → Stands o f.engine
  stands_ran ws f run = ran_stands AnyTurn turn_delivers o (layout_of o.found).cores lines (opening o) f.engine (first_stands o B.is) (seen ws f run)

  -- a run with memory
  ran_to : (ws : List Worker) (f : RunState Worker) → AreNew v.starts.items v.layout ws → Run ws f → IsDone o f.engine → Reported t o f.engine f.answers r → (stopped : Bool) → (stopped ≡ true → HasStopped f.engine) → (stopped ≡ false → (c : ℕ) → c < f.engine.layout.cores → f.engine.stopped c ≡ false) → Replayed s word v lines t (outcome_by r (end_by stopped (Ok tt)))
  ran_to ws f new run D R stopped halts goes = record {
    origin = o;
    begins = B;
    last = f;
    region = R.region;
    stands = stands_ran ws f run;
    promised = D.promised;
    given = ([], sym (append-nil f.engine.given ∙ ran_given AnyTurn turn_delivers (layout_of o.found).cores lines (opening o) f.engine (seen ws f run)));
    count = R.count;
    shown = R.shown;
    kept = R.kept;
    reports = R.reports;
    workers = ws;
    opened = λ e. new;
    ran = λ e. run;
    done = λ e. D;
    ceased = λ e. absurd (not_memory stopped e);
    fault = fault stopped halts;
    complete = complete stopped goes;
  } where
    not_memory : (b : Bool) → end_by b (Ok tt) ≡ ends.Memory → ⊥
    not_memory true e = cc e
    not_memory false e = cc e

    fault : (b : Bool) → (b ≡ true → HasStopped f.engine) → end_by b (Ok tt) ≡ ends.RegionFault → HasStopped f.engine
    fault true h e = h refl
    fault false h e = absurd (cc e)

    complete : (b : Bool) → (b ≡ false → (c : ℕ) → c < f.engine.layout.cores → f.engine.stopped c ≡ false) → end_by b (Ok tt) ≡ ends.Complete → (c : ℕ) → c < f.engine.layout.cores → f.engine.stopped c ≡ false
    complete true h e = absurd (cc e)
    complete false h e = h refl

  -- and one without
  gave_up : (ws : List Worker) (f : Engine) (ks : List (Option Stamped)) → EndsIn t lines (opening o) f → Promised o f → HasCeased f → Reported t o f ks r → Replayed s word v lines t (outcome_by r ends.Memory)
  gave_up ws f ks E D C R = record {
    origin = o;
    begins = B;
    last = run_state f ws ks;
    region = R.region;
    stands = E.stands o (first_stands o B.is);
    promised = D;
    given = E.given;
    count = R.count;
    shown = R.shown;
    kept = R.kept;
    reports = R.reports;
    workers = ws;
    opened = λ ne. absurd (ne refl);
    ran = λ ne. absurd (ne refl);
    done = λ ne. absurd (ne refl);
    ceased = λ e. C;
    fault = λ e. absurd (cc e);
    complete = λ e. absurd (cc e);
  }

-- what a run comes to whose last state the lists of an engine show
module _ {Q : Type 0} (queue : Q → List (ℕ × Request)) (s t : State) (word : ℕ → ℕ) (v : Recovered) (lines : List Line) (o : Origin) (B : BeginsAt s word o)
    (first : List Worker) (new : AreNew v.starts.items v.layout first) (l : Geometry) (ws : List Worker) (bs : List LocalBoard) (qs : List Q) (ks : List (Option Stamped)) where
  abbrev Shown : Engine → Type 0
  Shown f = Shows hands_of answers_of IsMember fair may_take leads queue t l ws bs qs ks f

  reported : (r : Report) → IsReport ks (listed r) → ((f : Engine) → Stands o f → Shown f → ReportsOn t o f (listed r)) → (f : Engine) → Stands o f → Shown f → Reported t o f ks r
  reported r kept reports f S H = record { region = H.region; count = H.count; shown = H.answered; kept = kept; reports = reports f S H }

  pub replayed : (run : Result (Unit {0}) Memory)
      → OnErr run ((f : Engine) × Shown f × EndsIn t lines (opening o) f × Promised o f × HasCeased f)
      → OnOk run ((f : RunState Worker) × ShowsRun hands_of answers_of IsMember fair may_take leads queue t l ws bs qs ks f × Ran CoreMoves with_request (layout_of o.found).cores lines (first_state o first) f × IsDone o f.engine)
      → (stopped : Bool)
      → (stopped ≡ true → (f : Engine) → Stands o f → Shown f → HasStopped f)
      → (stopped ≡ false → (f : Engine) → Stands o f → Shown f → (c : ℕ) → c < f.layout.cores → f.stopped c ≡ false)
      → (r : Report) → IsReport ks (listed r) → ((f : Engine) → Stands o f → Shown f → ReportsOn t o f (listed r))
      → (x : Outcome) → x ≡ outcome_by r (end_by stopped run) → Replayed s word v lines t x
  replayed (Ok u) failed ran stopped halts goes r kept reports x is =
      let f = ran.0 in
      let H = ran.1.shows in
      let S = stands_ran s t word v lines o B r first f ran.2 in
      let R = subst (λ us. Reported t o f.engine us r) (sym ran.1.answers_are) (reported r kept reports f.engine S H) in
      subst (λ y. Replayed s word v lines t y) (sym is) (ran_to s t word v lines o B r first f new ran.2 ran.3 R stopped (λ e. halts e f.engine S H) (λ e. goes e f.engine S H))
  replayed (Err m) failed ran stopped halts goes r kept reports x is =
      let f = failed.0 in
      let S = failed.2.stands o (first_stands o B.is) in
      subst (λ y. Replayed s word v lines t y) (sym is) (gave_up s t word v lines o B r ws f ks failed.2 failed.3 failed.4 (reported r kept reports f S failed.1))

-- in the first state nothing is under way
nothing_under_way : (o : Origin) → HasCeased (opening o)
nothing_under_way o = record {
  posted = λ k x e. absurd (cc e);
  slots = λ g m s low own. refl;
  leads = λ g h low e. cc e;
}

-- where no engine could be opened
pub not_opened : (s : State) (word : ℕ → ℕ) (v : Recovered) (lines : List Line) (o : Origin) → BeginsAt s word o → (r : Report) → IsBlank r → (x : Outcome) → x ≡ outcome_by r ends.Memory → Replayed s word v lines s x
not_opened s word v lines o B r N x is =
    let S = first_stands o B.is in
    subst (λ y. Replayed s word v lines s y) (sym is) (gave_up s s word v lines o B r [] (opening o) []
    (record { region = B.region; stands = λ p S. S; given = (asked_in lines, refl) })
    (promised o (opening o) S)
    (nothing_under_way o)
    (record {
      region = B.region;
      count = refl;
      shown = λ n. tt;
      kept = blank_report r N;
      reports = reports_on s o (opening o) [] (listed r) S refl (λ n. tt) B.region (blank_report r N);
    }))
