-- The lock is tried, or nothing applies.
use Rattle.std.proofs.Common.{inl, inr, Bool, [], ◌∷◌, refl, sym, ◌∙◌, subst}
use Rattle.core_worker.proofs.BegunHolds.{none_way}
use Rattle.group_laws.specs.Runs as runs
use Rattle.batch_leader.specs.TakenChanges.{MatchBool}
use Rattle.core_worker.specs.Turns.{TriesLock, FindsPosted}
use Rattle.core_worker.specs.Turning.Did.{locks}
use Rattle.core_worker.proofs.Made.{one_step}
use Rattle.core_worker.proofs.QuietItems.{lock_filled, lock_led, lock_same, lock_stops}
use Rattle.core_worker.proofs.TurnLaws.{keeps_leading, keeps_same}
use Rattle.core_worker.proofs.LeftTurns.{had_lower, had_starts, found_not_more}
use Rattle.core_worker.proofs.LeftFair.{starts_nothing}
use Rattle.core_worker.specs.Resting.{TriedIf}
use Rattle.batch_leader.proofs.Clients.{no_loads, turn_of_loads, turn_of_one}
use Rattle.core_worker.proofs.worker.Worker.serve_lock.Goals as goal

pub returns-then-not-posted-clause-keeps : goal.returns-then-not-posted-clause-keeps
returns-then-not-posted-clause-keeps g c s S = keeps_same (g.B.Board.seat c.args.board.now) s (g.B.Board.whole c.args.board.now) (g.B.Board.view c.args.board.now) c.args.self.now c.requires.holds S c.requires.order (g.met.B.Board.agrees c.args.board.now)

pub returns-then-not-posted-clause-turned : goal.returns-then-not-posted-clause-turned
returns-then-not-posted-clause-turned g c s refused before v w y post tells mail sending none = (
  refl,
  record {
    mid = g.B.Board.view c.args.board.now;
    before = tells.0;
    post = post;
    clean = sym (none_way s y c.args.self.now none) ∙ c.requires.clean;
    mail = mail;
    ready = y;
    looked = c.args.self.now;
    begins = none;
    sending = sending;
    lock = inl (subst (λ (b : Bool). MatchBool b (FindsPosted w.places.items tells.0.looked.found 8) (FindsPosted w.places.items tells.0.looked.found 8 → ⊥)) c.if-not-posted.true tells.1, refl);
    free = c.requires.nothing;
    same = refl;
  },
)

pub returns-then-try_lead-clause-keeps : goal.returns-then-try_lead-clause-keeps
returns-then-try_lead-clause-keeps g c s S =
    let seat = g.B.Board.seat c.args.board.now in
    let e = c.try_lead.ensures in
    keeps_leading seat s (g.B.Board.whole c.args.board.now) (g.B.Board.whole c.try_lead.new.board) (g.B.Board.view c.args.board.now) (g.B.Board.view c.try_lead.new.board) c.args.self.now c.try_lead.new.self
    e.holds e.stands S (runs.Kind.Lock ∷ [], one_step (g.B.Board.whole c.args.board.now) (g.B.Board.whole c.try_lead.new.board) seat.number runs.Kind.Lock (g.B.Board.view c.try_lead.new.board) e.whole)
    (lock_led c.try_lead.result seat.number (g.B.Board.view c.args.board.now) (g.B.Board.view c.try_lead.new.board) c.args.self.now c.try_lead.new.self e.tried)
    (lock_same c.try_lead.result seat.number (g.B.Board.view c.args.board.now) (g.B.Board.view c.try_lead.new.board) c.args.self.now c.try_lead.new.self e.tried)
    (λ stopped. lock_stops c.try_lead.result seat (g.B.Board.view c.args.board.now) (g.B.Board.view c.try_lead.new.board) c.args.self.now c.try_lead.new.self e.holds e.tried) c.requires.order e.rule
    (lock_filled c.try_lead.result seat (g.B.Board.view c.args.board.now) (g.B.Board.view c.try_lead.new.board) c.args.self.now c.try_lead.new.self e.holds e.tried)

pub returns-then-try_lead-clause-turned : goal.returns-then-try_lead-clause-turned
returns-then-try_lead-clause-turned g c s refused before v w y post tells mail sending none =
    let seat = g.B.Board.seat c.args.board.now in
    let had = subst (λ (b : Bool). TriesLock b seat.number (g.B.Board.view c.args.board.now) (g.B.Board.view c.try_lead.new.board) c.args.self.now c.try_lead.new.self) c.if-try_lead.true c.try_lead.ensures.tried in
    locks refl (record {
      mid = g.B.Board.view c.args.board.now;
      before = tells.0;
      post = post;
      clean = sym (none_way s y c.args.self.now none) ∙ c.requires.clean;
      mail = mail;
      ready = y;
      looked = c.args.self.now;
      begins = none;
      sending = sending;
      posted = subst (λ (b : Bool). MatchBool b (FindsPosted w.places.items tells.0.looked.found 8) (FindsPosted w.places.items tells.0.looked.found 8 → ⊥)) c.if-not-posted.false tells.1;
      view = had.0;
      leads_now = had.1;
      same = had.2;
    })

pub returns-clause-keeps : goal.returns-clause-keeps
returns-clause-keeps g c s S =
    let seat = g.B.Board.seat c.args.board.now in
    let e = c.try_lead.ensures in
    keeps_leading seat s (g.B.Board.whole c.args.board.now) (g.B.Board.whole c.try_lead.new.board) (g.B.Board.view c.args.board.now) (g.B.Board.view c.try_lead.new.board) c.args.self.now c.try_lead.new.self
    e.holds e.stands S (runs.Kind.Lock ∷ [], one_step (g.B.Board.whole c.args.board.now) (g.B.Board.whole c.try_lead.new.board) seat.number runs.Kind.Lock (g.B.Board.view c.try_lead.new.board) e.whole)
    (lock_led c.try_lead.result seat.number (g.B.Board.view c.args.board.now) (g.B.Board.view c.try_lead.new.board) c.args.self.now c.try_lead.new.self e.tried)
    (lock_same c.try_lead.result seat.number (g.B.Board.view c.args.board.now) (g.B.Board.view c.try_lead.new.board) c.args.self.now c.try_lead.new.self e.tried)
    (λ stopped. lock_stops c.try_lead.result seat (g.B.Board.view c.args.board.now) (g.B.Board.view c.try_lead.new.board) c.args.self.now c.try_lead.new.self e.holds e.tried) c.requires.order e.rule
    (lock_filled c.try_lead.result seat (g.B.Board.view c.args.board.now) (g.B.Board.view c.try_lead.new.board) c.args.self.now c.try_lead.new.self e.holds e.tried)

pub returns-clause-turned : goal.returns-clause-turned
returns-clause-turned g c s refused before v w y post tells mail sending none =
    let seat = g.B.Board.seat c.args.board.now in
    let had = subst (λ (b : Bool). TriesLock b seat.number (g.B.Board.view c.args.board.now) (g.B.Board.view c.try_lead.new.board) c.args.self.now c.try_lead.new.self) c.if-try_lead.false c.try_lead.ensures.tried in (
      refl,
      record {
        mid = g.B.Board.view c.args.board.now;
        before = tells.0;
        post = post;
        clean = sym (none_way s y c.args.self.now none) ∙ c.requires.clean;
        mail = mail;
        ready = y;
        looked = c.args.self.now;
        begins = none;
        sending = sending;
        lock = inr (subst (λ (b : Bool). MatchBool b (FindsPosted w.places.items tells.0.looked.found 8) (FindsPosted w.places.items tells.0.looked.found 8 → ⊥)) c.if-not-posted.false tells.1, had.0);
        free = had.1;
        same = had.2;
      },
    )

pub returns-then-not-posted-clause-starts : goal.returns-then-not-posted-clause-starts
returns-then-not-posted-clause-starts g c = starts_nothing c.args.self.now c.requires.nothing

pub returns-then-try_lead-clause-less : goal.returns-then-try_lead-clause-less
returns-then-try_lead-clause-less g c offer =
    let seat = g.B.Board.seat c.args.board.now in
    let v = g.B.Board.view c.args.board.now in
    let u = g.B.Board.view c.try_lead.new.board in
    let had = subst (λ (b : Bool). TriesLock b seat.number v u c.args.self.now c.try_lead.new.self) c.if-try_lead.true c.try_lead.ensures.tried in
    had_lower seat (g.B.Board.whole c.args.board.now) (g.B.Board.whole c.try_lead.new.board) v u c.args.self.now c.try_lead.new.self c.try_lead.ensures.holds c.requires.nothing had c.try_lead.ensures.whole (offer c.if-not-posted.false)

pub returns-then-try_lead-clause-starts : goal.returns-then-try_lead-clause-starts
returns-then-try_lead-clause-starts g c =
    let seat = g.B.Board.seat c.args.board.now in
    let v = g.B.Board.view c.args.board.now in
    let u = g.B.Board.view c.try_lead.new.board in
    let had = subst (λ (b : Bool). TriesLock b seat.number v u c.args.self.now c.try_lead.new.self) c.if-try_lead.true c.try_lead.ensures.tried in
    had_starts seat.number v u c.args.self.now c.try_lead.new.self had

pub returns-clause-less : goal.returns-clause-less
returns-clause-less g c offer =
    let seat = g.B.Board.seat c.args.board.now in
    let v = g.B.Board.view c.args.board.now in
    let u = g.B.Board.view c.try_lead.new.board in
    let had = subst (λ (b : Bool). TriesLock b seat.number v u c.args.self.now c.try_lead.new.self) c.if-try_lead.false c.try_lead.ensures.tried in
    found_not_more seat (g.B.Board.whole c.args.board.now) (g.B.Board.whole c.try_lead.new.board) v u c.args.self.now c.try_lead.new.self c.requires.holds c.requires.nothing had c.try_lead.ensures.whole

pub returns-clause-starts : goal.returns-clause-starts
returns-clause-starts g c =
    let seat = g.B.Board.seat c.args.board.now in
    let v = g.B.Board.view c.args.board.now in
    let u = g.B.Board.view c.try_lead.new.board in
    let had = subst (λ (b : Bool). TriesLock b seat.number v u c.args.self.now c.try_lead.new.self) c.if-try_lead.false c.try_lead.ensures.tried in
    starts_nothing c.try_lead.new.self had.1

pub returns-then-not-posted-clause-tries : goal.returns-then-not-posted-clause-tries
returns-then-not-posted-clause-tries g c =
    let w = g.B.Board.whole c.args.board.now in
    subst (λ (b : Bool). TriedIf b (g.B.Board.seat c.args.board.now).number w w (g.B.Board.view c.args.board.now)) (sym c.if-not-posted.true) refl

pub returns-clause-tries : goal.returns-clause-tries
returns-clause-tries g c =
    subst (λ (b : Bool). TriedIf b (g.B.Board.seat c.args.board.now).number (g.B.Board.whole c.args.board.now) (g.B.Board.whole c.try_lead.new.board) (g.B.Board.view c.try_lead.new.board)) (sym c.if-not-posted.false) c.try_lead.ensures.whole

pub returns-then-not-posted-clause-steps : goal.returns-then-not-posted-clause-steps
returns-then-not-posted-clause-steps g c passes s = turn_of_loads passes s s _ _ _ _ _ _ (no_loads (g.B.Board.view c.args.board.now) (g.B.Board.trail c.args.board.now))

pub returns-then-try_lead-clause-steps : goal.returns-then-try_lead-clause-steps
returns-then-try_lead-clause-steps g c passes s = turn_of_one passes s _ _ _ _ _ _ c.try_lead.ensures.steps

pub returns-clause-steps : goal.returns-clause-steps
returns-clause-steps g c passes s = turn_of_one passes s _ _ _ _ _ _ c.try_lead.ensures.steps
