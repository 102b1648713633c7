-- What awaits for one member is made ready and sent.
use Rattle.std.proofs.Common.{inl, refl, ◌∙◌, ap, subst, arith, ◌≡◌, ℕ}
use Rattle.batch_leader.proofs.Clients.{no_loads}
use Rattle.core_worker.specs.declared.worker.Worker.{Worker}
use Rattle.core_worker.specs.Sending.{IsReadyFor, TakesAt, WindsOnly}
use Rattle.core_worker.proofs.Members.{core_beside, member_low}
use Rattle.core_worker.proofs.ReadyLaws.{takes_at}
use Rattle.core_worker.proofs.SendTurns.{keeps_short, tied_by, on_short, sent_to, sent_tied, sent_keeps, sent_steps}
use Rattle.core_worker.proofs.worker.Worker.send_to.Goals as goal

pub overflow_sub-home : goal.overflow_sub-home
overflow_sub-home g c =
    let seat = g.B.Board.seat c.args.board.now in
    let low = member_low seat.place seat.number in
    let member = c.member.ensures in
    let core = c.requires.holds.core in
    omega (arith, low, member, core)

pub returns-then-not-has_mail-clause-sends : goal.returns-then-not-has_mail-clause-sends
returns-then-not-has_mail-clause-sends g c =
    let seat = g.B.Board.seat c.args.board.now in
    let home = core_beside seat.place seat.number c.args.to c.args.self.now.core c.member.result c.requires.holds.core c.member.ensures in (
      subst (λ (h : ℕ). TakesAt h c.args.to c.args.self.now c.ready_for.new.self) home c.ready_for.ensures.takes,
      subst (λ (h : ℕ). IsReadyFor h c.args.to c.args.self.now c.ready_for.new.self) home c.in-Ok.ensures.ready,
      inl (c.if-not-has_mail.ensures.none refl, refl, refl),
    )

pub returns-then-not-has_mail-clause-tied : goal.returns-then-not-has_mail-clause-tied
returns-then-not-has_mail-clause-tied g c =
    let seat = g.B.Board.seat c.args.board.now in
    let home = core_beside seat.place seat.number c.args.to c.args.self.now.core c.member.result c.requires.holds.core c.member.ensures in
    tied_by seat (g.B.Board.view c.args.board.now) c.args.self.now c.ready_for.new.self
    (c.ready_for.ensures.keeps seat.place seat.number (g.B.Board.view c.args.board.now) c.requires.holds c.requires.order c.requires.runs c.requires.nothing c.requires.other home)

pub send_ready-requires-clause-holds : goal.send_ready-requires-clause-holds
send_ready-requires-clause-holds g c =
    let seat = g.B.Board.seat c.args.board.now in
    let home = core_beside seat.place seat.number c.args.to c.args.self.now.core c.member.result c.requires.holds.core c.member.ensures in
    (c.ready_for.ensures.keeps seat.place seat.number (g.B.Board.view c.args.board.now) c.requires.holds c.requires.order c.requires.runs c.requires.nothing c.requires.other home).holds

pub send_ready-requires-clause-order : goal.send_ready-requires-clause-order
send_ready-requires-clause-order g c =
    let seat = g.B.Board.seat c.args.board.now in
    let home = core_beside seat.place seat.number c.args.to c.args.self.now.core c.member.result c.requires.holds.core c.member.ensures in
    (c.ready_for.ensures.keeps seat.place seat.number (g.B.Board.view c.args.board.now) c.requires.holds c.requires.order c.requires.runs c.requires.nothing c.requires.other home).order

pub send_ready-requires-clause-nothing : goal.send_ready-requires-clause-nothing
send_ready-requires-clause-nothing g c = (c.requires.nothing.0, ap (λ (z : Worker). z.leading) c.ready_for.ensures.takes.same ∙ c.requires.nothing.1)

pub returns-in-Ok-clause-sends : goal.returns-in-Ok-clause-sends
returns-in-Ok-clause-sends g c =
    let seat = g.B.Board.seat c.args.board.now in
    let home = core_beside seat.place seat.number c.args.to c.args.self.now.core c.member.result c.requires.holds.core c.member.ensures in
    let X = subst (λ (h : ℕ). TakesAt h c.args.to c.args.self.now c.ready_for.new.self) home c.ready_for.ensures.takes in
    let I = subst (λ (h : ℕ). IsReadyFor h c.args.to c.args.self.now c.ready_for.new.self) home c.in-Ok.ensures.ready in
    sent_to seat c.args.to (g.B.Board.whole c.args.board.now) (g.B.Board.view c.args.board.now) c.args.self.now c.ready_for.new.self c.requires.holds c.requires.order c.requires.nothing c.requires.runs c.requires.works c.requires.other X I
    c.send_ready.result (g.B.Board.whole c.send_ready.new.board) (g.B.Board.view c.send_ready.new.board) c.send_ready.new.self (c.if-not-has_mail.ensures.some refl) c.send_ready.ensures.sent
    (on_short c.send_ready.result ((c.send_ready.new.board ≡ c.args.board.now) × WindsOnly c.ready_for.new.self c.send_ready.new.self) ((g.B.Board.view c.send_ready.new.board ≡ g.B.Board.view c.args.board.now) × (g.B.Board.whole c.send_ready.new.board ≡ g.B.Board.whole c.args.board.now) × WindsOnly c.ready_for.new.self c.send_ready.new.self) (λ e. (ap g.B.Board.view e.0, ap g.B.Board.whole e.0, e.1)) c.send_ready.ensures.err)

pub returns-in-Ok-clause-keeps : goal.returns-in-Ok-clause-keeps
returns-in-Ok-clause-keeps g c s S =
    let seat = g.B.Board.seat c.args.board.now in
    let v = g.B.Board.view c.args.board.now in
    let home = core_beside seat.place seat.number c.args.to c.args.self.now.core c.member.result c.requires.holds.core c.member.ensures in
    let X = subst (λ (h : ℕ). TakesAt h c.args.to c.args.self.now c.ready_for.new.self) home c.ready_for.ensures.takes in
    let I = subst (λ (h : ℕ). IsReadyFor h c.args.to c.args.self.now c.ready_for.new.self) home c.in-Ok.ensures.ready in
    let K = c.ready_for.ensures.keeps seat.place seat.number v c.requires.holds c.requires.order c.requires.runs c.requires.nothing c.requires.other home in
    sent_keeps seat c.args.to (g.B.Board.whole c.args.board.now) v c.args.self.now c.ready_for.new.self c.requires.holds c.requires.order c.requires.nothing c.requires.runs c.requires.works c.requires.other X I
    c.send_ready.result s (g.B.Board.whole c.send_ready.new.board) (g.B.Board.view c.send_ready.new.board) c.send_ready.new.self (g.met.B.Board.agrees c.args.board.now) S (c.send_ready.ensures.keeps s (K.stands s S))
    (on_short c.send_ready.result ((c.send_ready.new.board ≡ c.args.board.now) × WindsOnly c.ready_for.new.self c.send_ready.new.self) ((g.B.Board.view c.send_ready.new.board ≡ g.B.Board.view c.args.board.now) × (g.B.Board.whole c.send_ready.new.board ≡ g.B.Board.whole c.args.board.now) × WindsOnly c.ready_for.new.self c.send_ready.new.self) (λ e. (ap g.B.Board.view e.0, ap g.B.Board.whole e.0, e.1)) c.send_ready.ensures.err)

pub returns-in-Ok-clause-tied : goal.returns-in-Ok-clause-tied
returns-in-Ok-clause-tied g c =
    let seat = g.B.Board.seat c.args.board.now in
    let home = core_beside seat.place seat.number c.args.to c.args.self.now.core c.member.result c.requires.holds.core c.member.ensures in
    let X = subst (λ (h : ℕ). TakesAt h c.args.to c.args.self.now c.ready_for.new.self) home c.ready_for.ensures.takes in
    let I = subst (λ (h : ℕ). IsReadyFor h c.args.to c.args.self.now c.ready_for.new.self) home c.in-Ok.ensures.ready in
    sent_tied seat c.args.to (g.B.Board.whole c.args.board.now) (g.B.Board.view c.args.board.now) c.args.self.now c.ready_for.new.self c.requires.holds c.requires.order c.requires.nothing c.requires.runs c.requires.works c.requires.other X I
    c.send_ready.result (g.B.Board.whole c.send_ready.new.board) (g.B.Board.view c.send_ready.new.board) c.send_ready.new.self c.send_ready.ensures.sent

pub returns-in-Ok-clause-steps : goal.returns-in-Ok-clause-steps
returns-in-Ok-clause-steps g c = sent_steps c.send_ready.result (g.B.Board.view c.args.board.now) (g.B.Board.view c.send_ready.new.board) (g.B.Board.trail c.args.board.now) (g.B.Board.trail c.send_ready.new.board) c.send_ready.ensures.steps
    (on_short c.send_ready.result ((c.send_ready.new.board ≡ c.args.board.now) × WindsOnly c.ready_for.new.self c.send_ready.new.self) ((g.B.Board.view c.send_ready.new.board ≡ g.B.Board.view c.args.board.now) × (g.B.Board.trail c.send_ready.new.board ≡ g.B.Board.trail c.args.board.now)) (λ e. (ap g.B.Board.view e.0, ap g.B.Board.trail e.0)) c.send_ready.ensures.err)

pub returns-in-Err-clause-sends : goal.returns-in-Err-clause-sends
returns-in-Err-clause-sends g c =
    let seat = g.B.Board.seat c.args.board.now in
    let home = core_beside seat.place seat.number c.args.to c.args.self.now.core c.member.result c.requires.holds.core c.member.ensures in
    (subst (λ (h : ℕ). TakesAt h c.args.to c.args.self.now c.ready_for.new.self) home c.ready_for.ensures.takes, c.in-Err.ensures.memory, refl, refl)

pub returns-in-Err-clause-keeps : goal.returns-in-Err-clause-keeps
returns-in-Err-clause-keeps g c s S =
    let seat = g.B.Board.seat c.args.board.now in
    let v = g.B.Board.view c.args.board.now in
    let home = core_beside seat.place seat.number c.args.to c.args.self.now.core c.member.result c.requires.holds.core c.member.ensures in
    let X = subst (λ (h : ℕ). TakesAt h c.args.to c.args.self.now c.ready_for.new.self) home c.ready_for.ensures.takes in
    keeps_short seat s (g.B.Board.whole c.args.board.now) v c.args.self.now c.ready_for.new.self (g.met.B.Board.agrees c.args.board.now) S (takes_at seat.place c.args.to c.args.self.now c.ready_for.new.self X) c.in-Err.ensures.memory
    (c.ready_for.ensures.keeps seat.place seat.number v c.requires.holds c.requires.order c.requires.runs c.requires.nothing c.requires.other home)

pub returns-in-Err-clause-steps : goal.returns-in-Err-clause-steps
returns-in-Err-clause-steps g c = no_loads (g.B.Board.view c.args.board.now) (g.B.Board.trail c.args.board.now)
