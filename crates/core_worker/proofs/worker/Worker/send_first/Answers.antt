-- The members are gone through, and what waits for the first with an empty mailbox is sent.
use Rattle.std.proofs.Common.{refl, sym, ◌∙◌, ap, subst, Ok, Err}
use Rattle.group_board.specs.Seats.{SeatAt}
use Rattle.batch_leader.proofs.Clients.{no_loads, loads_on, loads_then}
use Rattle.core_worker.specs.Readying.{SendsBeside, StaysTiedFrom}
use Rattle.core_worker.specs.Ties.{StandsAt}
use Rattle.core_worker.specs.Turning.{KeepsTurn}
use Rattle.core_worker.proofs.SendTurns.{keeps_on, lowest_by, none_more, none_sent, none_yet, over_sent, readied_free, short_by, steps_none, steps_sent, tied_on, tied_still}
use Rattle.core_worker.proofs.worker.Worker.send_first.Goals as goal

pub loop-to-init : goal.loop-to-init
loop-to-init g c =
    let seat = g.B.Board.seat c.args.board.now in
    let v = g.B.Board.view c.args.board.now in
    record {
      sits = refl;
      none = none_yet seat.place seat.number (g.B.Board.whole c.args.board.now) v c.args.self.now (g.met.B.Board.agrees c.args.board.now);
      tied = tied_still seat v c.args.self.now c.requires.holds c.requires.order;
      trail = no_loads v (g.B.Board.trail c.args.board.now);
    }

pub send_beside-requires-clause-nothing : goal.send_beside-requires-clause-nothing
send_beside-requires-clause-nothing g c =
    let seat = g.B.Board.seat c.args.board.now in
    readied_free seat.place seat.number c.loop-to.to c.args.self.now c.loop-to.self c.loop-to.invariant.none.readies c.requires.nothing

pub returns-then-sent-clause-sends : goal.returns-then-sent-clause-sends
returns-then-sent-clause-sends g c =
    let w = g.B.Board.whole in
    let v = g.B.Board.view in
    let seat = g.B.Board.seat c.args.board.now in
    let i = c.loop-to.invariant in
    lowest_by seat.place seat.number c.loop-to.to (w c.args.board.now) (w c.loop-to.board) (w c.send_beside.new.board) (v c.args.board.now) (v c.loop-to.board) (v c.send_beside.new.board) c.args.self.now c.loop-to.self c.send_beside.new.self i.none
    (Ok c.in-Ok.sent) (ap Ok c.if-sent.true) (subst (λ (x : SeatAt). SendsBeside (Ok c.in-Ok.sent) x.place x.number c.loop-to.to (w c.loop-to.board) (w c.send_beside.new.board) (v c.loop-to.board) (v c.send_beside.new.board) c.loop-to.self c.send_beside.new.self) i.sits c.in-Ok.ensures.sends)

pub returns-then-sent-clause-keeps : goal.returns-then-sent-clause-keeps
returns-then-sent-clause-keeps g c s S =
    let w = g.B.Board.whole in
    let v = g.B.Board.view in
    let seat = g.B.Board.seat c.args.board.now in
    let i = c.loop-to.invariant in
    keeps_on seat s c.loop-to.to (w c.args.board.now) (w c.loop-to.board) (w c.send_beside.new.board) (v c.args.board.now) (v c.loop-to.board) (v c.send_beside.new.board) c.args.self.now c.loop-to.self c.send_beside.new.self i.none
    (subst (λ (x : SeatAt). KeepsTurn x s s (w c.loop-to.board) (w c.send_beside.new.board) (v c.loop-to.board) (v c.send_beside.new.board) c.loop-to.self c.send_beside.new.self) i.sits
    (over_sent c.in-Ok.sent (KeepsTurn (g.B.Board.seat c.loop-to.board) s s (w c.loop-to.board) (w c.send_beside.new.board) (v c.loop-to.board) (v c.send_beside.new.board) c.loop-to.self c.send_beside.new.self) c.if-sent.true
    (c.in-Ok.ensures.keeps s (subst (λ (x : SeatAt). StandsAt s x (v c.loop-to.board) c.loop-to.self) (sym i.sits) (i.tied.stands s S)))))

pub returns-then-sent-clause-steps : goal.returns-then-sent-clause-steps
returns-then-sent-clause-steps g c = loads_then _ _ _ _ _ _ c.loop-to.invariant.trail (steps_sent c.in-Ok.sent _ _ _ _ c.if-sent.true c.in-Ok.ensures.steps)

pub returns-in-Err-clause-sends : goal.returns-in-Err-clause-sends
returns-in-Err-clause-sends g c =
    let w = g.B.Board.whole in
    let v = g.B.Board.view in
    let seat = g.B.Board.seat c.args.board.now in
    let i = c.loop-to.invariant in
    short_by seat.place seat.number c.loop-to.to (w c.args.board.now) (w c.loop-to.board) (w c.send_beside.new.board) (v c.args.board.now) (v c.loop-to.board) (v c.send_beside.new.board) c.args.self.now c.loop-to.self c.send_beside.new.self i.none
    (Err c.in-Err.memory) c.in-Err.memory refl (subst (λ (x : SeatAt). SendsBeside (Err c.in-Err.memory) x.place x.number c.loop-to.to (w c.loop-to.board) (w c.send_beside.new.board) (v c.loop-to.board) (v c.send_beside.new.board) c.loop-to.self c.send_beside.new.self) i.sits c.in-Err.ensures.sends)

pub returns-in-Err-clause-keeps : goal.returns-in-Err-clause-keeps
returns-in-Err-clause-keeps g c s S =
    let w = g.B.Board.whole in
    let v = g.B.Board.view in
    let seat = g.B.Board.seat c.args.board.now in
    let i = c.loop-to.invariant in
    keeps_on seat s c.loop-to.to (w c.args.board.now) (w c.loop-to.board) (w c.send_beside.new.board) (v c.args.board.now) (v c.loop-to.board) (v c.send_beside.new.board) c.args.self.now c.loop-to.self c.send_beside.new.self i.none
    (subst (λ (x : SeatAt). KeepsTurn x s s (w c.loop-to.board) (w c.send_beside.new.board) (v c.loop-to.board) (v c.send_beside.new.board) c.loop-to.self c.send_beside.new.self) i.sits
    (c.in-Err.ensures.keeps s (subst (λ (x : SeatAt). StandsAt s x (v c.loop-to.board) c.loop-to.self) (sym i.sits) (i.tied.stands s S))))

pub returns-in-Err-clause-steps : goal.returns-in-Err-clause-steps
returns-in-Err-clause-steps g c = loads_on _ _ _ _ _ _ c.loop-to.invariant.trail c.in-Err.ensures.steps

pub loop-to-preserved : goal.loop-to-preserved
loop-to-preserved g c =
    let w = g.B.Board.whole in
    let v = g.B.Board.view in
    let seat = g.B.Board.seat c.args.board.now in
    let i = c.loop-to.invariant in
    record {
      sits = c.send_beside.ensures.seat ∙ i.sits;
      none = none_more seat.place seat.number c.loop-to.to (w c.args.board.now) (w c.loop-to.board) (w c.send_beside.new.board) (v c.args.board.now) (v c.loop-to.board) (v c.send_beside.new.board) c.args.self.now c.loop-to.self c.send_beside.new.self i.none
          (Ok c.in-Ok.sent) (ap Ok c.if-sent.false) (subst (λ (x : SeatAt). SendsBeside (Ok c.in-Ok.sent) x.place x.number c.loop-to.to (w c.loop-to.board) (w c.send_beside.new.board) (v c.loop-to.board) (v c.send_beside.new.board) c.loop-to.self c.send_beside.new.self) i.sits c.in-Ok.ensures.sends);
      tied = tied_on seat (v c.args.board.now) (v c.loop-to.board) (v c.send_beside.new.board) c.args.self.now c.loop-to.self c.send_beside.new.self i.tied
          (subst (λ (x : SeatAt). StaysTiedFrom x (v c.loop-to.board) (v c.send_beside.new.board) c.loop-to.self c.send_beside.new.self) i.sits
          (none_sent c.in-Ok.sent (StaysTiedFrom (g.B.Board.seat c.loop-to.board) (v c.loop-to.board) (v c.send_beside.new.board) c.loop-to.self c.send_beside.new.self) c.if-sent.false c.in-Ok.ensures.tied));
      trail = loads_on _ _ _ _ _ _ i.trail (steps_none c.in-Ok.sent _ _ _ _ c.if-sent.false c.in-Ok.ensures.steps);
    }
