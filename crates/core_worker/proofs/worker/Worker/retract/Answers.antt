-- Where no own slot is Posted, the lock is given back.
use Rattle.std.proofs.Common.{refl, sym, subst}
use Rattle.group_board.specs.Seats.{SeatAt}
use Rattle.group_board.specs.Told.{Makes}
use Rattle.group_laws.specs.Runs as runs
use Rattle.batch_leader.specs.Leading.{IsReleased}
use Rattle.core_worker.proofs.Unlocking.{unlocks}
use Rattle.core_worker.proofs.LeftBacks.{gives_over_lower, nothing_low}
use Rattle.batch_leader.proofs.Clients.{loads_then, one_only}
use Rattle.group_laws.specs.Runs.{Kind}
use Rattle.core_worker.proofs.worker.Worker.retract.Goals as goal

pub returns-in-None-clause-retracts : goal.returns-in-None-clause-retracts
returns-in-None-clause-retracts g c =
    let here = g.B.Board.seat c.args.board.now in
    let w0 = g.B.Board.whole c.args.board.now in
    let w1 = g.B.Board.whole c.withdraw_own.new.board in
    let w2 = g.B.Board.whole c.release.new.board in
    let v = g.B.Board.view c.args.board.now in
    let mid = g.B.Board.view c.withdraw_own.new.board in
    let u = g.B.Board.view c.release.new.board in
    let seat = c.withdraw_own.ensures.seat in
    unlocks here w0 w1 w2 v mid u c.args.self.now c.in-Collecting.collecting c.withdraw_own.new.self c.release.result c.led_by.result c.requires.holds c.requires.order c.requires.stopped (sym c.in-Collecting.ensures.value) c.in-None.ensures.found (c.in-None.ensures.seen refl) c.withdraw_own.ensures.idle c.release.ensures.view
    (subst (λ (q : SeatAt). IsReleased q u c.withdraw_own.new.self c.release.result) seat c.release.ensures.released) c.led_by.ensures (subst (λ (q : SeatAt). Makes w1 q.number runs.Kind.Unlock w2 u) seat c.release.ensures.whole)

pub returns-in-None-clause-less : goal.returns-in-None-clause-less
returns-in-None-clause-less g c none =
    let here = g.B.Board.seat c.args.board.now in
    let w1 = g.B.Board.whole c.withdraw_own.new.board in
    let w2 = g.B.Board.whole c.release.new.board in
    let u = g.B.Board.view c.release.new.board in
    let w = c.args.self.now in
    let new = record w { leading = c.led_by.result } in
    gives_over_lower (g.B.Board.whole c.args.board.now) w1 w2 here.number (g.B.Board.view c.withdraw_own.new.board) u w new c.in-None.ensures.found.none c.in-None.ensures.found.made
    (subst (λ (q : SeatAt). Makes w1 q.number runs.Kind.Unlock w2 u) c.withdraw_own.ensures.seat c.release.ensures.whole) (g.met.B.Board.lawful c.args.board.now) (nothing_low w new refl (returns-in-None-clause-retracts g c).leads_now)

pub returns-in-None-clause-steps : goal.returns-in-None-clause-steps
returns-in-None-clause-steps g c = loads_then _ _ _ _ _ _ c.in-None.ensures.steps (one_only _ _ _ _ (Kind.Unlock) c.release.ensures.step refl)
