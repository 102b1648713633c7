-- The mailboxes are tried one after another.
use Rattle.std.proofs.Common.{◌≡◌, ◌⊎◌, false, refl, ◌∙◌, subst}
use Rattle.group_laws.specs.Runs.{Kind}
use Rattle.group_laws.specs.declared.types.Seen.TheVariants.{Mail}
use Rattle.group_board.specs.Seats.{SeatAt}
use Rattle.group_board.specs.Told.{Makes}
use Rattle.group_board.specs.Views.{after_find}
use Rattle.batch_leader.proofs.Clients.{no_loads, loads_on, loads_then}
use Rattle.core_worker.proofs.MailTurns.{none_found, found_on}
use Rattle.core_worker.proofs.worker.Worker.receive_first.Goals as goal

pub loop-from-init : goal.loop-from-init
loop-from-init g c =
    let seat = g.B.Board.seat c.args.board.now in
    record {
      sits = refl;
      same = refl;
      found = none_found (g.B.Board.whole c.args.board.now) seat.number seat.place (g.B.Board.view c.args.board.now) (g.met.B.Board.agrees c.args.board.now);
      trail = no_loads (g.B.Board.view c.args.board.now) (g.B.Board.trail c.args.board.now);
    }

pub returns-then-receive_beside-clause-steps : goal.returns-then-receive_beside-clause-steps
returns-then-receive_beside-clause-steps g c = loads_then _ _ _ _ _ _ c.loop-from.invariant.trail c.if-receive_beside.ensures.steps

pub loop-from-preserved : goal.loop-from-preserved
loop-from-preserved g c =
    let w = g.B.Board.whole in
    let v = g.B.Board.view in
    let i = c.loop-from.invariant in
    let r = c.if-receive_beside.ensures.received in
    let which = subst (λ (x : SeatAt). ((v c.receive_beside.new.board ≡ after_find (Mail c.loop-from.from x.number false) (v c.loop-from.board)) × Makes (w c.loop-from.board) x.number (Kind.LookMail c.loop-from.from x.number) (w c.receive_beside.new.board) (v c.receive_beside.new.board))
    ⊎ ((c.loop-from.from ≡ x.number) × (v c.receive_beside.new.board ≡ v c.loop-from.board) × (w c.receive_beside.new.board ≡ w c.loop-from.board))) i.sits r.1 in
    record {
      sits = c.receive_beside.ensures.seat ∙ i.sits;
      same = r.0 ∙ i.same;
      found = found_on (w c.args.board.now) (w c.loop-from.board) (w c.receive_beside.new.board) (g.B.Board.seat c.args.board.now).number c.loop-from.from (v c.args.board.now) (v c.loop-from.board) (v c.receive_beside.new.board) i.found which;
      trail = loads_on _ _ _ _ _ _ i.trail c.if-receive_beside.ensures.steps;
    }
