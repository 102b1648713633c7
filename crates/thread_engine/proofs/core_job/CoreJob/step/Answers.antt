-- A step is a move of the worker: it takes a request in or gives it back, or makes a turn.
use Rattle.std.proofs.Common.{⊎_elim, refl, sym, subst}
use Rattle.batch_leader.specs.TurnSteps.{trail_with}
use Rattle.engine_core.specs.Calls.{AreOwn}
use Rattle.engine_core.proofs.Clients.{turned_as}
use Rattle.thread_engine.specs.WorkStates.{IsAtWork, LeavesTurn, OwnMove, TakesNext, stands_at, sight_by}
use Rattle.thread_engine.specs.WorkStates.Move.{accepts, turns}
use Rattle.thread_engine.proofs.HandedTo.{handed_work, handed_accepts}
use Rattle.thread_engine.proofs.WorkMoves.{rule_now}
use Rattle.thread_engine.proofs.core_job.CoreJob.step.Goals as goal

pub returns-clause-work : goal.returns-clause-work
returns-clause-work g c =
    let old = c.args.self.now in
    let seat = g.B.Board.seat old.seat in
    let stands = stands_at (sight_by g.B.Board.view g.B.Board.trail g.B.Board.at) g.P.Region.state in
    let job = λ (d : g.row.B.Denot) (t : g.row.P.Denot). record old { seat = d; piece = t; worker = c.step_core.new.worker; queue = c.step_core.new.backlog } in
    ⊎_elim
    (λ handed. let H = handed.1 in
    let own = subst (AreOwn seat.place seat.number) H.first c.requires.own in
    subst (λ d. IsAtWork seat (stands (job d c.step_core.new.region))) (sym handed.2) (subst (λ t. IsAtWork seat (stands (job old.seat t))) (sym handed.3)
    (handed_work seat (record (stands old) { queue = H.rest }) c.step_core.new.worker c.step_core.new.backlog.items H.next own.0 handed.0 (record { member = c.requires.member; own = own.1 }) c.step_core.result H.moved H.begun H.failed H.taken H.back)))
    (λ gave. let T = turned_as gave.2 (λ w b r x d t. LeavesTurn (g.B.Board.seat b) (g.G.Gate.may_pass c.args.gate.now) (g.G.Gate.may_refuse c.args.gate.now) c.step_core.result (g.P.Region.state r) (g.P.Region.state t) (g.B.Board.whole b) (g.B.Board.whole d) (g.B.Board.view b) (g.B.Board.view d) (trail_with (g.B.Board.trail b) (g.B.Board.at b)) (trail_with (g.B.Board.trail d) (g.B.Board.at d)) w x) (λ i j k l m n made. made.1) in
    record {
      member = record {
        holds = T.holds;
        stands = T.stands;
        order = T.order;
        rule = rule_now old.worker c.step_core.new.worker T.moves.moves.stays_stopped c.requires.member.rule T.rule;
      };
      own = subst (AreOwn seat.place seat.number) (sym gave.1) c.requires.own;
    })
    c.step_core.ensures

pub returns-clause-moves : goal.returns-clause-moves
returns-clause-moves g c =
    let old = c.args.self.now in
    let seat = g.B.Board.seat old.seat in
    let refused = g.G.Gate.may_refuse c.args.gate.now in
    let stands = stands_at (sight_by g.B.Board.view g.B.Board.trail g.B.Board.at) g.P.Region.state in
    let job = λ (d : g.row.B.Denot) (t : g.row.P.Denot). record old { seat = d; piece = t; worker = c.step_core.new.worker; queue = c.step_core.new.backlog } in
    ⊎_elim
    (λ handed. let H = handed.1 in
    let own = subst (AreOwn seat.place seat.number) H.first c.requires.own in
    subst (λ d. OwnMove seat refused (stands old) (stands (job d c.step_core.new.region))) (sym handed.2) (subst (λ t. OwnMove seat refused (stands old) (stands (job old.seat t))) (sym handed.3)
    (record {
      move = accepts (subst (λ q. TakesNext seat (record (stands old) { queue = q }) (stands (job old.seat old.piece))) (sym H.first)
          (handed_accepts seat (record (stands old) { queue = H.rest }) c.step_core.new.worker c.step_core.new.backlog.items H.next own.0 handed.0 (record { member = c.requires.member; own = own.1 }) c.step_core.result H.moved H.begun H.failed H.taken H.back));
      joins = refl;
      gives = refl;
    })))
    (λ gave. let T = turned_as gave.2 (λ w b r x d t. LeavesTurn (g.B.Board.seat b) (g.G.Gate.may_pass c.args.gate.now) (g.G.Gate.may_refuse c.args.gate.now) c.step_core.result (g.P.Region.state r) (g.P.Region.state t) (g.B.Board.whole b) (g.B.Board.whole d) (g.B.Board.view b) (g.B.Board.view d) (trail_with (g.B.Board.trail b) (g.B.Board.at b)) (trail_with (g.B.Board.trail d) (g.B.Board.at d)) w x) (λ i j k l m n made. made.1) in
    record {
      move = turns (record {
        none = gave.0;
        queue = gave.1;
        before = _;
        after = _;
        result = c.step_core.result;
        moves = T.moves;
        turned = T.turned;
        passes = _;
        steps = T.steps;
      });
      joins = refl;
      gives = refl;
    })
    c.step_core.ensures
