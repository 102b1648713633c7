-- A worker that winds down is at work.
use Rattle.std.proofs.Common.{refl, sym, ◌∙◌, ap, subst}
use Rattle.core_worker.specs.declared.worker.Worker.{Worker}
use Rattle.core_worker.specs.Supplies.{HasKeptRoom}
use Rattle.core_worker.proofs.Clients.{room_wound}
use Rattle.thread_engine.specs.WorkStates.{WorkState, stands_at, sight_by}
use Rattle.thread_engine.specs.WorkStates.Move.{winds_down}
use Rattle.thread_engine.proofs.WorkMoves.{on_one}
use Rattle.thread_engine.proofs.core_job.CoreJob.wind_down.Goals as goal

pub returns-clause-work : goal.returns-clause-work
returns-clause-work g c =
    let e = c.wind_down.ensures in
    let seat = g.B.Board.seat c.args.self.now.seat in
    let v = g.B.Board.view c.args.self.now.seat in
    let M = c.requires.member in
    record {
      member = record {
        holds = e.holds seat.place seat.number v M.holds;
        stands = e.stands (g.P.Region.state c.args.self.now.piece) seat.place seat.number v M.stands;
        order = e.order seat.place seat.number v M.order;
        rule = λ runs. subst HasKeptRoom (sym e.winds) (room_wound c.args.self.now.worker (M.rule (sym (ap (λ (w : Worker). w.stopped) e.winds) ∙ runs)));
      };
      own = c.requires.own;
    }

pub returns-clause-works : goal.returns-clause-works
returns-clause-works g c refused =
    let a = stands_at (sight_by g.B.Board.view g.B.Board.trail g.B.Board.at) g.P.Region.state c.args.self.now in
    let b : WorkState = record a { worker = c.wind_down.new.self } in
    on_one (g.B.Board.seat c.args.self.now.seat) refused a b
    (record { move = winds_down (ap (λ (w : Worker). record { region = a.region; view = a.view; trail = a.trail; worker = w; queue = a.queue }) c.wind_down.ensures.winds); joins = refl; gives = refl })
    (returns-clause-work g c)
