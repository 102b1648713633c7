-- Item 1.
use Rattle.std.proofs.Common.{refl}
use Rattle.std.specs.Prelude.{is_ok}
use Rattle.core_worker.specs.Turning.Did.{withdraws}
use Rattle.core_worker.proofs.ItemLaws.{keeps_withdraw}
use Rattle.core_worker.proofs.LeftTurns.{withdrawn_starts}
use Rattle.batch_leader.proofs.Clients.{turn_of_one}
use Rattle.core_worker.proofs.worker.Worker.serve_collecting.Goals as goal

pub returns-then-self-clause-serves : goal.returns-then-self-clause-serves
returns-then-self-clause-serves g c passes =
    let s = g.R.Region.state c.args.region.now in
    let w = c.args.self.now in
    let x = c.withdraw.new.self in
    let e = c.withdraw.ensures in
    record {
      seat = e.seat;
      keeps =
          keeps_withdraw (g.B.Board.seat c.args.board.now) s (g.B.Board.whole c.args.board.now) (g.B.Board.whole c.withdraw.new.board) (g.B.Board.view c.args.board.now) (g.B.Board.view c.withdraw.new.board) w x (is_ok c.withdraw.result)
          c.if-self.true c.requires.tied.holds e.holds c.requires.tied.stands e.stands c.requires.tied.order e.order e.rule e.made e.withdraws;
      memory = e.memory;
      awake = e.awake;
      starts = withdrawn_starts _ _ _ _ _ _ w x _ c.if-self.true e.withdraws;
      works = e.works;
      steps = turn_of_one passes s _ _ _ _ _ _ e.steps;
    }

pub returns-then-self-clause-did : goal.returns-then-self-clause-did
returns-then-self-clause-did g c refused = withdraws refl (g.B.Board.whole c.withdraw.new.board) (is_ok c.withdraw.result) c.withdraw.ensures.withdraws

pub returns-clause-serves : goal.returns-clause-serves
returns-clause-serves g c passes =
    let s = g.R.Region.state c.args.region.now in
    let e = c.serve_round.ensures in
    record {
      seat = e.seat;
      keeps = e.keeps s c.requires.tied.stands;
      memory = tt;
      awake = tt;
      starts = e.starts;
      works = e.works;
      steps = e.steps passes s;
    }

pub returns-clause-did : goal.returns-clause-did
returns-clause-did g c refused = c.serve_round.ensures.did (g.R.Region.state c.args.region.now) refused

pub returns-clause-less : goal.returns-clause-less
returns-clause-less g c rule starts = c.serve_round.ensures.less (rule c.if-self.false) starts
