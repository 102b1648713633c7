-- proofs/worker/Worker/turn/Answers.antt
-- By what is led. The index keeps room for just the changes that may come.
use Rattle.core_worker.specs.Turning.{at_entry}
use Rattle.core_worker.proofs.JustRooms.{just_did, just_turned}
use Rattle.core_worker.proofs.worker.Worker.turn.Goals as goal

pub returns-in-Nothing : goal.returns-in-Nothing
returns-in-Nothing g c =
    let e = c.serve_own.ensures in
    let S = e.serves in
    record {
      seat = S.seat;
      moments = S.keeps.moments;
      outside = S.keeps.outside;
      holds = S.keeps.holds;
      stands = S.keeps.stands;
      order = S.keeps.order;
      rule = S.keeps.rule;
      moves = S.keeps.moves;
      turned = e.turned;
      memory = S.memory;
      awake = S.awake;
      less = λ rule starts. e.less;
      starts = S.starts;
      idles = e.idles;
      works = S.works;
      just = just_turned c.serve_own.result (g.R.Region.state c.args.region.now) (g.R.Region.state c.serve_own.new.region) (g.G.Gate.may_refuse c.args.gate.now) (g.B.Board.whole c.args.board.now) (g.B.Board.seat c.args.board.now)
          (at_entry c.args.self.now (g.B.Board.view c.args.board.now)) (at_entry c.serve_own.new.self (g.B.Board.view c.serve_own.new.board)) c.requires.holds.apart e.turned;
      steps = S.steps;
    }

pub returns-in-Ok : goal.returns-in-Ok
returns-in-Ok g c =
    let refused = g.G.Gate.may_refuse c.args.gate.now in
    let e = c.in-Ok.ensures in
    let S = e.serves (g.G.Gate.may_pass c.args.gate.now) in
    let did = e.did refused in
    record {
      seat = S.seat;
      moments = S.keeps.moments;
      outside = S.keeps.outside;
      holds = S.keeps.holds;
      stands = S.keeps.stands;
      order = S.keeps.order;
      rule = S.keeps.rule;
      moves = S.keeps.moves;
      turned = did;
      memory = S.memory;
      awake = S.awake;
      less = e.less;
      starts = S.starts;
      idles = tt;
      works = S.works;
      just = just_did (g.R.Region.state c.args.region.now) (g.R.Region.state c.args.region.now) refused (g.B.Board.whole c.args.board.now) (g.B.Board.seat c.args.board.now)
          (at_entry c.args.self.now (g.B.Board.view c.args.board.now)) (at_entry c.serve_collecting.new.self (g.B.Board.view c.serve_collecting.new.board)) c.requires.holds.apart did;
      steps = S.steps;
    }

pub returns-in-Err : goal.returns-in-Err
returns-in-Err g c =
    let refused = g.G.Gate.may_refuse c.args.gate.now in
    let e = c.in-Err.ensures in
    let S = e.serves (g.G.Gate.may_pass c.args.gate.now) in
    let did = e.did refused in
    record {
      seat = S.seat;
      moments = S.keeps.moments;
      outside = S.keeps.outside;
      holds = S.keeps.holds;
      stands = S.keeps.stands;
      order = S.keeps.order;
      rule = S.keeps.rule;
      moves = S.keeps.moves;
      turned = did;
      memory = S.memory;
      awake = S.awake;
      less = e.less;
      starts = S.starts;
      idles = tt;
      works = S.works;
      just = just_did (g.R.Region.state c.args.region.now) (g.R.Region.state c.args.region.now) refused (g.B.Board.whole c.args.board.now) (g.B.Board.seat c.args.board.now)
          (at_entry c.args.self.now (g.B.Board.view c.args.board.now)) (at_entry c.serve_collecting.new.self (g.B.Board.view c.serve_collecting.new.board)) c.requires.holds.apart did;
      steps = S.steps;
    }

pub returns-in-Ok-serve_batch : goal.returns-in-Ok-serve_batch
returns-in-Ok-serve_batch g c =
    let refused = g.G.Gate.may_refuse c.args.gate.now in
    let e = c.in-Ok-serve_batch.ensures in
    let S = e.serves (g.G.Gate.may_pass c.args.gate.now) in
    let did = e.did refused in
    record {
      seat = S.seat;
      moments = S.keeps.moments;
      outside = S.keeps.outside;
      holds = S.keeps.holds;
      stands = S.keeps.stands;
      order = S.keeps.order;
      rule = S.keeps.rule;
      moves = S.keeps.moves;
      turned = did;
      memory = S.memory;
      awake = S.awake;
      less = λ rule starts. e.less;
      starts = S.starts;
      idles = tt;
      works = S.works;
      just = just_did (g.R.Region.state c.args.region.now) (g.R.Region.state c.serve_batch.new.region) refused (g.B.Board.whole c.args.board.now) (g.B.Board.seat c.args.board.now)
          (at_entry c.args.self.now (g.B.Board.view c.args.board.now)) (at_entry c.serve_batch.new.self (g.B.Board.view c.serve_batch.new.board)) c.requires.holds.apart did;
      steps = S.steps;
    }

pub returns-in-Err-serve_batch : goal.returns-in-Err-serve_batch
returns-in-Err-serve_batch g c =
    let refused = g.G.Gate.may_refuse c.args.gate.now in
    let e = c.in-Err-serve_batch.ensures in
    let S = e.serves (g.G.Gate.may_pass c.args.gate.now) in
    let did = e.did refused in
    record {
      seat = S.seat;
      moments = S.keeps.moments;
      outside = S.keeps.outside;
      holds = S.keeps.holds;
      stands = S.keeps.stands;
      order = S.keeps.order;
      rule = S.keeps.rule;
      moves = S.keeps.moves;
      turned = did;
      memory = S.memory;
      awake = S.awake;
      less = λ rule starts. e.less;
      starts = S.starts;
      idles = tt;
      works = S.works;
      just = just_did (g.R.Region.state c.args.region.now) (g.R.Region.state c.serve_batch.new.region) refused (g.B.Board.whole c.args.board.now) (g.B.Board.seat c.args.board.now)
          (at_entry c.args.self.now (g.B.Board.view c.args.board.now)) (at_entry c.serve_batch.new.self (g.B.Board.view c.serve_batch.new.board)) c.requires.holds.apart did;
      steps = S.steps;
    }
