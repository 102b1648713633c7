-- A change is withdrawn and put away, and what waits of its key is begun; or the lock is given back.
use Rattle.core_worker.proofs.Retracting.{retracted_busy, retracted_room, retracted_used, retracted_freed, retracted_made, retracted_serves, withdraws_slot}
use Rattle.core_worker.proofs.LeftBacks.{withdraws_lower, put_by_low, collecting_low}
use Rattle.std.proofs.Common.{◌+◌, sym, subst, arith}
use Rattle.core_worker.specs.Supplies.{HasKeptRoom}
use Rattle.core_worker.proofs.worker.Worker.withdraw.Goals as goal

pub returns-in-None-clause-stands : goal.returns-in-None-clause-stands
returns-in-None-clause-stands g c = c.in-None.ensures.retracts.stands (g.R.Region.state c.args.region.now) c.requires.tied.stands

pub returns-in-None-clause-rule : goal.returns-in-None-clause-rule
returns-in-None-clause-rule g c h = subst HasKeptRoom (sym c.in-None.ensures.retracts.same) h

pub put_by-requires-clause-busy : goal.put_by-requires-clause-busy
put_by-requires-clause-busy g c =
    let here = g.B.Board.seat c.args.board.now in
    let w0 = g.B.Board.whole c.args.board.now in
    let w1 = g.B.Board.whole c.retract.new.board in
    let v = g.B.Board.view c.args.board.now in
    let u = g.B.Board.view c.retract.new.board in
    let w = c.args.self.now in
    let mid = c.retract.new.self in
    let s = g.R.Region.state c.args.region.now in
    retracted_busy here w0 w1 v u w mid c.in-Some.change c.requires.tied.holds c.requires.tied.order c.requires.stopped c.requires.collects c.in-Some.ensures.retracts

pub put_by-requires-clause-room : goal.put_by-requires-clause-room
put_by-requires-clause-room g c =
    let here = g.B.Board.seat c.args.board.now in
    let w0 = g.B.Board.whole c.args.board.now in
    let w1 = g.B.Board.whole c.retract.new.board in
    let v = g.B.Board.view c.args.board.now in
    let u = g.B.Board.view c.retract.new.board in
    let w = c.args.self.now in
    let mid = c.retract.new.self in
    let s = g.R.Region.state c.args.region.now in
    retracted_room here w0 w1 v u w mid c.in-Some.change c.requires.tied.holds c.requires.tied.order c.requires.stopped c.requires.collects c.in-Some.ensures.retracts

pub put_by-requires-clause-used : goal.put_by-requires-clause-used
put_by-requires-clause-used g c =
    let here = g.B.Board.seat c.args.board.now in
    let w0 = g.B.Board.whole c.args.board.now in
    let w1 = g.B.Board.whole c.retract.new.board in
    let v = g.B.Board.view c.args.board.now in
    let u = g.B.Board.view c.retract.new.board in
    let w = c.args.self.now in
    let mid = c.retract.new.self in
    let s = g.R.Region.state c.args.region.now in
    retracted_used here w0 w1 v u w mid c.in-Some.change c.requires.tied.holds c.requires.tied.order c.requires.stopped c.requires.collects c.in-Some.ensures.retracts

pub serve-requires-clause-tied : goal.serve-requires-clause-tied
serve-requires-clause-tied g c =
    let here = g.B.Board.seat c.args.board.now in
    let w0 = g.B.Board.whole c.args.board.now in
    let w1 = g.B.Board.whole c.retract.new.board in
    let v = g.B.Board.view c.args.board.now in
    let u = g.B.Board.view c.retract.new.board in
    let w = c.args.self.now in
    let mid = c.retract.new.self in
    let s = g.R.Region.state c.args.region.now in
    (record { place = here.place; number = here.number; view = u }, retracted_serves here w0 w1 v u w mid c.in-Some.change c.requires.tied.holds c.requires.tied.order c.requires.stopped c.requires.collects c.in-Some.ensures.retracts s c.requires.tied.stands c.put_by.new.self c.put_by.ensures)

pub serve-requires-clause-ready : goal.serve-requires-clause-ready
serve-requires-clause-ready g c =
    let here = g.B.Board.seat c.args.board.now in
    let w0 = g.B.Board.whole c.args.board.now in
    let w1 = g.B.Board.whole c.retract.new.board in
    let v = g.B.Board.view c.args.board.now in
    let u = g.B.Board.view c.retract.new.board in
    let w = c.args.self.now in
    let mid = c.retract.new.self in
    let s = g.R.Region.state c.args.region.now in
    (retracted_freed here w0 w1 v u w mid c.in-Some.change c.requires.tied.holds c.requires.tied.order c.requires.stopped c.requires.collects c.in-Some.ensures.retracts c.put_by.new.self c.put_by.ensures).ready

pub returns-in-Some-clause-holds : goal.returns-in-Some-clause-holds
returns-in-Some-clause-holds g c =
    let here = g.B.Board.seat c.args.board.now in
    let w0 = g.B.Board.whole c.args.board.now in
    let w1 = g.B.Board.whole c.retract.new.board in
    let v = g.B.Board.view c.args.board.now in
    let u = g.B.Board.view c.retract.new.board in
    let w = c.args.self.now in
    let mid = c.retract.new.self in
    let s = g.R.Region.state c.args.region.now in
    (c.serve.ensures.ties s (record { place = here.place; number = here.number; view = u }) (retracted_serves here w0 w1 v u w mid c.in-Some.change c.requires.tied.holds c.requires.tied.order c.requires.stopped c.requires.collects c.in-Some.ensures.retracts s c.requires.tied.stands c.put_by.new.self c.put_by.ensures)).holds

pub returns-in-Some-clause-stands : goal.returns-in-Some-clause-stands
returns-in-Some-clause-stands g c =
    let here = g.B.Board.seat c.args.board.now in
    let w0 = g.B.Board.whole c.args.board.now in
    let w1 = g.B.Board.whole c.retract.new.board in
    let v = g.B.Board.view c.args.board.now in
    let u = g.B.Board.view c.retract.new.board in
    let w = c.args.self.now in
    let mid = c.retract.new.self in
    let s = g.R.Region.state c.args.region.now in
    (c.serve.ensures.ties s (record { place = here.place; number = here.number; view = u }) (retracted_serves here w0 w1 v u w mid c.in-Some.change c.requires.tied.holds c.requires.tied.order c.requires.stopped c.requires.collects c.in-Some.ensures.retracts s c.requires.tied.stands c.put_by.new.self c.put_by.ensures)).stands

pub returns-in-Some-clause-order : goal.returns-in-Some-clause-order
returns-in-Some-clause-order g c =
    let here = g.B.Board.seat c.args.board.now in
    let w0 = g.B.Board.whole c.args.board.now in
    let w1 = g.B.Board.whole c.retract.new.board in
    let v = g.B.Board.view c.args.board.now in
    let u = g.B.Board.view c.retract.new.board in
    let w = c.args.self.now in
    let mid = c.retract.new.self in
    let s = g.R.Region.state c.args.region.now in
    (c.serve.ensures.ties s (record { place = here.place; number = here.number; view = u }) (retracted_serves here w0 w1 v u w mid c.in-Some.change c.requires.tied.holds c.requires.tied.order c.requires.stopped c.requires.collects c.in-Some.ensures.retracts s c.requires.tied.stands c.put_by.new.self c.put_by.ensures)).order

pub returns-in-Some-clause-rule : goal.returns-in-Some-clause-rule
returns-in-Some-clause-rule g c h =
    let here = g.B.Board.seat c.args.board.now in
    let w0 = g.B.Board.whole c.args.board.now in
    let w1 = g.B.Board.whole c.retract.new.board in
    let v = g.B.Board.view c.args.board.now in
    let u = g.B.Board.view c.retract.new.board in
    let w = c.args.self.now in
    let mid = c.retract.new.self in
    let s = g.R.Region.state c.args.region.now in
    c.serve.ensures.rule ((retracted_freed here w0 w1 v u w mid c.in-Some.change c.requires.tied.holds c.requires.tied.order c.requires.stopped c.requires.collects c.in-Some.ensures.retracts c.put_by.new.self c.put_by.ensures).rule h)

pub returns-in-Some-clause-withdraws : goal.returns-in-Some-clause-withdraws
returns-in-Some-clause-withdraws g c =
    let here = g.B.Board.seat c.args.board.now in
    let w0 = g.B.Board.whole c.args.board.now in
    let w1 = g.B.Board.whole c.retract.new.board in
    let v = g.B.Board.view c.args.board.now in
    let u = g.B.Board.view c.retract.new.board in
    let w = c.args.self.now in
    let mid = c.retract.new.self in
    let s = g.R.Region.state c.args.region.now in
    withdraws_slot here w0 w1 v u w mid c.in-Some.change c.requires.tied.holds c.requires.tied.order c.requires.stopped c.requires.collects c.in-Some.ensures.retracts s c.requires.tied.stands c.put_by.new.self c.put_by.ensures c.serve.result c.serve.new.self c.serve.ensures.rest c.serve.ensures.begins c.serve.ensures.short

pub returns-in-Some-clause-made : goal.returns-in-Some-clause-made
returns-in-Some-clause-made g c =
    let here = g.B.Board.seat c.args.board.now in
    let w0 = g.B.Board.whole c.args.board.now in
    let w1 = g.B.Board.whole c.retract.new.board in
    let v = g.B.Board.view c.args.board.now in
    let u = g.B.Board.view c.retract.new.board in
    let w = c.args.self.now in
    let mid = c.retract.new.self in
    let s = g.R.Region.state c.args.region.now in
    retracted_made here w0 w1 v u w mid c.in-Some.change c.requires.tied.holds c.requires.tied.order c.requires.stopped c.requires.collects c.in-Some.ensures.retracts

pub returns-in-Some-clause-less : goal.returns-in-Some-clause-less
returns-in-Some-clause-less g c =
    let here = g.B.Board.seat c.args.board.now in
    let R = c.in-Some.ensures.retracts in
    withdraws_lower (g.B.Board.whole c.args.board.now) (g.B.Board.whole c.retract.new.board) here.number R.back.slot (R.back.slot + 1) (g.B.Board.view c.retract.new.board) c.args.self.now c.serve.new.self R.back.made (g.met.B.Board.lawful c.args.board.now)
    (let one = collecting_low c.args.self.now c.retract.new.self R.collecting R.leads_now R.idle in
    let two = put_by_low c.retract.new.self c.put_by.new.self _ _ c.put_by.ensures in
    let three = c.serve.ensures.less in
    omega (arith, one, two, three))
