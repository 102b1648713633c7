-- The change is out of its place, and then what waits of its key is begun.
use Rattle.std.proofs.Common.{sym, ◌∙◌, ap}
use Rattle.core_worker.specs.declared.worker.Worker.{Worker}
use Rattle.core_worker.proofs.Served.{to_serve, finishes_slot}
use Rattle.core_worker.proofs.LeftBacks.{finishes_lower, takes_back_low}
use Rattle.std.proofs.Common.{arith}
use Rattle.core_worker.proofs.worker.Worker.take_back.Goals as goal

pub serve-requires-clause-tied : goal.serve-requires-clause-tied
serve-requires-clause-tied g c =
    let s = g.R.Region.state c.args.region.now in
    let p = (g.B.Board.seat c.args.board.now).place in
    let m = (g.B.Board.seat c.args.board.now).number in
    let v = g.B.Board.view c.args.board.now in
    let u = g.B.Board.view c.take_out-key.new.board in
    (record { place = p; number = m; view = u }, to_serve s p m c.args.slot c.take_out-key.result v u c.args.self.now c.take_out-key.new.self c.take_out-key.new.self c.requires.may.tied.stands c.take_out-key.ensures.freed)

pub returns-clause-holds : goal.returns-clause-holds
returns-clause-holds g c =
    let s = g.R.Region.state c.args.region.now in
    let p = (g.B.Board.seat c.args.board.now).place in
    let m = (g.B.Board.seat c.args.board.now).number in
    let v = g.B.Board.view c.args.board.now in
    let u = g.B.Board.view c.take_out-key.new.board in
    (c.serve.ensures.ties s (record { place = p; number = m; view = u }) (to_serve s p m c.args.slot c.take_out-key.result v u c.args.self.now c.take_out-key.new.self c.take_out-key.new.self c.requires.may.tied.stands c.take_out-key.ensures.freed)).holds

pub returns-clause-stands : goal.returns-clause-stands
returns-clause-stands g c =
    let s = g.R.Region.state c.args.region.now in
    let p = (g.B.Board.seat c.args.board.now).place in
    let m = (g.B.Board.seat c.args.board.now).number in
    let v = g.B.Board.view c.args.board.now in
    let u = g.B.Board.view c.take_out-key.new.board in
    (c.serve.ensures.ties s (record { place = p; number = m; view = u }) (to_serve s p m c.args.slot c.take_out-key.result v u c.args.self.now c.take_out-key.new.self c.take_out-key.new.self c.requires.may.tied.stands c.take_out-key.ensures.freed)).stands

pub returns-clause-order : goal.returns-clause-order
returns-clause-order g c =
    let s = g.R.Region.state c.args.region.now in
    let p = (g.B.Board.seat c.args.board.now).place in
    let m = (g.B.Board.seat c.args.board.now).number in
    let v = g.B.Board.view c.args.board.now in
    let u = g.B.Board.view c.take_out-key.new.board in
    (c.serve.ensures.ties s (record { place = p; number = m; view = u }) (to_serve s p m c.args.slot c.take_out-key.result v u c.args.self.now c.take_out-key.new.self c.take_out-key.new.self c.requires.may.tied.stands c.take_out-key.ensures.freed)).order

pub returns-clause-rule : goal.returns-clause-rule
returns-clause-rule g c h = c.serve.ensures.rule (c.take_out-key.ensures.freed.rule h)

pub returns-clause-cause : goal.returns-clause-cause
returns-clause-cause g c stopped = c.take_out-key.ensures.cause (sym (ap (λ (x : Worker). x.stopped) c.serve.ensures.rest) ∙ stopped)

pub returns-clause-finishes : goal.returns-clause-finishes
returns-clause-finishes g c =
    let s = g.R.Region.state c.args.region.now in
    let p = (g.B.Board.seat c.args.board.now).place in
    let m = (g.B.Board.seat c.args.board.now).number in
    let v = g.B.Board.view c.args.board.now in
    let u = g.B.Board.view c.take_out-key.new.board in
    finishes_slot s p m c.args.slot c.take_out-key.result v u c.args.self.now c.take_out-key.new.self c.serve.new.self c.requires.may.tied.stands c.take_out-key.ensures.freed c.serve.result c.take_out-key.ensures.takes c.serve.ensures.rest c.serve.ensures.begins c.serve.ensures.short

pub returns-clause-less : goal.returns-clause-less
returns-clause-less g c =
    let here = g.B.Board.seat c.args.board.now in
    let v = g.B.Board.view c.args.board.now in
    let u = g.B.Board.view c.take_out-key.new.board in
    finishes_lower (g.B.Board.whole c.args.board.now) (g.B.Board.whole c.take_out-key.new.board) here.number c.args.slot u c.args.self.now c.serve.new.self c.take_out-key.ensures.made (g.met.B.Board.lawful c.args.board.now)
    (let one = takes_back_low here.place here.number c.args.slot v u c.args.self.now c.take_out-key.new.self (let lt = c.requires.slot in let eight = c.requires.may.tied.holds.eight in omega (arith, lt, eight)) c.take_out-key.ensures.takes.0 in
    let two = c.serve.ensures.less in
    omega (arith, one, two))
