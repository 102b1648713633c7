-- The change is out of its place, and then what waits of its key is begun.
use Rattle.core_worker.proofs.DropServed.{sight_serves, drops_slot}
use Rattle.core_worker.proofs.LeftBacks.{drop_less}
use Rattle.std.proofs.Common.{arith}
use Rattle.core_worker.proofs.worker.Worker.drop_staged.Goals as goal

pub serve-requires-clause-tied : goal.serve-requires-clause-tied
serve-requires-clause-tied g c = (c.requires.tied.0, sight_serves (g.R.Region.state c.args.region.now) c.args.self.now c.drop_out-key.new.self c.drop_out-key.result c.drop_out-key.ensures.freed c.requires.tied.0 c.requires.tied.1)

pub returns-clause-ties : goal.returns-clause-ties
returns-clause-ties g c s t T = c.serve.ensures.ties s t (sight_serves s c.args.self.now c.drop_out-key.new.self c.drop_out-key.result c.drop_out-key.ensures.freed t T)

pub returns-clause-drops : goal.returns-clause-drops
returns-clause-drops g c = drops_slot (g.R.Region.state c.args.region.now) c.args.self.now c.drop_out-key.new.self c.serve.new.self c.drop_out-key.result c.drop_out-key.ensures.freed c.args.slot c.requires.staged c.drop_out-key.ensures.key c.drop_out-key.ensures.puts c.serve.result c.serve.ensures.rest c.serve.ensures.begins c.serve.ensures.short

pub returns-clause-less : goal.returns-clause-less
returns-clause-less g c =
    drop_less c.args.self.now c.drop_out-key.new.self c.serve.new.self c.args.slot _
    (let lt = c.requires.slot in let eight = c.requires.tied.1.holds.eight in omega (arith, lt, eight)) c.requires.staged c.drop_out-key.ensures.puts c.serve.ensures.less
