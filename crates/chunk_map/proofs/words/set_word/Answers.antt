use Rattle.std.proofs.Common.{◌/◌, arith}
use Rattle.pm_region.proofs.Clients.{set_run}
use Rattle.chunk_map.proofs.words.set_word.Goals as goal

pub returns-clause-run : goal.returns-clause-run
returns-clause-run g c =
    let st = g.R.Region.state in
    set_run (st c.args.region.now) (st c.store.new.self) (st c.flush.new.self) (st c.fence.new.self) (c.args.at / 8) c.args.at c.args.value c.fence.result (omega arith, omega arith) c.store.ensures c.flush.ensures c.fence.ensures.ok c.fence.ensures.err
