use Rattle.std.proofs.Common.{◌/◌, arith}
use Rattle.chunk_map.proofs.SuperLaws.{narrows_run, certain_words}
use Rattle.chunk_map.proofs.superblock.write_in_line.Goals as goal

pub returns-clause-others : goal.returns-clause-others
returns-clause-others g c =
    let st = g.R.Region.state in
    narrows_run (st c.args.region.now) (st c.store_words.new.region) (st c.flush.new.self) (st c.fence.new.self) c.args.at (c.args.at / 8) c.args.words.now c.fence.result c.store_words.ensures.run c.flush.ensures c.fence.ensures.ok c.fence.ensures.err

pub returns-clause-ok : goal.returns-clause-ok
returns-clause-ok g c =
    let st = g.R.Region.state in
    certain_words (st c.args.region.now) (st c.store_words.new.region) (st c.flush.new.self) (st c.fence.new.self) c.args.at (c.args.at / 8) c.args.words.now c.fence.result c.store_words.ensures.run c.flush.ensures c.fence.ensures.ok
    c.store_words.ensures.stored c.requires.lies.low c.requires.lies.high (omega arith) c.requires.within
