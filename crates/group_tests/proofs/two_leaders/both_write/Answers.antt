use Rattle.region_memory.specs.Steady.{steady_state}
use Rattle.group_board.specs.Journals.{state}
use Rattle.group_tests.proofs.TwoLeaderLaws.{one_may_write, zero_may_write, three_members}
use Rattle.group_tests.proofs.two_leaders.both_write.Goals as goal

pub write_at-requires : goal.write_at-requires
write_at-requires c = one_may_write (steady_state c.args.region.now) (state c.args.board.now.keeper.me.0) c.args.other.now c.args.first c.args.second c.requires.region c.requires.other c.requires.batches

pub write_at-requires-2 : goal.write_at-requires-2
write_at-requires-2 c =
    zero_may_write (steady_state c.args.region.now) (steady_state c.write_at.new.region) (state c.args.board.now.keeper.me.0) (state c.write_at.new.board.keeper.me.0) c.args.log.now c.args.first c.args.second
    c.requires.region c.requires.log c.requires.batches (c.write_at.ensures c.if-not-write_at.false)

pub returns : goal.returns
returns c wrote =
    three_members (state c.args.board.now.keeper.me.0) (state c.write_at.new.board.keeper.me.0) (state c.write_at-2.new.board.keeper.me.0) c.args.first c.args.second
    (steady_state c.args.region.now) (steady_state c.write_at.new.region) (steady_state c.write_at-2.new.region) c.requires.batches (c.write_at.ensures c.if-not-write_at.false) (c.write_at-2.ensures wrote)
