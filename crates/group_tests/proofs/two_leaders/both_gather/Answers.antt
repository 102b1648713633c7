use Rattle.std.proofs.Common.{arith}
use Rattle.group_board.specs.Journals.{state}
use Rattle.group_tests.proofs.TwoLeaderLaws.{owner_0, owner_1, other_than, first_gather, next_gather, have_batches}
use Rattle.group_tests.proofs.two_leaders.both_gather.Goals as goal

pub gather_at-requires : goal.gather_at-requires
gather_at-requires c = first_gather (state c.args.board.now.keeper.me.0) 0 0 c.args.change c.requires.opened c.requires.change (omega arith) (omega arith) owner_0

pub gather_at-requires-2 : goal.gather_at-requires-2
gather_at-requires-2 c =
    next_gather (state c.args.board.now.keeper.me.0) (state c.gather_at.new.board.keeper.me.0) 1 1 0 c.args.other c.in_ok-first.first c.requires.opened c.requires.other (omega arith) (omega arith) owner_1 other_than.1 c.in_ok-first.ensures

pub returns : goal.returns
returns c =
    have_batches (state c.args.board.now.keeper.me.0) (state c.gather_at.new.board.keeper.me.0) (state c.gather_at-2.new.board.keeper.me.0) c.in_ok-first.first c.in_ok-second.second c.requires.opened c.in_ok-first.ensures c.in_ok-second.ensures
