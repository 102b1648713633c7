use Rattle.group_tests.proofs.ThreadTrialLaws.{pair_starts}
use Rattle.group_tests.proofs.thread_board_tests.begin.Goals as goal

pub first_turn-found-requires-clause-rests : goal.first_turn-found-requires-clause-rests
first_turn-found-requires-clause-rests c = pair_starts _ c.args.member c.args.token c.attend-seat.result.own c.requires.change.0 c.requires.token c.attend-seat.ensures
