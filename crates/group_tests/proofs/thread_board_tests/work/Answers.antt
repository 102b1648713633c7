use Rattle.group_tests.proofs.ThreadTrialLaws.{small_starts}
use Rattle.group_tests.proofs.thread_board_tests.work.Goals as goal

pub rounds-done-requires-clause-rests : goal.rounds-done-requires-clause-rests
rounds-done-requires-clause-rests c = small_starts _ c.args.member c.args.token c.attend-seat.result.own c.requires.first.0 c.requires.token c.attend-seat.ensures
