use Rattle.engine_tests.proofs.ReachedWords.{words}
use Rattle.engine_tests.proofs.gate_tests.seated.Given as goal

abbrev pub ghosts-open_board : goal.ghosts-open_board
ghosts-open_board a = record { words = words a._region.now; bytes = 135168 }
