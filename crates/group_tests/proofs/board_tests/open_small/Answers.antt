use Rattle.group_tests.proofs.BoardTrialLaws.{small_sound}
use Rattle.group_tests.proofs.board_tests.open_small.Goals as goal

pub open-requires-clause-sound : goal.open-requires-clause-sound
open-requires-clause-sound c = small_sound
