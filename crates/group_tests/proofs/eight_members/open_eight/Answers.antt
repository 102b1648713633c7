use Rattle.group_tests.proofs.EightTrialLaws.{eight_sound}
use Rattle.group_tests.proofs.eight_members.open_eight.Goals as goal

pub open-requires-clause-sound : goal.open-requires-clause-sound
open-requires-clause-sound c = eight_sound
