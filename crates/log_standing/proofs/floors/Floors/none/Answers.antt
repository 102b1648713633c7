use Rattle.log_standing.proofs.Flooring.{none_yet}
use Rattle.log_standing.proofs.floors.Floors.none.Goals as goal

pub returns : goal.returns
returns c = λ j. none_yet 64 j
