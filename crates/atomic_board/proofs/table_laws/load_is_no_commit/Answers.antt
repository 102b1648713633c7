use Rattle.atomic_board.proofs.RuleKept.{no_load}
use Rattle.atomic_board.proofs.table_laws.load_is_no_commit.Goals as goal

pub returns : goal.returns
returns c = no_load
