use Rattle.atomic_board.proofs.OneState as table
use Rattle.atomic_board.proofs.table_laws.one_state.Goals as goal

pub returns : goal.returns
returns c b s x y = table.one_state b s x y
