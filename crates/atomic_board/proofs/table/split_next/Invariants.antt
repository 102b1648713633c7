use Rattle.std.proofs.Common.{◌≡◌, ◌≤◌, []}
use Rattle.atomic_board.specs.TableWords.{pool_place}
use Rattle.atomic_board.specs.SlotsOut.{numbers}
use Rattle.atomic_board.specs.StepTells.{row_out}
use Rattle.atomic_board.proofs.table.split_next.Given as goal

abbrev pub invariant-loop-slot : goal.invariant-loop-slot
invariant-loop-slot l = (l.held.items ≡ numbers (row_out (pool_place l.member 0) l.slot [])) × (64 ≤ l.held.cap)
