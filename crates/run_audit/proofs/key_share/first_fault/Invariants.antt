use Rattle.std.proofs.Common.{take}
use Rattle.std.specs.List.{zip}
use Rattle.run_audit.specs.FirstFault.{cells_in}
use Rattle.run_audit.specs.Shares.{state_at, is_of}
use Rattle.run_audit.proofs.Kept.{Kept}
use Rattle.run_audit.proofs.key_share.first_fault.Given as goal

abbrev pub invariant-loop-number : goal.invariant-loop-number
invariant-loop-number l = Kept (state_at l.table) (cells_in l.start) (is_of l.share.count l.share.number) (take l.number (zip l.trace l.replies))
