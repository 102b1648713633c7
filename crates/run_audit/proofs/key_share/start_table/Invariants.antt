use Rattle.std.proofs.Common.{◌≡◌, ℕ, true, take}
use Rattle.std.specs.Prelude.{option_map}
use Rattle.run_audit.specs.FirstFault.{cells_in}
use Rattle.run_audit.specs.Shares.{entry_at, is_of, started}
use Rattle.run_audit.proofs.key_share.start_table.Given as goal

abbrev pub invariant-loop-cell : goal.invariant-loop-cell
invariant-loop-cell l = (k : ℕ) → is_of l.share.count l.share.number k ≡ true → entry_at l.table k ≡ option_map started (cells_in (take l.cell-index l.start) k)
