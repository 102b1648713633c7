use Rattle.std.proofs.Common.{◌≡◌, ℕ, ◌≤◌, ◌<◌, get_or}
use Rattle.region_memory.specs.declared.memory_piece.MemoryPiece.{MemoryPiece}
use Rattle.region_memory.proofs.memory_region.take_counts.Given as goal

abbrev pub invariant-loop-piece : goal.invariant-loop-piece
invariant-loop-piece g l = record {
  low : (g.P.FaultPlan.counts l.initial.counts).faults ≤ (g.P.FaultPlan.counts l.counts).faults;
  pieces : (i : ℕ) (p : MemoryPiece g.row.P.Denot) → i < l.piece-index → (g.P.FaultPlan.counts (get_or l.pieces i p).counts).faults ≤ (g.P.FaultPlan.counts l.counts).faults;
  refusals : (g.P.FaultPlan.counts l.counts).refusals ≡ (g.P.FaultPlan.counts l.initial.counts).refusals;
  plan : g.P.FaultPlan.plan l.counts ≡ g.P.FaultPlan.plan l.initial.counts;
}
