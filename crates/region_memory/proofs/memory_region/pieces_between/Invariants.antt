use Rattle.region_memory.specs.Join.{AreParts}
use Rattle.region_memory.specs.MemoryRegions.{ArePlanned}
use Rattle.region_memory.proofs.memory_region.pieces_between.Given as goal

abbrev pub invariant-loop-i : goal.invariant-loop-i
invariant-loop-i g l = record {
  parts : AreParts (λ p. p.history) l.history l.cuts l.pieces.items l.i;
  plan : ArePlanned g.P.FaultPlan.counts g.P.FaultPlan.plan l.counts l.pieces.items l.i;
}
