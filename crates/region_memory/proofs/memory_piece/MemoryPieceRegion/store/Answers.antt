use Rattle.std.proofs.Common.{arith}
use Rattle.region_memory.proofs.Framed.{part_goes}
use Rattle.region_memory.proofs.memory_piece.MemoryPieceRegion.store.Goals as goal

pub returns-clause-goes : goal.returns-clause-goes
returns-clause-goes g c =
    let n = (g.P.FaultPlan.counts c.args.self.now.counts).faults in
    part_goes c.args.self.now.history _ n n _ c.store.ensures (omega arith)
