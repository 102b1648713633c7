use Rattle.region_memory.specs.declared.memory_piece.MemoryPiece.{MemoryPiece}
use Rattle.region_memory.proofs.Taking.{parts_more}
use Rattle.region_memory.proofs.Planning.{planned_more}
use Rattle.region_memory.proofs.memory_region.pieces_between.Goals as goal

pub loop-i-preserved : goal.loop-i-preserved
loop-i-preserved g c =
    let piece : MemoryPiece g.row.P.Denot = record { history = c.in_ok-history.history; counts = c.in_ok-counts.counts } in
    record {
      parts = parts_more (λ p. p.history) c.args.history.now c.args.cuts.now c.loop-i.pieces.items c.push.new.self.items c.loop-i.i piece c.loop-i.invariant.parts c.in_ok-history.ensures c.in_ok-push.ensures.items;
      plan = planned_more g.P.FaultPlan.counts g.P.FaultPlan.plan c.args.counts.now c.loop-i.pieces.items c.push.new.self.items c.loop-i.i piece c.loop-i.invariant.plan c.in_ok-counts.ensures.faults c.in_ok-counts.ensures.plan c.in_ok-push.ensures.items;
    }
