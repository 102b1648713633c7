use Rattle.std.proofs.Common.{◌<◌, ◌≤◌, ℕ, List, length, get_or, sym, ◌∙◌, subst}
use Rattle.pm_region.specs.Split.{Joined, TakesPiece, ComesNext}
use Rattle.region_memory.specs.Volumes.{volume_state}
use Rattle.region_memory.specs.MemoryRegions.{piece_state}
use Rattle.region_memory.specs.declared.memory_piece.MemoryPiece.{MemoryPiece}
use Rattle.region_memory.proofs.memory_region.MemoryRegionSplitRegion.join.Goals as goal

pub returns-clause-whole : goal.returns-clause-whole
returns-clause-whole g c =
    let was = g.P.FaultPlan.counts c.args.self.now.counts in
    let is = g.P.FaultPlan.counts c.take_counts.new.counts in
    subst (λ (r : ℕ). Joined (volume_state c.args.self.now.volume was.refusals was.faults) (volume_state c.join.new.self r is.faults)) (sym c.take_counts.ensures.refusals)
    (c.join.ensures.whole was.refusals was.faults is.faults c.take_counts.ensures.low)

pub returns-clause-pieces : goal.returns-clause-pieces
returns-clause-pieces g c = λ i p.
    let counts = g.P.FaultPlan.counts in
    let is = counts c.take_counts.new.counts in
    subst (λ (l : List (MemoryPiece g.row.P.Denot)). i < length l → TakesPiece (volume_state c.join.new.self is.refusals is.faults) (piece_state counts (get_or l i p))) c.deref-2.ensures.value
    (λ lt. c.join.ensures.pieces i p lt is.refusals is.faults (counts (get_or c.deref-2.result.now i p).counts).faults
    (subst (λ (l : List (MemoryPiece g.row.P.Denot)). i < length l → (counts (get_or l i p).counts).faults ≤ is.faults) (c.deref.ensures.value ∙ sym c.deref-2.ensures.value) (c.take_counts.ensures.pieces i p) lt))

pub returns-clause-next : goal.returns-clause-next
returns-clause-next g c =
    let counts = g.P.FaultPlan.counts in
    let was = counts c.args.self.now.counts in
    let is = counts c.take_counts.new.counts in
    subst (λ (l : List (MemoryPiece g.row.P.Denot)). ComesNext (piece_state counts) (volume_state c.args.self.now.volume was.refusals was.faults) (volume_state c.join.new.self is.refusals is.faults) l) c.deref-2.ensures.value
    (c.join.ensures.next was.refusals was.faults is.refusals is.faults (λ p. (counts p.counts).faults))
