use Rattle.std.proofs.Common.{◌≡◌, ⊎_elim, get_or, sym, ◌∙◌, ap, arith}
use Rattle.std.proofs.lemmas.Bool.{cases_eq}
use Rattle.std.proofs.lemmas.List.{get_or_default}
use Rattle.region_memory.specs.declared.memory_piece.MemoryPiece.{MemoryPiece}
use Rattle.region_memory.proofs.memory_region.take_counts.Goals as goal

pub loop-piece-preserved : goal.loop-piece-preserved
loop-piece-preserved g c =
    let pieces = c.args.pieces.now in
    let at = c.loop-piece.piece-index in
    let item = c.piece-item.result in
    let faults = λ (p : MemoryPiece g.row.P.Denot). (g.P.FaultPlan.counts p.counts).faults in
    let so_far = c.loop-piece.invariant in
    let own = c.take.ensures.own in
    let taken = c.take.ensures.piece in
    record {
      low = let low = so_far.low in omega arith;
      pieces = λ i p lt. ⊎_elim
          (λ e. let here : faults item ≡ faults (get_or pieces i p) = ap faults (c.piece-item.is ∙ get_or_default pieces at item p c.loop-piece-test.true ∙ ap (λ n. get_or pieces n p) (sym e)) in omega arith)
          (λ ne. let before = so_far.pieces i p (omega arith) in omega arith) (cases_eq i at);
      refusals = c.take.ensures.refusals ∙ so_far.refusals;
      plan = c.take.ensures.plan ∙ so_far.plan;
    }
