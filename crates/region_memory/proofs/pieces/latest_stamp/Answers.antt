use Rattle.std.proofs.Common.{◌≡◌, ⊎_elim, get_or, arith, ap, ◌∙◌, sym}
use Rattle.std.proofs.lemmas.Bool.{cases_eq}
use Rattle.std.proofs.lemmas.List.{get_or_default}
use Rattle.region_memory.specs.declared.memory_piece.MemoryPiece.{MemoryPiece}
use Rattle.region_memory.proofs.pieces.latest_stamp.Goals as goal

pub loop-piece-preserved : goal.loop-piece-preserved
loop-piece-preserved g c =
    let pieces = c.args.pieces.now in
    let at = c.loop-piece.piece-index in
    let item = c.piece-item.result in
    let stamp = λ (p : MemoryPiece g.row.P.Denot). p.history.journal.stamp in
    let so_far = c.loop-piece.invariant in
    let greatest = c.max-latest.ensures in
    record {
      low = let low = so_far.low in omega arith;
      pieces = λ i p lt. ⊎_elim
          (λ e. let here : stamp item ≡ stamp (get_or pieces i p) = ap stamp (c.piece-item.is ∙ get_or_default pieces at item p c.loop-piece-test.true ∙ ap (λ n. get_or pieces n p) (sym e)) in omega arith)
          (λ ne. let before = so_far.pieces i p (omega arith) in omega arith) (cases_eq i at);
      least = λ n from all.
          let before = so_far.least n from (λ i p lt. all i p (omega arith)) in
          let here : stamp item ≡ stamp (get_or pieces at item) = ap stamp c.piece-item.is in
          let item_low = all at item (omega arith) in
          omega arith;
    }
