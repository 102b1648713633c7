use Rattle.std.proofs.Common.{◌≡◌, ◌&&◌, ap, subst, rules}
use Rattle.region_memory.specs.Moves.{Absorbs}
use Rattle.region_memory.specs.declared.history.History.{History}
use Rattle.region_memory.specs.declared.memory_piece.MemoryPiece.{MemoryPiece}
use Rattle.region_memory.proofs.Taking.{takes_more}
use Rattle.region_memory.proofs.pieces.take_back.Goals as goal
use Rattle.region_memory.proofs.pieces.take_back.Goals.{then-absorb, else-absorb}

pub loop-piece-preserved : goal.loop-piece-preserved
loop-piece-preserved g c =
    let is : c.if-absorb.complete ≡ (c.absorb.result && c.loop-piece.complete) = search rules in
    takes_more (λ p. p.history) c.args.history.now c.loop-piece.history c.absorb.new.self c.args.pieces.now c.loop-piece.piece-index c.piece-item.result c.args.before c.loop-piece.complete c.absorb.result c.if-absorb.complete
    c.loop-piece-test.true c.requires.fits c.loop-piece.invariant
    (subst (λ (h : History). Absorbs c.loop-piece.history c.absorb.new.self h c.absorb.result) (ap (λ (p : MemoryPiece g.row.P.Denot). p.history) c.piece-item.is) c.absorb.ensures) is
