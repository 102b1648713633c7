use Rattle.region_memory.specs.Join.{HasTaken}
use Rattle.region_memory.proofs.pieces.take_back.Given as goal

abbrev pub invariant-loop-piece : goal.invariant-loop-piece
invariant-loop-piece g l = HasTaken (λ p. p.history) l.initial.history l.history l.pieces l.piece-index l.before l.complete
