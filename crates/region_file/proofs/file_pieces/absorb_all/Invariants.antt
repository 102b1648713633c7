use Rattle.region_file.specs.Files.{HaveTaken}
use Rattle.region_file.proofs.file_pieces.absorb_all.Given as goal

abbrev pub invariant-loop-piece : goal.invariant-loop-piece
invariant-loop-piece l = HaveTaken l.initial.words l.words l.pieces l.piece-index
