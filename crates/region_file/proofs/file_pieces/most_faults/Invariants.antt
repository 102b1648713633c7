use Rattle.std.proofs.Common.{ℕ, ◌≤◌, ◌<◌, get_or}
use Rattle.region_file.specs.declared.file_piece.FilePiece.{FilePiece}
use Rattle.region_file.proofs.file_pieces.most_faults.Given as goal

abbrev pub invariant-loop-piece : goal.invariant-loop-piece
invariant-loop-piece l = record {
  low : l.from ≤ l.most;
  pieces : (i : ℕ) (p : FilePiece) → i < l.piece-index → (get_or l.pieces i p).faults ≤ l.most;
}
