use Rattle.std.proofs.Common.{ℕ, ◌≤◌, ◌<◌, get_or}
use Rattle.region_memory.specs.declared.memory_piece.MemoryPiece.{MemoryPiece}
use Rattle.region_memory.proofs.pieces.latest_stamp.Given as goal

abbrev pub invariant-loop-piece : goal.invariant-loop-piece
invariant-loop-piece g l = record {
  low : l.from ≤ l.latest;
  pieces : (i : ℕ) (p : MemoryPiece g.row.P.Denot) → i < l.piece-index → (get_or l.pieces i p).history.journal.stamp ≤ l.latest;
  least : (n : ℕ) → l.from ≤ n → ((i : ℕ) (p : MemoryPiece g.row.P.Denot) → i < l.piece-index → (get_or l.pieces i p).history.journal.stamp ≤ n) → l.latest ≤ n;
}
