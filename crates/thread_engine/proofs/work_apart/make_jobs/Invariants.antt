use Rattle.std.proofs.Common.{◌≡◌, ◌≤◌, List, [], ◌++◌, map, length}
use Rattle.std.specs.List.{AllByRecursion}
use Rattle.atomic_board.specs.declared.token.SeatToken.{SeatToken}
use Rattle.thread_engine.proofs.work_apart.make_jobs.Given as goal

abbrev pub invariant-loop-piece : goal.invariant-loop-piece
invariant-loop-piece g l = record {
  split : l.fn.pieces.items ≡ l.yielded ++ l.piece-iterator.rest.items;
  pieces : map (λ j. j.piece) l.jobs.items ≡ l.yielded;
  workers : l.fn.crew.workers.items ≡ map (λ j. j.worker) l.jobs.items ++ l.workers.items;
  fresh : AllByRecursion (λ j. j.queue.items ≡ []) l.jobs.items;
  done : List SeatToken;
  tokens : l.fn.crew.tokens.items ≡ done ++ l.tokens.items;
  seats : map (λ j. j.seat.own) l.jobs.items ≡ map (λ (t : SeatToken). t.own) done;
  tokens_left : length l.tokens.items ≡ length l.piece-iterator.rest.items;
  workers_left : length l.workers.items ≡ length l.piece-iterator.rest.items;
  room : length l.fn.pieces.items ≤ l.jobs.cap;
}
