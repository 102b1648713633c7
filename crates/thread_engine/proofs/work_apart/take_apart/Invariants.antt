use Rattle.std.proofs.Common.{◌≡◌, ◌≤◌, ◌++◌, map, length}
use Rattle.thread_engine.proofs.work_apart.take_apart.Given as goal

abbrev pub invariant-loop-job : goal.invariant-loop-job
invariant-loop-job g l = record {
  split : l.initial.job-iterator.rest.items ≡ l.yielded ++ l.job-iterator.rest.items;
  pieces : l.room.pieces.items ≡ map (λ j. j.piece) l.yielded;
  workers : l.room.workers.items ≡ map (λ j. j.worker) l.yielded;
  seats : map (λ t. t.own) l.room.tokens.items ≡ map (λ j. j.seat.own) l.yielded;
  pieces_room : length l.initial.job-iterator.rest.items ≤ l.room.pieces.cap;
  tokens_room : length l.initial.job-iterator.rest.items ≤ l.room.tokens.cap;
  workers_room : length l.initial.job-iterator.rest.items ≤ l.room.workers.cap;
}
