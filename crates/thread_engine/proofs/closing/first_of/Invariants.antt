use Rattle.std.proofs.Common.{◌≡◌, ◌++◌, ◌≤◌, vec_len, vec_capacity}
use Rattle.thread_engine.proofs.closing.first_of.Given as goal

abbrev pub invariant-loop : goal.invariant-loop
invariant-loop l = record {
  split : l.fn.tokens.items ≡ l.own.items ++ l.tokens.items;
  count : vec_len l.own ≡ l.counter;
  within : l.counter ≤ l.count;
  room : vec_capacity l.own ≡ vec_capacity l.fn.own;
}
