use Rattle.std.proofs.Common.{◌≡◌, ◌++◌}
use Rattle.thread_engine.proofs.group_tables.add_tokens.Given as goal

abbrev pub invariant-loop-seat : goal.invariant-loop-seat
invariant-loop-seat l = record {
  split : l.initial.seat-iterator.rest.items ≡ l.yielded ++ l.seat-iterator.rest.items;
  tokens : l.tokens.items ≡ l.fn.tokens.items ++ l.yielded;
}
