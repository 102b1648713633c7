use Rattle.std.proofs.Common.{◌≡◌, ◌≤◌, vec_len, vec_capacity}
use Rattle.answer_queue.specs.declared.window_sizes.TheConstants.{WINDOW}
use Rattle.thread_engine.specs.Collected.{AreBlank}
use Rattle.thread_engine.proofs.run_answers.new_window.Given as goal

abbrev pub invariant-loop : goal.invariant-loop
invariant-loop l = record {
  blank : AreBlank l.window.items;
  count : vec_len l.window ≡ l.counter;
  within : l.counter ≤ WINDOW;
  room : WINDOW ≤ vec_capacity l.window;
}
