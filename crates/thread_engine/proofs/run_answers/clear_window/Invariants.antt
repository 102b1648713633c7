use Rattle.std.proofs.Common.{◌≡◌, None}
use Rattle.thread_engine.proofs.Changes.{ChangedBelow}
use Rattle.thread_engine.proofs.run_answers.clear_window.Given as goal

abbrev pub invariant-loop-at : goal.invariant-loop-at
invariant-loop-at l = ChangedBelow (λ x y. y ≡ None) l.at l.fn.window.items l.window.items
