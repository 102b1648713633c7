use Rattle.std.proofs.Common.{◌≡◌, ◌++◌, length, sym, ap, ap₂, ◌∙◌, subst, List, ℕ, arith}
use Rattle.answer_queue.specs.Accounts.{numbers, numbers_from, AreDistinct}
use Rattle.answer_queue.proofs.Clients.{numbers_append, numbers_length, run_length, run_joined, run_distinct}
use Rattle.answer_queue_tests.proofs.two_threads_tests.handed_over.Goals as goal

pub exchange-requires-clause-few : goal.exchange-requires-clause-few
exchange-requires-clause-few g c κs within =
    let f = c.in_ok-first.first.items in
    let s = c.in_ok-second.second.items in
    let a : length f ≡ 20 = sym (numbers_length f) ∙ ap length c.in_ok-first.ensures ∙ run_length 0 20 in
    let b : length s ≡ 20 = sym (numbers_length s) ∙ ap length c.in_ok-second.ensures ∙ run_length 20 20 in
    omega arith

pub exchange-requires-clause-distinct : goal.exchange-requires-clause-distinct
exchange-requires-clause-distinct g c κs within =
    let f = c.in_ok-first.first.items in
    let s = c.in_ok-second.second.items in
    let e : numbers (f ++ s) ≡ numbers_from 0 40 = numbers_append f s ∙ ap₂ (λ (x y : List ℕ). x ++ y) c.in_ok-first.ensures c.in_ok-second.ensures ∙ run_joined 0 20 20 in
    subst AreDistinct (sym e) (run_distinct 0 40)
