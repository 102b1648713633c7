use Rattle.std.proofs.Common.{◌≡◌, length, sym, subst}
use Rattle.std.proofs.lemmas.List.Sorted.{length_permutation}
use Rattle.answer_queue.specs.declared.account.Account.{Account}
use Rattle.answer_queue.specs.Accounts.{AreDistinct, numbers}
use Rattle.answer_queue.proofs.Clients.{distinct_permutation}
use Rattle.answer_queue_tests.proofs.taking.take_all.Goals as goal

pub returns-in-None-take-clause-distinct : goal.returns-in-None-take-clause-distinct
returns-in-None-take-clause-distinct g c =
    let I = c.loop.invariant in
    let s = c.in-None-take.ensures.took.1 I.parts in
    subst (λ k. AreDistinct (numbers k)) I.took (distinct_permutation _ _ s.all s.distinct)

pub returns-in-None-take-clause-level : goal.returns-in-None-take-clause-level
returns-in-None-take-clause-level g c =
    let s = c.in-None-take.ensures.took.1 c.loop.invariant.parts in
    subst (λ (u : Account). length u.took ≡ length u.put) (sym c.in-None-take.ensures.took.0) (length_permutation _ _ s.all)
