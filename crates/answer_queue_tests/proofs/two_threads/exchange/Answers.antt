use Rattle.std.proofs.Common.{sym, subst}
use Rattle.answer_queue.specs.declared.account.Account.{Account}
use Rattle.answer_queue.specs.Accounts.{AreAmong, numbers, without_numbers}
use Rattle.answer_queue.proofs.Clients.{few_joined, among_joined, among_left}
use Rattle.answer_queue_tests.proofs.two_threads.exchange.Goals as goal

pub open-requires-clause-few : goal.open-requires-clause-few
open-requires-clause-few g c = few_joined c.args.first.items c.args.second.items c.requires.few

pub deal-one-requires-clause-among : goal.deal-one-requires-clause-among
deal-one-requires-clause-among g c =
    subst (λ (v : Account). AreAmong (numbers c.args.first.items) v.may) (sym c.in_ok-queue.ensures.granted) (among_joined c.args.first.items c.args.second.items)

pub deal-two-requires-clause-among : goal.deal-two-requires-clause-among
deal-two-requires-clause-among g c =
    subst (λ (v : Account). AreAmong (numbers c.args.second.items) v.may) (sym c.deal-one.ensures.old)
    (subst (λ (v : Account). AreAmong (numbers c.args.second.items) (without_numbers (numbers c.args.first.items) v).may) (sym c.in_ok-queue.ensures.granted) (among_left c.args.first.items c.args.second.items))
