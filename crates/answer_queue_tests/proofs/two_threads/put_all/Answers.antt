use Rattle.std.proofs.Common.{◌≡◌, ◌<◌, ◌∷◌, sym, ap, ◌∙◌, subst}
use Rattle.answer_queue.specs.declared.account.Account.{Account}
use Rattle.answer_queue.specs.Accounts.{AreAmong, numbers, after_put, after_puts}
use Rattle.answer_queue.specs.Queues.{account_of}
use Rattle.answer_queue.proofs.Clients.{among_rest, puts_next}
use Rattle.answer_queue_tests.proofs.two_threads.put_all.Goals as goal

pub loop-answer-preserved : goal.loop-answer-preserved
loop-answer-preserved g c =
    let I = c.loop-answer.invariant in
    let step = c.in-Some.ensures.steps.0 in
    let x = c.in-Some.answer in
    let rest = c.next.new.self.rest.items in
    let v : Account = account_of c.loop-answer.pass in
    let here : AreAmong (numbers (x ∷ rest)) v.may = subst (λ k. AreAmong (numbers k) v.may) step I.may in
    let is : account_of c.put.new.pass ≡ after_put v x = c.put.ensures.put in
    record {
      of = c.put.ensures.of;
      part = subst (λ (u : Account). 0 < u.parts) (sym is) I.part;
      may = subst (λ (u : Account). AreAmong (numbers rest) u.may) (sym is) (among_rest x.number (numbers rest) v.may here);
      put = ap (λ (u : Account). after_puts u rest) is ∙ sym (puts_next v x rest) ∙ ap (after_puts v) (sym step) ∙ I.put;
    }
