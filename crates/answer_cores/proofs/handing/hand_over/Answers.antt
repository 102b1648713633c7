use Rattle.std.proofs.Common.{◌≡◌, ◌<◌, ◌∷◌, refl, sym, ap, ◌∙◌, subst}
use Rattle.core_worker.specs.declared.worker.Worker.{Worker}
use Rattle.core_worker.specs.Beginning.{answers_of}
use Rattle.answer_queue.specs.declared.account.Account.{Account}
use Rattle.answer_queue.specs.Accounts.{AreAmong, numbers, after_put, after_puts}
use Rattle.answer_queue.specs.Queues.{account_of}
use Rattle.answer_queue.proofs.Clients.{among_rest, puts_next}
use Rattle.answer_cores.proofs.Keeping.{keeps_itself, keeps_on}
use Rattle.answer_cores.proofs.handing.hand_over.Goals as goal

pub loop-init : goal.loop-init
loop-init g c = record {
  of = c.requires.of;
  part = c.requires.part;
  may = c.requires.may;
  put = refl;
  keeps = keeps_itself c.args.worker.now;
}

pub loop-preserved : goal.loop-preserved
loop-preserved g c =
    let I = c.loop.invariant in
    let x = c.in-Some-next_answer.answer in
    let e = c.in-Some-next_answer.ensures in
    let new : Worker = c.next_answer.new.self in
    let rest = answers_of new in
    let step : answers_of c.loop.worker ≡ x ∷ rest = e.answer in
    let v : Account = account_of c.loop.pass in
    let here : AreAmong (numbers (x ∷ rest)) v.may = subst (λ k. AreAmong (numbers k) v.may) step I.may in
    let is : account_of c.put.new.pass ≡ after_put v x = c.put.ensures.put in
    record {
      of = c.put.ensures.of;
      part = subst (λ (u : Account). 0 < u.parts) (sym is) I.part;
      may = subst (λ (u : Account). AreAmong (numbers rest) u.may) (sym is) (among_rest x.number (numbers rest) v.may here);
      put = ap (λ (u : Account). after_puts u rest) is ∙ sym (puts_next v x rest) ∙ ap (after_puts v) (sym step) ∙ I.put;
      keeps = keeps_on c.args.worker.now c.loop.worker new I.keeps (record { rest = e.rest; holds = e.holds; stands = e.stands; order = e.order; hands = e.hands });
    }

pub returns-in-None-next_answer-clause-worker : goal.returns-in-None-next_answer-clause-worker
returns-in-None-next_answer-clause-worker g c =
    let e = c.in-None-next_answer.ensures in
    record {
      none = e.answer.1;
      keeps = keeps_on c.args.worker.now c.loop.worker c.next_answer.new.self c.loop.invariant.keeps (record { rest = e.rest; holds = e.holds; stands = e.stands; order = e.order; hands = e.hands });
    }
