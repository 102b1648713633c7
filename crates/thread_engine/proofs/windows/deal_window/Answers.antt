use Rattle.std.proofs.Common.{◌++◌, [], ◌∷◌, length-append, sym, ◌∙◌, ap, subst, append_assoc, arith}
use Rattle.thread_engine.specs.Requests.{Makes}
use Rattle.thread_engine.specs.Windows.{AreDealt}
use Rattle.thread_engine.proofs.Deals.{more_dealt}
use Rattle.thread_engine.proofs.windows.deal_window.Goals as goal

pub loop-number-preserved : goal.loop-number-preserved
loop-number-preserved g c =
    let I = c.loop-number.invariant in
    let r = c.in-Some.request in
    let old = g.Q.Requests.left c.loop-number.requests in
    let new = g.Q.Requests.left c.next.new.self in
    let made = subst (Makes old new) c.in-Some.is c.in_ok-request.ensures in
    let low = c.loop-number-test.true in
    record {
      dealt = I.dealt ++ r ∷ [];
      split = I.split ∙ ap (λ xs. I.dealt ++ xs) made ∙ sym (append_assoc I.dealt (r ∷ []) new);
      count = (let a = length-append I.dealt (r ∷ []) in let b = I.count in omega (arith, a, b));
      deals = more_dealt c.args.from I.dealt (r ∷ []) c.args.jobs.now c.loop-number.jobs c.deal_one.new.jobs I.deals (subst (λ m. AreDealt m (r ∷ []) c.loop-number.jobs c.deal_one.new.jobs) (sym I.count) c.in_ok-deal_one.ensures.dealt);
      within = omega (arith, low);
    }
