use Rattle.std.proofs.Common.{◌-◌, sym, ◌∙◌, ap, arith}
use Rattle.answer_queue.specs.declared.account.Account.{Account}
use Rattle.answer_queue.specs.Accounts.{granted}
use Rattle.answer_queue.proofs.Clients.{run_distinct, run_length}
use Rattle.thread_engine.proofs.desk.Desk.begin.Goals as goal

pub renew-requires-clause-few : goal.renew-requires-clause-few
renew-requires-clause-few c =
    let k = c.args.to - c.args.from in
    let long = run_length c.args.from k in
    let few = c.requires.few in
    let order = c.requires.order in
    omega (arith, long, few, order)

pub renew-requires-clause-distinct : goal.renew-requires-clause-distinct
renew-requires-clause-distinct c = run_distinct c.args.from (c.args.to - c.args.from)

pub returns : goal.returns
returns c =
    let is = c.renew.ensures.granted in
    let may = ap (λ (v : Account). v.may) is in
    record {
      fresh = record {
        of = c.renew.ensures.of;
        whole = is ∙ ap granted (sym may);
      };
      may = may;
    }
