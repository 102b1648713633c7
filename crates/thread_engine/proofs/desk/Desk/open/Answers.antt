use Rattle.std.proofs.Common.{length, sym, ◌∙◌, ap, arith}
use Rattle.answer_queue.specs.declared.account.Account.{Account}
use Rattle.thread_engine.proofs.desk.Desk.open.Goals as goal

pub open-requires-clause-few : goal.open-requires-clause-few
open-requires-clause-few c = omega arith

pub open-requires-clause-distinct : goal.open-requires-clause-distinct
open-requires-clause-distinct c = λ n. omega arith

pub returns : goal.returns
returns c =
    let is = c.in_ok-queue.ensures.granted in
    record {
      of = c.in_ok-queue.ensures.of;
      clear = record {
        whole = ap (λ (v : Account). v.parts) is;
        level = ap (λ (v : Account). length v.took) is ∙ sym (ap (λ (v : Account). length v.put) is);
      };
    }
