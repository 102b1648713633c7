use Rattle.std.proofs.Common.{◌+◌, ◌∷◌, [], ◌++◌, sym, ap, ◌∙◌, add-one, rules}
use Rattle.answer_queue.specs.Accounts.{numbers, numbers_from}
use Rattle.answer_queue.proofs.Clients.{numbers_append, next_number}
use Rattle.answer_queue_tests.proofs.two_threads_tests.twenty.Goals as goal

pub loop-i-preserved : goal.loop-i-preserved
loop-i-preserved c =
    let I = c.loop-i.invariant in
    let from = c.args.from in
    let i = c.loop-i.i in
    record {
      are = ap numbers c.push_reserved.ensures.items ∙ numbers_append c.loop-i.answers.items _ ∙ ap (λ l. l ++ (from + i) ∷ []) I.are ∙ sym (next_number from i) ∙ ap (numbers_from from) (sym (add-one i));
      len = c.push_reserved.ensures.len ∙ ap (λ n. n + 1) I.len;
      room = search rules;
    }
