use Rattle.std.proofs.Common.{◌≡◌, [], ◌∷◌, length, map, IsPermutation, sym, ◌∙◌, ap, subst}
use Rattle.std.proofs.lemmas.List.{map-append}
use Rattle.std.proofs.lemmas.List.Sorted.{length_permutation}
use Rattle.answer_queue.specs.declared.account.Account.{Account}
use Rattle.answer_queue.specs.Accounts.{AreDistinct, numbers}
use Rattle.answer_queue.specs.Queues.{account_of}
use Rattle.answer_queue.proofs.Clients.{distinct_permutation}
use Rattle.engine_core.specs.Answers.{stored}
use Rattle.thread_engine.specs.Takings.{numbered_from}
use Rattle.thread_engine.proofs.Takings.{stored_on}
use Rattle.thread_engine.proofs.taken_answers.keep_all.Goals as goal

pub loop-preserved : goal.loop-preserved
loop-preserved g c =
    let I = c.loop.invariant in
    let took = (account_of c.loop.pass).took in
    let more = numbered_from c.args.first c.in-Some-take.answer in
    let window = c.args.window.now.items in
    let is = c.in-Some-take.ensures.took.0 in
    record {
      of = c.in-Some-take.ensures.of;
      parts = ap (λ (v : Account). v.parts) is ∙ I.parts;
      put = ap (λ (v : Account). v.put) is ∙ I.put;
      kept = c.keep_one.ensures ∙ ap (stored (more ∷ []) 0) I.kept ∙ sym (stored_on (map (numbered_from c.args.first) took) (more ∷ []) 0 window)
          ∙ ap (λ xs. stored xs 0 window) (sym (map-append (numbered_from c.args.first) took (c.in-Some-take.answer ∷ [])))
          ∙ ap (λ (v : Account). stored (map (numbered_from c.args.first) v.took) 0 window) (sym is);
    }

pub returns-in-None-take-clause-clear : goal.returns-in-None-take-clause-clear
returns-in-None-take-clause-clear g c =
    let same = c.in-None-take.ensures.took.0 in
    let s = c.in-None-take.ensures.took.1 c.loop.invariant.parts in
    record {
      whole = ap (λ (v : Account). v.parts) same ∙ c.loop.invariant.parts;
      level = subst (λ (v : Account). length v.took ≡ length v.put) (sym same) (length_permutation _ _ s.all);
    }

pub returns-in-None-take-clause-all : goal.returns-in-None-take-clause-all
returns-in-None-take-clause-all g c =
    let same = c.in-None-take.ensures.took.0 in
    let s = c.in-None-take.ensures.took.1 c.loop.invariant.parts in
    subst (λ (v : Account). IsPermutation (account_of c.args.pass.now).put v.took) (sym same) (subst (λ xs. IsPermutation xs (account_of c.loop.pass).took) c.loop.invariant.put s.all)

pub returns-in-None-take-clause-distinct : goal.returns-in-None-take-clause-distinct
returns-in-None-take-clause-distinct g c =
    let s = c.in-None-take.ensures.took.1 c.loop.invariant.parts in
    subst (λ (v : Account). AreDistinct (numbers v.took)) (sym c.in-None-take.ensures.took.0) (distinct_permutation _ _ s.all s.distinct)

pub returns-in-None-take-clause-kept : goal.returns-in-None-take-clause-kept
returns-in-None-take-clause-kept g c =
    c.loop.invariant.kept ∙ ap (λ (v : Account). stored (map (numbered_from c.args.first) v.took) 0 c.args.window.now.items) (sym c.in-None-take.ensures.took.0)
