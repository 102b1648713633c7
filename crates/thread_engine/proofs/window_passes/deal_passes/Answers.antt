use Rattle.std.proofs.Common.{◌≡◌, suc, ◌<◌, ◌+◌, ◌∷◌, List, ℕ, Some, length, drop, slice_index_or, refl, sym, ap, ◌∙◌, subst, arith}
use Rattle.answer_queue.specs.declared.account.Account.{Account}
use Rattle.answer_queue.specs.Accounts.{AreAmong, without_numbers}
use Rattle.answer_queue.specs.Queues.{account_of}
use Rattle.answer_cores.specs.Passes.{after_deals, all_numbers, numbers_in}
use Rattle.answer_cores.proofs.Clients.{first_among, rest_among}
use Rattle.thread_engine.specs.declared.core_job.CoreJob.{CoreJob}
use Rattle.thread_engine.specs.WindowJobs.{waiting_for, TakesPass}
use Rattle.thread_engine.proofs.Changes.{none_changed, next_changed, all_changed}
use Rattle.thread_engine.proofs.Deals.{index_any}
use Rattle.thread_engine.proofs.Passing.{next_waiting, none_behind}
use Rattle.thread_engine.proofs.window_passes.deal_passes.Goals as goal

pub loop-job-init : goal.loop-job-init
loop-job-init g c = record {
  of = c.requires.of;
  parts = (let p = c.requires.parts in omega (arith, p));
  may = c.requires.may;
  left = refl;
  changed = none_changed (TakesPass c.args.queue.now) c.args.jobs.now;
}

pub deal-own-requires-clause-parts : goal.deal-own-requires-clause-parts
deal-own-requires-clause-parts g c =
    let p = c.loop-job.invariant.parts in
    let there = c.loop-job-test.true in
    omega (arith, p, there)

pub deal-own-requires-clause-among : goal.deal-own-requires-clause-among
deal-own-requires-clause-among g c =
    let a = c.args.jobs.now in
    let i = c.loop-job.job-index in
    let d = c.job-item.result in
    let x = slice_index_or c.loop-job.jobs i d in
    let there = c.loop-job-test.true in
    let may = (account_of c.loop-job.pass).may in
    let I = c.loop-job.invariant in
    let step : drop i (waiting_for a) ≡ numbers_in x.queue.items ∷ drop (suc i) (waiting_for a) = next_waiting a i d there ∙ ap (λ (j : CoreJob g.row.B.Denot g.row.P.Denot). numbers_in j.queue.items ∷ drop (suc i) (waiting_for a)) (sym (I.changed.behind i d there (omega arith))) in
    first_among (numbers_in x.queue.items) (all_numbers (drop (suc i) (waiting_for a))) may (subst (λ (l : List (List ℕ)). AreAmong (all_numbers l) may) step I.may)

pub loop-job-preserved : goal.loop-job-preserved
loop-job-preserved g c =
    let a = c.args.jobs.now in
    let b = c.loop-job.jobs in
    let i = c.loop-job.job-index in
    let d = c.job-item.result in
    let x = slice_index_or b i d in
    let there = c.loop-job-test.true in
    let I = c.loop-job.invariant in
    let same = I.changed.count in
    let v : Account = account_of c.loop-job.pass in
    let ns = numbers_in x.queue.items in
    let ws = waiting_for a in
    let step : drop i ws ≡ ns ∷ drop (suc i) ws = next_waiting a i d there ∙ ap (λ (j : CoreJob g.row.B.Denot g.row.P.Denot). numbers_in j.queue.items ∷ drop (suc i) ws) (sym (I.changed.behind i d there (omega arith))) in
    let next : suc i ≡ i + 1 = omega arith in
    let is : account_of c.deal-own.new.pass ≡ without_numbers ns v = c.deal-own.ensures.old in
    let rest = rest_among ns (all_numbers (drop (suc i) ws)) v.may (subst (λ (l : List (List ℕ)). AreAmong (all_numbers l) v.may) step I.may) in
    record {
      of = c.deal-own.ensures.of.0;
      parts = subst (λ (u : Account). length a < u.parts + (i + 1)) (sym is) (let p = I.parts in omega (arith, p));
      may = subst (λ (u : Account). AreAmong (all_numbers (drop (i + 1) ws)) u.may) (sym is) (subst (λ k. AreAmong (all_numbers (drop k ws)) (without_numbers ns v).may) next rest);
      left = ap (λ (u : Account). after_deals u (drop (i + 1) ws)) is ∙ ap (λ k. after_deals (without_numbers ns v) (drop k ws)) (sym next) ∙ ap (after_deals v) (sym step) ∙ I.left;
      changed = next_changed (TakesPass c.args.queue.now) i a b (record x { pass = Some c.deal-own.result }) there I.changed
          (λ e. subst (λ (y : CoreJob g.row.B.Denot g.row.P.Denot). TakesPass c.args.queue.now y (record x { pass = Some c.deal-own.result })) (index_any b i d e (omega (arith, there, same)))
          (record { pass = c.deal-own.result; dealt = record { of = c.deal-own.ensures.of.1; may = c.deal-own.ensures.new }; is = refl }));
    }

pub returns-clause-rest : goal.returns-clause-rest
returns-clause-rest g c =
    let I = c.loop-job.invariant in
    let past = c.loop-job-test.false in
    let same = I.changed.count in
    sym (ap (after_deals (account_of c.loop-job.pass)) (none_behind c.args.jobs.now c.loop-job.job-index (omega (arith, past, same))).0) ∙ I.left

pub returns-clause-dealt : goal.returns-clause-dealt
returns-clause-dealt g c =
    let I = c.loop-job.invariant in
    let past = c.loop-job-test.false in
    let same = I.changed.count in
    all_changed (TakesPass c.args.queue.now) c.loop-job.job-index c.args.jobs.now c.loop-job.jobs (omega (arith, past, same)) I.changed
