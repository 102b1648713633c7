use Rattle.std.proofs.Common.{◌≡◌, suc, ◌+◌, drop, slice_index_or, refl, sym, ap, ◌∙◌, subst, arith}
use Rattle.answer_queue.specs.declared.account.Account.{Account}
use Rattle.answer_queue.specs.Accounts.{joined}
use Rattle.answer_queue.specs.Queues.{account_of}
use Rattle.answer_cores.specs.Passes.{joined_all}
use Rattle.thread_engine.specs.declared.core_job.CoreJob.{CoreJob}
use Rattle.thread_engine.specs.WindowJobs.{passes_of, LosesPass}
use Rattle.thread_engine.proofs.Changes.{none_changed, next_changed, all_changed}
use Rattle.thread_engine.proofs.Deals.{index_any}
use Rattle.thread_engine.proofs.Passing.{next_pass, none_behind}
use Rattle.thread_engine.proofs.window_passes.take_passes.Goals as goal

pub loop-job-init : goal.loop-job-init
loop-job-init g c = record { of = c.requires.of; joined = refl; changed = none_changed LosesPass c.args.jobs.now }

pub loop-job-preserved : goal.loop-job-preserved
loop-job-preserved g c =
    let a = c.args.jobs.now in
    let b = c.loop-job.jobs in
    let i = c.loop-job.job-index in
    let d = c.job-item.result in
    let own = c.in-Some.own in
    let x = slice_index_or b i d in
    let there = c.loop-job-test.true in
    let I = c.loop-job.invariant in
    let same = I.changed.count in
    let v : Account = account_of c.loop-job.pass in
    let next : suc i ≡ i + 1 = omega arith in
    let had = ap (λ (j : CoreJob g.row.B.Denot g.row.P.Denot). j.pass) (sym (I.changed.behind i d there (omega arith))) ∙ sym c.take.ensures.value ∙ c.in-Some.is in
    let step = next_pass a i d own there had in
    record {
      of = c.absorb.ensures.of;
      joined = ap (λ (u : Account). joined_all u (passes_of (drop (i + 1) a))) c.absorb.ensures.joined ∙ ap (λ k. joined_all (joined v (account_of own)) (passes_of (drop k a))) (sym next) ∙ ap (joined_all v) (sym step) ∙ I.joined;
      changed = next_changed LosesPass i a b (record x { pass = c.take.new.self }) there I.changed
          (λ e. subst (λ (y : CoreJob g.row.B.Denot g.row.P.Denot). LosesPass y (record x { pass = c.take.new.self })) (index_any b i d e (omega (arith, there, same)))
          (ap (λ o. record x { pass = o }) c.take.ensures.after));
    }

pub returns-clause-joined : goal.returns-clause-joined
returns-clause-joined g c =
    let I = c.loop-job.invariant in
    let past = c.loop-job-test.false in
    let same = I.changed.count in
    sym (ap (joined_all (account_of c.loop-job.pass)) (none_behind c.args.jobs.now c.loop-job.job-index (omega (arith, past, same))).1) ∙ I.joined

pub returns-clause-jobs : goal.returns-clause-jobs
returns-clause-jobs g c =
    let I = c.loop-job.invariant in
    let past = c.loop-job-test.false in
    let same = I.changed.count in
    all_changed LosesPass c.loop-job.job-index c.args.jobs.now c.loop-job.jobs (omega (arith, past, same)) I.changed
