use Rattle.std.proofs.Common.{◌<◌, length, slice_index_or, IsPermutation, IsSomeAnd, sym, ◌∙◌, ap, subst, arith}
use Rattle.answer_queue.specs.declared.account.Account.{Account}
use Rattle.answer_queue.specs.Queues.{IsOf, account_of}
use Rattle.answer_cores.specs.Passes.{after_deals}
use Rattle.thread_engine.specs.WorkStates.{sight_by}
use Rattle.thread_engine.specs.WindowJobs.{waiting_for, WorksWindow}
use Rattle.thread_engine.specs.Windows.{EachChanges}
use Rattle.thread_engine.proofs.WindowSteps.{ready, whole_pass, all_worked}
use Rattle.thread_engine.proofs.desk.work_at_desk.Goals as goal

pub deal_passes-requires-clause-parts : goal.deal_passes-requires-clause-parts
deal_passes-requires-clause-parts g c =
    let parts = ap (λ (v : Account). v.parts) c.requires.fresh.whole in
    let few = c.requires.parts in
    omega (arith, parts, few)

pub work_all-requires-after_bounds : goal.work_all-requires-after_bounds
work_all-requires-after_bounds g c κs within =
    let D = c.deal_passes.ensures.dealt in
    λ i d low. (let same = D.count in let low' : i < length c.args.jobs.now = omega (arith, low, same) in
    ready g.B.Board.seat (sight_by g.B.Board.view g.B.Board.trail g.B.Board.at) g.P.Region.state (g.G.Gate.may_refuse c.args.gate.now) c.args.desk.now.queue (slice_index_or c.args.jobs.now i d) (slice_index_or c.deal_passes.new.jobs i d) (c.requires.awaits i d low') (D.each i d low'))

pub take_passes-requires-clause-each : goal.take_passes-requires-clause-each
take_passes-requires-clause-each g c =
    λ i d low. (let same = c.work_all.auto.jobs in
    let V = c.work_all.ensures i d (omega (arith, low, same)) in
    subst (λ o. IsSomeAnd o (IsOf c.args.desk.now.queue)) (sym V.has) V.put.of)

pub keep_all-requires-clause-whole : goal.keep_all-requires-clause-whole
keep_all-requires-clause-whole g c =
    let W = whole_pass g.B.Board.seat (sight_by g.B.Board.view g.B.Board.trail g.B.Board.at) g.P.Region.state (g.G.Gate.may_refuse c.args.gate.now) c.args.desk.now.queue c.args.jobs.now c.deal_passes.new.jobs c.work_all.new.jobs (account_of c.args.desk.now.pass).may (account_of c.deal_passes.new.pass) c.requires.parts
    (c.deal_passes.ensures.rest ∙ ap (λ v. after_deals v (waiting_for c.args.jobs.now)) c.requires.fresh.whole) c.deal_passes.ensures.dealt (record { count = c.work_all.auto.jobs; each = c.work_all.ensures }) in
    (ap (λ (v : Account). v.parts) c.take_passes.ensures.joined ∙ W.parts, ap (λ (v : Account). v.took) c.take_passes.ensures.joined ∙ W.took)

pub returns-clause-worked : goal.returns-clause-worked
returns-clause-worked g c =
    let seat = g.B.Board.seat in
    let sight = sight_by g.B.Board.view g.B.Board.trail g.B.Board.at in
    let state = g.P.Region.state in
    let refused = g.G.Gate.may_refuse c.args.gate.now in
    let q = c.args.desk.now.queue in
    let b = c.args.jobs.now in
    let r = c.deal_passes.new.jobs in
    let e = c.work_all.new.jobs in
    let f = c.take_passes.new.jobs in
    let D = c.deal_passes.ensures.dealt in
    let C : EachChanges (WorksWindow seat sight state refused q) r e = record { count = c.work_all.auto.jobs; each = c.work_all.ensures } in
    let L = c.take_passes.ensures.jobs in
    let W = whole_pass seat sight state refused q b r e (account_of c.args.desk.now.pass).may (account_of c.deal_passes.new.pass) c.requires.parts
    (c.deal_passes.ensures.rest ∙ ap (λ v. after_deals v (waiting_for b)) c.requires.fresh.whole) D C in
    all_worked seat sight state refused q b r e f (account_of c.keep_all.new.pass).took D C L
    (subst (λ xs. IsPermutation xs (account_of c.keep_all.new.pass).took) (ap (λ (v : Account). v.put) c.take_passes.ensures.joined ∙ W.put) c.keep_all.ensures.all) c.keep_all.ensures.distinct
