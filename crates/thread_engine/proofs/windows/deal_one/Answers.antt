use Rattle.std.proofs.Common.{◌%◌, ◌<◌, length, slice_index_or, sym}
use Rattle.std.proofs.lemmas.Result.{on_ok_weaker, on_err_weaker}
use Rattle.std.proofs.Math.Nat.{mod-lt}
use Rattle.thread_engine.proofs.Deals.{index_any, one_dealt, none_more}
use Rattle.thread_engine.proofs.windows.deal_one.Goals as goal

pub returns-clause-dealt : goal.returns-clause-dealt
returns-clause-dealt g c =
    let jobs = c.args.jobs.now in
    let at = c.key.result % length jobs in
    let low : at < length jobs = mod-lt c.key.result c.requires.some in
    let x = slice_index_or jobs at c.index-jobs-owner.result in
    on_ok_weaker c.append.result (λ is. one_dealt jobs at low x (λ d. index_any jobs at d c.index-jobs-owner.result low) c.append.new.backlog c.args.number c.args.request (λ i. sym c.key.ensures i % length jobs) is) c.append.ensures.appended

pub returns-clause-kept : goal.returns-clause-kept
returns-clause-kept g c =
    let jobs = c.args.jobs.now in
    let at = c.key.result % length jobs in
    let low : at < length jobs = mod-lt c.key.result c.requires.some in
    let x = slice_index_or jobs at c.index-jobs-owner.result in
    on_err_weaker c.append.result (λ is. none_more jobs at low x (λ d. index_any jobs at d c.index-jobs-owner.result low) c.append.new.backlog c.args.number is) c.append.ensures.kept
