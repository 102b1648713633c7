use Rattle.std.proofs.Common.{List, length, sym, ◌∙◌, ap, subst, arith}
use Rattle.atomic_board.specs.declared.token.CoreSeat.{CoreSeat}
use Rattle.thread_engine.specs.declared.core_job.CoreJob.{CoreJob}
use Rattle.thread_engine.specs.Collected.{blanks}
use Rattle.thread_engine.specs.Returns.{Gave}
use Rattle.thread_engine.specs.Windows.{AreAtRest, WorksThrough}
use Rattle.thread_engine.proofs.Places.{map_long}
use Rattle.thread_engine.proofs.Went.{take_front, jobs_rest, all_went, seat_at, sight_there}
use Rattle.thread_engine.proofs.work_apart.work_apart.Goals as goal

pub work_windows-course-requires-clause-some : goal.work_windows-course-requires-clause-some
work_windows-course-requires-clause-some g c =
    let jobs = c.make_jobs-jobs.result.items in
    let value = ap length c.deref_mut.ensures.value in
    let long = ap length c.make_jobs-jobs.ensures.pieces_are in
    let same = map_long (λ (j : CoreJob CoreSeat g.row.P.Denot). j.piece) jobs in
    let any = c.requires.crew.any in
    omega (arith, value, long, same, any)

pub work_windows-course-requires-clause-parts : goal.work_windows-course-requires-clause-parts
work_windows-course-requires-clause-parts g c =
    let jobs = c.make_jobs-jobs.result.items in
    let value = ap length c.deref_mut.ensures.value in
    let long = ap length c.make_jobs-jobs.ensures.pieces_are in
    let same = map_long (λ (j : CoreJob CoreSeat g.row.P.Denot). j.piece) jobs in
    let few = c.requires.crew.few in
    omega (arith, value, long, same, few)

pub work_windows-course-requires-clause-rest : goal.work_windows-course-requires-clause-rest
work_windows-course-requires-clause-rest g c κs within =
    subst (AreAtRest seat_at sight_there g.P.Region.state) (sym c.deref_mut.ensures.value) (jobs_rest g.P.Region.state c.args.pieces.items c.args.crew c.make_jobs-jobs.result.items c.make_jobs-jobs.ensures c.requires.rest)

pub returns-clause-went : goal.returns-clause-went
returns-clause-went g c =
    let old = c.make_jobs-jobs.result.items in
    let new = c.work_windows-course.new.jobs in
    let state = g.P.Region.state in
    let refused = g.G.Gate.may_refuse c.args.gate.now in
    let value = c.deref_mut.ensures.value in
    let all = c.work_windows-course.result.all in
    let I = c.work_windows-course.ensures.works in
    let first = blanks (length I.given) in
    let windows = length I.hands.windows in
    let W = subst (λ (js : List (CoreJob CoreSeat g.row.P.Denot)). WorksThrough seat_at sight_there state refused I.given windows all js new first I.kept) value I.did in
    let front = take_front c.make_jobs-jobs.result.len new _ (c.make_jobs-jobs.result.ok.0 ∙ sym W.went.count) in
    record {
      given = I.given;
      more = I.more;
      split = I.split;
      whole = I.whole;
      kept = I.kept;
      noted = I.noted;
      hands = I.hands;
      did = all_went state c.args.pieces.items c.args.crew old c.make_jobs-jobs.ensures refused I.given windows all new first I.kept W
          c.take_apart.result (subst (λ (js : List (CoreJob CoreSeat g.row.P.Denot)). Gave js c.take_apart.result) front c.take_apart.ensures);
    }
