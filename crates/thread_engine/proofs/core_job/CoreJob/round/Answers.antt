-- A round is one more stretch.
use Rattle.std.proofs.Common.{ap}
use Rattle.thread_engine.specs.WorkStates.{sight_by}
use Rattle.thread_engine.proofs.WorkMoves.{goes_more}
use Rattle.thread_engine.proofs.core_job.CoreJob.round.Goals as goal

pub returns : goal.returns
returns g c first so_far =
    let seat = g.B.Board.seat in
    let view = sight_by g.B.Board.view g.B.Board.trail g.B.Board.at in
    let state = g.P.Region.state in
    let refused = g.G.Gate.may_refuse c.args.gate.now in
    let old = c.args.self.now in
    let mid = c.heed.new.self in
    let new = c.go_on.new.self in
    let here = ap seat c.heed.ensures.seat in
    goes_more seat view state refused first mid new
    (goes_more seat view state refused first old mid so_far (record { seat_is = here; pass_is = c.heed.ensures.pass; work = c.heed.ensures.work; works = c.heed.ensures.works refused }))
    (record { seat_is = c.go_on.ensures.seat; pass_is = c.go_on.ensures.pass; work = c.go_on.ensures.work; works = c.go_on.ensures.works })
