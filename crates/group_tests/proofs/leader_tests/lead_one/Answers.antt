use Rattle.std.proofs.Common.{◌≡◌, ◌∙◌, ap}
use Rattle.region_memory.specs.Steady.{steady_state}
use Rattle.group_laws.specs.State.{Group}
use Rattle.group_board.specs.Journals.{state}
use Rattle.group_board.specs.Seats.{SeatAt}
use Rattle.batch_leader.specs.Rounds.{words_taken}
use Rattle.group_tests.proofs.LeadTrialLaws.{small, begins_small, room_small, unwritten_by, may_post}
use Rattle.group_tests.proofs.leader_tests.lead_one.Goals as goal

pub gather-requires-clause-post : goal.gather-requires-clause-post
gather-requires-clause-post c = may_post (state c.args.board.now.keeper.me.0) c.args.change c.requires.board c.requires.change

pub write_and_mark-marked-requires-clause-begins : goal.write_and_mark-marked-requires-clause-begins
write_and_mark-marked-requires-clause-begins c =
    let at = c.requires.region in
    let seat = c.in_ok-batch.ensures.seat in
    let place : (state c.args.board.now.keeper.me.0).place ≡ small = ap (λ (w : Group). w.place) c.requires.board in
    begins_small (steady_state c.args.region.now) _ _ _ c.args.log.now at.first at.words at.zeros
    (ap (λ (x : SeatAt). x.place) seat ∙ place) (ap (λ (x : SeatAt). x.number) seat) c.requires.log.own c.requires.log.layout c.requires.log.part
    c.requires.log.none (c.in_ok-batch.ensures.unwritten (unwritten_by (state c.args.board.now.keeper.me.0) c.requires.board))

pub write_and_mark-marked-requires-clause-room : goal.write_and_mark-marked-requires-clause-room
write_and_mark-marked-requires-clause-room c =
    let at = c.requires.region in
    room_small (steady_state c.args.region.now) c.args.log.now (words_taken c.in_ok-batch.batch.changes.taken.items) at.first at.words at.zeros
    c.requires.log.layout c.requires.log.part c.in_ok-batch.ensures.fits
