-- A change is settled, or given up, and its place is free.
use Rattle.std.proofs.Common.{sym, ◌∙◌, ap}
use Rattle.group_laws.specs.Places.{core_of}
use Rattle.group_board.specs.Seats.{SeatAt}
use Rattle.core_worker.specs.declared.worker.Worker.{Worker}
use Rattle.core_worker.specs.OwnPlaces.{place_at, is_free, key_in}
use Rattle.core_worker.proofs.TakingBack.{stood, one_room, settled_room, taken_place, settle_room, settle_next, settle_used, failed_freed, failed_takes, done_freed, done_takes}
use Rattle.core_worker.proofs.worker.Worker.take_out.Goals as goal

pub let_go-requires-clause-taken : goal.let_go-requires-clause-taken
let_go-requires-clause-taken g c =
    let p = (g.B.Board.seat c.args.board.now).place in
    let m = (g.B.Board.seat c.args.board.now).number in
    let v = g.B.Board.view c.args.board.now in
    taken_place p m v c.args.self.now c.args.slot c.finish-entry.result.entry (stood p m v c.args.self.now c.requires.holds c.args.slot c.finish-entry.result.entry c.finish-entry.ensures.pending)

pub let_go-requires-clause-room : goal.let_go-requires-clause-room
let_go-requires-clause-room g c =
    let p = (g.B.Board.seat c.args.board.now).place in
    let m = (g.B.Board.seat c.args.board.now).number in
    let v = g.B.Board.view c.args.board.now in
    one_room p m v c.args.self.now c.args.slot c.finish-entry.result.entry.key c.requires.order (ap key_in (stood p m v c.args.self.now c.requires.holds c.args.slot c.finish-entry.result.entry c.finish-entry.ensures.pending).place)

pub let_go-requires-in-Some-clause-taken : goal.let_go-requires-in-Some-clause-taken
let_go-requires-in-Some-clause-taken g c =
    let p = (g.B.Board.seat c.args.board.now).place in
    let m = (g.B.Board.seat c.args.board.now).number in
    let v = g.B.Board.view c.args.board.now in
    ap (λ (y : Worker). is_free (place_at y.places.items c.args.slot)) c.settle.ensures.rest
    ∙ taken_place p m v c.args.self.now c.args.slot c.finish-entry.result.entry (stood p m v c.args.self.now c.requires.holds c.args.slot c.finish-entry.result.entry c.finish-entry.ensures.pending)

pub let_go-requires-in-Some-clause-room : goal.let_go-requires-in-Some-clause-room
let_go-requires-in-Some-clause-room g c =
    let p = (g.B.Board.seat c.args.board.now).place in
    let m = (g.B.Board.seat c.args.board.now).number in
    let v = g.B.Board.view c.args.board.now in
    settled_room c.args.self.now c.settle.new.self c.finish-entry.result.entry c.core_beside-core.result c.settle.ensures
    (one_room p m v c.args.self.now c.args.slot c.finish-entry.result.entry.key c.requires.order (ap key_in (stood p m v c.args.self.now c.requires.holds c.args.slot c.finish-entry.result.entry c.finish-entry.ensures.pending).place))

pub settle-requires-clause-room : goal.settle-requires-clause-room
settle-requires-clause-room g c = settle_room (g.B.Board.seat c.args.board.now).place (g.B.Board.seat c.args.board.now).number (g.B.Board.view c.args.board.now) c.args.self.now c.requires.holds c.requires.order c.args.slot c.finish-entry.result.entry c.finish-entry.ensures.pending

pub settle-requires-clause-next : goal.settle-requires-clause-next
settle-requires-clause-next g c = settle_next (g.B.Board.seat c.args.board.now).place (g.B.Board.seat c.args.board.now).number (g.B.Board.view c.args.board.now) c.args.self.now c.requires.holds c.requires.order c.args.slot c.finish-entry.result.entry c.finish-entry.ensures.pending

pub settle-requires-clause-used : goal.settle-requires-clause-used
settle-requires-clause-used g c = settle_used (g.B.Board.seat c.args.board.now).place (g.B.Board.seat c.args.board.now).number (g.B.Board.view c.args.board.now) c.args.self.now c.requires.holds c.requires.order c.args.slot c.finish-entry.result.entry c.finish-entry.ensures.pending

pub returns-in-None-clause-freed : goal.returns-in-None-clause-freed
returns-in-None-clause-freed g c =
    let f = c.finish-entry.ensures in
    failed_freed (g.B.Board.seat c.args.board.now).place (g.B.Board.seat c.args.board.now).number c.args.slot (g.B.Board.view c.args.board.now) (g.B.Board.view c.finish-entry.new.self) c.args.self.now c.finish-entry.result.entry c.requires.holds c.requires.order c.requires.nothing f.pending
    c.finish-entry.result.home f.seen f.view c.let_go.new.self c.in-None.is c.let_go.ensures.frees

pub returns-in-None-clause-takes : goal.returns-in-None-clause-takes
returns-in-None-clause-takes g c =
    let f = c.finish-entry.ensures in
    failed_takes (g.B.Board.seat c.args.board.now).place (g.B.Board.seat c.args.board.now).number c.args.slot (g.B.Board.view c.args.board.now) (g.B.Board.view c.finish-entry.new.self) c.args.self.now c.finish-entry.result.entry c.requires.holds c.requires.order c.requires.nothing f.pending
    c.finish-entry.result.home f.seen f.view c.let_go.new.self c.in-None.is c.let_go.ensures.frees

pub returns-in-Some-clause-freed : goal.returns-in-Some-clause-freed
returns-in-Some-clause-freed g c =
    let f = c.finish-entry.ensures in
    let p = (g.B.Board.seat c.args.board.now).place in
    done_freed p (g.B.Board.seat c.args.board.now).number c.args.slot (g.B.Board.view c.args.board.now) (g.B.Board.view c.finish-entry.new.self) c.args.self.now c.finish-entry.result.entry c.requires.holds c.requires.order c.requires.nothing f.pending
    c.finish-entry.result.home f.seen f.view c.settle.new.self c.let_go-in-Some.new.self c.in-Some.home c.core_beside-core.result c.done_reply-reply.result c.in-Some.is (c.core_beside-core.ensures p (c.requires.holds.core ∙ ap (core_of p) (sym (c.member.ensures ∙ ap (λ (s : SeatAt). s.number) f.seat)))) c.settle.ensures f.home c.done_reply-reply.ensures c.let_go-in-Some.ensures.frees

pub returns-in-Some-clause-takes : goal.returns-in-Some-clause-takes
returns-in-Some-clause-takes g c =
    let f = c.finish-entry.ensures in
    let p = (g.B.Board.seat c.args.board.now).place in
    done_takes p (g.B.Board.seat c.args.board.now).number c.args.slot (g.B.Board.view c.args.board.now) (g.B.Board.view c.finish-entry.new.self) c.args.self.now c.finish-entry.result.entry c.requires.holds c.requires.order c.requires.nothing f.pending
    c.finish-entry.result.home f.seen f.view c.settle.new.self c.let_go-in-Some.new.self c.in-Some.home c.core_beside-core.result c.done_reply-reply.result c.in-Some.is (c.core_beside-core.ensures p (c.requires.holds.core ∙ ap (core_of p) (sym (c.member.ensures ∙ ap (λ (s : SeatAt). s.number) f.seat)))) c.settle.ensures f.home c.done_reply-reply.ensures c.let_go-in-Some.ensures.frees
