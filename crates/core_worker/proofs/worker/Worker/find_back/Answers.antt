-- The search goes on place by place.
use Rattle.std.proofs.Common.{◌≡◌, ℕ, ◌+◌, ◌<◌, ◌||◌, Option, refl, sym, ◌∙◌, ap, subst, arith}
use Rattle.group_laws.specs.State.{Group}
use Rattle.group_laws.specs.Places.{members}
use Rattle.group_laws.specs.MemberViews.{View}
use Rattle.group_board.specs.Seats.{SeatAt}
use Rattle.group_board.specs.declared.board.SlotState.{SlotState}
use Rattle.core_worker.specs.declared.types.Place.{Place}
use Rattle.core_worker.specs.OwnPlaces.{place_at}
use Rattle.core_worker.specs.Searching.{Sees, Searched}
use Rattle.core_worker.proofs.SearchLaws.{searched_none, searched_on, searched_all, found_below, found_made}
use Rattle.batch_leader.proofs.Clients.{no_loads, loads_on}
use Rattle.core_worker.proofs.worker.Worker.find_back.Goals as goal

pub loop-slot-init : goal.loop-slot-init
loop-slot-init g c =
    let seat = g.B.Board.seat c.args.board.now in
    record {
      sits = refl;
      searched = searched_none (g.B.Board.whole c.args.board.now) seat.number seat.place c.args.self.now.places.items (g.B.Board.view c.args.board.now) (g.met.B.Board.agrees c.args.board.now);
      trail = no_loads (g.B.Board.view c.args.board.now) (g.B.Board.trail c.args.board.now);
    }

pub look_place-seen-requires-clause-member : goal.look_place-seen-requires-clause-member
look_place-seen-requires-clause-member g c = subst (λ (x : SeatAt). x.number < members x.place) (sym c.loop-slot.invariant.sits) c.requires.holds.member

sees_by : (a b : SeatAt) (slot : ℕ) (before after : Option Group) (v u : View) (x : Place) (seen : Option SlotState) → a ≡ b → Sees a.number slot before after v u x seen → Sees b.number slot before after v u x seen
sees_by a b slot before after v u x seen same sees = subst (λ (y : SeatAt). Sees y.number slot before after v u x seen) same sees

pub returns-then-shows_back-clause-finds : goal.returns-then-shows_back-clause-finds
returns-then-shows_back-clause-finds g c =
    let seat = g.B.Board.seat c.args.board.now in
    let w = g.B.Board.whole in
    let v = g.B.Board.view in
    let i = c.loop-slot.invariant in
    let found = found_below (w c.args.board.now) (w c.loop-slot.board) (w c.look_place-seen.new.board) seat.number c.args.self.now (v c.args.board.now) c.loop-slot.slot c.loop-slot.posted (v c.loop-slot.board) (v c.look_place-seen.new.board) c.requires.nothing i.searched c.look_place-seen.result
    (sees_by (g.B.Board.seat c.loop-slot.board) seat c.loop-slot.slot (w c.loop-slot.board) (w c.look_place-seen.new.board) (v c.loop-slot.board) (v c.look_place-seen.new.board) (place_at c.args.self.now.places.items c.loop-slot.slot) c.look_place-seen.result i.sits c.look_place-seen.ensures.sees)
    (sym c.shows_back.ensures ∙ c.if-shows_back.true) in
    (c.loop-slot-test.true, found.0, found.1, found.2)

pub returns-then-shows_back-clause-looks : goal.returns-then-shows_back-clause-looks
returns-then-shows_back-clause-looks g c =
    let seat = g.B.Board.seat c.args.board.now in
    let w = g.B.Board.whole in
    let v = g.B.Board.view in
    let i = c.loop-slot.invariant in
    found_made (w c.args.board.now) (w c.loop-slot.board) (w c.look_place-seen.new.board) seat.number c.args.self.now (v c.args.board.now) c.loop-slot.slot c.loop-slot.posted (v c.loop-slot.board) (v c.look_place-seen.new.board) c.requires.nothing i.searched c.look_place-seen.result
    (sees_by (g.B.Board.seat c.loop-slot.board) seat c.loop-slot.slot (w c.loop-slot.board) (w c.look_place-seen.new.board) (v c.loop-slot.board) (v c.look_place-seen.new.board) (place_at c.args.self.now.places.items c.loop-slot.slot) c.look_place-seen.result i.sits c.look_place-seen.ensures.sees)
    (sym c.shows_back.ensures ∙ c.if-shows_back.true)

pub loop-slot-preserved : goal.loop-slot-preserved
loop-slot-preserved g c =
    let seat = g.B.Board.seat c.args.board.now in
    let w = g.B.Board.whole in
    let v = g.B.Board.view in
    let i = c.loop-slot.invariant in
    record {
      sits = c.look_place-seen.ensures.seat ∙ i.sits;
      searched = subst (λ b. Searched (w c.args.board.now) (w c.look_place-seen.new.board) seat.number c.args.self.now.places.items (v c.args.board.now) (c.loop-slot.slot + 1) b (v c.look_place-seen.new.board)) (ap (λ b. c.loop-slot.posted || b) (sym c.shows_out.ensures) ∙ sym c.either-posted.ensures)
          (searched_on (w c.args.board.now) (w c.loop-slot.board) (w c.look_place-seen.new.board) seat.number c.args.self.now.places.items (v c.args.board.now) c.loop-slot.slot c.loop-slot.posted (v c.loop-slot.board) (v c.look_place-seen.new.board) i.searched c.look_place-seen.result
          (sees_by (g.B.Board.seat c.loop-slot.board) seat c.loop-slot.slot (w c.loop-slot.board) (w c.look_place-seen.new.board) (v c.loop-slot.board) (v c.look_place-seen.new.board) (place_at c.args.self.now.places.items c.loop-slot.slot) c.look_place-seen.result i.sits c.look_place-seen.ensures.sees)
          (sym c.shows_back.ensures ∙ c.if-shows_back.false));
      trail = loads_on _ _ _ _ _ _ i.trail c.look_place-seen.ensures.steps;
    }

pub returns-clause-finds : goal.returns-clause-finds
returns-clause-finds g c =
    let seat = g.B.Board.seat c.args.board.now in
    let i = c.loop-slot.invariant in
    let over = c.loop-slot-test.false in
    let end : c.loop-slot.slot ≡ 8 = omega (arith, over, c.loop-slot.auto.slot-end) in
    let S = subst (λ n. Searched (g.B.Board.whole c.args.board.now) (g.B.Board.whole c.loop-slot.board) seat.number c.args.self.now.places.items (g.B.Board.view c.args.board.now) n c.loop-slot.posted (g.B.Board.view c.loop-slot.board)) end i.searched in
    searched_all (g.B.Board.whole c.args.board.now) (g.B.Board.whole c.loop-slot.board) seat.number c.args.self.now (g.B.Board.view c.args.board.now) c.loop-slot.posted (g.B.Board.view c.loop-slot.board) c.requires.nothing S

pub returns-then-shows_back-clause-steps : goal.returns-then-shows_back-clause-steps
returns-then-shows_back-clause-steps g c = loads_on _ _ _ _ _ _ c.loop-slot.invariant.trail c.look_place-seen.ensures.steps
