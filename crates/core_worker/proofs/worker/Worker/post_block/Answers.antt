use Rattle.core_worker.proofs.StockFacts.{wrote_least}
use Rattle.core_worker.proofs.RoomKept.{room_again}
use Rattle.std.proofs.Common.{◌≡◌, true, Bool, not, inl, inr, sym, ◌∙◌, ap, subst}
use Rattle.core_worker.specs.Supplies.{under_way}
use Rattle.core_worker.specs.declared.worker.Worker.{Worker}
use Rattle.core_worker.specs.OwnPlaces.{place_at, is_staged, own}
use Rattle.core_worker.specs.Posting.{WouldStand}
use Rattle.core_worker.specs.WorkerMoves.{placed_for, hands_of}
use Rattle.core_worker.proofs.AnyPosts.{staged_with}
use Rattle.core_worker.proofs.PostMoves.{posted_least, facts_of, posted_moves, posted_order, fault_moves, fault_order}
use Rattle.batch_leader.proofs.Clients.{no_loads, turn_of_loads, turn_handed}
use Rattle.core_worker.proofs.worker.Worker.post_block.Goals as goal

pub post_staged-requires-clause-nothing : goal.post_staged-requires-clause-nothing
post_staged-requires-clause-nothing g c = (c.requires.nothing.0, ap (λ (w : Worker). w.leading) c.write_staged.ensures.rest ∙ c.requires.nothing.1)

pub post_staged-requires-clause-staged : goal.post_staged-requires-clause-staged
post_staged-requires-clause-staged g c =
    let w = c.args.self.now in
    subst (λ (x : Worker). is_staged (place_at x.places.items c.args.slot) ≡ true) (sym c.write_staged.ensures.rest) (staged_with (place_at w.places.items c.args.slot) c.args.pointer c.requires.staged)

pub returns-then-write_staged-clause-stands : goal.returns-then-write_staged-clause-stands
returns-then-write_staged-clause-stands g c =
    let p = (g.B.Board.seat c.args.board.now).place in
    let m = (g.B.Board.seat c.args.board.now).number in
    let v = g.B.Board.view c.args.board.now in
    let t = g.R.Region.state c.write_staged.new.region in
    let same = ap (λ (w : Worker). place_at w.places.items c.args.slot) c.write_staged.ensures.rest in
    c.post_staged.ensures.stands t (subst (WouldStand t p m v c.write_staged.new.self c.args.slot) (sym same) (c.write_staged.ensures.ready c.if-write_staged.true))

pub returns-then-write_staged-clause-posts : goal.returns-then-write_staged-clause-posts
returns-then-write_staged-clause-posts g c =
    inl (c.write_staged.new.self, c.write_staged.ensures.rest ∙ ap (λ (b : Bool). record c.args.self.now { allocator = c.write_staged.new.self.allocator; stopped = b }) (ap not c.if-write_staged.true ∙ sym c.requires.runs), c.post_staged.ensures.posts)

pub returns-then-write_staged-clause-rule : goal.returns-then-write_staged-clause-rule
returns-then-write_staged-clause-rule g c h =
    let e = c.write_staged.ensures.rest in
    let w = c.args.self.now in
    let way = inl (ap (λ (z : Worker). under_way z) (e ∙ ap (λ (b : Bool). record w { allocator = c.write_staged.new.self.allocator; stopped = b }) (ap not c.if-write_staged.true ∙ sym c.requires.runs))) in
    c.post_staged.ensures.rule (room_again c.args.self.now c.write_staged.new.self (ap (λ (z : Worker). own z.places.items) e) c.write_staged.ensures.chunks (ap (λ (z : Worker). z.log) e) way h)

pub returns-else-write_staged-clause-rule : goal.returns-else-write_staged-clause-rule
returns-else-write_staged-clause-rule g c h =
    let e = c.write_staged.ensures.rest in
    let w = c.args.self.now in
    let way = inr (ap (λ (z : Worker). under_way z) (e ∙ ap (λ (b : Bool). record w { allocator = c.write_staged.new.self.allocator; stopped = b }) (ap not c.if-write_staged.false))) in
    room_again c.args.self.now c.write_staged.new.self (ap (λ (z : Worker). own z.places.items) e) c.write_staged.ensures.chunks (ap (λ (z : Worker). z.log) e) way h

pub returns-then-write_staged-clause-moves : goal.returns-then-write_staged-clause-moves
returns-then-write_staged-clause-moves g c =
    let p = (g.B.Board.seat c.args.board.now).place in
    let m = (g.B.Board.seat c.args.board.now).number in
    let v = g.B.Board.view c.args.board.now in
    let u = g.B.Board.view c.post_staged.new.board in
    let same = c.write_staged.ensures.rest ∙ ap (λ (b : Bool). record c.args.self.now { allocator = c.write_staged.new.self.allocator; stopped = b }) (ap not c.if-write_staged.true ∙ sym c.requires.runs) in
    let F = facts_of m (g.B.Board.whole c.args.board.now) (g.B.Board.whole c.post_staged.new.board) v u c.args.self.now c.write_staged.new.self c.post_staged.new.self c.args.slot same c.post_staged.ensures.posts in
    posted_moves p m (g.B.Board.whole c.args.board.now) (g.B.Board.whole c.post_staged.new.board) v u c.args.self.now c.post_staged.new.self c.args.slot c.requires.slot c.requires.holds c.post_staged.ensures.holds c.requires.runs F
    (posted_least m (g.B.Board.whole c.args.board.now) (g.B.Board.whole c.post_staged.new.board) v u c.args.self.now c.write_staged.new.self c.post_staged.new.self c.args.slot c.post_staged.ensures.posts (wrote_least c.args.self.now c.write_staged.new.self same c.write_staged.ensures.chunks c.write_staged.ensures.blocks))
    (g.R.Region.state c.args.region.now) (g.R.Region.state c.write_staged.new.region) c.write_staged.ensures.outside c.write_staged.ensures.moments (returns-then-write_staged-clause-stands g c).licensed

pub returns-then-write_staged-clause-order : goal.returns-then-write_staged-clause-order
returns-then-write_staged-clause-order g c O =
    let p = (g.B.Board.seat c.args.board.now).place in
    let m = (g.B.Board.seat c.args.board.now).number in
    let v = g.B.Board.view c.args.board.now in
    let u = g.B.Board.view c.post_staged.new.board in
    let same = c.write_staged.ensures.rest ∙ ap (λ (b : Bool). record c.args.self.now { allocator = c.write_staged.new.self.allocator; stopped = b }) (ap not c.if-write_staged.true ∙ sym c.requires.runs) in
    let F = facts_of m (g.B.Board.whole c.args.board.now) (g.B.Board.whole c.post_staged.new.board) v u c.args.self.now c.write_staged.new.self c.post_staged.new.self c.args.slot same c.post_staged.ensures.posts in
    posted_order p m (g.B.Board.whole c.args.board.now) (g.B.Board.whole c.post_staged.new.board) v u c.args.self.now c.post_staged.new.self c.args.slot c.requires.slot c.requires.holds c.post_staged.ensures.holds c.requires.runs F O

pub returns-else-write_staged-clause-moves : goal.returns-else-write_staged-clause-moves
returns-else-write_staged-clause-moves g c =
    let p = (g.B.Board.seat c.args.board.now).place in
    let m = (g.B.Board.seat c.args.board.now).number in
    let same = c.write_staged.ensures.rest ∙ ap (λ (b : Bool). record c.args.self.now { allocator = c.write_staged.new.self.allocator; stopped = not b }) c.if-write_staged.false in
    fault_moves p m (g.R.Region.state c.args.region.now) (g.R.Region.state c.write_staged.new.region) (g.B.Board.whole c.args.board.now) (g.B.Board.view c.args.board.now) c.args.self.now c.write_staged.new.self c.write_staged.ensures.holds
    (λ k. ap (λ (y : Worker). placed_for (g.B.Board.view c.args.board.now) y.places.items k) same) (λ k. ap (λ (y : Worker). (hands_of (g.B.Board.view c.args.board.now) y).waits k) same) (ap (λ (y : Worker). y.stopped) same)
    c.write_staged.ensures.outside c.write_staged.ensures.moments (c.write_staged.ensures.stands c.if-write_staged.false).licensed (c.write_staged.ensures.cause c.if-write_staged.false)

pub returns-else-write_staged-clause-order : goal.returns-else-write_staged-clause-order
returns-else-write_staged-clause-order g c O =
    let p = (g.B.Board.seat c.args.board.now).place in
    let m = (g.B.Board.seat c.args.board.now).number in
    let same = c.write_staged.ensures.rest ∙ ap (λ (b : Bool). record c.args.self.now { allocator = c.write_staged.new.self.allocator; stopped = not b }) c.if-write_staged.false in
    fault_order p m (g.B.Board.view c.args.board.now) c.args.self.now c.write_staged.new.self same c.requires.nothing O

pub returns-then-write_staged-clause-steps : goal.returns-then-write_staged-clause-steps
returns-then-write_staged-clause-steps g c = turn_handed (g.R.Region.state c.args.region.now) (g.R.Region.state c.write_staged.new.region) _ _ _ _ _ _ c.post_staged.ensures.step

pub returns-else-write_staged-clause-steps : goal.returns-else-write_staged-clause-steps
returns-else-write_staged-clause-steps g c = turn_of_loads true (g.R.Region.state c.args.region.now) (g.R.Region.state c.write_staged.new.region) _ _ _ _ _ _ (no_loads (g.B.Board.view c.args.board.now) (g.B.Board.trail c.args.board.now))
