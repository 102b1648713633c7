-- proofs/worker/Worker/post_staged/Answers.antt
use Rattle.core_worker.proofs.RoomKept.{room_posted}
use Rattle.std.proofs.Common.{ℕ, List, refl, sym, ◌∙◌, ap, subst}
use Rattle.group_laws.specs.MemberViews.{View}
use Rattle.core_worker.specs.declared.types.Place as places
use Rattle.core_worker.specs.declared.types.Place.TheVariants.{Free, Staged, Posted}
use Rattle.core_worker.specs.OwnPlaces.{Replaces}
use Rattle.core_worker.specs.Posting.{PostsPlain, WouldStand}
use Rattle.core_worker.specs.Ties.{Holds, Stands}
use Rattle.core_worker.proofs.AnyPosts.{may_post_staged, holds_any}
use Rattle.core_worker.proofs.BlockPosts.{stands_places}
use Rattle.group_board.specs.Views.{after_post}
use Rattle.core_worker.proofs.worker.Worker.post_staged.Goals as goal

-- two changes of one place
twice : (a b c : List places.Place) (s : ℕ) (x y : places.Place) → Replaces a b s x → Replaces b c s y → Replaces a c s y
twice a b c s x y first next = record { count = next.count ∙ first.count; here = next.here; others = λ t ne. next.others t ne ∙ first.others t ne }

pub post-requires : goal.post-requires
post-requires g c =
    let p = (g.B.Board.seat c.args.board.now).place in
    let m = (g.B.Board.seat c.args.board.now).number in
    let v = g.B.Board.view c.args.board.now in
    let with = sym c.in-Staged.ensures.was ∙ ap (λ (xs : List ℕ). Staged c.in-Staged.number c.in-Staged.entry xs) (sym c.bytes.ensures) in
    may_post_staged p m v c.args.self.now c.requires.holds c.args.slot c.in-Staged.number c.in-Staged.entry c.bytes.result.now c.requires.slot with c.requires.runs

pub returns-clause-holds : goal.returns-clause-holds
returns-clause-holds g c =
    let p = (g.B.Board.seat c.args.board.now).place in
    let m = (g.B.Board.seat c.args.board.now).number in
    let v = g.B.Board.view c.args.board.now in
    let w = c.args.self.now in
    let with = sym c.in-Staged.ensures.was ∙ ap (λ (xs : List ℕ). Staged c.in-Staged.number c.in-Staged.entry xs) (sym c.bytes.ensures) in
    let both = twice w.places.items c.swap_place.new.places.items c.swap_place-free.new.places.items c.args.slot Free (Posted c.in-Staged.number c.in-Staged.entry.key c.entry_lines-lines.result) c.swap_place.ensures.now c.swap_place-free.ensures.now in
    subst (λ (u : View). Holds p m u (record w { places = c.swap_place-free.new.places })) (sym c.post.ensures.view)
    (holds_any p m v w c.requires.holds c.args.slot c.in-Staged.number c.in-Staged.entry c.bytes.result.now c.requires.slot with c.requires.runs c.swap_place-free.new.places c.entry_lines-lines.result both c.entry_lines-lines.ensures.lines c.entry_lines-lines.ensures.high c.requires.nothing.0 c.requires.nothing.1)

pub returns-clause-stands : goal.returns-clause-stands
returns-clause-stands g c s S =
    let p = (g.B.Board.seat c.args.board.now).place in
    let m = (g.B.Board.seat c.args.board.now).number in
    let v = g.B.Board.view c.args.board.now in
    let w = c.args.self.now in
    let with = sym c.in-Staged.ensures.was ∙ ap (λ (xs : List ℕ). Staged c.in-Staged.number c.in-Staged.entry xs) (sym c.bytes.ensures) in
    subst (λ (u : View). Stands s p m u (record w { places = c.swap_place-free.new.places })) (sym c.post.ensures.view)
    (stands_places s p m (after_post c.args.slot c.in-Staged.entry c.bytes.result.now v) w c.swap_place-free.new.places (subst (WouldStand s p m v w c.args.slot) with S))

pub returns-clause-posts : goal.returns-clause-posts
returns-clause-posts g c =
    let w = c.args.self.now in
    let both = twice w.places.items c.swap_place.new.places.items c.swap_place-free.new.places.items c.args.slot Free (Posted c.in-Staged.number c.in-Staged.entry.key c.entry_lines-lines.result) c.swap_place.ensures.now c.swap_place-free.ensures.now in
    record {
      number = c.in-Staged.number;
      entry = c.in-Staged.entry;
      value = c.bytes.result.now;
      was = sym c.in-Staged.ensures.was ∙ ap (λ (xs : List ℕ). Staged c.in-Staged.number c.in-Staged.entry xs) (sym c.bytes.ensures);
      places = subst (λ (n : ℕ). Replaces w.places.items c.swap_place-free.new.places.items c.args.slot (Posted c.in-Staged.number c.in-Staged.entry.key n)) c.entry_lines-lines.ensures.lines both;
      rest = refl;
      view = c.post.ensures.view;
      whole = c.post.ensures.whole;
    }

pub returns-clause-rule : goal.returns-clause-rule
returns-clause-rule g c =
    let n = (g.B.Board.seat c.args.board.now).number in
    let P : PostsPlain n (g.B.Board.whole c.args.board.now) (g.B.Board.whole c.post.new.self) (g.B.Board.view c.args.board.now) (g.B.Board.view c.post.new.self) c.args.self.now (record c.args.self.now { places = c.swap_place-free.new.places }) c.args.slot = returns-clause-posts g c in
    room_posted n _ _ _ _ c.args.self.now (record c.args.self.now { places = c.swap_place-free.new.places }) c.args.slot c.requires.holds.eight c.requires.slot P
