-- With a block or without, the change is posted.
use Rattle.std.proofs.Common.{ℕ, inl, refl, sym, subst}
use Rattle.core_worker.specs.declared.types.Place.{Place as WorkerPlace}
use Rattle.core_worker.specs.declared.types.Place.TheVariants as places
use Rattle.core_worker.specs.Posting.{HasNoBlock, IsStagedWith, PointsNowhere}
use Rattle.pm_region.proofs.Clients.{started, all_kept}
use Rattle.licence.specs.Licence.{Licensed, part_at, part_end}
use Rattle.engine_laws.proofs.Clients.{at_least_same}
use Rattle.core_worker.specs.OwnPlaces.{place_at}
use Rattle.core_worker.specs.WorkerMoves.{stock_of}
use Rattle.core_worker.proofs.AnyPosts.{would_stand}
use Rattle.core_worker.proofs.PostMoves.{facts_of, posted_least, posted_order, here_moves}
use Rattle.core_worker.proofs.TurnLaws.{keeps_posts}
use Rattle.batch_leader.proofs.Clients.{turn_handed}
use Rattle.core_worker.proofs.worker.Worker.post.Goals as goal

-- a staged change has a block or none
no_block : (x : WorkerPlace) (q : ℕ) → HasNoBlock x → IsStagedWith x q → ⊥
no_block places.Free q bare with = bare
no_block (places.Staged number entry value) q bare with = subst PointsNowhere with bare
no_block (places.Posted number key lines) q bare with = bare

pub returns-in-Some-clause-keeps : goal.returns-in-Some-clause-keeps
returns-in-Some-clause-keeps g c =
    let e = c.post_block.ensures in
    keeps_posts (g.B.Board.seat c.args.board.now) (g.R.Region.state c.args.region.now) (g.R.Region.state c.post_block.new.region) (g.B.Board.whole c.args.board.now) (g.B.Board.whole c.post_block.new.board) (g.B.Board.view c.args.board.now) (g.B.Board.view c.post_block.new.board) c.args.self.now c.post_block.new.self c.args.slot
    e.moments e.outside e.holds e.stands e.order c.requires.may.tied.order e.rule e.posts e.moves

pub returns-in-None-clause-keeps : goal.returns-in-None-clause-keeps
returns-in-None-clause-keeps g c =
    let e = c.post_staged.ensures in
    let seat = g.B.Board.seat c.args.board.now in
    let p = seat.place in
    let m = seat.number in
    let s = g.R.Region.state c.args.region.now in
    let a = g.B.Board.whole c.args.board.now in
    let b = g.B.Board.whole c.post_staged.new.board in
    let v = g.B.Board.view c.args.board.now in
    let u = g.B.Board.view c.post_staged.new.board in
    let w = c.args.self.now in
    let x = c.post_staged.new.self in
    let slot = c.args.slot in
    let bare = subst HasNoBlock c.place_in.ensures c.in-None.ensures in
    let stands = e.stands s (would_stand s p m v w c.requires.may.tied.holds slot c.requires.slot c.requires.runs (place_at w.places.items slot) refl bare c.requires.may.tied.stands) in
    let F = facts_of m a b v u w w x slot refl e.posts in
    keeps_posts seat s s a b v u w x slot
    (started s (Licensed p m v) c.requires.may.tied.stands.licensed) (all_kept s (part_at p m) (part_end p m))
    e.holds stands (posted_order p m a b v u w x slot c.requires.slot c.requires.may.tied.holds e.holds c.requires.runs F) c.requires.may.tied.order e.rule (inl (w, refl, e.posts))
    (here_moves p m a b v u w x slot c.requires.slot c.requires.may.tied.holds e.holds c.requires.runs F (posted_least m a b v u w w x slot e.posts (at_least_same (stock_of w))) s c.requires.may.tied.stands stands)

pub returns-in-None-clause-posts : goal.returns-in-None-clause-posts
returns-in-None-clause-posts g c = inl (c.args.self.now, refl, c.post_staged.ensures.posts)

pub returns-in-Some-clause-plain : goal.returns-in-Some-clause-plain
returns-in-Some-clause-plain g c bare = absurd (no_block c.place_in.result.now c.in-Some.pointer (subst HasNoBlock (sym c.place_in.ensures) bare) c.in-Some.ensures)

pub returns-in-None-clause-steps : goal.returns-in-None-clause-steps
returns-in-None-clause-steps g c = let s = g.R.Region.state c.args.region.now in turn_handed s s _ _ _ _ _ _ c.post_staged.ensures.step
