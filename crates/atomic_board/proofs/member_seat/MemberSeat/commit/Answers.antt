use Rattle.std.proofs.Common.{◌+◌, ◌%◌, ◌^◌, sym, ap, refl, ◌∙◌, subst, arith}
use Rattle.group_board.specs.Views.{after_commit}
use Rattle.group_board.specs.Conditions.{MayCommit}
use Rattle.atomic_board.specs.declared.seat_data.Deed.TheVariants.{Commit}
use Rattle.atomic_board.specs.TableWords.{own_word}
use Rattle.atomic_board.specs.Deeds.{place_of}
use Rattle.atomic_board.specs.StepTells.{view_in, origin_in}
use Rattle.atomic_board.proofs.OwedLeading.{commit_owes}
use Rattle.atomic_board.proofs.SeatMoves.{calm}
use Rattle.atomic_board.proofs.Trails.{trail_did, committed_did}
use Rattle.atomic_board.proofs.member_seat.MemberSeat.commit.Goals as goal

pub commits-requires : goal.commits-requires
commits-requires g c = let me = c.args.self.now in
    (c.requires.table, (let w = ap (λ z. z.words) (sym c.requires.table) in let v = me.wide in let l = me.few in omega (arith, w, v, l.0)), commit_owes _ _ _ _ me.own.0 _ (g.R.Region.state c.args.region.now).stamp (λ y. (y + 1) % 2 ^ 64) (λ y. refl) (ap own_word (sym me.own.1)) (subst (λ j. MayCommit (place_of (origin_in me.seat.me.0)) j (view_in me.seat.me.0)) (sym me.own.1) c.requires.may))

pub invariant_of-self : goal.invariant_of-self
invariant_of-self g c = let me = c.args.self.now in
    let t = calm (Commit (g.R.Region.state c.args.region.now).stamp) after_commit (λ ns p m v. refl) (λ v. refl) (λ v. refl) me.seat.me c.commits.new.seat.me me.member me.members me.held.items me.own me.order me.holds c.commits.ensures.2 in
    record { few = me.few; wide = ap (λ z. z.words) c.commits.ensures.0 ∙ me.wide; own = t.own; order = t.order; room = me.room; holds = t.holds }

pub returns-clause-same : goal.returns-clause-same
returns-clause-same g c = let me = c.args.self.now in
    let t = calm (Commit (g.R.Region.state c.args.region.now).stamp) after_commit (λ ns p m v. refl) (λ v. refl) (λ v. refl) me.seat.me c.commits.new.seat.me me.member me.members me.held.items me.own me.order me.holds c.commits.ensures.2 in
    (c.commits.ensures.0, refl, refl, t.base)

pub returns-clause-view : goal.returns-clause-view
returns-clause-view g c = let me = c.args.self.now in
    let t = calm (Commit (g.R.Region.state c.args.region.now).stamp) after_commit (λ ns p m v. refl) (λ v. refl) (λ v. refl) me.seat.me c.commits.new.seat.me me.member me.members me.held.items me.own me.order me.holds c.commits.ensures.2 in
    t.view

pub returns-clause-made : goal.returns-clause-made
returns-clause-made g c = let me = c.args.self.now in trail_did (Commit (g.R.Region.state c.args.region.now).stamp) me.seat.me.0 c.commits.new.seat.me.0 me.own.0 (ap (λ x. x.0) c.commits.ensures.2)

pub returns-clause-at : goal.returns-clause-at
returns-clause-at g c = let me = c.args.self.now in committed_did (g.R.Region.state c.args.region.now).stamp (Commit (g.R.Region.state c.args.region.now).stamp) (λ n. refl) me.seat.me.0 c.commits.new.seat.me.0 me.own.0 (ap (λ x. x.0) c.commits.ensures.2)
