use Rattle.std.proofs.Common.{◌+◌, ◌%◌, ◌^◌, sym, ap, refl, ◌∙◌, subst, arith}
use Rattle.group_board.specs.Views.{after_doom}
use Rattle.group_board.specs.Conditions.{MayDoom}
use Rattle.atomic_board.specs.declared.seat_data.Deed.TheVariants.{Doom}
use Rattle.atomic_board.specs.TableWords.{own_word}
use Rattle.atomic_board.specs.Deeds.{place_of}
use Rattle.atomic_board.specs.StepTells.{view_in, origin_in}
use Rattle.atomic_board.proofs.OwedGiving.{doom_owes}
use Rattle.atomic_board.proofs.SeatMoves.{calm}
use Rattle.atomic_board.proofs.member_seat.MemberSeat.doom.Goals as goal
use Rattle.atomic_board.specs.declared.seat_data.Deed.TheVariants as deeds
use Rattle.group_laws.specs.Runs as runs
use Rattle.atomic_board.proofs.Trails as trails

pub dooms-requires : goal.dooms-requires
dooms-requires g c = let me = c.args.self.now in
    (c.requires.table, (let w = ap (λ z. z.words) (sym c.requires.table) in let v = me.wide in let l = me.few in omega (arith, w, v, l.0)), doom_owes _ _ _ _ me.own.0 _ c.args.names.now (g.R.Region.state c.args.region.now).stamp (λ y. (y + 1) % 2 ^ 64) (λ y. refl) (ap own_word (sym me.own.1)) (subst (λ j. MayDoom (place_of (origin_in me.seat.me.0)) j (view_in me.seat.me.0) c.args.names.now) (sym me.own.1) c.requires.may))

pub invariant_of-self : goal.invariant_of-self
invariant_of-self g c = let me = c.args.self.now in let told = c.dooms.ensures.2 in
    let t = calm (Doom c.args.names.now (g.R.Region.state c.args.region.now).stamp) (after_doom c.args.names.now) (λ ns p m v. refl) (λ v. refl) (λ v. refl) me.seat.me c.dooms.new.seat.me me.member me.members me.held.items me.own me.order me.holds told in
    record { few = me.few; wide = ap (λ z. z.words) c.dooms.ensures.0 ∙ me.wide; own = t.own; order = t.order; room = me.room; holds = t.holds }

pub returns-clause-same : goal.returns-clause-same
returns-clause-same g c = let me = c.args.self.now in let told = c.dooms.ensures.2 in
    let t = calm (Doom c.args.names.now (g.R.Region.state c.args.region.now).stamp) (after_doom c.args.names.now) (λ ns p m v. refl) (λ v. refl) (λ v. refl) me.seat.me c.dooms.new.seat.me me.member me.members me.held.items me.own me.order me.holds told in
    (c.dooms.ensures.0, refl, refl, t.base)

pub returns-clause-view : goal.returns-clause-view
returns-clause-view g c = let me = c.args.self.now in let told = c.dooms.ensures.2 in
    let t = calm (Doom c.args.names.now (g.R.Region.state c.args.region.now).stamp) (after_doom c.args.names.now) (λ ns p m v. refl) (λ v. refl) (λ v. refl) me.seat.me c.dooms.new.seat.me me.member me.members me.held.items me.own me.order me.holds told in
    t.view

pub returns-clause-made : goal.returns-clause-made
returns-clause-made g c = let me = c.args.self.now in trails.trail_did (deeds.Doom c.args.names.now (g.R.Region.state c.args.region.now).stamp) me.seat.me.0 c.dooms.new.seat.me.0 me.own.0 (ap (λ x. x.0) c.dooms.ensures.2)

pub returns-clause-at : goal.returns-clause-at
returns-clause-at g c = let me = c.args.self.now in trails.committed_did (g.R.Region.state c.args.region.now).stamp (deeds.Doom c.args.names.now (g.R.Region.state c.args.region.now).stamp) (λ n. refl) me.seat.me.0 c.dooms.new.seat.me.0 me.own.0 (ap (λ x. x.0) c.dooms.ensures.2)
