use Rattle.std.proofs.Common.{◌+◌, ◌%◌, ◌^◌, sym, ap, refl, ◌∙◌, subst, arith}
use Rattle.group_board.specs.Views.{after_retire, TidiedIn}
use Rattle.group_board.specs.Conditions.{MayRetire}
use Rattle.atomic_board.specs.TableWords.{own_word}
use Rattle.atomic_board.specs.Deeds.{place_of}
use Rattle.atomic_board.specs.StepTells.{view_in, origin_in}
use Rattle.atomic_board.proofs.OwedGiving.{retire_owes}
use Rattle.atomic_board.proofs.SeatMoves.{after_retiring}
use Rattle.atomic_board.proofs.member_seat.MemberSeat.retire.Goals as goal
use Rattle.atomic_board.specs.declared.seat_data.Deed.TheVariants as deeds
use Rattle.group_laws.specs.Runs as runs
use Rattle.atomic_board.proofs.Trails as trails

pub retires-requires : goal.retires-requires
retires-requires g c = let me = c.args.self.now in
    (c.requires.table, (let w = ap (λ z. z.words) (sym c.requires.table) in let v = me.wide in let l = me.few in omega (arith, w, v, l.0)), retire_owes _ _ _ _ me.own.0 _ c.args.names.now (g.R.Region.state c.args.region.now).stamp (λ y. (y + 1) % 2 ^ 64) (λ y. refl) (ap own_word (sym me.own.1)) (subst (λ j. MayRetire (place_of (origin_in me.seat.me.0)) j (view_in me.seat.me.0) c.args.names.now) (sym me.own.1) c.requires.may))

pub invariant_of-self : goal.invariant_of-self
invariant_of-self g c = let me = c.args.self.now in let told = c.retires.ensures.2 in
    let t = after_retiring c.args.names.now (g.R.Region.state c.args.region.now).stamp me.seat.me c.retires.new.seat.me me.member me.members me.held.items me.own me.order me.holds told.0 in
    record { few = me.few; wide = ap (λ z. z.words) c.retires.ensures.0 ∙ me.wide; own = t.own; order = t.order; room = me.room; holds = t.holds }

pub returns-clause-same : goal.returns-clause-same
returns-clause-same g c = let me = c.args.self.now in let told = c.retires.ensures.2 in
    let t = after_retiring c.args.names.now (g.R.Region.state c.args.region.now).stamp me.seat.me c.retires.new.seat.me me.member me.members me.held.items me.own me.order me.holds told.0 in
    (c.retires.ensures.0, refl, refl, t.base)

pub returns-clause-view : goal.returns-clause-view
returns-clause-view g c = let me = c.args.self.now in let told = c.retires.ensures.2 in
    subst (λ j. TidiedIn (place_of (origin_in me.seat.me.0)) j (after_retire (place_of (origin_in me.seat.me.0)) j c.args.names.now (view_in me.seat.me.0)) (view_in c.retires.new.seat.me.0)) me.own.1 told.1

pub returns-clause-made : goal.returns-clause-made
returns-clause-made g c = let me = c.args.self.now in trails.trail_did (deeds.Retire c.args.names.now (g.R.Region.state c.args.region.now).stamp) me.seat.me.0 c.retires.new.seat.me.0 me.own.0 (ap (λ x. x.0) c.retires.ensures.2.0)

pub returns-clause-at : goal.returns-clause-at
returns-clause-at g c = let me = c.args.self.now in trails.committed_did (g.R.Region.state c.args.region.now).stamp (deeds.Retire c.args.names.now (g.R.Region.state c.args.region.now).stamp) (λ n. refl) me.seat.me.0 c.retires.new.seat.me.0 me.own.0 (ap (λ x. x.0) c.retires.ensures.2.0)
