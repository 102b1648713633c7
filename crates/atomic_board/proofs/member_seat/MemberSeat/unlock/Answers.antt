use Rattle.std.proofs.Common.{sym, ap, subst, arith}
use Rattle.group_board.specs.Conditions.{MayUnlock}
use Rattle.atomic_board.specs.Deeds.{place_of}
use Rattle.atomic_board.specs.StepTells.{view_in, origin_in}
use Rattle.atomic_board.proofs.OwedLeading.{unlock_owes}
use Rattle.atomic_board.proofs.member_seat.MemberSeat.unlock.Goals as goal
use Rattle.atomic_board.specs.declared.seat_data.Deed.TheVariants as deeds
use Rattle.group_laws.specs.Runs as runs
use Rattle.atomic_board.proofs.Trails as trails

pub store-requires : goal.store-requires
store-requires c = let me = c.args.self.now in
    (c.requires.table, (let w = ap (λ z. z.words) (sym c.requires.table) in let v = me.wide in omega (arith, w, v)), unlock_owes _ _ _ _ me.own.0 (subst (λ j. MayUnlock (place_of (origin_in me.seat.me.0)) j (view_in me.seat.me.0)) (sym me.own.1) c.requires.may))

pub returns-clause-made : goal.returns-clause-made
returns-clause-made c = let me = c.args.self.now in trails.trail_did deeds.Unlock me.seat.me.0 c.store.new.seat.me.0 me.own.0 (ap (λ x. x.0) c.store.ensures.2)
