use Rattle.std.proofs.Common.{ℕ, ◌+◌, ◌-◌, sym, ap, refl, ◌∙◌, subst, arith}
use Rattle.group_laws.specs.declared.types.Seen.TheVariants as loads
use Rattle.group_board.specs.Conditions.{MayLock}
use Rattle.atomic_board.specs.Deeds.{place_of}
use Rattle.atomic_board.specs.StepTells.{view_in, origin_in}
use Rattle.atomic_board.proofs.OwedLeading.{lock_owes}
use Rattle.atomic_board.proofs.SeatMoves.{after_try, calm_found}
use Rattle.atomic_board.proofs.member_seat.MemberSeat.try_lock.Goals as goal
use Rattle.atomic_board.specs.declared.seat_data.Deed.TheVariants as deeds
use Rattle.group_laws.specs.Runs as runs
use Rattle.atomic_board.proofs.Trails as trails

pub compare_exchange-found-requires : goal.compare_exchange-found-requires
compare_exchange-found-requires c = let me = c.args.self.now in
    (c.requires.table, (let w = ap (λ z. z.words) (sym c.requires.table) in let v = me.wide in omega (arith, w, v)), lock_owes _ _ _ _ me.own.0 (me.member + 1) (ap (λ m. m + 1) (sym me.own.1)) (subst (λ j. MayLock (place_of (origin_in me.seat.me.0)) j (view_in me.seat.me.0)) (sym me.own.1) c.requires.may))

pub invariant_of-self : goal.invariant_of-self
invariant_of-self c = let me = c.args.self.now in let said = c.compare_exchange-found.ensures.2 in
    let t = after_try me.seat.me c.compare_exchange-found.new.seat.me me.member me.members me.held.items me.own me.order me.holds c.compare_exchange-found.result said.2 said.3 in
    record { few = me.few; wide = ap (λ z. z.words) c.compare_exchange-found.ensures.0 ∙ me.wide; own = t.own; order = t.order; room = me.room; holds = t.holds }

pub returns-else-found-eq-FREE_LOCK-clause-same : goal.returns-else-found-eq-FREE_LOCK-clause-same
returns-else-found-eq-FREE_LOCK-clause-same c = let me = c.args.self.now in let said = c.compare_exchange-found.ensures.2 in
    let t = after_try me.seat.me c.compare_exchange-found.new.seat.me me.member me.members me.held.items me.own me.order me.holds c.compare_exchange-found.result said.2 said.3 in
    (c.compare_exchange-found.ensures.0, refl, refl, t.base)

pub returns-else-found-eq-FREE_LOCK-clause-view : goal.returns-else-found-eq-FREE_LOCK-clause-view
returns-else-found-eq-FREE_LOCK-clause-view c = let me = c.args.self.now in let said = c.compare_exchange-found.ensures.2 in let x : ℕ = c.compare_exchange-found.result in
    let ne = c.if-found-eq-FREE_LOCK.false in
    (calm_found me.seat.me c.compare_exchange-found.new.seat.me me.member me.members me.held.items me.own me.order me.holds (loads.Holder (x - 1)) (said.3 (x - 1) (omega arith))).view

pub returns-then-found-eq-FREE_LOCK-clause-made : goal.returns-then-found-eq-FREE_LOCK-clause-made
returns-then-found-eq-FREE_LOCK-clause-made c = let me = c.args.self.now in let said = c.compare_exchange-found.ensures.2 in trails.trail_did deeds.Lock me.seat.me.0 c.compare_exchange-found.new.seat.me.0 me.own.0 (ap (λ x. x.0) (said.2 c.if-found-eq-FREE_LOCK.true))

pub returns-else-found-eq-FREE_LOCK-clause-made : goal.returns-else-found-eq-FREE_LOCK-clause-made
returns-else-found-eq-FREE_LOCK-clause-made c = let me = c.args.self.now in let said = c.compare_exchange-found.ensures.2 in let x : ℕ = c.compare_exchange-found.result in
    let ne = c.if-found-eq-FREE_LOCK.false in trails.trail_did (deeds.Found (loads.Holder (x - 1))) me.seat.me.0 c.compare_exchange-found.new.seat.me.0 me.own.0 (ap (λ x. x.0) (said.3 (x - 1) (omega arith)))
