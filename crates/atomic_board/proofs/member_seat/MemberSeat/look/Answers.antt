use Rattle.std.proofs.Common.{ℕ, ◌*◌, ◌<◌, sym, ap, refl, ◌∙◌, subst, arith}
use Rattle.group_laws.specs.declared.types.Seen.TheVariants as loads
use Rattle.group_board.specs.Conditions.{MayLook}
use Rattle.atomic_board.specs.TableWords.{pool_word}
use Rattle.atomic_board.specs.Deeds.{place_of}
use Rattle.atomic_board.specs.StepTells.{origin_in}
use Rattle.atomic_board.proofs.OwedLeading.{look_owes}
use Rattle.atomic_board.proofs.SeatMoves.{calm_found}
use Rattle.atomic_board.proofs.member_seat.MemberSeat.look.Goals as goal
use Rattle.atomic_board.specs.declared.seat_data.Deed.TheVariants as deeds
use Rattle.group_laws.specs.Runs as runs
use Rattle.atomic_board.proofs.Trails as trails

pub load-found-requires : goal.load-found-requires
load-found-requires c = let me = c.args.self.now in let at = c.pool_word_of-pool_word.ensures in (
  c.requires.table,
  (let w = ap (λ z. z.words) (sym c.requires.table) in let v = me.wide in let l = subst (λ n. c.args.member < n) me.own.2 c.requires.may.target in let s = c.requires.may.slot in let z : ℕ = me.members * me.members in omega (arith, w, v, at, l, s)),
  look_owes _ _ _ _ me.own.0 _ c.args.member c.args.slot (at ∙ ap (λ n. pool_word n c.args.member c.args.slot) (sym me.own.2)) (subst (λ j. MayLook (place_of (origin_in me.seat.me.0)) j c.args.member c.args.slot) (sym me.own.1) c.requires.may),
)

pub invariant_of-self : goal.invariant_of-self
invariant_of-self c = let me = c.args.self.now in let at = c.pool_word_of-pool_word.ensures in
    let told = c.load-found.ensures.2 c.args.member c.args.slot c.requires.may.slot (at ∙ ap (λ n. pool_word n c.args.member c.args.slot) (sym me.own.2)) in
    let t = calm_found me.seat.me c.load-found.new.seat.me me.member me.members me.held.items me.own me.order me.holds (loads.Slot c.args.member c.args.slot told.0) told.3 in
    record { few = me.few; wide = ap (λ z. z.words) c.load-found.ensures.0 ∙ me.wide; own = t.own; order = t.order; room = me.room; holds = t.holds }

pub returns-clause-same : goal.returns-clause-same
returns-clause-same c = let me = c.args.self.now in let at = c.pool_word_of-pool_word.ensures in
    let told = c.load-found.ensures.2 c.args.member c.args.slot c.requires.may.slot (at ∙ ap (λ n. pool_word n c.args.member c.args.slot) (sym me.own.2)) in
    let t = calm_found me.seat.me c.load-found.new.seat.me me.member me.members me.held.items me.own me.order me.holds (loads.Slot c.args.member c.args.slot told.0) told.3 in
    (c.load-found.ensures.0, refl, refl, t.base)

pub returns-clause-view : goal.returns-clause-view
returns-clause-view c = let me = c.args.self.now in let at = c.pool_word_of-pool_word.ensures in
    let told = c.load-found.ensures.2 c.args.member c.args.slot c.requires.may.slot (at ∙ ap (λ n. pool_word n c.args.member c.args.slot) (sym me.own.2)) in
    let t = calm_found me.seat.me c.load-found.new.seat.me me.member me.members me.held.items me.own me.order me.holds (loads.Slot c.args.member c.args.slot told.0) told.3 in
    (told.0, c.state_at.ensures told.0 told.1 told.2, t.view)

pub returns-clause-made : goal.returns-clause-made
returns-clause-made c = let me = c.args.self.now in let at = c.pool_word_of-pool_word.ensures in
    let told = c.load-found.ensures.2 c.args.member c.args.slot c.requires.may.slot (at ∙ ap (λ n. pool_word n c.args.member c.args.slot) (sym me.own.2)) in
    let t = calm_found me.seat.me c.load-found.new.seat.me me.member me.members me.held.items me.own me.order me.holds (loads.Slot c.args.member c.args.slot told.0) told.3 in
    trails.trail_did (deeds.Found (loads.Slot c.args.member c.args.slot told.0)) me.seat.me.0 c.load-found.new.seat.me.0 me.own.0 (ap (λ x. x.0) told.3)
