use Rattle.std.proofs.Common.{ℕ, ◌+◌, ◌*◌, ◌<◌, sym, ap, ◌∙◌, subst, arith}
use Rattle.atomic_board.specs.Deeds.{place_of}
use Rattle.atomic_board.specs.SlotsOut.{empties, IsNamedBy}
use Rattle.atomic_board.specs.StepTells.{SeatState, is_own, is_settled, is_handless, origin_in, view_in}
use Rattle.atomic_board.proofs.SlotsHeld.{are_empties}
use Rattle.atomic_board.proofs.OwedLeading.{return_owes}
use Rattle.atomic_board.proofs.TableEnd.{joins_any}
use Rattle.atomic_board.proofs.table.join_one.Goals as goal

pub gives_back-requires : goal.gives_back-requires
gives_back-requires c = let t = c.args.own in let z = c.requires.table in (
  z.1,
  (let w = ap (λ x. x.words) (sym z.1) in let v = t.wide in let n = t.few in omega (arith, w, v, n.0)),
  return_owes _ _ _ t.seat.me t.own.0 (1 + t.member) t.held.items (are_empties t.seat.me.1 t.order.1 ∙ ap empties t.order.0) t.own.3
      (λ a u low less out. t.holds.others a u (subst (λ (n : ℕ). a < n) t.own.2 low) less (λ same. subst (λ j. IsNamedBy (place_of (origin_in t.seat.me.0)) j (view_in t.seat.me.0).pending u) t.own.1 (out.0 (same ∙ sym t.own.1))) out.1)
      (λ j h. subst (λ (n : ℕ). j < 8 * n) (sym t.own.2) (t.holds.below j h)),
)

pub join_seat-requires : goal.join_seat-requires
join_seat-requires c = let t = c.args.own in let z = c.requires.table in let told = c.gives_back.ensures.1 in let same = ap (λ (x : SeatState). x.0) told in (
  z.0,
  c.gives_back.ensures.0 ∙ z.1,
  ap (λ (x : SeatState). x.1) told,
  (let w = ap (λ x. x.words) (sym z.1) in let v = t.wide in omega (arith, w, v)),
  joins_any _ _ _ c.args.spare.now.me.0 c.requires.spare.1 c.gives_back.new.seat.me.0 (ap (λ d. is_own d) same ∙ t.own.0) (ap (λ d. is_settled d) same ∙ t.own.3) (ap (λ d. is_handless d) same ∙ t.own.4),
)
