use Rattle.std.proofs.Common.{◌≡◌, ◌++◌, ◌<◌, true, sym, ap, ◌∙◌, subst, drop, take}
use Rattle.atomic_board.specs.SlotsOut.{has, numbers, distinct, all_empty}
use Rattle.atomic_board.proofs.SlotsHeld.{place_of, place_falls, numbers_turned, has_turned, distinct_turned, empty_turned}
use Rattle.atomic_board.proofs.slot_order.bring.Goals as goal

pub loop-held-smaller : goal.loop-held-smaller
loop-held-smaller c = let index = c.index.ensures in let test = c.loop-held-test.true in let kept = c.loop-held.invariant in let old = c.loop-held.held.items in let turned = c.rotate_left.ensures.items in
    let there : has c.args.slot old ≡ true = kept.6 c.args.slot ∙ c.requires.1 in
    subst (λ l. place_of c.args.slot l < place_of c.args.slot old) (sym turned) (place_falls c.args.slot old c.index.result.now there index test)

pub loop-held-preserved : goal.loop-held-preserved
loop-held-preserved c = let kept = c.loop-held.invariant in let old = c.loop-held.held.items in let turn = c.turn.ensures in let items = c.rotate_left.ensures.items in (
  turn.0 ∙ kept.0,
  turn.1 ∙ kept.1,
  ap (λ x. x.0) turn.2 ∙ kept.2,
  ap (λ x. numbers x.1) turn.2 ∙ (numbers_turned c.loop-held.seat.me.1 ∙ (ap (λ l. drop 1 l ++ take 1 l) kept.3 ∙ sym items)),
  ap (λ x. all_empty x.1) turn.2 ∙ (empty_turned c.loop-held.seat.me.1 ∙ kept.4),
  c.rotate_left.ensures.capacity ∙ kept.5,
  (λ k. ap (has k) items ∙ (has_turned k old ∙ kept.6 k)),
  ap distinct items ∙ (distinct_turned old ∙ kept.7),
)
