use Rattle.std.proofs.Common.{◌≡◌, ◌≤◌, [], sym, subst, arith}
use Rattle.std.specs.VecDeque.{deque_capacity}
use Rattle.atomic_board.specs.Tokens.{AreEmptyHands}
use Rattle.atomic_board.proofs.EachElement.{each_snoc}
use Rattle.atomic_board.proofs.table.empty_hands.Goals as goal

pub loop-preserved : goal.loop-preserved
loop-preserved c = let kept = c.loop.invariant in let items = c.push_reserved.ensures.items in let len = c.push_reserved.ensures.len in let cap = c.push_reserved.ensures.capacity in let one = c.in_ok-with_capacity.ensures in (
  (let a = kept.0 in omega (arith, a, len)),
  (let a = kept.1 in omega (arith, a, cap)),
  subst AreEmptyHands (sym items) (each_snoc (λ k h. (h.items ≡ []) × (64 ≤ deque_capacity h)) c.loop.hands.items c.in_ok-with_capacity.field-0 kept.2 (one.items, one.capacity)),
)
