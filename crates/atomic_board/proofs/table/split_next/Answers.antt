use Rattle.std.proofs.Common.{◌≡◌, ℕ, ◌+◌, ◌<◌, length, [], true, false, sym, ap, ◌∙◌, subst, arith, None}
use Rattle.atomic_table.specs.Table.{Splits}
use Rattle.group_board.specs.Conditions.{IsFree}
use Rattle.atomic_board.specs.declared.seat_data.SeatData.{SeatData}
use Rattle.atomic_board.specs.declared.seat_data.SeatData.TheVariants.{Own}
use Rattle.atomic_board.specs.TableWords.{pool_place}
use Rattle.atomic_board.specs.Deeds.{place_of, size, view_by}
use Rattle.atomic_board.specs.ShownState.{ShowsLawful}
use Rattle.atomic_board.specs.SlotsOut.{distinct, numbers, all_empty, Holds}
use Rattle.atomic_board.specs.StepTells.{SeatState, left, right, row_out, settled_in, is_own, is_settled, is_handless, number_in, origin_in, view_in}
use Rattle.atomic_board.proofs.RuleOpened.{split_owes, fresh_free}
use Rattle.atomic_board.proofs.OwedLeading.{settle_owes}
use Rattle.atomic_board.proofs.NewSeats.{row_distinct, row_empty, row_length, fresh_holds}
use Rattle.atomic_board.proofs.table.split_next.Goals as goal

pub split_seat-seat-requires : goal.split_seat-seat-requires
split_seat-seat-requires c = let t = c.requires.table in let is = ap (λ (x : SeatState). x.0) c.requires.spare in let b = c.args.shared.now.key.me.0 in
    (t.0, (let w = t.1 in omega arith), subst (λ (d : SeatData). Splits (ShowsLawful b) c.args.spare.now.id d (left d) (right d)) (sym is) (split_owes b c.args.spare.now.id c.args.member [] (subst (λ (k : ℕ). c.args.member < k) (sym t.2) c.requires.member.0)))

pub load-requires : goal.load-requires
load-requires c = let b = c.args.shared.now.key.me.0 in let t = c.requires.table in let split = c.split_seat-seat.ensures in
    let is : c.split_seat-seat.result.me ≡ (Own c.args.member (record { settled = false; hand = None }) b [], []) = split.4 ∙ ap (λ (x : SeatState). (right x.0, [])) c.requires.spare in (
      split.3 ∙ t.0,
      (let w = t.1 in let n = c.requires.member in omega (arith, w, n.0)),
      settle_owes b _ _ c.split_seat-seat.result.me (ap (λ (x : SeatState). is_own x.0) is) (1 + c.args.member) (ap (λ (x : SeatState). is_settled x.0) is)
          (λ k l. subst (λ (x : SeatState). IsFree (view_in x.0) k) (sym is) (fresh_free b c.args.member k)),
    )

pub push_front_reserved-requires : goal.push_front_reserved-requires
push_front_reserved-requires c = let kept = c.loop-slot.invariant in let long = ap length kept.0 ∙ row_length (pool_place c.args.member 0) c.loop-slot.slot in let room = kept.1 in let low = c.loop-slot-test.true in omega (arith, long, room, low)

pub invariant_of-result : goal.invariant_of-result
invariant_of-result c = let b = c.args.shared.now.key.me.0 in let t = c.requires.table in let split = c.split_seat-seat.ensures in
    let is : c.split_seat-seat.result.me ≡ (Own c.args.member (record { settled = false; hand = None }) b [], []) = split.4 ∙ ap (λ (x : SeatState). (right x.0, [])) c.requires.spare in
    let kept = c.loop-slot.invariant in let last : c.loop-slot.slot ≡ 8 = (let x = c.loop-slot.auto.slot-end in let y = c.loop-slot-test.false in omega (arith, x, y)) in
    let now : c.load.new.seat.me ≡ (Own c.args.member (record { settled = true; hand = None }) b [], row_out (pool_place c.args.member 0) 8 []) = c.load.ensures.2 ∙ ap (λ (x : SeatState). (settled_in x.0, row_out (pool_place (number_in x.0) 0) 8 x.1)) is in
    let items : c.loop-slot.held.items ≡ numbers (row_out (pool_place c.args.member 0) 8 []) = kept.0 ∙ ap (λ k. numbers (row_out (pool_place c.args.member 0) k [])) last in record {
      few = c.requires.member;
      wide = ap (λ z. z.words) (c.load.ensures.0 ∙ (split.3 ∙ t.0)) ∙ t.1;
      own = (ap (λ (x : SeatState). is_own x.0) now, ap (λ (x : SeatState). number_in x.0) now, ap (λ (x : SeatState). size (origin_in x.0)) now ∙ t.2, ap (λ (x : SeatState). is_settled x.0) now, ap (λ (x : SeatState). is_handless x.0) now);
      order = (ap (λ (x : SeatState). numbers x.1) now ∙ sym items, ap (λ (x : SeatState). all_empty x.1) now ∙ row_empty (pool_place c.args.member 0) 8);
      room = (ap distinct items ∙ row_distinct (pool_place c.args.member 0) 8, kept.1);
      holds = subst (λ (x : SeatState). Holds (place_of (origin_in x.0)) c.args.member c.args.members (view_in x.0).pending (view_in x.0).taken c.loop-slot.held.items) (sym now)
          (subst (λ l. Holds (place_of b) c.args.member c.args.members (view_by b c.args.member []).pending (view_by b c.args.member []).taken l) (sym items)
          (subst (λ k. Holds (place_of b) c.args.member k (view_by b c.args.member []).pending (view_by b c.args.member []).taken (numbers (row_out (pool_place c.args.member 0) 8 []))) t.2
          (fresh_holds b c.args.member (subst (λ (k : ℕ). c.args.member < k) (sym t.2) c.requires.member.0))));
    }
