use Rattle.std.proofs.Common.{◌≡◌, ℕ, ◌<◌, sym, ap, refl, ◌∙◌, subst, arith, true, ◌∷◌, drop, Some, None, ◌*◌}
use Rattle.atomic_table.specs.Table.{rest}
use Rattle.group_board.specs.Views.{after_fail}
use Rattle.group_board.specs.Conditions.{MayFail}
use Rattle.atomic_board.specs.declared.parcel.Parcel.TheVariants as parcels
use Rattle.atomic_board.specs.declared.seat_data.Deed.TheVariants.{Fail}
use Rattle.atomic_board.specs.TableWords.{pool_word, pool_place}
use Rattle.atomic_board.specs.Deeds.{place_of, size}
use Rattle.atomic_board.specs.SlotsOut.{has, numbers, all_empty, distinct, IsNamedBy, Holds}
use Rattle.atomic_board.specs.StepTells.{view_in, is_own, number_in, origin_in, did, IsNamed}
use Rattle.atomic_board.proofs.OwedGiving.{fail_owes}
use Rattle.group_board.specs.declared.change.Change.{Change}
use Rattle.atomic_board.proofs.SeatMoves.{after_giving}
use Rattle.atomic_board.proofs.SlotsHeld.{first_out, rest_out, rest_empty, distinct_rest, holds_turned}
use Rattle.atomic_board.proofs.member_seat.MemberSeat.fail.Goals as goal
use Rattle.atomic_board.specs.declared.seat_data.Deed.TheVariants as deeds
use Rattle.group_laws.specs.Runs as runs
use Rattle.atomic_board.proofs.Trails as trails

pub bring-requires : goal.bring-requires
bring-requires c = let me = c.args.self.now in let place = c.pool_place_of-place.ensures in (me.order.0, subst (λ k. has k me.held.items ≡ true) (sym place) (me.holds.hands c.args.member c.args.slot c.args.change.entry (subst (λ n. c.args.member < n) me.own.2 c.requires.may.target) c.requires.may.slot c.requires.may.taken))

pub exchange-requires : goal.exchange-requires
exchange-requires c = let me = c.args.self.now in let may = c.requires.may in let at = c.pool_word_of-pool_word.ensures in let place = c.pool_place_of-place.ensures in
    let first = c.bring.ensures.first in let front : c.bring.new.held.items ≡ pool_place c.args.member c.args.slot ∷ first.0 = first.1 ∙ ap (λ k. k ∷ first.0) place in
    let out = first_out c.bring.new.seat.me.1 c.pool_place_of-place.result first.0 (c.bring.ensures.numbers ∙ first.1) in
    (c.bring.ensures.seat.0 ∙ c.requires.table, out)

pub store-requires : goal.store-requires
store-requires c = let me = c.args.self.now in let may = c.requires.may in let at = c.pool_word_of-pool_word.ensures in let place = c.pool_place_of-place.ensures in
    let first = c.bring.ensures.first in let front : c.bring.new.held.items ≡ pool_place c.args.member c.args.slot ∷ first.0 = first.1 ∙ ap (λ k. k ∷ first.0) place in
    let out = first_out c.bring.new.seat.me.1 c.pool_place_of-place.result first.0 (c.bring.ensures.numbers ∙ first.1) in
    let exch = c.exchange.ensures in let mine = ap (λ x. x.0) exch.3 ∙ c.bring.ensures.seat.2 in let y : Change = (record { entry = c.args.change.entry; home = None }) in
    let list : c.exchange.new.seat.me.1 ≡ (pool_place c.args.member c.args.slot, Some (parcels.Change y)) ∷ rest c.bring.new.seat.me.1 = ap (λ x. x.1) exch.3 ∙ ap (λ k. (k, Some (parcels.Change y)) ∷ rest c.bring.new.seat.me.1) place in
    let number = ap (λ d. number_in d) mine ∙ me.own.1 in let base = ap (λ d. origin_in d) mine in
    let word : c.pool_word_of-pool_word.result ≡ pool_word (size (origin_in c.exchange.new.seat.me.0)) c.args.member c.args.slot = at ∙ ap (λ x. pool_word x c.args.member c.args.slot) (sym (ap size base ∙ me.own.2)) in (
      exch.0 ∙ (c.bring.ensures.seat.0 ∙ c.requires.table),
      (let w = ap (λ z. z.words) (sym c.requires.table) in let v = me.wide in let l = subst (λ n. c.args.member < n) me.own.2 may.target in let s = may.slot in let z : ℕ = me.members * me.members in omega (arith, w, v, at, l, s)),
      fail_owes _ _ _ _ (ap (λ d. is_own d) mine ∙ me.own.0) _ c.args.member c.args.slot y (rest c.bring.new.seat.me.1) word list refl
          (subst (λ d. MayFail (place_of (origin_in d)) (number_in d) (view_in d) c.args.member c.args.slot c.args.change.entry) (sym mine) (subst (λ j. MayFail (place_of (origin_in me.seat.me.0)) j (view_in me.seat.me.0) c.args.member c.args.slot c.args.change.entry) (sym me.own.1) may)),
    )

pub invariant_of-self : goal.invariant_of-self
invariant_of-self c = let me = c.args.self.now in let may = c.requires.may in let at = c.pool_word_of-pool_word.ensures in let place = c.pool_place_of-place.ensures in
    let first = c.bring.ensures.first in let front : c.bring.new.held.items ≡ pool_place c.args.member c.args.slot ∷ first.0 = first.1 ∙ ap (λ k. k ∷ first.0) place in
    let out = first_out c.bring.new.seat.me.1 c.pool_place_of-place.result first.0 (c.bring.ensures.numbers ∙ first.1) in
    let exch = c.exchange.ensures in let mine = ap (λ x. x.0) exch.3 ∙ c.bring.ensures.seat.2 in let y : Change = (record { entry = c.args.change.entry; home = None }) in
    let list : c.exchange.new.seat.me.1 ≡ (pool_place c.args.member c.args.slot, Some (parcels.Change y)) ∷ rest c.bring.new.seat.me.1 = ap (λ x. x.1) exch.3 ∙ ap (λ k. (k, Some (parcels.Change y)) ∷ rest c.bring.new.seat.me.1) place in
    let number = ap (λ d. number_in d) mine ∙ me.own.1 in let base = ap (λ d. origin_in d) mine in
    let word : c.pool_word_of-pool_word.result ≡ pool_word (size (origin_in c.exchange.new.seat.me.0)) c.args.member c.args.slot = at ∙ ap (λ x. pool_word x c.args.member c.args.slot) (sym (ap size base ∙ me.own.2)) in
    let told = c.store.ensures.2 c.args.member c.args.slot y may.slot word (list ∙ ap (λ l. (pool_place c.args.member c.args.slot, Some (parcels.Change y)) ∷ l) (sym (ap (λ l. rest l) list))) in
    let is = ap (λ x. x.0) told.0 ∙ ap (λ d. did (Fail c.args.member c.args.slot) d) mine in
    let named = λ (same : c.args.member ≡ me.member). subst (λ j. IsNamedBy (place_of (origin_in me.seat.me.0)) j (view_in me.seat.me.0).pending c.args.slot) me.own.1 (subst (λ d. IsNamed (place_of (origin_in d)) (number_in d) (view_in d) c.args.slot) mine (told.1 (same ∙ sym number))) in
    let d = subst (λ l. distinct l ≡ true) front (c.bring.ensures.distinct ∙ me.room.0) in
    let h = subst (Holds (place_of (origin_in me.seat.me.0)) me.member me.members (view_in me.seat.me.0).pending (view_in me.seat.me.0).taken) front (holds_turned (place_of (origin_in me.seat.me.0)) me.member me.members me.few.0 (view_in me.seat.me.0).pending (view_in me.seat.me.0).taken me.held.items me.holds c.bring.new.held.items c.bring.ensures.same) in
    let given = after_giving (Fail c.args.member c.args.slot) (after_fail c.args.member c.args.slot) (λ ns p m v. refl) me.seat.me.0 c.store.new.seat.me.0 me.member me.members c.args.member c.args.slot first.0 (λ v. refl) (λ v. refl) me.own d h may.slot named is in
    let items : c.pop_front.new.self.items ≡ first.0 = c.pop_front.ensures.rest ∙ ap (drop 1) first.1 in let left = ap (λ x. x.1) told.0 ∙ ap (λ l. rest l) list in record {
      few = me.few;
      wide = ap (λ z. z.words) (c.store.ensures.0 ∙ (exch.0 ∙ c.bring.ensures.seat.0)) ∙ me.wide;
      own = given.0.own;
      order = (ap (λ l. numbers l) left ∙ (rest_out c.bring.new.seat.me.1 c.pool_place_of-place.result first.0 (c.bring.ensures.numbers ∙ first.1) ∙ sym items), ap (λ l. all_empty l) left ∙ rest_empty c.bring.new.seat.me.1 (c.bring.ensures.empty ∙ me.order.1));
      room = (ap distinct items ∙ distinct_rest (pool_place c.args.member c.args.slot) first.0 d, let cap = c.pop_front.ensures.capacity in let cap2 = c.bring.ensures.room in let room = me.room.1 in omega (arith, cap, cap2, room));
      holds = subst (Holds (place_of (origin_in c.store.new.seat.me.0)) me.member me.members (view_in c.store.new.seat.me.0).pending (view_in c.store.new.seat.me.0).taken) (sym items) given.1;
    }

pub returns-clause-same : goal.returns-clause-same
returns-clause-same c = let me = c.args.self.now in let may = c.requires.may in let at = c.pool_word_of-pool_word.ensures in let place = c.pool_place_of-place.ensures in
    let first = c.bring.ensures.first in let front : c.bring.new.held.items ≡ pool_place c.args.member c.args.slot ∷ first.0 = first.1 ∙ ap (λ k. k ∷ first.0) place in
    let out = first_out c.bring.new.seat.me.1 c.pool_place_of-place.result first.0 (c.bring.ensures.numbers ∙ first.1) in
    let exch = c.exchange.ensures in let mine = ap (λ x. x.0) exch.3 ∙ c.bring.ensures.seat.2 in let y : Change = (record { entry = c.args.change.entry; home = None }) in
    let list : c.exchange.new.seat.me.1 ≡ (pool_place c.args.member c.args.slot, Some (parcels.Change y)) ∷ rest c.bring.new.seat.me.1 = ap (λ x. x.1) exch.3 ∙ ap (λ k. (k, Some (parcels.Change y)) ∷ rest c.bring.new.seat.me.1) place in
    let number = ap (λ d. number_in d) mine ∙ me.own.1 in let base = ap (λ d. origin_in d) mine in
    let word : c.pool_word_of-pool_word.result ≡ pool_word (size (origin_in c.exchange.new.seat.me.0)) c.args.member c.args.slot = at ∙ ap (λ x. pool_word x c.args.member c.args.slot) (sym (ap size base ∙ me.own.2)) in
    let told = c.store.ensures.2 c.args.member c.args.slot y may.slot word (list ∙ ap (λ l. (pool_place c.args.member c.args.slot, Some (parcels.Change y)) ∷ l) (sym (ap (λ l. rest l) list))) in
    let is = ap (λ x. x.0) told.0 ∙ ap (λ d. did (Fail c.args.member c.args.slot) d) mine in
    let named = λ (same : c.args.member ≡ me.member). subst (λ j. IsNamedBy (place_of (origin_in me.seat.me.0)) j (view_in me.seat.me.0).pending c.args.slot) me.own.1 (subst (λ d. IsNamed (place_of (origin_in d)) (number_in d) (view_in d) c.args.slot) mine (told.1 (same ∙ sym number))) in
    let d = subst (λ l. distinct l ≡ true) front (c.bring.ensures.distinct ∙ me.room.0) in
    let h = subst (Holds (place_of (origin_in me.seat.me.0)) me.member me.members (view_in me.seat.me.0).pending (view_in me.seat.me.0).taken) front (holds_turned (place_of (origin_in me.seat.me.0)) me.member me.members me.few.0 (view_in me.seat.me.0).pending (view_in me.seat.me.0).taken me.held.items me.holds c.bring.new.held.items c.bring.ensures.same) in
    let given = after_giving (Fail c.args.member c.args.slot) (after_fail c.args.member c.args.slot) (λ ns p m v. refl) me.seat.me.0 c.store.new.seat.me.0 me.member me.members c.args.member c.args.slot first.0 (λ v. refl) (λ v. refl) me.own d h may.slot named is in
    (c.store.ensures.0 ∙ (exch.0 ∙ c.bring.ensures.seat.0), refl, refl, given.0.base)

pub returns-clause-view : goal.returns-clause-view
returns-clause-view c = let me = c.args.self.now in let may = c.requires.may in let at = c.pool_word_of-pool_word.ensures in let place = c.pool_place_of-place.ensures in
    let first = c.bring.ensures.first in let front : c.bring.new.held.items ≡ pool_place c.args.member c.args.slot ∷ first.0 = first.1 ∙ ap (λ k. k ∷ first.0) place in
    let out = first_out c.bring.new.seat.me.1 c.pool_place_of-place.result first.0 (c.bring.ensures.numbers ∙ first.1) in
    let exch = c.exchange.ensures in let mine = ap (λ x. x.0) exch.3 ∙ c.bring.ensures.seat.2 in let y : Change = (record { entry = c.args.change.entry; home = None }) in
    let list : c.exchange.new.seat.me.1 ≡ (pool_place c.args.member c.args.slot, Some (parcels.Change y)) ∷ rest c.bring.new.seat.me.1 = ap (λ x. x.1) exch.3 ∙ ap (λ k. (k, Some (parcels.Change y)) ∷ rest c.bring.new.seat.me.1) place in
    let number = ap (λ d. number_in d) mine ∙ me.own.1 in let base = ap (λ d. origin_in d) mine in
    let word : c.pool_word_of-pool_word.result ≡ pool_word (size (origin_in c.exchange.new.seat.me.0)) c.args.member c.args.slot = at ∙ ap (λ x. pool_word x c.args.member c.args.slot) (sym (ap size base ∙ me.own.2)) in
    let told = c.store.ensures.2 c.args.member c.args.slot y may.slot word (list ∙ ap (λ l. (pool_place c.args.member c.args.slot, Some (parcels.Change y)) ∷ l) (sym (ap (λ l. rest l) list))) in
    let is = ap (λ x. x.0) told.0 ∙ ap (λ d. did (Fail c.args.member c.args.slot) d) mine in
    let named = λ (same : c.args.member ≡ me.member). subst (λ j. IsNamedBy (place_of (origin_in me.seat.me.0)) j (view_in me.seat.me.0).pending c.args.slot) me.own.1 (subst (λ d. IsNamed (place_of (origin_in d)) (number_in d) (view_in d) c.args.slot) mine (told.1 (same ∙ sym number))) in
    let d = subst (λ l. distinct l ≡ true) front (c.bring.ensures.distinct ∙ me.room.0) in
    let h = subst (Holds (place_of (origin_in me.seat.me.0)) me.member me.members (view_in me.seat.me.0).pending (view_in me.seat.me.0).taken) front (holds_turned (place_of (origin_in me.seat.me.0)) me.member me.members me.few.0 (view_in me.seat.me.0).pending (view_in me.seat.me.0).taken me.held.items me.holds c.bring.new.held.items c.bring.ensures.same) in
    let given = after_giving (Fail c.args.member c.args.slot) (after_fail c.args.member c.args.slot) (λ ns p m v. refl) me.seat.me.0 c.store.new.seat.me.0 me.member me.members c.args.member c.args.slot first.0 (λ v. refl) (λ v. refl) me.own d h may.slot named is in
    given.0.view

pub returns-clause-made : goal.returns-clause-made
returns-clause-made c = let me = c.args.self.now in let may = c.requires.may in let at = c.pool_word_of-pool_word.ensures in let place = c.pool_place_of-place.ensures in
    let first = c.bring.ensures.first in let front : c.bring.new.held.items ≡ pool_place c.args.member c.args.slot ∷ first.0 = first.1 ∙ ap (λ k. k ∷ first.0) place in
    let out = first_out c.bring.new.seat.me.1 c.pool_place_of-place.result first.0 (c.bring.ensures.numbers ∙ first.1) in
    let exch = c.exchange.ensures in let mine = ap (λ x. x.0) exch.3 ∙ c.bring.ensures.seat.2 in let y : Change = (record { entry = c.args.change.entry; home = None }) in
    let list : c.exchange.new.seat.me.1 ≡ (pool_place c.args.member c.args.slot, Some (parcels.Change y)) ∷ rest c.bring.new.seat.me.1 = ap (λ x. x.1) exch.3 ∙ ap (λ k. (k, Some (parcels.Change y)) ∷ rest c.bring.new.seat.me.1) place in
    let number = ap (λ d. number_in d) mine ∙ me.own.1 in let base = ap (λ d. origin_in d) mine in
    let word : c.pool_word_of-pool_word.result ≡ pool_word (size (origin_in c.exchange.new.seat.me.0)) c.args.member c.args.slot = at ∙ ap (λ x. pool_word x c.args.member c.args.slot) (sym (ap size base ∙ me.own.2)) in
    let told = c.store.ensures.2 c.args.member c.args.slot y may.slot word (list ∙ ap (λ l. (pool_place c.args.member c.args.slot, Some (parcels.Change y)) ∷ l) (sym (ap (λ l. rest l) list))) in
    let is = ap (λ x. x.0) told.0 ∙ ap (λ d. did (Fail c.args.member c.args.slot) d) mine in
    let named = λ (same : c.args.member ≡ me.member). subst (λ j. IsNamedBy (place_of (origin_in me.seat.me.0)) j (view_in me.seat.me.0).pending c.args.slot) me.own.1 (subst (λ d. IsNamed (place_of (origin_in d)) (number_in d) (view_in d) c.args.slot) mine (told.1 (same ∙ sym number))) in
    let d = subst (λ l. distinct l ≡ true) front (c.bring.ensures.distinct ∙ me.room.0) in
    let h = subst (Holds (place_of (origin_in me.seat.me.0)) me.member me.members (view_in me.seat.me.0).pending (view_in me.seat.me.0).taken) front (holds_turned (place_of (origin_in me.seat.me.0)) me.member me.members me.few.0 (view_in me.seat.me.0).pending (view_in me.seat.me.0).taken me.held.items me.holds c.bring.new.held.items c.bring.ensures.same) in
    let given = after_giving (Fail c.args.member c.args.slot) (after_fail c.args.member c.args.slot) (λ ns p m v. refl) me.seat.me.0 c.store.new.seat.me.0 me.member me.members c.args.member c.args.slot first.0 (λ v. refl) (λ v. refl) me.own d h may.slot named is in
    trails.trail_did (deeds.Fail c.args.member c.args.slot) me.seat.me.0 c.store.new.seat.me.0 me.own.0 is
