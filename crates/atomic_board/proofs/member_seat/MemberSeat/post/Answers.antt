use Rattle.std.proofs.Common.{◌≡◌, ℕ, ◌+◌, ◌*◌, sym, ap, ap₂, refl, ◌∙◌, subst, arith, true, ◌∷◌, drop, Some, None}
use Rattle.atomic_table.specs.Table.{rest}
use Rattle.group_board.specs.Conditions.{MayPost}
use Rattle.atomic_board.specs.declared.parcel.Parcel.TheVariants as parcels
use Rattle.atomic_board.specs.declared.seat_data.Deed.TheVariants.{Post}
use Rattle.atomic_board.specs.TableWords.{pool_word, pool_place}
use Rattle.atomic_board.specs.Deeds.{place_of, size}
use Rattle.atomic_board.specs.SlotsOut.{has, numbers, all_empty, distinct, Holds}
use Rattle.atomic_board.specs.StepTells.{view_in, is_own, number_in, origin_in, did}
use Rattle.atomic_board.proofs.OwedLeading.{post_owes}
use Rattle.atomic_board.proofs.SeatMoves.{after_posting}
use Rattle.atomic_board.proofs.SlotsHeld.{first_out, rest_out, rest_empty, distinct_rest, holds_turned}
use Rattle.atomic_board.proofs.member_seat.MemberSeat.post.Goals as goal
use Rattle.atomic_board.specs.declared.seat_data.Deed.TheVariants as deeds
use Rattle.group_laws.specs.Runs as runs
use Rattle.atomic_board.proofs.Trails as trails

pub bring-requires : goal.bring-requires
bring-requires g c = let me = c.args.self.now in let place = c.pool_place_of-place.ensures in (me.order.0, subst (λ k. has k me.held.items ≡ true) (sym place) (me.holds.mine c.args.slot c.requires.may.slot c.requires.may.free))

pub exchange-requires : goal.exchange-requires
exchange-requires g c = let me = c.args.self.now in let may = c.requires.may in let at = c.pool_word_of-pool_word.ensures in let place = c.pool_place_of-place.ensures in
    let first = c.bring.ensures.first in let front : c.bring.new.held.items ≡ pool_place me.member c.args.slot ∷ first.0 = first.1 ∙ ap (λ k. k ∷ first.0) place in
    let out = first_out c.bring.new.seat.me.1 c.pool_place_of-place.result first.0 (c.bring.ensures.numbers ∙ first.1) in
    (c.bring.ensures.seat.0 ∙ c.requires.table, out)

pub offer-requires : goal.offer-requires
offer-requires g c = let me = c.args.self.now in let may = c.requires.may in let at = c.pool_word_of-pool_word.ensures in let place = c.pool_place_of-place.ensures in
    let first = c.bring.ensures.first in let front : c.bring.new.held.items ≡ pool_place me.member c.args.slot ∷ first.0 = first.1 ∙ ap (λ k. k ∷ first.0) place in
    let out = first_out c.bring.new.seat.me.1 c.pool_place_of-place.result first.0 (c.bring.ensures.numbers ∙ first.1) in
    let exch = c.exchange.ensures in let mine = ap (λ x. x.0) exch.3 ∙ c.bring.ensures.seat.2 in
    let list : c.exchange.new.seat.me.1 ≡ (pool_place me.member c.args.slot, Some (parcels.Change c.args.change)) ∷ rest c.bring.new.seat.me.1 = ap (λ x. x.1) exch.3 ∙ ap (λ k. (k, Some (parcels.Change c.args.change)) ∷ rest c.bring.new.seat.me.1) place in
    let number = ap (λ d. number_in d) mine ∙ me.own.1 in let base = ap (λ d. origin_in d) mine in
    let there : c.exchange.new.seat.me.1 ≡ (pool_place (number_in c.exchange.new.seat.me.0) c.args.slot, Some (parcels.Change c.args.change)) ∷ rest c.bring.new.seat.me.1 = list ∙ ap (λ k. (pool_place k c.args.slot, Some (parcels.Change c.args.change)) ∷ rest c.bring.new.seat.me.1) (sym number) in
    let word : c.pool_word_of-pool_word.result ≡ pool_word (size (origin_in c.exchange.new.seat.me.0)) (number_in c.exchange.new.seat.me.0) c.args.slot = at ∙ ap₂ (λ x y. pool_word x y c.args.slot) (sym (ap size base ∙ me.own.2)) (sym number) in (
      exch.0 ∙ (c.bring.ensures.seat.0 ∙ c.requires.table),
      (let w = ap (λ z. z.words) (sym c.requires.table) in let v = me.wide in let l = me.few.0 in let s = may.slot in let z : ℕ = me.members * me.members in omega (arith, w, v, at, l, s)),
      post_owes _ _ _ _ (ap (λ d. is_own d) mine ∙ me.own.0) _ _ c.args.slot c.args.change c.args.value.now (g.R.Region.state c.args.region.now).stamp (rest c.bring.new.seat.me.1) word (ap (λ x. 16 + x) c.entry_words-words.ensures.words) there
          (subst (λ d. MayPost (place_of (origin_in d)) (number_in d) (view_in d) c.args.slot c.args.change c.args.value.now) (sym mine) (subst (λ j. MayPost (place_of (origin_in me.seat.me.0)) j (view_in me.seat.me.0) c.args.slot c.args.change c.args.value.now) (sym me.own.1) may)),
    )

pub invariant_of-self : goal.invariant_of-self
invariant_of-self g c = let me = c.args.self.now in let may = c.requires.may in let at = c.pool_word_of-pool_word.ensures in let place = c.pool_place_of-place.ensures in
    let first = c.bring.ensures.first in let front : c.bring.new.held.items ≡ pool_place me.member c.args.slot ∷ first.0 = first.1 ∙ ap (λ k. k ∷ first.0) place in
    let out = first_out c.bring.new.seat.me.1 c.pool_place_of-place.result first.0 (c.bring.ensures.numbers ∙ first.1) in
    let exch = c.exchange.ensures in let mine = ap (λ x. x.0) exch.3 ∙ c.bring.ensures.seat.2 in
    let list : c.exchange.new.seat.me.1 ≡ (pool_place me.member c.args.slot, Some (parcels.Change c.args.change)) ∷ rest c.bring.new.seat.me.1 = ap (λ x. x.1) exch.3 ∙ ap (λ k. (k, Some (parcels.Change c.args.change)) ∷ rest c.bring.new.seat.me.1) place in
    let number = ap (λ d. number_in d) mine ∙ me.own.1 in let base = ap (λ d. origin_in d) mine in
    let there : c.exchange.new.seat.me.1 ≡ (pool_place (number_in c.exchange.new.seat.me.0) c.args.slot, Some (parcels.Change c.args.change)) ∷ rest c.bring.new.seat.me.1 = list ∙ ap (λ k. (pool_place k c.args.slot, Some (parcels.Change c.args.change)) ∷ rest c.bring.new.seat.me.1) (sym number) in
    let word : c.pool_word_of-pool_word.result ≡ pool_word (size (origin_in c.exchange.new.seat.me.0)) (number_in c.exchange.new.seat.me.0) c.args.slot = at ∙ ap₂ (λ x y. pool_word x y c.args.slot) (sym (ap size base ∙ me.own.2)) (sym number) in
    let told = c.offer.ensures.2 c.args.slot c.args.change word (there ∙ ap (λ l. (pool_place (number_in c.exchange.new.seat.me.0) c.args.slot, Some (parcels.Change c.args.change)) ∷ l) (sym (ap (λ l. rest l) there))) in
    let is = ap (λ x. x.0) told.0 ∙ ap (λ d. did (Post c.args.slot c.args.change.entry c.args.value.now (g.R.Region.state c.args.region.now).stamp) d) mine in
    let hand = subst (λ d. (view_in d).taken (number_in d) c.args.slot ≡ None) mine told.1 in
    let d = subst (λ l. distinct l ≡ true) front (c.bring.ensures.distinct ∙ me.room.0) in
    let h = subst (Holds (place_of (origin_in me.seat.me.0)) me.member me.members (view_in me.seat.me.0).pending (view_in me.seat.me.0).taken) front (holds_turned (place_of (origin_in me.seat.me.0)) me.member me.members me.few.0 (view_in me.seat.me.0).pending (view_in me.seat.me.0).taken me.held.items me.holds c.bring.new.held.items c.bring.ensures.same) in
    let posted = after_posting me.seat.me.0 c.offer.new.seat.me.0 me.member me.members c.args.slot c.args.change.entry c.args.value.now (g.R.Region.state c.args.region.now).stamp first.0 me.own d h me.few.0 may.slot may.idle may.own (subst (λ j. (view_in me.seat.me.0).taken j c.args.slot ≡ None) me.own.1 hand) is in
    let items : c.pop_front.new.self.items ≡ first.0 = c.pop_front.ensures.rest ∙ ap (drop 1) first.1 in let left = ap (λ x. x.1) told.0 ∙ ap (λ l. rest l) there in record {
      few = me.few;
      wide = ap (λ z. z.words) (c.offer.ensures.0 ∙ (exch.0 ∙ c.bring.ensures.seat.0)) ∙ me.wide;
      own = posted.0.own;
      order = (ap (λ l. numbers l) left ∙ (rest_out c.bring.new.seat.me.1 c.pool_place_of-place.result first.0 (c.bring.ensures.numbers ∙ first.1) ∙ sym items), ap (λ l. all_empty l) left ∙ rest_empty c.bring.new.seat.me.1 (c.bring.ensures.empty ∙ me.order.1));
      room = (ap distinct items ∙ distinct_rest (pool_place me.member c.args.slot) first.0 d, let cap = c.pop_front.ensures.capacity in let cap2 = c.bring.ensures.room in let room = me.room.1 in omega (arith, cap, cap2, room));
      holds = subst (Holds (place_of (origin_in c.offer.new.seat.me.0)) me.member me.members (view_in c.offer.new.seat.me.0).pending (view_in c.offer.new.seat.me.0).taken) (sym items) posted.1;
    }

pub returns-clause-same : goal.returns-clause-same
returns-clause-same g c = let me = c.args.self.now in let may = c.requires.may in let at = c.pool_word_of-pool_word.ensures in let place = c.pool_place_of-place.ensures in
    let first = c.bring.ensures.first in let front : c.bring.new.held.items ≡ pool_place me.member c.args.slot ∷ first.0 = first.1 ∙ ap (λ k. k ∷ first.0) place in
    let out = first_out c.bring.new.seat.me.1 c.pool_place_of-place.result first.0 (c.bring.ensures.numbers ∙ first.1) in
    let exch = c.exchange.ensures in let mine = ap (λ x. x.0) exch.3 ∙ c.bring.ensures.seat.2 in
    let list : c.exchange.new.seat.me.1 ≡ (pool_place me.member c.args.slot, Some (parcels.Change c.args.change)) ∷ rest c.bring.new.seat.me.1 = ap (λ x. x.1) exch.3 ∙ ap (λ k. (k, Some (parcels.Change c.args.change)) ∷ rest c.bring.new.seat.me.1) place in
    let number = ap (λ d. number_in d) mine ∙ me.own.1 in let base = ap (λ d. origin_in d) mine in
    let there : c.exchange.new.seat.me.1 ≡ (pool_place (number_in c.exchange.new.seat.me.0) c.args.slot, Some (parcels.Change c.args.change)) ∷ rest c.bring.new.seat.me.1 = list ∙ ap (λ k. (pool_place k c.args.slot, Some (parcels.Change c.args.change)) ∷ rest c.bring.new.seat.me.1) (sym number) in
    let word : c.pool_word_of-pool_word.result ≡ pool_word (size (origin_in c.exchange.new.seat.me.0)) (number_in c.exchange.new.seat.me.0) c.args.slot = at ∙ ap₂ (λ x y. pool_word x y c.args.slot) (sym (ap size base ∙ me.own.2)) (sym number) in
    let told = c.offer.ensures.2 c.args.slot c.args.change word (there ∙ ap (λ l. (pool_place (number_in c.exchange.new.seat.me.0) c.args.slot, Some (parcels.Change c.args.change)) ∷ l) (sym (ap (λ l. rest l) there))) in
    let is = ap (λ x. x.0) told.0 ∙ ap (λ d. did (Post c.args.slot c.args.change.entry c.args.value.now (g.R.Region.state c.args.region.now).stamp) d) mine in
    let hand = subst (λ d. (view_in d).taken (number_in d) c.args.slot ≡ None) mine told.1 in
    let d = subst (λ l. distinct l ≡ true) front (c.bring.ensures.distinct ∙ me.room.0) in
    let h = subst (Holds (place_of (origin_in me.seat.me.0)) me.member me.members (view_in me.seat.me.0).pending (view_in me.seat.me.0).taken) front (holds_turned (place_of (origin_in me.seat.me.0)) me.member me.members me.few.0 (view_in me.seat.me.0).pending (view_in me.seat.me.0).taken me.held.items me.holds c.bring.new.held.items c.bring.ensures.same) in
    let posted = after_posting me.seat.me.0 c.offer.new.seat.me.0 me.member me.members c.args.slot c.args.change.entry c.args.value.now (g.R.Region.state c.args.region.now).stamp first.0 me.own d h me.few.0 may.slot may.idle may.own (subst (λ j. (view_in me.seat.me.0).taken j c.args.slot ≡ None) me.own.1 hand) is in
    (c.offer.ensures.0 ∙ (exch.0 ∙ c.bring.ensures.seat.0), refl, refl, posted.0.base)

pub returns-clause-view : goal.returns-clause-view
returns-clause-view g c = let me = c.args.self.now in let may = c.requires.may in let at = c.pool_word_of-pool_word.ensures in let place = c.pool_place_of-place.ensures in
    let first = c.bring.ensures.first in let front : c.bring.new.held.items ≡ pool_place me.member c.args.slot ∷ first.0 = first.1 ∙ ap (λ k. k ∷ first.0) place in
    let out = first_out c.bring.new.seat.me.1 c.pool_place_of-place.result first.0 (c.bring.ensures.numbers ∙ first.1) in
    let exch = c.exchange.ensures in let mine = ap (λ x. x.0) exch.3 ∙ c.bring.ensures.seat.2 in
    let list : c.exchange.new.seat.me.1 ≡ (pool_place me.member c.args.slot, Some (parcels.Change c.args.change)) ∷ rest c.bring.new.seat.me.1 = ap (λ x. x.1) exch.3 ∙ ap (λ k. (k, Some (parcels.Change c.args.change)) ∷ rest c.bring.new.seat.me.1) place in
    let number = ap (λ d. number_in d) mine ∙ me.own.1 in let base = ap (λ d. origin_in d) mine in
    let there : c.exchange.new.seat.me.1 ≡ (pool_place (number_in c.exchange.new.seat.me.0) c.args.slot, Some (parcels.Change c.args.change)) ∷ rest c.bring.new.seat.me.1 = list ∙ ap (λ k. (pool_place k c.args.slot, Some (parcels.Change c.args.change)) ∷ rest c.bring.new.seat.me.1) (sym number) in
    let word : c.pool_word_of-pool_word.result ≡ pool_word (size (origin_in c.exchange.new.seat.me.0)) (number_in c.exchange.new.seat.me.0) c.args.slot = at ∙ ap₂ (λ x y. pool_word x y c.args.slot) (sym (ap size base ∙ me.own.2)) (sym number) in
    let told = c.offer.ensures.2 c.args.slot c.args.change word (there ∙ ap (λ l. (pool_place (number_in c.exchange.new.seat.me.0) c.args.slot, Some (parcels.Change c.args.change)) ∷ l) (sym (ap (λ l. rest l) there))) in
    let is = ap (λ x. x.0) told.0 ∙ ap (λ d. did (Post c.args.slot c.args.change.entry c.args.value.now (g.R.Region.state c.args.region.now).stamp) d) mine in
    let hand = subst (λ d. (view_in d).taken (number_in d) c.args.slot ≡ None) mine told.1 in
    let d = subst (λ l. distinct l ≡ true) front (c.bring.ensures.distinct ∙ me.room.0) in
    let h = subst (Holds (place_of (origin_in me.seat.me.0)) me.member me.members (view_in me.seat.me.0).pending (view_in me.seat.me.0).taken) front (holds_turned (place_of (origin_in me.seat.me.0)) me.member me.members me.few.0 (view_in me.seat.me.0).pending (view_in me.seat.me.0).taken me.held.items me.holds c.bring.new.held.items c.bring.ensures.same) in
    let posted = after_posting me.seat.me.0 c.offer.new.seat.me.0 me.member me.members c.args.slot c.args.change.entry c.args.value.now (g.R.Region.state c.args.region.now).stamp first.0 me.own d h me.few.0 may.slot may.idle may.own (subst (λ j. (view_in me.seat.me.0).taken j c.args.slot ≡ None) me.own.1 hand) is in
    posted.0.view

pub returns-clause-made : goal.returns-clause-made
returns-clause-made g c = let me = c.args.self.now in let may = c.requires.may in let at = c.pool_word_of-pool_word.ensures in let place = c.pool_place_of-place.ensures in
    let first = c.bring.ensures.first in let front : c.bring.new.held.items ≡ pool_place me.member c.args.slot ∷ first.0 = first.1 ∙ ap (λ k. k ∷ first.0) place in
    let out = first_out c.bring.new.seat.me.1 c.pool_place_of-place.result first.0 (c.bring.ensures.numbers ∙ first.1) in
    let exch = c.exchange.ensures in let mine = ap (λ x. x.0) exch.3 ∙ c.bring.ensures.seat.2 in
    let list : c.exchange.new.seat.me.1 ≡ (pool_place me.member c.args.slot, Some (parcels.Change c.args.change)) ∷ rest c.bring.new.seat.me.1 = ap (λ x. x.1) exch.3 ∙ ap (λ k. (k, Some (parcels.Change c.args.change)) ∷ rest c.bring.new.seat.me.1) place in
    let number = ap (λ d. number_in d) mine ∙ me.own.1 in let base = ap (λ d. origin_in d) mine in
    let there : c.exchange.new.seat.me.1 ≡ (pool_place (number_in c.exchange.new.seat.me.0) c.args.slot, Some (parcels.Change c.args.change)) ∷ rest c.bring.new.seat.me.1 = list ∙ ap (λ k. (pool_place k c.args.slot, Some (parcels.Change c.args.change)) ∷ rest c.bring.new.seat.me.1) (sym number) in
    let word : c.pool_word_of-pool_word.result ≡ pool_word (size (origin_in c.exchange.new.seat.me.0)) (number_in c.exchange.new.seat.me.0) c.args.slot = at ∙ ap₂ (λ x y. pool_word x y c.args.slot) (sym (ap size base ∙ me.own.2)) (sym number) in
    let told = c.offer.ensures.2 c.args.slot c.args.change word (there ∙ ap (λ l. (pool_place (number_in c.exchange.new.seat.me.0) c.args.slot, Some (parcels.Change c.args.change)) ∷ l) (sym (ap (λ l. rest l) there))) in
    let is = ap (λ x. x.0) told.0 ∙ ap (λ d. did (Post c.args.slot c.args.change.entry c.args.value.now (g.R.Region.state c.args.region.now).stamp) d) mine in
    let hand = subst (λ d. (view_in d).taken (number_in d) c.args.slot ≡ None) mine told.1 in
    let d = subst (λ l. distinct l ≡ true) front (c.bring.ensures.distinct ∙ me.room.0) in
    let h = subst (Holds (place_of (origin_in me.seat.me.0)) me.member me.members (view_in me.seat.me.0).pending (view_in me.seat.me.0).taken) front (holds_turned (place_of (origin_in me.seat.me.0)) me.member me.members me.few.0 (view_in me.seat.me.0).pending (view_in me.seat.me.0).taken me.held.items me.holds c.bring.new.held.items c.bring.ensures.same) in
    let posted = after_posting me.seat.me.0 c.offer.new.seat.me.0 me.member me.members c.args.slot c.args.change.entry c.args.value.now (g.R.Region.state c.args.region.now).stamp first.0 me.own d h me.few.0 may.slot may.idle may.own (subst (λ j. (view_in me.seat.me.0).taken j c.args.slot ≡ None) me.own.1 hand) is in
    trails.trail_did (deeds.Post c.args.slot c.args.change.entry c.args.value.now (g.R.Region.state c.args.region.now).stamp) me.seat.me.0 c.offer.new.seat.me.0 me.own.0 is

pub returns-clause-at : goal.returns-clause-at
returns-clause-at g c = let me = c.args.self.now in let may = c.requires.may in let at = c.pool_word_of-pool_word.ensures in let place = c.pool_place_of-place.ensures in
    let first = c.bring.ensures.first in let front : c.bring.new.held.items ≡ pool_place me.member c.args.slot ∷ first.0 = first.1 ∙ ap (λ k. k ∷ first.0) place in
    let out = first_out c.bring.new.seat.me.1 c.pool_place_of-place.result first.0 (c.bring.ensures.numbers ∙ first.1) in
    let exch = c.exchange.ensures in let mine = ap (λ x. x.0) exch.3 ∙ c.bring.ensures.seat.2 in
    let list : c.exchange.new.seat.me.1 ≡ (pool_place me.member c.args.slot, Some (parcels.Change c.args.change)) ∷ rest c.bring.new.seat.me.1 = ap (λ x. x.1) exch.3 ∙ ap (λ k. (k, Some (parcels.Change c.args.change)) ∷ rest c.bring.new.seat.me.1) place in
    let number = ap (λ d. number_in d) mine ∙ me.own.1 in let base = ap (λ d. origin_in d) mine in
    let there : c.exchange.new.seat.me.1 ≡ (pool_place (number_in c.exchange.new.seat.me.0) c.args.slot, Some (parcels.Change c.args.change)) ∷ rest c.bring.new.seat.me.1 = list ∙ ap (λ k. (pool_place k c.args.slot, Some (parcels.Change c.args.change)) ∷ rest c.bring.new.seat.me.1) (sym number) in
    let word : c.pool_word_of-pool_word.result ≡ pool_word (size (origin_in c.exchange.new.seat.me.0)) (number_in c.exchange.new.seat.me.0) c.args.slot = at ∙ ap₂ (λ x y. pool_word x y c.args.slot) (sym (ap size base ∙ me.own.2)) (sym number) in
    let told = c.offer.ensures.2 c.args.slot c.args.change word (there ∙ ap (λ l. (pool_place (number_in c.exchange.new.seat.me.0) c.args.slot, Some (parcels.Change c.args.change)) ∷ l) (sym (ap (λ l. rest l) there))) in
    let is = ap (λ x. x.0) told.0 ∙ ap (λ d. did (Post c.args.slot c.args.change.entry c.args.value.now (g.R.Region.state c.args.region.now).stamp) d) mine in
    let hand = subst (λ d. (view_in d).taken (number_in d) c.args.slot ≡ None) mine told.1 in
    let d = subst (λ l. distinct l ≡ true) front (c.bring.ensures.distinct ∙ me.room.0) in
    let h = subst (Holds (place_of (origin_in me.seat.me.0)) me.member me.members (view_in me.seat.me.0).pending (view_in me.seat.me.0).taken) front (holds_turned (place_of (origin_in me.seat.me.0)) me.member me.members me.few.0 (view_in me.seat.me.0).pending (view_in me.seat.me.0).taken me.held.items me.holds c.bring.new.held.items c.bring.ensures.same) in
    let posted = after_posting me.seat.me.0 c.offer.new.seat.me.0 me.member me.members c.args.slot c.args.change.entry c.args.value.now (g.R.Region.state c.args.region.now).stamp first.0 me.own d h me.few.0 may.slot may.idle may.own (subst (λ j. (view_in me.seat.me.0).taken j c.args.slot ≡ None) me.own.1 hand) is in
    trails.committed_did (g.R.Region.state c.args.region.now).stamp (deeds.Post c.args.slot c.args.change.entry c.args.value.now (g.R.Region.state c.args.region.now).stamp) (λ n. refl) me.seat.me.0 c.offer.new.seat.me.0 me.own.0 is
