use Rattle.std.proofs.Common.{◌≡◌, ℕ, sym, ap, ap₂, refl, ◌∙◌, subst, arith, ◌∷◌, Option, None, MatchOption, IfSome, ◌*◌}
use Rattle.atomic_table.specs.Table.{rest}
use Rattle.log_entry.specs.declared.entry.Entry.{Entry}
use Rattle.store_image.specs.Facts.{In}
use Rattle.group_laws.specs.declared.types.SlotWord.TheVariants as words
use Rattle.group_laws.specs.declared.types.Seen.TheVariants as loads
use Rattle.group_board.specs.Views.{after_finish, after_give_up, TidiedIn}
use Rattle.group_board.specs.Assurances.{IsHome}
use Rattle.group_board.specs.Conditions.{MayFinish}
use Rattle.atomic_board.specs.TableWords.{pool_word, pool_place}
use Rattle.atomic_board.specs.Deeds.{place_of, size}
use Rattle.atomic_board.specs.ShownState.{lies}
use Rattle.atomic_board.specs.SlotsOut.{numbers, all_empty, distinct, Holds}
use Rattle.atomic_board.specs.StepTells.{view_in, number_in, origin_in, over, trail_in}
use Rattle.atomic_board.proofs.OwedGiving.{finish_owes}
use Rattle.group_board.specs.declared.change.Change.{Change}
use Rattle.atomic_board.proofs.SeatMoves.{IsSeat, after_freeing, over_pends}
use Rattle.atomic_board.proofs.SlotsHeld.{out_at, same_out, same_change}
use Rattle.atomic_board.proofs.member_seat.MemberSeat.finish.Goals as goal
use Rattle.atomic_board.specs.declared.seat_data.Deed.TheVariants as deeds
use Rattle.group_laws.specs.Runs as runs
use Rattle.group_board.specs.Trails.{step_with}
use Rattle.atomic_board.proofs.Trails as trails

pub store-requires : goal.store-requires
store-requires c = let me = c.args.self.now in let at = c.pool_word_of-pool_word.ensures in let may = c.requires.may in let place = c.pool_place_of-place.ensures in
    let word : c.pool_word_of-pool_word.result ≡ pool_word (size (origin_in me.seat.me.0)) (number_in me.seat.me.0) c.args.slot = at ∙ ap₂ (λ x y. pool_word x y c.args.slot) (sym me.own.2) (sym me.own.1) in
    (c.requires.table, (let w = ap (λ z. z.words) (sym c.requires.table) in let v = me.wide in let l = me.few.0 in let s = may.slot in let z : ℕ = me.members * me.members in omega (arith, w, v, at, l, s)), finish_owes _ _ _ _ me.own.0 _ c.args.slot word me.own.3 (subst (λ j. MayFinish (place_of (origin_in me.seat.me.0)) j (view_in me.seat.me.0) c.args.slot) (sym me.own.1) may))

pub exchange-parcel-requires : goal.exchange-parcel-requires
exchange-parcel-requires c = let me = c.args.self.now in let at = c.pool_word_of-pool_word.ensures in let may = c.requires.may in let place = c.pool_place_of-place.ensures in
    let word : c.pool_word_of-pool_word.result ≡ pool_word (size (origin_in me.seat.me.0)) (number_in me.seat.me.0) c.args.slot = at ∙ ap₂ (λ x y. pool_word x y c.args.slot) (sym me.own.2) (sym me.own.1) in
    let told = c.store.ensures.2 c.args.slot may.slot word in let e : Entry = told.0 in
    let home : Option ℕ = told.1 in let now = told.2 in let stands = told.3 in let pends = over_pends me.seat.me.0 c.args.slot e home me.own.0 in
    let out : c.store.new.seat.me.1 ≡ (pool_place me.member c.args.slot, lies e home) ∷ me.seat.me.1 = ap (λ x. x.1) now ∙ ap (λ k. (pool_place k c.args.slot, lies e home) ∷ me.seat.me.1) me.own.1 in
    let freed = after_freeing (over c.args.slot e home) me.seat.me.0 c.store.new.seat.me.0 me.member me.members c.args.slot e pends.0 me.held.items me.own me.room.0 me.holds me.few.0 may.slot stands pends.1 (ap (λ x. x.0) now) pends.2 pends.3 in
    (c.store.ensures.0 ∙ c.requires.table, (lies e home, out ∙ ap₂ (λ k l. (k, lies e home) ∷ l) (sym place) (sym (ap (λ l. rest l) out))))

pub push_front_reserved-requires : goal.push_front_reserved-requires
push_front_reserved-requires c = let me = c.args.self.now in let at = c.pool_word_of-pool_word.ensures in let may = c.requires.may in let place = c.pool_place_of-place.ensures in
    let word : c.pool_word_of-pool_word.result ≡ pool_word (size (origin_in me.seat.me.0)) (number_in me.seat.me.0) c.args.slot = at ∙ ap₂ (λ x y. pool_word x y c.args.slot) (sym me.own.2) (sym me.own.1) in
    let told = c.store.ensures.2 c.args.slot may.slot word in let e : Entry = told.0 in
    let home : Option ℕ = told.1 in let now = told.2 in let stands = told.3 in let pends = over_pends me.seat.me.0 c.args.slot e home me.own.0 in
    let out : c.store.new.seat.me.1 ≡ (pool_place me.member c.args.slot, lies e home) ∷ me.seat.me.1 = ap (λ x. x.1) now ∙ ap (λ k. (pool_place k c.args.slot, lies e home) ∷ me.seat.me.1) me.own.1 in
    let freed = after_freeing (over c.args.slot e home) me.seat.me.0 c.store.new.seat.me.0 me.member me.members c.args.slot e pends.0 me.held.items me.own me.room.0 me.holds me.few.0 may.slot stands pends.1 (ap (λ x. x.0) now) pends.2 pends.3 in
    let fits = freed.fits in let few = me.few.1 in let room = me.room.1 in omega (arith, fits, few, room)

pub invariant_of-self : goal.invariant_of-self
invariant_of-self c = let me = c.args.self.now in let at = c.pool_word_of-pool_word.ensures in let may = c.requires.may in let place = c.pool_place_of-place.ensures in
    let word : c.pool_word_of-pool_word.result ≡ pool_word (size (origin_in me.seat.me.0)) (number_in me.seat.me.0) c.args.slot = at ∙ ap₂ (λ x y. pool_word x y c.args.slot) (sym me.own.2) (sym me.own.1) in
    let told = c.store.ensures.2 c.args.slot may.slot word in let e : Entry = told.0 in
    let home : Option ℕ = told.1 in let now = told.2 in let stands = told.3 in let pends = over_pends me.seat.me.0 c.args.slot e home me.own.0 in
    let out : c.store.new.seat.me.1 ≡ (pool_place me.member c.args.slot, lies e home) ∷ me.seat.me.1 = ap (λ x. x.1) now ∙ ap (λ k. (pool_place k c.args.slot, lies e home) ∷ me.seat.me.1) me.own.1 in
    let freed = after_freeing (over c.args.slot e home) me.seat.me.0 c.store.new.seat.me.0 me.member me.members c.args.slot e pends.0 me.held.items me.own me.room.0 me.holds me.few.0 may.slot stands pends.1 (ap (λ x. x.0) now) pends.2 pends.3 in
    let exch = c.exchange-parcel.ensures in let same = ap (λ x. x.0) exch.3 in
    let got : c.exchange-parcel.result ≡ lies e home = sym (same_out c.store.new.seat.me.1 c.pool_place_of-place.result (lies e home) c.exchange-parcel.result (out ∙ ap₂ (λ k l. (k, lies e home) ∷ l) (sym place) (sym (ap (λ l. rest l) out))) exch.2) in
    let items = c.push_front_reserved.ensures.items ∙ ap (λ k. k ∷ me.held.items) place in let list = ap (λ x. x.1) exch.3 ∙ ap₂ (λ k l. (k, None) ∷ l) place (ap (λ l. rest l) out) in record {
      few = me.few;
      wide = ap (λ z. z.words) (exch.0 ∙ c.store.ensures.0) ∙ me.wide;
      own = subst (λ d. IsSeat d me.member me.members) (sym same) freed.own;
      order = (ap (λ l. numbers l) list ∙ (ap (λ l. pool_place me.member c.args.slot ∷ l) me.order.0 ∙ sym items), ap (λ l. all_empty l) list ∙ me.order.1);
      room = (ap distinct items ∙ freed.fresh, let cap = c.push_front_reserved.ensures.capacity in let room = me.room.1 in omega (arith, cap, room));
      holds = subst (λ d. Holds (place_of (origin_in d)) me.member me.members (view_in d).pending (view_in d).taken c.push_front_reserved.new.self.items) (sym same) (subst (λ l. Holds (place_of (origin_in c.store.new.seat.me.0)) me.member me.members (view_in c.store.new.seat.me.0).pending (view_in c.store.new.seat.me.0).taken l) (sym items) freed.holds);
    }

pub unpacked-requires : goal.unpacked-requires
unpacked-requires c = let me = c.args.self.now in let at = c.pool_word_of-pool_word.ensures in let may = c.requires.may in let place = c.pool_place_of-place.ensures in
    let word : c.pool_word_of-pool_word.result ≡ pool_word (size (origin_in me.seat.me.0)) (number_in me.seat.me.0) c.args.slot = at ∙ ap₂ (λ x y. pool_word x y c.args.slot) (sym me.own.2) (sym me.own.1) in
    let told = c.store.ensures.2 c.args.slot may.slot word in let e : Entry = told.0 in
    let home : Option ℕ = told.1 in let now = told.2 in let stands = told.3 in let pends = over_pends me.seat.me.0 c.args.slot e home me.own.0 in
    let out : c.store.new.seat.me.1 ≡ (pool_place me.member c.args.slot, lies e home) ∷ me.seat.me.1 = ap (λ x. x.1) now ∙ ap (λ k. (pool_place k c.args.slot, lies e home) ∷ me.seat.me.1) me.own.1 in
    let freed = after_freeing (over c.args.slot e home) me.seat.me.0 c.store.new.seat.me.0 me.member me.members c.args.slot e pends.0 me.held.items me.own me.room.0 me.holds me.few.0 may.slot stands pends.1 (ap (λ x. x.0) now) pends.2 pends.3 in
    let exch = c.exchange-parcel.ensures in let same = ap (λ x. x.0) exch.3 in
    let got : c.exchange-parcel.result ≡ lies e home = sym (same_out c.store.new.seat.me.1 c.pool_place_of-place.result (lies e home) c.exchange-parcel.result (out ∙ ap₂ (λ k l. (k, lies e home) ∷ l) (sym place) (sym (ap (λ l. rest l) out))) exch.2) in
    (record { entry = e; home = home }, got)

pub returns-clause-same : goal.returns-clause-same
returns-clause-same c = let me = c.args.self.now in let at = c.pool_word_of-pool_word.ensures in let may = c.requires.may in let place = c.pool_place_of-place.ensures in
    let word : c.pool_word_of-pool_word.result ≡ pool_word (size (origin_in me.seat.me.0)) (number_in me.seat.me.0) c.args.slot = at ∙ ap₂ (λ x y. pool_word x y c.args.slot) (sym me.own.2) (sym me.own.1) in
    let told = c.store.ensures.2 c.args.slot may.slot word in let e : Entry = told.0 in
    let home : Option ℕ = told.1 in let now = told.2 in let stands = told.3 in let pends = over_pends me.seat.me.0 c.args.slot e home me.own.0 in
    let out : c.store.new.seat.me.1 ≡ (pool_place me.member c.args.slot, lies e home) ∷ me.seat.me.1 = ap (λ x. x.1) now ∙ ap (λ k. (pool_place k c.args.slot, lies e home) ∷ me.seat.me.1) me.own.1 in
    let freed = after_freeing (over c.args.slot e home) me.seat.me.0 c.store.new.seat.me.0 me.member me.members c.args.slot e pends.0 me.held.items me.own me.room.0 me.holds me.few.0 may.slot stands pends.1 (ap (λ x. x.0) now) pends.2 pends.3 in
    let exch = c.exchange-parcel.ensures in let same = ap (λ x. x.0) exch.3 in
    let got : c.exchange-parcel.result ≡ lies e home = sym (same_out c.store.new.seat.me.1 c.pool_place_of-place.result (lies e home) c.exchange-parcel.result (out ∙ ap₂ (λ k l. (k, lies e home) ∷ l) (sym place) (sym (ap (λ l. rest l) out))) exch.2) in
    (exch.0 ∙ c.store.ensures.0, refl, refl, ap (λ d. origin_in d) same ∙ freed.base)

pub returns-clause-pending : goal.returns-clause-pending
returns-clause-pending c = let me = c.args.self.now in let at = c.pool_word_of-pool_word.ensures in let may = c.requires.may in let place = c.pool_place_of-place.ensures in
    let word : c.pool_word_of-pool_word.result ≡ pool_word (size (origin_in me.seat.me.0)) (number_in me.seat.me.0) c.args.slot = at ∙ ap₂ (λ x y. pool_word x y c.args.slot) (sym me.own.2) (sym me.own.1) in
    let told = c.store.ensures.2 c.args.slot may.slot word in let e : Entry = told.0 in
    let home : Option ℕ = told.1 in let now = told.2 in let stands = told.3 in let pends = over_pends me.seat.me.0 c.args.slot e home me.own.0 in
    let out : c.store.new.seat.me.1 ≡ (pool_place me.member c.args.slot, lies e home) ∷ me.seat.me.1 = ap (λ x. x.1) now ∙ ap (λ k. (pool_place k c.args.slot, lies e home) ∷ me.seat.me.1) me.own.1 in
    let freed = after_freeing (over c.args.slot e home) me.seat.me.0 c.store.new.seat.me.0 me.member me.members c.args.slot e pends.0 me.held.items me.own me.room.0 me.holds me.few.0 may.slot stands pends.1 (ap (λ x. x.0) now) pends.2 pends.3 in
    let exch = c.exchange-parcel.ensures in let same = ap (λ x. x.0) exch.3 in
    let got : c.exchange-parcel.result ≡ lies e home = sym (same_out c.store.new.seat.me.1 c.pool_place_of-place.result (lies e home) c.exchange-parcel.result (out ∙ ap₂ (λ k l. (k, lies e home) ∷ l) (sym place) (sym (ap (λ l. rest l) out))) exch.2) in
    let is = same_change (record { entry = e; home = home }) c.unpacked.result (sym got ∙ c.unpacked.ensures) in subst (λ (x : Change). (view_in me.seat.me.0).pending x.entry.key ≡ out_at x.entry c.args.slot) is stands.pends

pub returns-clause-seen : goal.returns-clause-seen
returns-clause-seen c = let me = c.args.self.now in let at = c.pool_word_of-pool_word.ensures in let may = c.requires.may in let place = c.pool_place_of-place.ensures in
    let word : c.pool_word_of-pool_word.result ≡ pool_word (size (origin_in me.seat.me.0)) (number_in me.seat.me.0) c.args.slot = at ∙ ap₂ (λ x y. pool_word x y c.args.slot) (sym me.own.2) (sym me.own.1) in
    let told = c.store.ensures.2 c.args.slot may.slot word in let e : Entry = told.0 in
    let home : Option ℕ = told.1 in let now = told.2 in let stands = told.3 in let pends = over_pends me.seat.me.0 c.args.slot e home me.own.0 in
    let out : c.store.new.seat.me.1 ≡ (pool_place me.member c.args.slot, lies e home) ∷ me.seat.me.1 = ap (λ x. x.1) now ∙ ap (λ k. (pool_place k c.args.slot, lies e home) ∷ me.seat.me.1) me.own.1 in
    let freed = after_freeing (over c.args.slot e home) me.seat.me.0 c.store.new.seat.me.0 me.member me.members c.args.slot e pends.0 me.held.items me.own me.room.0 me.holds me.few.0 may.slot stands pends.1 (ap (λ x. x.0) now) pends.2 pends.3 in
    let exch = c.exchange-parcel.ensures in let same = ap (λ x. x.0) exch.3 in
    let got : c.exchange-parcel.result ≡ lies e home = sym (same_out c.store.new.seat.me.1 c.pool_place_of-place.result (lies e home) c.exchange-parcel.result (out ∙ ap₂ (λ k l. (k, lies e home) ∷ l) (sym place) (sym (ap (λ l. rest l) out))) exch.2) in
    let is = same_change (record { entry = e; home = home }) c.unpacked.result (sym got ∙ c.unpacked.ensures) in subst (λ (x : Change). MatchOption x.home (In (loads.Slot me.member c.args.slot words.Failed) (view_in me.seat.me.0).looked) (λ h. In (loads.Slot me.member c.args.slot (words.Done h)) (view_in me.seat.me.0).looked)) is
    (subst (λ j. MatchOption home (In (loads.Slot j c.args.slot words.Failed) (view_in me.seat.me.0).looked) (λ h. In (loads.Slot j c.args.slot (words.Done h)) (view_in me.seat.me.0).looked)) me.own.1 told.4)

pub returns-clause-view : goal.returns-clause-view
returns-clause-view c = let me = c.args.self.now in let at = c.pool_word_of-pool_word.ensures in let may = c.requires.may in let place = c.pool_place_of-place.ensures in
    let word : c.pool_word_of-pool_word.result ≡ pool_word (size (origin_in me.seat.me.0)) (number_in me.seat.me.0) c.args.slot = at ∙ ap₂ (λ x y. pool_word x y c.args.slot) (sym me.own.2) (sym me.own.1) in
    let told = c.store.ensures.2 c.args.slot may.slot word in let e : Entry = told.0 in
    let home : Option ℕ = told.1 in let now = told.2 in let stands = told.3 in let pends = over_pends me.seat.me.0 c.args.slot e home me.own.0 in
    let out : c.store.new.seat.me.1 ≡ (pool_place me.member c.args.slot, lies e home) ∷ me.seat.me.1 = ap (λ x. x.1) now ∙ ap (λ k. (pool_place k c.args.slot, lies e home) ∷ me.seat.me.1) me.own.1 in
    let freed = after_freeing (over c.args.slot e home) me.seat.me.0 c.store.new.seat.me.0 me.member me.members c.args.slot e pends.0 me.held.items me.own me.room.0 me.holds me.few.0 may.slot stands pends.1 (ap (λ x. x.0) now) pends.2 pends.3 in
    let exch = c.exchange-parcel.ensures in let same = ap (λ x. x.0) exch.3 in
    let got : c.exchange-parcel.result ≡ lies e home = sym (same_out c.store.new.seat.me.1 c.pool_place_of-place.result (lies e home) c.exchange-parcel.result (out ∙ ap₂ (λ k l. (k, lies e home) ∷ l) (sym place) (sym (ap (λ l. rest l) out))) exch.2) in
    let is = same_change (record { entry = e; home = home }) c.unpacked.result (sym got ∙ c.unpacked.ensures) in subst (λ (x : Change). MatchOption x.home (TidiedIn (place_of (origin_in me.seat.me.0)) me.member (after_give_up x.entry (view_in me.seat.me.0)) (view_in c.exchange-parcel.new.seat.me.0)) (λ h. TidiedIn (place_of (origin_in me.seat.me.0)) me.member (after_finish x.entry h (view_in me.seat.me.0)) (view_in c.exchange-parcel.new.seat.me.0))) is
    (subst (λ d. MatchOption home (TidiedIn (place_of (origin_in me.seat.me.0)) me.member (after_give_up e (view_in me.seat.me.0)) (view_in d)) (λ h. TidiedIn (place_of (origin_in me.seat.me.0)) me.member (after_finish e h (view_in me.seat.me.0)) (view_in d))) (sym same)
    (subst (λ j. MatchOption home (TidiedIn (place_of (origin_in me.seat.me.0)) j (after_give_up e (view_in me.seat.me.0)) (view_in c.store.new.seat.me.0)) (λ h. TidiedIn (place_of (origin_in me.seat.me.0)) j (after_finish e h (view_in me.seat.me.0)) (view_in c.store.new.seat.me.0))) me.own.1 told.5))

pub returns-clause-home : goal.returns-clause-home
returns-clause-home c = let me = c.args.self.now in let at = c.pool_word_of-pool_word.ensures in let may = c.requires.may in let place = c.pool_place_of-place.ensures in
    let word : c.pool_word_of-pool_word.result ≡ pool_word (size (origin_in me.seat.me.0)) (number_in me.seat.me.0) c.args.slot = at ∙ ap₂ (λ x y. pool_word x y c.args.slot) (sym me.own.2) (sym me.own.1) in
    let told = c.store.ensures.2 c.args.slot may.slot word in let e : Entry = told.0 in
    let home : Option ℕ = told.1 in let now = told.2 in let stands = told.3 in let pends = over_pends me.seat.me.0 c.args.slot e home me.own.0 in
    let out : c.store.new.seat.me.1 ≡ (pool_place me.member c.args.slot, lies e home) ∷ me.seat.me.1 = ap (λ x. x.1) now ∙ ap (λ k. (pool_place k c.args.slot, lies e home) ∷ me.seat.me.1) me.own.1 in
    let freed = after_freeing (over c.args.slot e home) me.seat.me.0 c.store.new.seat.me.0 me.member me.members c.args.slot e pends.0 me.held.items me.own me.room.0 me.holds me.few.0 may.slot stands pends.1 (ap (λ x. x.0) now) pends.2 pends.3 in
    let exch = c.exchange-parcel.ensures in let same = ap (λ x. x.0) exch.3 in
    let got : c.exchange-parcel.result ≡ lies e home = sym (same_out c.store.new.seat.me.1 c.pool_place_of-place.result (lies e home) c.exchange-parcel.result (out ∙ ap₂ (λ k l. (k, lies e home) ∷ l) (sym place) (sym (ap (λ l. rest l) out))) exch.2) in
    let is = same_change (record { entry = e; home = home }) c.unpacked.result (sym got ∙ c.unpacked.ensures) in subst (λ (x : Change). IfSome x.home (IsHome (place_of (origin_in me.seat.me.0)) me.member (view_in me.seat.me.0) x.entry)) is
    (subst (λ j. IfSome home (IsHome (place_of (origin_in me.seat.me.0)) j (view_in me.seat.me.0) e)) me.own.1 told.6)

pub returns-clause-made : goal.returns-clause-made
returns-clause-made c = let me = c.args.self.now in let at = c.pool_word_of-pool_word.ensures in let may = c.requires.may in let place = c.pool_place_of-place.ensures in
    let word : c.pool_word_of-pool_word.result ≡ pool_word (size (origin_in me.seat.me.0)) (number_in me.seat.me.0) c.args.slot = at ∙ ap₂ (λ x y. pool_word x y c.args.slot) (sym me.own.2) (sym me.own.1) in
    let told = c.store.ensures.2 c.args.slot may.slot word in let e : Entry = told.0 in
    let home : Option ℕ = told.1 in let now = told.2 in let stands = told.3 in let pends = over_pends me.seat.me.0 c.args.slot e home me.own.0 in
    let out : c.store.new.seat.me.1 ≡ (pool_place me.member c.args.slot, lies e home) ∷ me.seat.me.1 = ap (λ x. x.1) now ∙ ap (λ k. (pool_place k c.args.slot, lies e home) ∷ me.seat.me.1) me.own.1 in
    let freed = after_freeing (over c.args.slot e home) me.seat.me.0 c.store.new.seat.me.0 me.member me.members c.args.slot e pends.0 me.held.items me.own me.room.0 me.holds me.few.0 may.slot stands pends.1 (ap (λ x. x.0) now) pends.2 pends.3 in
    let exch = c.exchange-parcel.ensures in let same = ap (λ x. x.0) exch.3 in
    let got : c.exchange-parcel.result ≡ lies e home = sym (same_out c.store.new.seat.me.1 c.pool_place_of-place.result (lies e home) c.exchange-parcel.result (out ∙ ap₂ (λ k l. (k, lies e home) ∷ l) (sym place) (sym (ap (λ l. rest l) out))) exch.2) in
    trails.trail_did (over c.args.slot e home) me.seat.me.0 c.exchange-parcel.new.seat.me.0 me.own.0 (same ∙ ap (λ x. x.0) now) ∙ ap (λ k. step_with k (view_in c.exchange-parcel.new.seat.me.0) ∷ trail_in me.seat.me.0) (trails.over_kind c.args.slot e home)
