use Rattle.std.proofs.Common.{◌≡◌, ℕ, ◌*◌, ◌<◌, sym, ap, ap₂, refl, ◌∙◌, subst, arith, length, ◌∷◌, None}
use Rattle.atomic_table.specs.Table.{rest}
use Rattle.log_entry.specs.declared.entry.Entry.{Entry}
use Rattle.log_entry.specs.Spelling.{words_of, HasSpelling}
use Rattle.group_board.specs.Views.{after_take}
use Rattle.group_board.specs.Assurances.{IsUnlogged}
use Rattle.group_board.specs.Conditions.{MayTake}
use Rattle.atomic_board.specs.TableWords.{pool_word, pool_place}
use Rattle.atomic_board.specs.Deeds.{place_of}
use Rattle.atomic_board.specs.ShownState.{lies}
use Rattle.atomic_board.specs.SlotsOut.{numbers, all_empty, distinct, Holds}
use Rattle.atomic_board.specs.StepTells.{view_in, origin_in}
use Rattle.atomic_board.proofs.OwedLeading.{take_owes}
use Rattle.group_board.specs.declared.change.Change.{Change}
use Rattle.atomic_board.proofs.SeatMoves.{IsSeat, after_taking}
use Rattle.atomic_board.proofs.SlotsHeld.{same_out, same_change}
use Rattle.atomic_board.proofs.member_seat.MemberSeat.take.Goals as goal
use Rattle.atomic_board.specs.declared.seat_data.Deed.TheVariants as deeds
use Rattle.group_laws.specs.Runs as runs
use Rattle.atomic_board.proofs.Trails as trails

pub store-requires : goal.store-requires
store-requires c = let me = c.args.self.now in let at = c.pool_word_of-pool_word.ensures in let may = c.requires.may in (
  c.requires.table,
  (let w = ap (λ z. z.words) (sym c.requires.table) in let v = me.wide in let l = subst (λ n. c.args.member < n) me.own.2 may.target in let s = may.slot in let z : ℕ = me.members * me.members in omega (arith, w, v, at, l, s)),
  take_owes _ _ _ _ me.own.0 _ c.args.member c.args.slot (at ∙ ap (λ n. pool_word n c.args.member c.args.slot) (sym me.own.2)) (subst (λ j. MayTake (place_of (origin_in me.seat.me.0)) j (view_in me.seat.me.0) c.args.member c.args.slot) (sym me.own.1) may),
)

pub exchange-parcel-requires : goal.exchange-parcel-requires
exchange-parcel-requires c = let me = c.args.self.now in let at = c.pool_word_of-pool_word.ensures in let may = c.requires.may in
    let told = c.store.ensures.2 c.args.member c.args.slot may.slot (at ∙ ap (λ n. pool_word n c.args.member c.args.slot) (sym me.own.2)) in
    let e : Entry = told.0 in let out = ap (λ x. x.1) told.1 in let place = c.pool_place_of-place.ensures in
    (c.store.ensures.0 ∙ c.requires.table, (lies e None, out ∙ ap₂ (λ k l. (k, lies e None) ∷ l) (sym place) (sym (ap (λ l. rest l) out))))

pub push_front_reserved-requires : goal.push_front_reserved-requires
push_front_reserved-requires c = let me = c.args.self.now in let at = c.pool_word_of-pool_word.ensures in let may = c.requires.may in
    let told = c.store.ensures.2 c.args.member c.args.slot may.slot (at ∙ ap (λ n. pool_word n c.args.member c.args.slot) (sym me.own.2)) in
    let e : Entry = told.0 in let out = ap (λ x. x.1) told.1 in let place = c.pool_place_of-place.ensures in
    let took = after_taking me.seat.me.0 c.store.new.seat.me.0 me.member me.members c.args.member c.args.slot e me.held.items me.own me.room.0 me.holds me.few.0 (subst (λ n. c.args.member < n) me.own.2 may.target) may.slot told.2 (ap (λ x. x.0) told.1) in
    let fits = took.fits in let few = me.few.1 in let room = me.room.1 in omega (arith, fits, few, room)

pub invariant_of-self : goal.invariant_of-self
invariant_of-self c = let me = c.args.self.now in let at = c.pool_word_of-pool_word.ensures in let may = c.requires.may in
    let told = c.store.ensures.2 c.args.member c.args.slot may.slot (at ∙ ap (λ n. pool_word n c.args.member c.args.slot) (sym me.own.2)) in
    let e : Entry = told.0 in let out = ap (λ x. x.1) told.1 in let place = c.pool_place_of-place.ensures in
    let took = after_taking me.seat.me.0 c.store.new.seat.me.0 me.member me.members c.args.member c.args.slot e me.held.items me.own me.room.0 me.holds me.few.0 (subst (λ n. c.args.member < n) me.own.2 may.target) may.slot told.2 (ap (λ x. x.0) told.1) in
    let exch = c.exchange-parcel.ensures in let same = ap (λ x. x.0) exch.3 in
    let got : c.exchange-parcel.result ≡ lies e None = sym (same_out c.store.new.seat.me.1 c.pool_place_of-place.result (lies e None) c.exchange-parcel.result (out ∙ ap₂ (λ k l. (k, lies e None) ∷ l) (sym place) (sym (ap (λ l. rest l) out))) exch.2) in
    let items = c.push_front_reserved.ensures.items ∙ ap (λ k. k ∷ me.held.items) place in let list = ap (λ x. x.1) exch.3 ∙ ap₂ (λ k l. (k, None) ∷ l) place (ap (λ l. rest l) out) in record {
      few = me.few;
      wide = ap (λ z. z.words) (exch.0 ∙ c.store.ensures.0) ∙ me.wide;
      own = subst (λ d. IsSeat d me.member me.members) (sym same) took.now.own;
      order = (ap (λ l. numbers l) list ∙ (ap (λ l. pool_place c.args.member c.args.slot ∷ l) me.order.0 ∙ sym items), ap (λ l. all_empty l) list ∙ me.order.1);
      room = (ap distinct items ∙ took.fresh, let cap = c.push_front_reserved.ensures.capacity in let room = me.room.1 in omega (arith, cap, room));
      holds = subst (λ d. Holds (place_of (origin_in d)) me.member me.members (view_in d).pending (view_in d).taken c.push_front_reserved.new.self.items) (sym same) (subst (λ l. Holds (place_of (origin_in c.store.new.seat.me.0)) me.member me.members (view_in c.store.new.seat.me.0).pending (view_in c.store.new.seat.me.0).taken l) (sym items) took.holds);
    }

pub unpacked-requires : goal.unpacked-requires
unpacked-requires c = let me = c.args.self.now in let at = c.pool_word_of-pool_word.ensures in let may = c.requires.may in
    let told = c.store.ensures.2 c.args.member c.args.slot may.slot (at ∙ ap (λ n. pool_word n c.args.member c.args.slot) (sym me.own.2)) in
    let e : Entry = told.0 in let out = ap (λ x. x.1) told.1 in let place = c.pool_place_of-place.ensures in
    let exch = c.exchange-parcel.ensures in let same = ap (λ x. x.0) exch.3 in
    let got : c.exchange-parcel.result ≡ lies e None = sym (same_out c.store.new.seat.me.1 c.pool_place_of-place.result (lies e None) c.exchange-parcel.result (out ∙ ap₂ (λ k l. (k, lies e None) ∷ l) (sym place) (sym (ap (λ l. rest l) out))) exch.2) in
    (record { entry = e; home = None }, got)

pub returns-clause-same : goal.returns-clause-same
returns-clause-same c = let me = c.args.self.now in let at = c.pool_word_of-pool_word.ensures in let may = c.requires.may in
    let told = c.store.ensures.2 c.args.member c.args.slot may.slot (at ∙ ap (λ n. pool_word n c.args.member c.args.slot) (sym me.own.2)) in
    let e : Entry = told.0 in let out = ap (λ x. x.1) told.1 in let place = c.pool_place_of-place.ensures in
    let took = after_taking me.seat.me.0 c.store.new.seat.me.0 me.member me.members c.args.member c.args.slot e me.held.items me.own me.room.0 me.holds me.few.0 (subst (λ n. c.args.member < n) me.own.2 may.target) may.slot told.2 (ap (λ x. x.0) told.1) in
    let exch = c.exchange-parcel.ensures in let same = ap (λ x. x.0) exch.3 in
    let got : c.exchange-parcel.result ≡ lies e None = sym (same_out c.store.new.seat.me.1 c.pool_place_of-place.result (lies e None) c.exchange-parcel.result (out ∙ ap₂ (λ k l. (k, lies e None) ∷ l) (sym place) (sym (ap (λ l. rest l) out))) exch.2) in
    (exch.0 ∙ c.store.ensures.0, refl, refl, ap (λ d. origin_in d) same ∙ took.now.base)

pub returns-clause-change : goal.returns-clause-change
returns-clause-change c = let me = c.args.self.now in let at = c.pool_word_of-pool_word.ensures in let may = c.requires.may in
    let told = c.store.ensures.2 c.args.member c.args.slot may.slot (at ∙ ap (λ n. pool_word n c.args.member c.args.slot) (sym me.own.2)) in
    let e : Entry = told.0 in let out = ap (λ x. x.1) told.1 in let place = c.pool_place_of-place.ensures in
    let exch = c.exchange-parcel.ensures in let same = ap (λ x. x.0) exch.3 in
    let got : c.exchange-parcel.result ≡ lies e None = sym (same_out c.store.new.seat.me.1 c.pool_place_of-place.result (lies e None) c.exchange-parcel.result (out ∙ ap₂ (λ k l. (k, lies e None) ∷ l) (sym place) (sym (ap (λ l. rest l) out))) exch.2) in
    let is = same_change (record { entry = e; home = None }) c.unpacked.result (sym got ∙ c.unpacked.ensures) in sym (ap (λ (x : Change). x.home) is)

pub returns-clause-words : goal.returns-clause-words
returns-clause-words c = let me = c.args.self.now in let at = c.pool_word_of-pool_word.ensures in let may = c.requires.may in
    let told = c.store.ensures.2 c.args.member c.args.slot may.slot (at ∙ ap (λ n. pool_word n c.args.member c.args.slot) (sym me.own.2)) in
    let e : Entry = told.0 in let out = ap (λ x. x.1) told.1 in let place = c.pool_place_of-place.ensures in
    let exch = c.exchange-parcel.ensures in let same = ap (λ x. x.0) exch.3 in
    let got : c.exchange-parcel.result ≡ lies e None = sym (same_out c.store.new.seat.me.1 c.pool_place_of-place.result (lies e None) c.exchange-parcel.result (out ∙ ap₂ (λ k l. (k, lies e None) ∷ l) (sym place) (sym (ap (λ l. rest l) out))) exch.2) in
    let is = same_change (record { entry = e; home = None }) c.unpacked.result (sym got ∙ c.unpacked.ensures) in λ n seen. ap (λ (x : Change). length (words_of x.entry)) (sym is) ∙ told.3 n seen

pub returns-clause-view : goal.returns-clause-view
returns-clause-view c = let me = c.args.self.now in let at = c.pool_word_of-pool_word.ensures in let may = c.requires.may in
    let told = c.store.ensures.2 c.args.member c.args.slot may.slot (at ∙ ap (λ n. pool_word n c.args.member c.args.slot) (sym me.own.2)) in
    let e : Entry = told.0 in let out = ap (λ x. x.1) told.1 in let place = c.pool_place_of-place.ensures in
    let took = after_taking me.seat.me.0 c.store.new.seat.me.0 me.member me.members c.args.member c.args.slot e me.held.items me.own me.room.0 me.holds me.few.0 (subst (λ n. c.args.member < n) me.own.2 may.target) may.slot told.2 (ap (λ x. x.0) told.1) in
    let exch = c.exchange-parcel.ensures in let same = ap (λ x. x.0) exch.3 in
    let got : c.exchange-parcel.result ≡ lies e None = sym (same_out c.store.new.seat.me.1 c.pool_place_of-place.result (lies e None) c.exchange-parcel.result (out ∙ ap₂ (λ k l. (k, lies e None) ∷ l) (sym place) (sym (ap (λ l. rest l) out))) exch.2) in
    let is = same_change (record { entry = e; home = None }) c.unpacked.result (sym got ∙ c.unpacked.ensures) in ap (λ d. view_in d) same ∙ (took.now.view ∙ ap (λ (x : Change). after_take c.args.member c.args.slot x.entry (view_in me.seat.me.0)) is)

pub returns-clause-spelled : goal.returns-clause-spelled
returns-clause-spelled c = let me = c.args.self.now in let at = c.pool_word_of-pool_word.ensures in let may = c.requires.may in
    let told = c.store.ensures.2 c.args.member c.args.slot may.slot (at ∙ ap (λ n. pool_word n c.args.member c.args.slot) (sym me.own.2)) in
    let e : Entry = told.0 in let out = ap (λ x. x.1) told.1 in let place = c.pool_place_of-place.ensures in
    let exch = c.exchange-parcel.ensures in let same = ap (λ x. x.0) exch.3 in
    let got : c.exchange-parcel.result ≡ lies e None = sym (same_out c.store.new.seat.me.1 c.pool_place_of-place.result (lies e None) c.exchange-parcel.result (out ∙ ap₂ (λ k l. (k, lies e None) ∷ l) (sym place) (sym (ap (λ l. rest l) out))) exch.2) in
    let is = same_change (record { entry = e; home = None }) c.unpacked.result (sym got ∙ c.unpacked.ensures) in subst (λ (x : Change). HasSpelling x.entry) is told.4

pub returns-clause-unlogged : goal.returns-clause-unlogged
returns-clause-unlogged c = let me = c.args.self.now in let at = c.pool_word_of-pool_word.ensures in let may = c.requires.may in
    let told = c.store.ensures.2 c.args.member c.args.slot may.slot (at ∙ ap (λ n. pool_word n c.args.member c.args.slot) (sym me.own.2)) in
    let e : Entry = told.0 in let out = ap (λ x. x.1) told.1 in let place = c.pool_place_of-place.ensures in
    let exch = c.exchange-parcel.ensures in let same = ap (λ x. x.0) exch.3 in
    let got : c.exchange-parcel.result ≡ lies e None = sym (same_out c.store.new.seat.me.1 c.pool_place_of-place.result (lies e None) c.exchange-parcel.result (out ∙ ap₂ (λ k l. (k, lies e None) ∷ l) (sym place) (sym (ap (λ l. rest l) out))) exch.2) in
    let is = same_change (record { entry = e; home = None }) c.unpacked.result (sym got ∙ c.unpacked.ensures) in subst (λ (x : Change). IsUnlogged me.member c.args.member c.args.slot (view_in me.seat.me.0) x.entry) is (subst (λ (j : ℕ). IsUnlogged j c.args.member c.args.slot (view_in me.seat.me.0) e) me.own.1 told.5)

pub returns-clause-made : goal.returns-clause-made
returns-clause-made c = let me = c.args.self.now in let at = c.pool_word_of-pool_word.ensures in let may = c.requires.may in
    let told = c.store.ensures.2 c.args.member c.args.slot may.slot (at ∙ ap (λ n. pool_word n c.args.member c.args.slot) (sym me.own.2)) in
    let e : Entry = told.0 in let out = ap (λ x. x.1) told.1 in let place = c.pool_place_of-place.ensures in
    let took = after_taking me.seat.me.0 c.store.new.seat.me.0 me.member me.members c.args.member c.args.slot e me.held.items me.own me.room.0 me.holds me.few.0 (subst (λ n. c.args.member < n) me.own.2 may.target) may.slot told.2 (ap (λ x. x.0) told.1) in
    let exch = c.exchange-parcel.ensures in let same = ap (λ x. x.0) exch.3 in
    let got : c.exchange-parcel.result ≡ lies e None = sym (same_out c.store.new.seat.me.1 c.pool_place_of-place.result (lies e None) c.exchange-parcel.result (out ∙ ap₂ (λ k l. (k, lies e None) ∷ l) (sym place) (sym (ap (λ l. rest l) out))) exch.2) in
    trails.trail_did (deeds.Take c.args.member c.args.slot e) me.seat.me.0 c.exchange-parcel.new.seat.me.0 me.own.0 (same ∙ ap (λ x. x.0) told.1)
