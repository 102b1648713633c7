use Rattle.std.proofs.Common.{◌≡◌, ◌<◌, sym, ap, ap₂, refl, ◌∙◌, subst, arith, true, false, ◌∷◌, Some, None}
use Rattle.atomic_table.specs.Table.{rest}
use Rattle.group_laws.specs.declared.types.Seen.TheVariants as loads
use Rattle.group_board.specs.declared.names.Notices.{Notices}
use Rattle.group_board.specs.Mailing.{notices_of}
use Rattle.group_board.specs.Views.{after_find, after_receive, TidiedIn}
use Rattle.atomic_board.specs.declared.parcel.Parcel.TheVariants as parcels
use Rattle.atomic_board.specs.declared.seat_data.Deed.TheVariants.{Found, Receive}
use Rattle.atomic_board.specs.TableWords.{pool_place, mail_word, mail_place}
use Rattle.atomic_board.specs.Deeds.{place_of, size}
use Rattle.atomic_board.specs.ShownState.{grip_at}
use Rattle.atomic_board.specs.SlotsOut.{numbers, all_empty}
use Rattle.atomic_board.specs.StepTells.{view_in, number_in, origin_in, did, gripping, trail_in}
use Rattle.atomic_board.proofs.MailboxKept.{mail_low}
use Rattle.atomic_board.proofs.OwedMailing.{try_receive_owes, receive_owes}
use Rattle.atomic_board.proofs.SeatMoves.{IsSeat, calm_found, holds_by, back_same, got_still}
use Rattle.atomic_board.proofs.SlotsHeld.{same_out}
use Rattle.atomic_board.proofs.MailInHand.{fetched, unfetched, same_notices, receive_ready}
use Rattle.atomic_board.proofs.member_seat.MemberSeat.receive.Goals as goal
use Rattle.atomic_board.specs.declared.seat_data.Deed.TheVariants as deeds
use Rattle.group_laws.specs.Runs as runs
use Rattle.group_board.specs.Trails.{step_with}
use Rattle.atomic_board.proofs.Trails as trails

pub load-found-requires : goal.load-found-requires
load-found-requires c = let me = c.args.self.now in let may = c.requires.may in let at = c.mail_word_of-word.ensures in let place = c.mail_place_of-place.ensures in
    let low = subst (λ n. c.args.from < n) me.own.2 may.sender in
    let word : c.mail_word_of-word.result ≡ mail_word (size (origin_in me.seat.me.0)) c.args.from (number_in me.seat.me.0) = at ∙ ap₂ (λ x y. mail_word x c.args.from y) (sym me.own.2) (sym me.own.1) in
    (c.requires.table, (let w = ap (λ z. z.words) (sym c.requires.table) in let v = me.wide in let l = mail_low me.members c.args.from me.member low me.few.0 in omega (arith, w, v, at, l)), try_receive_owes _ _ _ _ me.own.0 _ c.args.from word may.sender me.own.4)

pub invariant_of-self : goal.invariant_of-self
invariant_of-self c = let me = c.args.self.now in let may = c.requires.may in let at = c.mail_word_of-word.ensures in let place = c.mail_place_of-place.ensures in
    let low = subst (λ n. c.args.from < n) me.own.2 may.sender in
    let word : c.mail_word_of-word.result ≡ mail_word (size (origin_in me.seat.me.0)) c.args.from (number_in me.seat.me.0) = at ∙ ap₂ (λ x y. mail_word x c.args.from y) (sym me.own.2) (sym me.own.1) in
    let told = unfetched me.seat.me c.load-found.new.seat.me c.args.from c.load-found.result (c.load-found.new.seat.me ≡ (did (Found (loads.Mail c.args.from (number_in me.seat.me.0) false)) me.seat.me.0, me.seat.me.1)) (c.load-found.ensures.2 c.args.from may.sender word) (let z = c.if-found-eq-EMPTY_MAILBOX.true in z) in
    let t = calm_found me.seat.me c.load-found.new.seat.me me.member me.members me.held.items me.own me.order me.holds (loads.Mail c.args.from (number_in me.seat.me.0) false) told in
    record { few = me.few; wide = ap (λ z. z.words) c.load-found.ensures.0 ∙ me.wide; own = t.own; order = t.order; room = me.room; holds = t.holds }

pub returns-then-found-eq-EMPTY_MAILBOX-clause-same : goal.returns-then-found-eq-EMPTY_MAILBOX-clause-same
returns-then-found-eq-EMPTY_MAILBOX-clause-same c = let me = c.args.self.now in let may = c.requires.may in let at = c.mail_word_of-word.ensures in let place = c.mail_place_of-place.ensures in
    let low = subst (λ n. c.args.from < n) me.own.2 may.sender in
    let word : c.mail_word_of-word.result ≡ mail_word (size (origin_in me.seat.me.0)) c.args.from (number_in me.seat.me.0) = at ∙ ap₂ (λ x y. mail_word x c.args.from y) (sym me.own.2) (sym me.own.1) in
    let told = unfetched me.seat.me c.load-found.new.seat.me c.args.from c.load-found.result (c.load-found.new.seat.me ≡ (did (Found (loads.Mail c.args.from (number_in me.seat.me.0) false)) me.seat.me.0, me.seat.me.1)) (c.load-found.ensures.2 c.args.from may.sender word) (let z = c.if-found-eq-EMPTY_MAILBOX.true in z) in
    let t = calm_found me.seat.me c.load-found.new.seat.me me.member me.members me.held.items me.own me.order me.holds (loads.Mail c.args.from (number_in me.seat.me.0) false) told in
    (c.load-found.ensures.0, refl, refl, t.base)

pub returns-then-found-eq-EMPTY_MAILBOX-clause-view : goal.returns-then-found-eq-EMPTY_MAILBOX-clause-view
returns-then-found-eq-EMPTY_MAILBOX-clause-view c = let me = c.args.self.now in let may = c.requires.may in let at = c.mail_word_of-word.ensures in let place = c.mail_place_of-place.ensures in
    let low = subst (λ n. c.args.from < n) me.own.2 may.sender in
    let word : c.mail_word_of-word.result ≡ mail_word (size (origin_in me.seat.me.0)) c.args.from (number_in me.seat.me.0) = at ∙ ap₂ (λ x y. mail_word x c.args.from y) (sym me.own.2) (sym me.own.1) in
    let told = unfetched me.seat.me c.load-found.new.seat.me c.args.from c.load-found.result (c.load-found.new.seat.me ≡ (did (Found (loads.Mail c.args.from (number_in me.seat.me.0) false)) me.seat.me.0, me.seat.me.1)) (c.load-found.ensures.2 c.args.from may.sender word) (let z = c.if-found-eq-EMPTY_MAILBOX.true in z) in
    let t = calm_found me.seat.me c.load-found.new.seat.me me.member me.members me.held.items me.own me.order me.holds (loads.Mail c.args.from (number_in me.seat.me.0) false) told in
    t.view ∙ ap (λ j. after_find (loads.Mail c.args.from j false) (view_in me.seat.me.0)) me.own.1

pub exchange-parcel-requires : goal.exchange-parcel-requires
exchange-parcel-requires c = let me = c.args.self.now in let may = c.requires.may in let at = c.mail_word_of-word.ensures in let place = c.mail_place_of-place.ensures in
    let low = subst (λ n. c.args.from < n) me.own.2 may.sender in
    let word : c.mail_word_of-word.result ≡ mail_word (size (origin_in me.seat.me.0)) c.args.from (number_in me.seat.me.0) = at ∙ ap₂ (λ x y. mail_word x c.args.from y) (sym me.own.2) (sym me.own.1) in
    let got = fetched me.seat.me c.load-found.new.seat.me c.args.from c.load-found.result (c.load-found.new.seat.me ≡ (did (Found (loads.Mail c.args.from (number_in me.seat.me.0) false)) me.seat.me.0, me.seat.me.1)) (c.load-found.ensures.2 c.args.from may.sender word) c.if-found-eq-EMPTY_MAILBOX.false in let n : Notices = got.0 in let told = got.1 in
    let spot : c.mail_place_of-place.result ≡ mail_place (size (origin_in me.seat.me.0)) c.args.from (number_in me.seat.me.0) = place ∙ ap₂ (λ x y. mail_place x c.args.from y) (sym me.own.2) (sym me.own.1) in
    let out : c.load-found.new.seat.me.1 ≡ (c.mail_place_of-place.result, Some (parcels.Notices n)) ∷ me.seat.me.1 = ap (λ x. x.1) told ∙ ap (λ k. (k, Some (parcels.Notices n)) ∷ me.seat.me.1) (sym spot) in
    let outs = out ∙ ap (λ l. (c.mail_place_of-place.result, Some (parcels.Notices n)) ∷ l) (sym (ap (λ l. rest l) out)) in
    (c.load-found.ensures.0 ∙ c.requires.table, (Some (parcels.Notices n), outs))

pub store-requires : goal.store-requires
store-requires c = let me = c.args.self.now in let may = c.requires.may in let at = c.mail_word_of-word.ensures in let place = c.mail_place_of-place.ensures in
    let low = subst (λ n. c.args.from < n) me.own.2 may.sender in
    let word : c.mail_word_of-word.result ≡ mail_word (size (origin_in me.seat.me.0)) c.args.from (number_in me.seat.me.0) = at ∙ ap₂ (λ x y. mail_word x c.args.from y) (sym me.own.2) (sym me.own.1) in
    let got = fetched me.seat.me c.load-found.new.seat.me c.args.from c.load-found.result (c.load-found.new.seat.me ≡ (did (Found (loads.Mail c.args.from (number_in me.seat.me.0) false)) me.seat.me.0, me.seat.me.1)) (c.load-found.ensures.2 c.args.from may.sender word) c.if-found-eq-EMPTY_MAILBOX.false in let n : Notices = got.0 in let told = got.1 in
    let spot : c.mail_place_of-place.result ≡ mail_place (size (origin_in me.seat.me.0)) c.args.from (number_in me.seat.me.0) = place ∙ ap₂ (λ x y. mail_place x c.args.from y) (sym me.own.2) (sym me.own.1) in
    let out : c.load-found.new.seat.me.1 ≡ (c.mail_place_of-place.result, Some (parcels.Notices n)) ∷ me.seat.me.1 = ap (λ x. x.1) told ∙ ap (λ k. (k, Some (parcels.Notices n)) ∷ me.seat.me.1) (sym spot) in
    let outs = out ∙ ap (λ l. (c.mail_place_of-place.result, Some (parcels.Notices n)) ∷ l) (sym (ap (λ l. rest l) out)) in
    let exch = c.exchange-parcel.ensures in let mine = ap (λ x. x.0) exch.3 ∙ ap (λ x. x.0) told in
    let ready = receive_ready me.seat.me.0 c.args.from n.dead.names n.gone.names me.own.0 c.exchange-parcel.new.seat.me.0 mine in
    let list : c.exchange-parcel.new.seat.me.1 ≡ (mail_place (size (origin_in c.exchange-parcel.new.seat.me.0)) c.args.from (number_in c.exchange-parcel.new.seat.me.0), None) ∷ me.seat.me.1 =
    ap (λ x. x.1) exch.3 ∙ ap₂ (λ k l. (k, None) ∷ l) (spot ∙ ap₂ (λ x y. mail_place x c.args.from y) (sym (ap size ready.base)) (sym ready.number)) (ap (λ l. rest l) out) in
    let there : c.mail_word_of-word.result ≡ mail_word (size (origin_in c.exchange-parcel.new.seat.me.0)) c.args.from (number_in c.exchange-parcel.new.seat.me.0) = word ∙ ap₂ (λ x y. mail_word x c.args.from y) (sym (ap size ready.base)) (sym ready.number) in
    (exch.0 ∙ (c.load-found.ensures.0 ∙ c.requires.table), (let w = ap (λ z. z.words) (sym c.requires.table) in let v = me.wide in let l = mail_low me.members c.args.from me.member low me.few.0 in omega (arith, w, v, at, l)), receive_owes _ _ _ _ ready.own _ c.args.from me.seat.me.1 there list (subst (λ k. c.args.from < k) (sym (ap size ready.base)) may.sender) ready.saw ready.hand)

pub invariant_of-self-2 : goal.invariant_of-self-2
invariant_of-self-2 c = let me = c.args.self.now in let may = c.requires.may in let at = c.mail_word_of-word.ensures in let place = c.mail_place_of-place.ensures in
    let low = subst (λ n. c.args.from < n) me.own.2 may.sender in
    let word : c.mail_word_of-word.result ≡ mail_word (size (origin_in me.seat.me.0)) c.args.from (number_in me.seat.me.0) = at ∙ ap₂ (λ x y. mail_word x c.args.from y) (sym me.own.2) (sym me.own.1) in
    let got = fetched me.seat.me c.load-found.new.seat.me c.args.from c.load-found.result (c.load-found.new.seat.me ≡ (did (Found (loads.Mail c.args.from (number_in me.seat.me.0) false)) me.seat.me.0, me.seat.me.1)) (c.load-found.ensures.2 c.args.from may.sender word) c.if-found-eq-EMPTY_MAILBOX.false in let n : Notices = got.0 in let told = got.1 in
    let spot : c.mail_place_of-place.result ≡ mail_place (size (origin_in me.seat.me.0)) c.args.from (number_in me.seat.me.0) = place ∙ ap₂ (λ x y. mail_place x c.args.from y) (sym me.own.2) (sym me.own.1) in
    let out : c.load-found.new.seat.me.1 ≡ (c.mail_place_of-place.result, Some (parcels.Notices n)) ∷ me.seat.me.1 = ap (λ x. x.1) told ∙ ap (λ k. (k, Some (parcels.Notices n)) ∷ me.seat.me.1) (sym spot) in
    let outs = out ∙ ap (λ l. (c.mail_place_of-place.result, Some (parcels.Notices n)) ∷ l) (sym (ap (λ l. rest l) out)) in
    let exch = c.exchange-parcel.ensures in let mine = ap (λ x. x.0) exch.3 ∙ ap (λ x. x.0) told in
    let ready = receive_ready me.seat.me.0 c.args.from n.dead.names n.gone.names me.own.0 c.exchange-parcel.new.seat.me.0 mine in
    let list : c.exchange-parcel.new.seat.me.1 ≡ (mail_place (size (origin_in c.exchange-parcel.new.seat.me.0)) c.args.from (number_in c.exchange-parcel.new.seat.me.0), None) ∷ me.seat.me.1 =
    ap (λ x. x.1) exch.3 ∙ ap₂ (λ k l. (k, None) ∷ l) (spot ∙ ap₂ (λ x y. mail_place x c.args.from y) (sym (ap size ready.base)) (sym ready.number)) (ap (λ l. rest l) out) in
    let there : c.mail_word_of-word.result ≡ mail_word (size (origin_in c.exchange-parcel.new.seat.me.0)) c.args.from (number_in c.exchange-parcel.new.seat.me.0) = word ∙ ap₂ (λ x y. mail_word x c.args.from y) (sym (ap size ready.base)) (sym ready.number) in
    let done = c.store.ensures.2 c.args.from there in let deed = Receive c.args.from n.dead.names n.gone.names in let g = grip_at (pool_place c.args.from (number_in me.seat.me.0)) n.dead.names n.gone.names in let x = loads.Mail c.args.from (number_in me.seat.me.0) true in
    let final = ap (λ z. z.0) done.0 ∙ (ap (λ z. gripping None (did (Receive c.args.from z.dead z.gone) c.exchange-parcel.new.seat.me.0)) ready.notices ∙ ap (λ d. gripping None (did deed d)) mine) in let back = back_same deed g x me.seat.me.0 me.member me.members me.own in
    let still = got_still c.args.from n.dead.names n.gone.names g x me.seat.me.0 me.own.0 in let left = ap (λ z. z.1) done.0 ∙ ap (λ l. rest l) list in
    record {
      few = me.few;
      wide = ap (λ z. z.words) (c.store.ensures.0 ∙ (exch.0 ∙ c.load-found.ensures.0)) ∙ me.wide;
      own = subst (λ d. IsSeat d me.member me.members) (sym final) back.0;
      order = (ap (λ l. numbers l) left ∙ me.order.0, ap (λ l. all_empty l) left ∙ me.order.1);
      room = me.room;
      holds = holds_by (place_of (origin_in me.seat.me.0)) (place_of (origin_in c.store.new.seat.me.0)) me.member me.members (view_in me.seat.me.0).pending (view_in c.store.new.seat.me.0).pending (view_in me.seat.me.0).taken (view_in c.store.new.seat.me.0).taken me.held.items me.held.items
          (ap (λ d. place_of (origin_in d)) final ∙ ap place_of back.1) (ap (λ d. (view_in d).pending) final ∙ still.0) (ap (λ d. (view_in d).taken) final ∙ still.1) refl me.holds;
    }

pub opened-requires : goal.opened-requires
opened-requires c = let me = c.args.self.now in let may = c.requires.may in let at = c.mail_word_of-word.ensures in let place = c.mail_place_of-place.ensures in
    let low = subst (λ n. c.args.from < n) me.own.2 may.sender in
    let word : c.mail_word_of-word.result ≡ mail_word (size (origin_in me.seat.me.0)) c.args.from (number_in me.seat.me.0) = at ∙ ap₂ (λ x y. mail_word x c.args.from y) (sym me.own.2) (sym me.own.1) in
    let got = fetched me.seat.me c.load-found.new.seat.me c.args.from c.load-found.result (c.load-found.new.seat.me ≡ (did (Found (loads.Mail c.args.from (number_in me.seat.me.0) false)) me.seat.me.0, me.seat.me.1)) (c.load-found.ensures.2 c.args.from may.sender word) c.if-found-eq-EMPTY_MAILBOX.false in let n : Notices = got.0 in let told = got.1 in
    let spot : c.mail_place_of-place.result ≡ mail_place (size (origin_in me.seat.me.0)) c.args.from (number_in me.seat.me.0) = place ∙ ap₂ (λ x y. mail_place x c.args.from y) (sym me.own.2) (sym me.own.1) in
    let out : c.load-found.new.seat.me.1 ≡ (c.mail_place_of-place.result, Some (parcels.Notices n)) ∷ me.seat.me.1 = ap (λ x. x.1) told ∙ ap (λ k. (k, Some (parcels.Notices n)) ∷ me.seat.me.1) (sym spot) in
    let outs = out ∙ ap (λ l. (c.mail_place_of-place.result, Some (parcels.Notices n)) ∷ l) (sym (ap (λ l. rest l) out)) in
    (n, sym (same_out c.load-found.new.seat.me.1 c.mail_place_of-place.result (Some (parcels.Notices n)) c.exchange-parcel.result outs c.exchange-parcel.ensures.2))

pub returns-clause-same : goal.returns-clause-same
returns-clause-same c = let me = c.args.self.now in let may = c.requires.may in let at = c.mail_word_of-word.ensures in let place = c.mail_place_of-place.ensures in
    let low = subst (λ n. c.args.from < n) me.own.2 may.sender in
    let word : c.mail_word_of-word.result ≡ mail_word (size (origin_in me.seat.me.0)) c.args.from (number_in me.seat.me.0) = at ∙ ap₂ (λ x y. mail_word x c.args.from y) (sym me.own.2) (sym me.own.1) in
    let got = fetched me.seat.me c.load-found.new.seat.me c.args.from c.load-found.result (c.load-found.new.seat.me ≡ (did (Found (loads.Mail c.args.from (number_in me.seat.me.0) false)) me.seat.me.0, me.seat.me.1)) (c.load-found.ensures.2 c.args.from may.sender word) c.if-found-eq-EMPTY_MAILBOX.false in let n : Notices = got.0 in let told = got.1 in
    let spot : c.mail_place_of-place.result ≡ mail_place (size (origin_in me.seat.me.0)) c.args.from (number_in me.seat.me.0) = place ∙ ap₂ (λ x y. mail_place x c.args.from y) (sym me.own.2) (sym me.own.1) in
    let out : c.load-found.new.seat.me.1 ≡ (c.mail_place_of-place.result, Some (parcels.Notices n)) ∷ me.seat.me.1 = ap (λ x. x.1) told ∙ ap (λ k. (k, Some (parcels.Notices n)) ∷ me.seat.me.1) (sym spot) in
    let outs = out ∙ ap (λ l. (c.mail_place_of-place.result, Some (parcels.Notices n)) ∷ l) (sym (ap (λ l. rest l) out)) in
    let exch = c.exchange-parcel.ensures in let mine = ap (λ x. x.0) exch.3 ∙ ap (λ x. x.0) told in
    let ready = receive_ready me.seat.me.0 c.args.from n.dead.names n.gone.names me.own.0 c.exchange-parcel.new.seat.me.0 mine in
    let list : c.exchange-parcel.new.seat.me.1 ≡ (mail_place (size (origin_in c.exchange-parcel.new.seat.me.0)) c.args.from (number_in c.exchange-parcel.new.seat.me.0), None) ∷ me.seat.me.1 =
    ap (λ x. x.1) exch.3 ∙ ap₂ (λ k l. (k, None) ∷ l) (spot ∙ ap₂ (λ x y. mail_place x c.args.from y) (sym (ap size ready.base)) (sym ready.number)) (ap (λ l. rest l) out) in
    let there : c.mail_word_of-word.result ≡ mail_word (size (origin_in c.exchange-parcel.new.seat.me.0)) c.args.from (number_in c.exchange-parcel.new.seat.me.0) = word ∙ ap₂ (λ x y. mail_word x c.args.from y) (sym (ap size ready.base)) (sym ready.number) in
    let done = c.store.ensures.2 c.args.from there in let deed = Receive c.args.from n.dead.names n.gone.names in let g = grip_at (pool_place c.args.from (number_in me.seat.me.0)) n.dead.names n.gone.names in let x = loads.Mail c.args.from (number_in me.seat.me.0) true in
    let final = ap (λ z. z.0) done.0 ∙ (ap (λ z. gripping None (did (Receive c.args.from z.dead z.gone) c.exchange-parcel.new.seat.me.0)) ready.notices ∙ ap (λ d. gripping None (did deed d)) mine) in let back = back_same deed g x me.seat.me.0 me.member me.members me.own in
    let still = got_still c.args.from n.dead.names n.gone.names g x me.seat.me.0 me.own.0 in let left = ap (λ z. z.1) done.0 ∙ ap (λ l. rest l) list in
    (c.store.ensures.0 ∙ (exch.0 ∙ c.load-found.ensures.0), refl, refl, ap (λ d. origin_in d) final ∙ back.1)

pub returns-clause-view : goal.returns-clause-view
returns-clause-view c = let me = c.args.self.now in let may = c.requires.may in let at = c.mail_word_of-word.ensures in let place = c.mail_place_of-place.ensures in
    let low = subst (λ n. c.args.from < n) me.own.2 may.sender in
    let word : c.mail_word_of-word.result ≡ mail_word (size (origin_in me.seat.me.0)) c.args.from (number_in me.seat.me.0) = at ∙ ap₂ (λ x y. mail_word x c.args.from y) (sym me.own.2) (sym me.own.1) in
    let got = fetched me.seat.me c.load-found.new.seat.me c.args.from c.load-found.result (c.load-found.new.seat.me ≡ (did (Found (loads.Mail c.args.from (number_in me.seat.me.0) false)) me.seat.me.0, me.seat.me.1)) (c.load-found.ensures.2 c.args.from may.sender word) c.if-found-eq-EMPTY_MAILBOX.false in let n : Notices = got.0 in let told = got.1 in
    let spot : c.mail_place_of-place.result ≡ mail_place (size (origin_in me.seat.me.0)) c.args.from (number_in me.seat.me.0) = place ∙ ap₂ (λ x y. mail_place x c.args.from y) (sym me.own.2) (sym me.own.1) in
    let out : c.load-found.new.seat.me.1 ≡ (c.mail_place_of-place.result, Some (parcels.Notices n)) ∷ me.seat.me.1 = ap (λ x. x.1) told ∙ ap (λ k. (k, Some (parcels.Notices n)) ∷ me.seat.me.1) (sym spot) in
    let outs = out ∙ ap (λ l. (c.mail_place_of-place.result, Some (parcels.Notices n)) ∷ l) (sym (ap (λ l. rest l) out)) in
    let exch = c.exchange-parcel.ensures in let mine = ap (λ x. x.0) exch.3 ∙ ap (λ x. x.0) told in
    let ready = receive_ready me.seat.me.0 c.args.from n.dead.names n.gone.names me.own.0 c.exchange-parcel.new.seat.me.0 mine in
    let list : c.exchange-parcel.new.seat.me.1 ≡ (mail_place (size (origin_in c.exchange-parcel.new.seat.me.0)) c.args.from (number_in c.exchange-parcel.new.seat.me.0), None) ∷ me.seat.me.1 =
    ap (λ x. x.1) exch.3 ∙ ap₂ (λ k l. (k, None) ∷ l) (spot ∙ ap₂ (λ x y. mail_place x c.args.from y) (sym (ap size ready.base)) (sym ready.number)) (ap (λ l. rest l) out) in
    let there : c.mail_word_of-word.result ≡ mail_word (size (origin_in c.exchange-parcel.new.seat.me.0)) c.args.from (number_in c.exchange-parcel.new.seat.me.0) = word ∙ ap₂ (λ x y. mail_word x c.args.from y) (sym (ap size ready.base)) (sym ready.number) in
    let done = c.store.ensures.2 c.args.from there in let deed = Receive c.args.from n.dead.names n.gone.names in let g = grip_at (pool_place c.args.from (number_in me.seat.me.0)) n.dead.names n.gone.names in let x = loads.Mail c.args.from (number_in me.seat.me.0) true in
    let final = ap (λ z. z.0) done.0 ∙ (ap (λ z. gripping None (did (Receive c.args.from z.dead z.gone) c.exchange-parcel.new.seat.me.0)) ready.notices ∙ ap (λ d. gripping None (did deed d)) mine) in let back = back_same deed g x me.seat.me.0 me.member me.members me.own in
    let still = got_still c.args.from n.dead.names n.gone.names g x me.seat.me.0 me.own.0 in let left = ap (λ z. z.1) done.0 ∙ ap (λ l. rest l) list in
    let same = same_notices n c.opened.result (same_out c.load-found.new.seat.me.1 c.mail_place_of-place.result (Some (parcels.Notices n)) c.exchange-parcel.result outs exch.2 ∙ c.opened.ensures) in
    subst (λ (y : Notices). TidiedIn (place_of (origin_in me.seat.me.0)) me.member (after_receive (place_of (origin_in me.seat.me.0)) me.member (notices_of y) (view_in me.seat.me.0)) (view_in c.store.new.seat.me.0)) same
    (subst (λ j. TidiedIn (place_of (origin_in me.seat.me.0)) j (after_receive (place_of (origin_in me.seat.me.0)) j (notices_of n) (view_in me.seat.me.0)) (view_in c.store.new.seat.me.0)) (ready.number ∙ me.own.1)
    (subst (λ z. TidiedIn (place_of z) (number_in c.exchange-parcel.new.seat.me.0) (after_receive (place_of z) (number_in c.exchange-parcel.new.seat.me.0) (notices_of n) (view_in me.seat.me.0)) (view_in c.store.new.seat.me.0)) ready.base
    (subst (λ v. TidiedIn (place_of (origin_in c.exchange-parcel.new.seat.me.0)) (number_in c.exchange-parcel.new.seat.me.0) (after_receive (place_of (origin_in c.exchange-parcel.new.seat.me.0)) (number_in c.exchange-parcel.new.seat.me.0) (notices_of n) v) (view_in c.store.new.seat.me.0)) ready.view
    (subst (λ z. TidiedIn (place_of (origin_in c.exchange-parcel.new.seat.me.0)) (number_in c.exchange-parcel.new.seat.me.0) (after_receive (place_of (origin_in c.exchange-parcel.new.seat.me.0)) (number_in c.exchange-parcel.new.seat.me.0) z (view_in c.exchange-parcel.new.seat.me.0)) (view_in c.store.new.seat.me.0)) ready.notices done.1))))

pub returns-then-found-eq-EMPTY_MAILBOX-clause-made : goal.returns-then-found-eq-EMPTY_MAILBOX-clause-made
returns-then-found-eq-EMPTY_MAILBOX-clause-made c = let me = c.args.self.now in let may = c.requires.may in let at = c.mail_word_of-word.ensures in let place = c.mail_place_of-place.ensures in
    let low = subst (λ n. c.args.from < n) me.own.2 may.sender in
    let word : c.mail_word_of-word.result ≡ mail_word (size (origin_in me.seat.me.0)) c.args.from (number_in me.seat.me.0) = at ∙ ap₂ (λ x y. mail_word x c.args.from y) (sym me.own.2) (sym me.own.1) in
    let told = unfetched me.seat.me c.load-found.new.seat.me c.args.from c.load-found.result (c.load-found.new.seat.me ≡ (did (Found (loads.Mail c.args.from (number_in me.seat.me.0) false)) me.seat.me.0, me.seat.me.1)) (c.load-found.ensures.2 c.args.from may.sender word) (let z = c.if-found-eq-EMPTY_MAILBOX.true in z) in
    let t = calm_found me.seat.me c.load-found.new.seat.me me.member me.members me.held.items me.own me.order me.holds (loads.Mail c.args.from (number_in me.seat.me.0) false) told in
    trails.trail_did (deeds.Found (loads.Mail c.args.from (number_in me.seat.me.0) false)) me.seat.me.0 c.load-found.new.seat.me.0 me.own.0 (ap (λ x. x.0) told) ∙ ap (λ j. step_with (runs.Kind.LookMail c.args.from j) (view_in c.load-found.new.seat.me.0) ∷ trail_in me.seat.me.0) me.own.1

pub returns-clause-made : goal.returns-clause-made
returns-clause-made c = let me = c.args.self.now in let may = c.requires.may in let at = c.mail_word_of-word.ensures in let place = c.mail_place_of-place.ensures in
    let low = subst (λ n. c.args.from < n) me.own.2 may.sender in
    let word : c.mail_word_of-word.result ≡ mail_word (size (origin_in me.seat.me.0)) c.args.from (number_in me.seat.me.0) = at ∙ ap₂ (λ x y. mail_word x c.args.from y) (sym me.own.2) (sym me.own.1) in
    let got = fetched me.seat.me c.load-found.new.seat.me c.args.from c.load-found.result (c.load-found.new.seat.me ≡ (did (Found (loads.Mail c.args.from (number_in me.seat.me.0) false)) me.seat.me.0, me.seat.me.1)) (c.load-found.ensures.2 c.args.from may.sender word) c.if-found-eq-EMPTY_MAILBOX.false in let n : Notices = got.0 in let told = got.1 in
    let spot : c.mail_place_of-place.result ≡ mail_place (size (origin_in me.seat.me.0)) c.args.from (number_in me.seat.me.0) = place ∙ ap₂ (λ x y. mail_place x c.args.from y) (sym me.own.2) (sym me.own.1) in
    let out : c.load-found.new.seat.me.1 ≡ (c.mail_place_of-place.result, Some (parcels.Notices n)) ∷ me.seat.me.1 = ap (λ x. x.1) told ∙ ap (λ k. (k, Some (parcels.Notices n)) ∷ me.seat.me.1) (sym spot) in
    let outs = out ∙ ap (λ l. (c.mail_place_of-place.result, Some (parcels.Notices n)) ∷ l) (sym (ap (λ l. rest l) out)) in
    let exch = c.exchange-parcel.ensures in let mine = ap (λ x. x.0) exch.3 ∙ ap (λ x. x.0) told in
    let ready = receive_ready me.seat.me.0 c.args.from n.dead.names n.gone.names me.own.0 c.exchange-parcel.new.seat.me.0 mine in
    let list : c.exchange-parcel.new.seat.me.1 ≡ (mail_place (size (origin_in c.exchange-parcel.new.seat.me.0)) c.args.from (number_in c.exchange-parcel.new.seat.me.0), None) ∷ me.seat.me.1 =
    ap (λ x. x.1) exch.3 ∙ ap₂ (λ k l. (k, None) ∷ l) (spot ∙ ap₂ (λ x y. mail_place x c.args.from y) (sym (ap size ready.base)) (sym ready.number)) (ap (λ l. rest l) out) in
    let there : c.mail_word_of-word.result ≡ mail_word (size (origin_in c.exchange-parcel.new.seat.me.0)) c.args.from (number_in c.exchange-parcel.new.seat.me.0) = word ∙ ap₂ (λ x y. mail_word x c.args.from y) (sym (ap size ready.base)) (sym ready.number) in
    let done = c.store.ensures.2 c.args.from there in let deed = Receive c.args.from n.dead.names n.gone.names in let g = grip_at (pool_place c.args.from (number_in me.seat.me.0)) n.dead.names n.gone.names in let x = loads.Mail c.args.from (number_in me.seat.me.0) true in
    let final = ap (λ z. z.0) done.0 ∙ (ap (λ z. gripping None (did (Receive c.args.from z.dead z.gone) c.exchange-parcel.new.seat.me.0)) ready.notices ∙ ap (λ d. gripping None (did deed d)) mine) in let back = back_same deed g x me.seat.me.0 me.member me.members me.own in
    let still = got_still c.args.from n.dead.names n.gone.names g x me.seat.me.0 me.own.0 in let left = ap (λ z. z.1) done.0 ∙ ap (λ l. rest l) list in
    trails.trail_both deed g x me.seat.me.0 c.store.new.seat.me.0 me.own.0 final ∙ ap (λ j. step_with (runs.Kind.Receive c.args.from) (view_in c.store.new.seat.me.0) ∷ step_with (runs.Kind.LookMail c.args.from j) (after_find (loads.Mail c.args.from j true) (view_in me.seat.me.0)) ∷ trail_in me.seat.me.0) me.own.1
