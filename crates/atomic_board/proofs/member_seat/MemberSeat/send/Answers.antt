use Rattle.std.proofs.Common.{◌≡◌, ◌<◌, sym, ap, ap₂, refl, ◌∙◌, subst, arith, true, false, [], ◌∷◌, Some, None}
use Rattle.atomic_table.specs.Table.{rest}
use Rattle.group_laws.specs.declared.types.Seen.TheVariants as loads
use Rattle.group_board.specs.Mailing.{notices_of}
use Rattle.group_laws.specs.MemberViews.{View}
use Rattle.group_board.specs.Views.{after_find}
use Rattle.group_board.specs.Conditions.{MaySend}
use Rattle.atomic_board.specs.declared.parcel.Parcel.TheVariants as parcels
use Rattle.atomic_board.specs.declared.seat_data.Deed.TheVariants.{Send}
use Rattle.atomic_board.specs.TableWords.{pool_place, mail_word, mail_place}
use Rattle.atomic_board.specs.Deeds.{place_of, size}
use Rattle.atomic_board.specs.ShownState.{grip_at}
use Rattle.atomic_board.specs.SlotsOut.{numbers, all_empty}
use Rattle.atomic_board.specs.StepTells.{view_in, number_in, origin_in, did, gripping, trail_in}
use Rattle.atomic_board.proofs.MailboxKept.{mail_low}
use Rattle.atomic_board.proofs.OwedMailing.{try_send_owes, send_owes}
use Rattle.atomic_board.proofs.SeatMoves.{IsSeat, calm_found, holds_by, back_same, sent_view}
use Rattle.atomic_board.proofs.MailInHand.{zero_case, other_case, send_ready}
use Rattle.atomic_board.proofs.member_seat.MemberSeat.send.Goals as goal
use Rattle.atomic_board.specs.declared.seat_data.Deed.TheVariants as deeds
use Rattle.group_laws.specs.Runs as runs
use Rattle.group_board.specs.Trails.{step_with}
use Rattle.atomic_board.proofs.Trails as trails

pub load-found-requires : goal.load-found-requires
load-found-requires c = let me = c.args.self.now in let may = c.requires.may in let at = c.mail_word_of-word.ensures in let place = c.mail_place_of-place.ensures in
    let less = subst (λ n. c.args.to < n) me.own.2 may.receiver in
    let word : c.mail_word_of-word.result ≡ mail_word (size (origin_in me.seat.me.0)) (number_in me.seat.me.0) c.args.to = at ∙ ap₂ (λ x y. mail_word x y c.args.to) (sym me.own.2) (sym me.own.1) in
    (c.requires.table, (let w = ap (λ z. z.words) (sym c.requires.table) in let v = me.wide in let l = mail_low me.members me.member c.args.to me.few.0 less in omega (arith, w, v, at, l)), try_send_owes _ _ _ _ me.own.0 _ c.args.to word may.receiver (λ e. may.other (e ∙ me.own.1)) me.own.4)

pub invariant_of-self : goal.invariant_of-self
invariant_of-self c = let me = c.args.self.now in let may = c.requires.may in let at = c.mail_word_of-word.ensures in let place = c.mail_place_of-place.ensures in
    let less = subst (λ n. c.args.to < n) me.own.2 may.receiver in
    let word : c.mail_word_of-word.result ≡ mail_word (size (origin_in me.seat.me.0)) (number_in me.seat.me.0) c.args.to = at ∙ ap₂ (λ x y. mail_word x y c.args.to) (sym me.own.2) (sym me.own.1) in
    let told = other_case c.load-found.result (c.load-found.ensures.2 c.args.to word) c.if-found-ne-EMPTY_MAILBOX.true in
    let t = calm_found me.seat.me c.load-found.new.seat.me me.member me.members me.held.items me.own me.order me.holds (loads.Mail (number_in me.seat.me.0) c.args.to true) told in
    record { few = me.few; wide = ap (λ z. z.words) c.load-found.ensures.0 ∙ me.wide; own = t.own; order = t.order; room = me.room; holds = t.holds }

pub returns-then-found-ne-EMPTY_MAILBOX-clause-same : goal.returns-then-found-ne-EMPTY_MAILBOX-clause-same
returns-then-found-ne-EMPTY_MAILBOX-clause-same c = let me = c.args.self.now in let may = c.requires.may in let at = c.mail_word_of-word.ensures in let place = c.mail_place_of-place.ensures in
    let less = subst (λ n. c.args.to < n) me.own.2 may.receiver in
    let word : c.mail_word_of-word.result ≡ mail_word (size (origin_in me.seat.me.0)) (number_in me.seat.me.0) c.args.to = at ∙ ap₂ (λ x y. mail_word x y c.args.to) (sym me.own.2) (sym me.own.1) in
    let told = other_case c.load-found.result (c.load-found.ensures.2 c.args.to word) c.if-found-ne-EMPTY_MAILBOX.true in
    let t = calm_found me.seat.me c.load-found.new.seat.me me.member me.members me.held.items me.own me.order me.holds (loads.Mail (number_in me.seat.me.0) c.args.to true) told in
    (c.load-found.ensures.0, refl, refl, t.base)

pub returns-then-found-ne-EMPTY_MAILBOX-clause-view : goal.returns-then-found-ne-EMPTY_MAILBOX-clause-view
returns-then-found-ne-EMPTY_MAILBOX-clause-view c = let me = c.args.self.now in let may = c.requires.may in let at = c.mail_word_of-word.ensures in let place = c.mail_place_of-place.ensures in
    let less = subst (λ n. c.args.to < n) me.own.2 may.receiver in
    let word : c.mail_word_of-word.result ≡ mail_word (size (origin_in me.seat.me.0)) (number_in me.seat.me.0) c.args.to = at ∙ ap₂ (λ x y. mail_word x y c.args.to) (sym me.own.2) (sym me.own.1) in
    let told = other_case c.load-found.result (c.load-found.ensures.2 c.args.to word) c.if-found-ne-EMPTY_MAILBOX.true in
    let t = calm_found me.seat.me c.load-found.new.seat.me me.member me.members me.held.items me.own me.order me.holds (loads.Mail (number_in me.seat.me.0) c.args.to true) told in
    t.view ∙ ap (λ j. after_find (loads.Mail j c.args.to true) (view_in me.seat.me.0)) me.own.1

pub exchange-requires : goal.exchange-requires
exchange-requires c = let me = c.args.self.now in let may = c.requires.may in let at = c.mail_word_of-word.ensures in let place = c.mail_place_of-place.ensures in
    let less = subst (λ n. c.args.to < n) me.own.2 may.receiver in
    let word : c.mail_word_of-word.result ≡ mail_word (size (origin_in me.seat.me.0)) (number_in me.seat.me.0) c.args.to = at ∙ ap₂ (λ x y. mail_word x y c.args.to) (sym me.own.2) (sym me.own.1) in
    let told = zero_case c.load-found.result (c.load-found.ensures.2 c.args.to word) (let z = c.if-found-ne-EMPTY_MAILBOX.false in z) in
    let spot : c.mail_place_of-place.result ≡ mail_place (size (origin_in me.seat.me.0)) (number_in me.seat.me.0) c.args.to = place ∙ ap₂ (λ x y. mail_place x y c.args.to) (sym me.own.2) (sym me.own.1) in
    let out : c.load-found.new.seat.me.1 ≡ (c.mail_place_of-place.result, None) ∷ me.seat.me.1 = ap (λ x. x.1) told ∙ ap (λ k. (k, None) ∷ me.seat.me.1) (sym spot) in
    (c.load-found.ensures.0 ∙ c.requires.table, (None, out ∙ ap (λ l. (c.mail_place_of-place.result, None) ∷ l) (sym (ap (λ l. rest l) out))))

pub store-requires : goal.store-requires
store-requires c = let me = c.args.self.now in let may = c.requires.may in let at = c.mail_word_of-word.ensures in let place = c.mail_place_of-place.ensures in
    let less = subst (λ n. c.args.to < n) me.own.2 may.receiver in
    let word : c.mail_word_of-word.result ≡ mail_word (size (origin_in me.seat.me.0)) (number_in me.seat.me.0) c.args.to = at ∙ ap₂ (λ x y. mail_word x y c.args.to) (sym me.own.2) (sym me.own.1) in
    let told = zero_case c.load-found.result (c.load-found.ensures.2 c.args.to word) (let z = c.if-found-ne-EMPTY_MAILBOX.false in z) in
    let spot : c.mail_place_of-place.result ≡ mail_place (size (origin_in me.seat.me.0)) (number_in me.seat.me.0) c.args.to = place ∙ ap₂ (λ x y. mail_place x y c.args.to) (sym me.own.2) (sym me.own.1) in
    let out : c.load-found.new.seat.me.1 ≡ (c.mail_place_of-place.result, None) ∷ me.seat.me.1 = ap (λ x. x.1) told ∙ ap (λ k. (k, None) ∷ me.seat.me.1) (sym spot) in
    let exch = c.exchange.ensures in let mine = ap (λ x. x.0) exch.3 ∙ ap (λ x. x.0) told in
    let ready = send_ready me.seat.me.0 c.args.to (notices_of c.args.notices) me.own.0 (subst (λ j. MaySend (place_of (origin_in me.seat.me.0)) j (view_in me.seat.me.0) c.args.to (notices_of c.args.notices)) (sym me.own.1) may) c.exchange.new.seat.me.0 mine in
    let list : c.exchange.new.seat.me.1 ≡ (mail_place (size (origin_in c.exchange.new.seat.me.0)) (number_in c.exchange.new.seat.me.0) c.args.to, Some (parcels.Notices c.args.notices)) ∷ me.seat.me.1 =
    ap (λ x. x.1) exch.3 ∙ ap₂ (λ k l. (k, Some (parcels.Notices c.args.notices)) ∷ l) (spot ∙ ap₂ (λ x y. mail_place x y c.args.to) (sym (ap size ready.base)) (sym ready.number)) (ap (λ l. rest l) out) in
    let there : c.mail_word_of-word.result ≡ mail_word (size (origin_in c.exchange.new.seat.me.0)) (number_in c.exchange.new.seat.me.0) c.args.to = word ∙ ap₂ (λ x y. mail_word x y c.args.to) (sym (ap size ready.base)) (sym ready.number) in
    (exch.0 ∙ (c.load-found.ensures.0 ∙ c.requires.table), (let w = ap (λ z. z.words) (sym c.requires.table) in let v = me.wide in let l = mail_low me.members me.member c.args.to me.few.0 less in omega (arith, w, v, at, l)), send_owes _ _ _ _ ready.own _ c.args.to c.args.notices me.seat.me.1 there list ready.may ready.saw ready.hand)

pub invariant_of-self-2 : goal.invariant_of-self-2
invariant_of-self-2 c = let me = c.args.self.now in let may = c.requires.may in let at = c.mail_word_of-word.ensures in let place = c.mail_place_of-place.ensures in
    let less = subst (λ n. c.args.to < n) me.own.2 may.receiver in
    let word : c.mail_word_of-word.result ≡ mail_word (size (origin_in me.seat.me.0)) (number_in me.seat.me.0) c.args.to = at ∙ ap₂ (λ x y. mail_word x y c.args.to) (sym me.own.2) (sym me.own.1) in
    let told = zero_case c.load-found.result (c.load-found.ensures.2 c.args.to word) (let z = c.if-found-ne-EMPTY_MAILBOX.false in z) in
    let spot : c.mail_place_of-place.result ≡ mail_place (size (origin_in me.seat.me.0)) (number_in me.seat.me.0) c.args.to = place ∙ ap₂ (λ x y. mail_place x y c.args.to) (sym me.own.2) (sym me.own.1) in
    let out : c.load-found.new.seat.me.1 ≡ (c.mail_place_of-place.result, None) ∷ me.seat.me.1 = ap (λ x. x.1) told ∙ ap (λ k. (k, None) ∷ me.seat.me.1) (sym spot) in
    let exch = c.exchange.ensures in let mine = ap (λ x. x.0) exch.3 ∙ ap (λ x. x.0) told in
    let ready = send_ready me.seat.me.0 c.args.to (notices_of c.args.notices) me.own.0 (subst (λ j. MaySend (place_of (origin_in me.seat.me.0)) j (view_in me.seat.me.0) c.args.to (notices_of c.args.notices)) (sym me.own.1) may) c.exchange.new.seat.me.0 mine in
    let list : c.exchange.new.seat.me.1 ≡ (mail_place (size (origin_in c.exchange.new.seat.me.0)) (number_in c.exchange.new.seat.me.0) c.args.to, Some (parcels.Notices c.args.notices)) ∷ me.seat.me.1 =
    ap (λ x. x.1) exch.3 ∙ ap₂ (λ k l. (k, Some (parcels.Notices c.args.notices)) ∷ l) (spot ∙ ap₂ (λ x y. mail_place x y c.args.to) (sym (ap size ready.base)) (sym ready.number)) (ap (λ l. rest l) out) in
    let there : c.mail_word_of-word.result ≡ mail_word (size (origin_in c.exchange.new.seat.me.0)) (number_in c.exchange.new.seat.me.0) c.args.to = word ∙ ap₂ (λ x y. mail_word x y c.args.to) (sym (ap size ready.base)) (sym ready.number) in
    let sent = c.store.ensures.2 c.args.to c.args.notices there (list ∙ ap (λ l. (mail_place (size (origin_in c.exchange.new.seat.me.0)) (number_in c.exchange.new.seat.me.0) c.args.to, Some (parcels.Notices c.args.notices)) ∷ l) (sym (ap (λ l. rest l) list))) in
    let deed = Send c.args.to c.args.notices.dead.names c.args.notices.gone.names in let g = grip_at (pool_place (number_in me.seat.me.0) c.args.to) [] [] in let x = loads.Mail (number_in me.seat.me.0) c.args.to false in
    let final = ap (λ z. z.0) sent ∙ ap (λ d. gripping None (did deed d)) mine in let back = back_same deed g x me.seat.me.0 me.member me.members me.own in
    let view = ap (λ d. view_in d) final ∙ sent_view c.args.to (notices_of c.args.notices) g x me.seat.me.0 me.own.0 in
    let left = ap (λ z. z.1) sent ∙ ap (λ l. rest l) list in
    record {
      few = me.few;
      wide = ap (λ z. z.words) (c.store.ensures.0 ∙ (exch.0 ∙ c.load-found.ensures.0)) ∙ me.wide;
      own = subst (λ d. IsSeat d me.member me.members) (sym final) back.0;
      order = (ap (λ l. numbers l) left ∙ me.order.0, ap (λ l. all_empty l) left ∙ me.order.1);
      room = me.room;
      holds = holds_by (place_of (origin_in me.seat.me.0)) (place_of (origin_in c.store.new.seat.me.0)) me.member me.members (view_in me.seat.me.0).pending (view_in c.store.new.seat.me.0).pending (view_in me.seat.me.0).taken (view_in c.store.new.seat.me.0).taken me.held.items me.held.items
          (ap (λ d. place_of (origin_in d)) final ∙ ap place_of back.1) (ap (λ (v : View). v.pending) view) (ap (λ (v : View). v.taken) view) refl me.holds;
    }

pub returns-clause-same : goal.returns-clause-same
returns-clause-same c = let me = c.args.self.now in let may = c.requires.may in let at = c.mail_word_of-word.ensures in let place = c.mail_place_of-place.ensures in
    let less = subst (λ n. c.args.to < n) me.own.2 may.receiver in
    let word : c.mail_word_of-word.result ≡ mail_word (size (origin_in me.seat.me.0)) (number_in me.seat.me.0) c.args.to = at ∙ ap₂ (λ x y. mail_word x y c.args.to) (sym me.own.2) (sym me.own.1) in
    let told = zero_case c.load-found.result (c.load-found.ensures.2 c.args.to word) (let z = c.if-found-ne-EMPTY_MAILBOX.false in z) in
    let spot : c.mail_place_of-place.result ≡ mail_place (size (origin_in me.seat.me.0)) (number_in me.seat.me.0) c.args.to = place ∙ ap₂ (λ x y. mail_place x y c.args.to) (sym me.own.2) (sym me.own.1) in
    let out : c.load-found.new.seat.me.1 ≡ (c.mail_place_of-place.result, None) ∷ me.seat.me.1 = ap (λ x. x.1) told ∙ ap (λ k. (k, None) ∷ me.seat.me.1) (sym spot) in
    let exch = c.exchange.ensures in let mine = ap (λ x. x.0) exch.3 ∙ ap (λ x. x.0) told in
    let ready = send_ready me.seat.me.0 c.args.to (notices_of c.args.notices) me.own.0 (subst (λ j. MaySend (place_of (origin_in me.seat.me.0)) j (view_in me.seat.me.0) c.args.to (notices_of c.args.notices)) (sym me.own.1) may) c.exchange.new.seat.me.0 mine in
    let list : c.exchange.new.seat.me.1 ≡ (mail_place (size (origin_in c.exchange.new.seat.me.0)) (number_in c.exchange.new.seat.me.0) c.args.to, Some (parcels.Notices c.args.notices)) ∷ me.seat.me.1 =
    ap (λ x. x.1) exch.3 ∙ ap₂ (λ k l. (k, Some (parcels.Notices c.args.notices)) ∷ l) (spot ∙ ap₂ (λ x y. mail_place x y c.args.to) (sym (ap size ready.base)) (sym ready.number)) (ap (λ l. rest l) out) in
    let there : c.mail_word_of-word.result ≡ mail_word (size (origin_in c.exchange.new.seat.me.0)) (number_in c.exchange.new.seat.me.0) c.args.to = word ∙ ap₂ (λ x y. mail_word x y c.args.to) (sym (ap size ready.base)) (sym ready.number) in
    let sent = c.store.ensures.2 c.args.to c.args.notices there (list ∙ ap (λ l. (mail_place (size (origin_in c.exchange.new.seat.me.0)) (number_in c.exchange.new.seat.me.0) c.args.to, Some (parcels.Notices c.args.notices)) ∷ l) (sym (ap (λ l. rest l) list))) in
    let deed = Send c.args.to c.args.notices.dead.names c.args.notices.gone.names in let g = grip_at (pool_place (number_in me.seat.me.0) c.args.to) [] [] in let x = loads.Mail (number_in me.seat.me.0) c.args.to false in
    let final = ap (λ z. z.0) sent ∙ ap (λ d. gripping None (did deed d)) mine in let back = back_same deed g x me.seat.me.0 me.member me.members me.own in
    let view = ap (λ d. view_in d) final ∙ sent_view c.args.to (notices_of c.args.notices) g x me.seat.me.0 me.own.0 in
    let left = ap (λ z. z.1) sent ∙ ap (λ l. rest l) list in
    (c.store.ensures.0 ∙ (exch.0 ∙ c.load-found.ensures.0), refl, refl, ap (λ d. origin_in d) final ∙ back.1)

pub returns-clause-view : goal.returns-clause-view
returns-clause-view c = let me = c.args.self.now in let may = c.requires.may in let at = c.mail_word_of-word.ensures in let place = c.mail_place_of-place.ensures in
    let less = subst (λ n. c.args.to < n) me.own.2 may.receiver in
    let word : c.mail_word_of-word.result ≡ mail_word (size (origin_in me.seat.me.0)) (number_in me.seat.me.0) c.args.to = at ∙ ap₂ (λ x y. mail_word x y c.args.to) (sym me.own.2) (sym me.own.1) in
    let told = zero_case c.load-found.result (c.load-found.ensures.2 c.args.to word) (let z = c.if-found-ne-EMPTY_MAILBOX.false in z) in
    let spot : c.mail_place_of-place.result ≡ mail_place (size (origin_in me.seat.me.0)) (number_in me.seat.me.0) c.args.to = place ∙ ap₂ (λ x y. mail_place x y c.args.to) (sym me.own.2) (sym me.own.1) in
    let out : c.load-found.new.seat.me.1 ≡ (c.mail_place_of-place.result, None) ∷ me.seat.me.1 = ap (λ x. x.1) told ∙ ap (λ k. (k, None) ∷ me.seat.me.1) (sym spot) in
    let exch = c.exchange.ensures in let mine = ap (λ x. x.0) exch.3 ∙ ap (λ x. x.0) told in
    let ready = send_ready me.seat.me.0 c.args.to (notices_of c.args.notices) me.own.0 (subst (λ j. MaySend (place_of (origin_in me.seat.me.0)) j (view_in me.seat.me.0) c.args.to (notices_of c.args.notices)) (sym me.own.1) may) c.exchange.new.seat.me.0 mine in
    let list : c.exchange.new.seat.me.1 ≡ (mail_place (size (origin_in c.exchange.new.seat.me.0)) (number_in c.exchange.new.seat.me.0) c.args.to, Some (parcels.Notices c.args.notices)) ∷ me.seat.me.1 =
    ap (λ x. x.1) exch.3 ∙ ap₂ (λ k l. (k, Some (parcels.Notices c.args.notices)) ∷ l) (spot ∙ ap₂ (λ x y. mail_place x y c.args.to) (sym (ap size ready.base)) (sym ready.number)) (ap (λ l. rest l) out) in
    let there : c.mail_word_of-word.result ≡ mail_word (size (origin_in c.exchange.new.seat.me.0)) (number_in c.exchange.new.seat.me.0) c.args.to = word ∙ ap₂ (λ x y. mail_word x y c.args.to) (sym (ap size ready.base)) (sym ready.number) in
    let sent = c.store.ensures.2 c.args.to c.args.notices there (list ∙ ap (λ l. (mail_place (size (origin_in c.exchange.new.seat.me.0)) (number_in c.exchange.new.seat.me.0) c.args.to, Some (parcels.Notices c.args.notices)) ∷ l) (sym (ap (λ l. rest l) list))) in
    let deed = Send c.args.to c.args.notices.dead.names c.args.notices.gone.names in let g = grip_at (pool_place (number_in me.seat.me.0) c.args.to) [] [] in let x = loads.Mail (number_in me.seat.me.0) c.args.to false in
    let final = ap (λ z. z.0) sent ∙ ap (λ d. gripping None (did deed d)) mine in let back = back_same deed g x me.seat.me.0 me.member me.members me.own in
    let view = ap (λ d. view_in d) final ∙ sent_view c.args.to (notices_of c.args.notices) g x me.seat.me.0 me.own.0 in
    let left = ap (λ z. z.1) sent ∙ ap (λ l. rest l) list in
    view

pub returns-then-found-ne-EMPTY_MAILBOX-clause-made : goal.returns-then-found-ne-EMPTY_MAILBOX-clause-made
returns-then-found-ne-EMPTY_MAILBOX-clause-made c = let me = c.args.self.now in let may = c.requires.may in let at = c.mail_word_of-word.ensures in let place = c.mail_place_of-place.ensures in
    let less = subst (λ n. c.args.to < n) me.own.2 may.receiver in
    let word : c.mail_word_of-word.result ≡ mail_word (size (origin_in me.seat.me.0)) (number_in me.seat.me.0) c.args.to = at ∙ ap₂ (λ x y. mail_word x y c.args.to) (sym me.own.2) (sym me.own.1) in
    let told = other_case c.load-found.result (c.load-found.ensures.2 c.args.to word) c.if-found-ne-EMPTY_MAILBOX.true in
    let t = calm_found me.seat.me c.load-found.new.seat.me me.member me.members me.held.items me.own me.order me.holds (loads.Mail (number_in me.seat.me.0) c.args.to true) told in
    trails.trail_did (deeds.Found (loads.Mail (number_in me.seat.me.0) c.args.to true)) me.seat.me.0 c.load-found.new.seat.me.0 me.own.0 (ap (λ x. x.0) told) ∙ ap (λ j. step_with (runs.Kind.LookMail j c.args.to) (view_in c.load-found.new.seat.me.0) ∷ trail_in me.seat.me.0) me.own.1

pub returns-clause-made : goal.returns-clause-made
returns-clause-made c = let me = c.args.self.now in let may = c.requires.may in let at = c.mail_word_of-word.ensures in let place = c.mail_place_of-place.ensures in
    let less = subst (λ n. c.args.to < n) me.own.2 may.receiver in
    let word : c.mail_word_of-word.result ≡ mail_word (size (origin_in me.seat.me.0)) (number_in me.seat.me.0) c.args.to = at ∙ ap₂ (λ x y. mail_word x y c.args.to) (sym me.own.2) (sym me.own.1) in
    let told = zero_case c.load-found.result (c.load-found.ensures.2 c.args.to word) (let z = c.if-found-ne-EMPTY_MAILBOX.false in z) in
    let spot : c.mail_place_of-place.result ≡ mail_place (size (origin_in me.seat.me.0)) (number_in me.seat.me.0) c.args.to = place ∙ ap₂ (λ x y. mail_place x y c.args.to) (sym me.own.2) (sym me.own.1) in
    let out : c.load-found.new.seat.me.1 ≡ (c.mail_place_of-place.result, None) ∷ me.seat.me.1 = ap (λ x. x.1) told ∙ ap (λ k. (k, None) ∷ me.seat.me.1) (sym spot) in
    let exch = c.exchange.ensures in let mine = ap (λ x. x.0) exch.3 ∙ ap (λ x. x.0) told in
    let ready = send_ready me.seat.me.0 c.args.to (notices_of c.args.notices) me.own.0 (subst (λ j. MaySend (place_of (origin_in me.seat.me.0)) j (view_in me.seat.me.0) c.args.to (notices_of c.args.notices)) (sym me.own.1) may) c.exchange.new.seat.me.0 mine in
    let list : c.exchange.new.seat.me.1 ≡ (mail_place (size (origin_in c.exchange.new.seat.me.0)) (number_in c.exchange.new.seat.me.0) c.args.to, Some (parcels.Notices c.args.notices)) ∷ me.seat.me.1 =
    ap (λ x. x.1) exch.3 ∙ ap₂ (λ k l. (k, Some (parcels.Notices c.args.notices)) ∷ l) (spot ∙ ap₂ (λ x y. mail_place x y c.args.to) (sym (ap size ready.base)) (sym ready.number)) (ap (λ l. rest l) out) in
    let there : c.mail_word_of-word.result ≡ mail_word (size (origin_in c.exchange.new.seat.me.0)) (number_in c.exchange.new.seat.me.0) c.args.to = word ∙ ap₂ (λ x y. mail_word x y c.args.to) (sym (ap size ready.base)) (sym ready.number) in
    let sent = c.store.ensures.2 c.args.to c.args.notices there (list ∙ ap (λ l. (mail_place (size (origin_in c.exchange.new.seat.me.0)) (number_in c.exchange.new.seat.me.0) c.args.to, Some (parcels.Notices c.args.notices)) ∷ l) (sym (ap (λ l. rest l) list))) in
    let deed = Send c.args.to c.args.notices.dead.names c.args.notices.gone.names in let g = grip_at (pool_place (number_in me.seat.me.0) c.args.to) [] [] in let x = loads.Mail (number_in me.seat.me.0) c.args.to false in
    let final = ap (λ z. z.0) sent ∙ ap (λ d. gripping None (did deed d)) mine in let back = back_same deed g x me.seat.me.0 me.member me.members me.own in
    let view = ap (λ d. view_in d) final ∙ sent_view c.args.to (notices_of c.args.notices) g x me.seat.me.0 me.own.0 in
    let left = ap (λ z. z.1) sent ∙ ap (λ l. rest l) list in
    trails.trail_both deed g x me.seat.me.0 c.store.new.seat.me.0 me.own.0 final ∙ ap (λ j. step_with (runs.Kind.Send c.args.to (notices_of c.args.notices)) (view_in c.store.new.seat.me.0) ∷ step_with (runs.Kind.LookMail j c.args.to) (after_find (loads.Mail j c.args.to false) (view_in me.seat.me.0)) ∷ trail_in me.seat.me.0) me.own.1
