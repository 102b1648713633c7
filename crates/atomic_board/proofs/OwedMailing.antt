-- What the steps at mailboxes owe.
use Rattle.std.proofs.Common.{◌≡◌, ◌≢◌, ℕ, zero, suc, ◌+◌, ◌*◌, ◌<◌, ◌≤◌, ◌&&◌, Bool, true, false, eqb, cond, List, [], ◌∷◌, length, get_or, set, sym, refl, ap, ◌∙◌, subst, inl, inr, ◌⊎◌, ⊎_elim, arith, Option, Some, None, is_none}
use mathlib.Core.Option.{some, none}
use mathlib.Core.Logic.{dite}
use native.Mathlib.Decide.{ℕ_discrete}
use lib.ListN.{get_elem?}
use Rattle.atomic_table.specs.Table.{keeps, takes, gives, step, Allows}
use Rattle.store_image.specs.Facts.{In}
use Rattle.group_laws.specs.declared.types.Seen.TheVariants as loads
use Rattle.group_laws.specs.Places.{owner}
use Rattle.group_laws.specs.Updates.{has}
use Rattle.group_laws.specs.State.{is_full}
use Rattle.group_board.specs.declared.names.Notices.{Notices}
use Rattle.group_board.specs.Mailing.{notices_of}
use Rattle.group_board.specs.Views.{after_receive}
use Rattle.group_board.specs.Conditions.{MaySend}
use Rattle.group_board.proofs.Clients.{covers_less}
use Rattle.atomic_board.specs.declared.parcel.Parcel.{Parcel}
use Rattle.atomic_board.specs.declared.parcel.Parcel.TheVariants as parcels
use Rattle.atomic_board.specs.declared.seat_data.Origin.{Origin}
use Rattle.atomic_board.specs.declared.seat_data.Holding.{Holding}
use Rattle.atomic_board.specs.declared.seat_data.Deed.{Deed}
use Rattle.atomic_board.specs.declared.seat_data.Deed.TheVariants.{Found, Send, Receive}
use Rattle.atomic_board.specs.declared.seat_data.SeatData.TheVariants.{Own}
use Rattle.atomic_board.specs.TableWords.{pool_place, mail_word, mail_place}
use Rattle.atomic_board.specs.Deeds.{alike, place_of, size, names_of, names_by, view_by}
use Rattle.atomic_board.specs.ShownState.{pose_at, grips, gripped, grip_at, ShowsLawful}
use Rattle.atomic_board.specs.StepTells.{SeatState, origin_in, number_in, is_own, is_handless, hand_in, view_in, tells_try_send, tells_send, tells_try_receive, tells_receive}
use Rattle.atomic_board.proofs.SeatPlaces.{place}
use Rattle.group_board.specs.Assurances.{IsHeard}
use Rattle.atomic_board.proofs.TidyViews.{tidied_view, covers_by}
use Rattle.atomic_board.proofs.ToldByState.{heard}
use Rattle.atomic_board.proofs.MailboxKept.{mail_apart2, box_zero, box_one, handed, peek_keeps, grab_keeps, send_keeps, fetch_keeps, receive_keeps}
use Rattle.atomic_board.proofs.OwedLeading.{by_own, at_own_origin}

none_is : {X : Type 0} (o : Option X) → is_none o ≡ true → o ≡ None
none_is None e = refl
none_is (Some x) e = absurd (cc e)

first_notices : (x y : Notices) (p r : ℕ) (l n : List (ℕ × Option Parcel)) → ((p, Some (parcels.Notices x)) ∷ l) ≡ ((r, Some (parcels.Notices y)) ∷ n) → x ≡ y
first_notices x y p r l n is = let h : Some (parcels.Notices x) ≡ Some (parcels.Notices y) = ap (λ (z : List (ℕ × Option Parcel)). (get_or z 0 (0, None)).1) is in cc h

module _ (b : Origin) (k id m : ℕ) (q : Holding) (ds : List Deed) (c : List (ℕ × Option Parcel)) where
  try_send_allowed : (to : ℕ) → to < size b → to ≢ m → q.hand ≡ None → Allows (ShowsLawful b) k id (Own m q b ds, c) (mail_word (size b) m to) (λ y. y) (tells_try_send (step k (mail_word (size b) m to) 0 0 none) (Own m q b ds, c))
  try_send_allowed to less other empty s o many at fits64 =
      let here = place b o.holder o.slot o.mail s o.fits id m q ds at in
      let there : get_elem? s.views (suc m) ≡ some (Own m q b ds) = ap (get_elem? s.views) (sym here.0) ∙ at in
      dite (ℕ_discrete (get_or s.words (mail_word (size b) m to) 0) 0)
      (λ zero_word. let g = grab_keeps b s o m q ds there here.1 to less other empty zero_word in (
        Own m (handed q (grip_at (pool_place m to) [] [])) b (Found (loads.Mail m to false) ∷ ds),
        takes (mail_place (size b) m to) None,
        g.0,
        subst (λ j. ShowsLawful b (record { words = set s.words (mail_word (size b) m to) (get_or s.words (mail_word (size b) m to) 0); homes = set s.homes (mail_place (size b) m to) none; views = set s.views j (Own m (handed q (grip_at (pool_place m to) [] [])) b (Found (loads.Mail m to false) ∷ ds)) })) (sym here.0) g.1,
        λ to' is. let z : to ≡ to' = omega arith in inl (zero_word, λ i. (Own m (handed q (grip_at (pool_place m (z i)) [] [])) b (Found (loads.Mail m (z i) false) ∷ ds), (mail_place (size b) m (z i), None) ∷ c)),
      ))
      (λ not_zero. let f = box_one (get_or s.words (mail_word (size b) m to) 0) (get_elem? s.homes (mail_place (size b) m to)) (pool_place m to) (pose_at s.views m).hand (pose_at s.views to).hand (o.mail m to) (o.fits.box m to here.1 less) not_zero in (
        Own m q b (Found (loads.Mail m to true) ∷ ds),
        keeps,
        tt,
        subst (λ j. ShowsLawful b (record { words = set s.words (mail_word (size b) m to) (get_or s.words (mail_word (size b) m to) 0); homes = s.homes; views = set s.views j (Own m q b (Found (loads.Mail m to true) ∷ ds)) })) (sym here.0)
            (peek_keeps b s o m q ds there here.1 m to true (ap is_full f.2) here.1 less),
        λ to' is. let z : to ≡ to' = omega arith in inr (not_zero, λ i. (Own m q b (Found (loads.Mail m (z i) true) ∷ ds), c)),
      ))

  try_receive_allowed : (from : ℕ) → from < size b → q.hand ≡ None → Allows (ShowsLawful b) k id (Own m q b ds, c) (mail_word (size b) from m) (λ y. y) (tells_try_receive (step k (mail_word (size b) from m) 0 0 none) (Own m q b ds, c))
  try_receive_allowed from low empty s o many at fits64 =
      let here = place b o.holder o.slot o.mail s o.fits id m q ds at in
      let there : get_elem? s.views (suc m) ≡ some (Own m q b ds) = ap (get_elem? s.views) (sym here.0) ∙ at in
      dite (ℕ_discrete (get_or s.words (mail_word (size b) from m) 0) 0)
      (λ zero_word. let f = box_zero (get_or s.words (mail_word (size b) from m) 0) (get_elem? s.homes (mail_place (size b) from m)) (pool_place from m) (pose_at s.views from).hand (pose_at s.views m).hand (o.mail from m) (o.fits.box from m low here.1) zero_word in (
        Own m q b (Found (loads.Mail from m false) ∷ ds),
        keeps,
        tt,
        subst (λ j. ShowsLawful b (record { words = set s.words (mail_word (size b) from m) (get_or s.words (mail_word (size b) from m) 0); homes = s.homes; views = set s.views j (Own m q b (Found (loads.Mail from m false) ∷ ds)) })) (sym here.0)
            (peek_keeps b s o m q ds there here.1 from m false (ap is_full f.0) low here.1),
        λ from' low' is. let z : from ≡ from' = one_sender from from' here.1 is in inr (zero_word, λ i. (Own m q b (Found (loads.Mail (z i) m false) ∷ ds), c)),
      ))
      (λ not_zero. let g = fetch_keeps b s o m q ds there here.1 from low empty not_zero in let n : Notices = g.0 in (
        Own m (handed q (grip_at (pool_place from m) n.dead.names n.gone.names)) b (Found (loads.Mail from m true) ∷ ds),
        takes (mail_place (size b) from m) (Some (parcels.Notices n)),
        g.2,
        subst (λ j. ShowsLawful b (record { words = set s.words (mail_word (size b) from m) (get_or s.words (mail_word (size b) from m) 0); homes = set s.homes (mail_place (size b) from m) none; views = set s.views j (Own m (handed q (grip_at (pool_place from m) n.dead.names n.gone.names)) b (Found (loads.Mail from m true) ∷ ds)) })) (sym here.0) g.3,
        λ from' low' is. let z : from ≡ from' = one_sender from from' here.1 is in inl (not_zero, (n, (λ i. (Own m (handed q (grip_at (pool_place (z i) m) n.dead.names n.gone.names)) b (Found (loads.Mail (z i) m true) ∷ ds), (mail_place (size b) (z i) m, Some (parcels.Notices n)) ∷ c)), subst (λ j. IsHeard (place_of b) m j (view_by b m ds) (notices_of n)) z (heard b s o m q ds there here.1 from (notices_of n) g.4))),
      )) where
        one_sender : (i j : ℕ) → m < size b → mail_word (size b) i m ≡ mail_word (size b) j m → i ≡ j
        one_sender i j near e = dite (ℕ_discrete i j) (λ same. same) (λ ne. absurd (mail_apart2 (size b) i m j m near near (inl ne) e))

  send_allowed : (to : ℕ) (n : Notices) → MaySend (place_of b) m (view_by b m ds) to (notices_of n) → In (loads.Mail m to false) (view_by b m ds).looked → q.hand ≡ grip_at (pool_place m to) [] []
      → Allows (ShowsLawful b) k id (Own m q b ds, (mail_place (size b) m to, Some (parcels.Notices n)) ∷ c) (mail_word (size b) m to) (λ _. 1) (λ _. tells_send (step k (mail_word (size b) m to) 1 0 none) (Own m q b ds, (mail_place (size b) m to, Some (parcels.Notices n)) ∷ c) 1)
  send_allowed to n may saw hand s o many at fits64 =
      let here = place b o.holder o.slot o.mail s o.fits id m q ds at in
      let there : get_elem? s.views (suc m) ≡ some (Own m q b ds) = ap (get_elem? s.views) (sym here.0) ∙ at in (
        Own m (handed q None) b (Send to n.dead.names n.gone.names ∷ ds),
        gives,
        tt,
        subst (λ j. ShowsLawful b (record { words = set s.words (mail_word (size b) m to) 1; homes = set s.homes (mail_place (size b) m to) (some (Some (parcels.Notices n))); views = set s.views j (Own m (handed q None) b (Send to n.dead.names n.gone.names ∷ ds)) })) (sym here.0)
            (send_keeps b s o m q ds there here.1 to n may.other may saw (λ j ne. ap (λ g. grips g j) hand ∙ Rattle.std.proofs.Common.ne_eqb (pool_place m to) j (λ e. ne (sym e)))),
        λ to' y is front. let z : to ≡ to' = omega arith in let x = first_notices n y (mail_place (size b) m to) (mail_place (size b) m to') c c front in
            λ i. (Own m (handed q None) b (Send (z i) (x i).dead.names (x i).gone.names ∷ ds), c),
      )

  receive_allowed : (from : ℕ) → from < size b → In (loads.Mail from m true) (view_by b m ds).looked → q.hand ≡ grip_at (pool_place from m) (gripped q.hand).dead (gripped q.hand).gone
      → Allows (ShowsLawful b) k id (Own m q b ds, (mail_place (size b) from m, None) ∷ c) (mail_word (size b) from m) (λ _. 0) (λ _. tells_receive (step k (mail_word (size b) from m) 0 0 none) (Own m q b ds, (mail_place (size b) from m, None) ∷ c) 0)
  receive_allowed from low saw hand s o many at fits64 =
      let here = place b o.holder o.slot o.mail s o.fits id m q ds at in
      let there : get_elem? s.views (suc m) ≡ some (Own m q b ds) = ap (get_elem? s.views) (sym here.0) ∙ at in
      let dead = (gripped q.hand).dead in let gone = (gripped q.hand).gone in (
        Own m (handed q None) b (Receive from dead gone ∷ ds),
        gives,
        tt,
        subst (λ j. ShowsLawful b (record { words = set s.words (mail_word (size b) from m) 0; homes = set s.homes (mail_place (size b) from m) (some None); views = set s.views j (Own m (handed q None) b (Receive from dead gone ∷ ds)) })) (sym here.0)
            (receive_keeps b s o m q ds there here.1 from dead gone low saw hand),
        λ from' is. (
          (let z : from ≡ from' = one_sender from from' here.1 is in λ i. (Own m (handed q None) b (Receive (z i) dead gone ∷ ds), c)),
          tidied_view (names_by (names_of b) ds) (place_of b) m (after_receive (place_of b) m (gripped q.hand) (view_by b m ds))
              (covers_less (alike (place_of b) (view_by b m ds)) (names_by (names_of b) ds) (covers_by b o.fits.begun m ds) (λ j n. eqb (owner (place_of b) j) m && has gone j n)),
        ),
      ) where
        one_sender : (i j : ℕ) → m < size b → mail_word (size b) i m ≡ mail_word (size b) j m → i ≡ j
        one_sender i j near e = dite (ℕ_discrete i j) (λ same. same) (λ ne. absurd (mail_apart2 (size b) i m j m near near (inl ne) e))

module _ (key : Origin) (k id : ℕ) (me : SeatState) (mine : is_own me.0 ≡ true) where
  pub try_send_owes : (i to : ℕ) → i ≡ mail_word (size (origin_in me.0)) (number_in me.0) to → to < size (origin_in me.0) → to ≢ number_in me.0 → is_handless me.0 ≡ true → Allows (ShowsLawful key) k id me i (λ y. y) (tells_try_send (step k i 0 0 none) me)
  try_send_owes i to at less other empty = by_own (λ d. i ≡ mail_word (size (origin_in d)) (number_in d) to → to < size (origin_in d) → to ≢ number_in d → is_handless d ≡ true → Allows (ShowsLawful key) k id (d, me.1) i (λ y. y) (tells_try_send (step k i 0 0 none) (d, me.1)))
      (λ m q b ds at less other empty. at_own_origin key b k id m q ds me.1 i (λ y. y) (tells_try_send (step k i 0 0 none) (Own m q b ds, me.1))
      (subst (λ j. Allows (ShowsLawful b) k id (Own m q b ds, me.1) j (λ y. y) (tells_try_send (step k j 0 0 none) (Own m q b ds, me.1))) (sym at) (try_send_allowed b k id m q ds me.1 to less other (none_is q.hand empty)))) me.0 mine at less other empty

  pub try_receive_owes : (i from : ℕ) → i ≡ mail_word (size (origin_in me.0)) from (number_in me.0) → from < size (origin_in me.0) → is_handless me.0 ≡ true → Allows (ShowsLawful key) k id me i (λ y. y) (tells_try_receive (step k i 0 0 none) me)
  try_receive_owes i from at low empty = by_own (λ d. i ≡ mail_word (size (origin_in d)) from (number_in d) → from < size (origin_in d) → is_handless d ≡ true → Allows (ShowsLawful key) k id (d, me.1) i (λ y. y) (tells_try_receive (step k i 0 0 none) (d, me.1)))
      (λ m q b ds at low empty. at_own_origin key b k id m q ds me.1 i (λ y. y) (tells_try_receive (step k i 0 0 none) (Own m q b ds, me.1))
      (subst (λ j. Allows (ShowsLawful b) k id (Own m q b ds, me.1) j (λ y. y) (tells_try_receive (step k j 0 0 none) (Own m q b ds, me.1))) (sym at) (try_receive_allowed b k id m q ds me.1 from low (none_is q.hand empty)))) me.0 mine at low empty

  pub send_owes : (i to : ℕ) (n : Notices) (c : List (ℕ × Option Parcel)) → i ≡ mail_word (size (origin_in me.0)) (number_in me.0) to → me.1 ≡ (mail_place (size (origin_in me.0)) (number_in me.0) to, Some (parcels.Notices n)) ∷ c → MaySend (place_of (origin_in me.0)) (number_in me.0) (view_in me.0) to (notices_of n)
      → In (loads.Mail (number_in me.0) to false) (view_in me.0).looked → hand_in me.0 ≡ grip_at (pool_place (number_in me.0) to) [] [] → Allows (ShowsLawful key) k id me i (λ _. 1) (λ _. tells_send (step k i 1 0 none) me 1)
  send_owes i to n c at out may saw hand = by_own (λ d. (l : List (ℕ × Option Parcel)) → i ≡ mail_word (size (origin_in d)) (number_in d) to → l ≡ (mail_place (size (origin_in d)) (number_in d) to, Some (parcels.Notices n)) ∷ c → MaySend (place_of (origin_in d)) (number_in d) (view_in d) to (notices_of n)
      → In (loads.Mail (number_in d) to false) (view_in d).looked → hand_in d ≡ grip_at (pool_place (number_in d) to) [] [] → Allows (ShowsLawful key) k id (d, l) i (λ _. 1) (λ _. tells_send (step k i 1 0 none) (d, l) 1))
      (λ m q b ds l at out may saw hand. at_own_origin key b k id m q ds l i (λ _. 1) (λ _. tells_send (step k i 1 0 none) (Own m q b ds, l) 1)
      (subst (λ z. Allows (ShowsLawful b) k id (Own m q b ds, z) i (λ _. 1) (λ _. tells_send (step k i 1 0 none) (Own m q b ds, z) 1)) (sym out)
      (subst (λ j. Allows (ShowsLawful b) k id (Own m q b ds, (mail_place (size b) m to, Some (parcels.Notices n)) ∷ c) j (λ _. 1) (λ _. tells_send (step k j 1 0 none) (Own m q b ds, (mail_place (size b) m to, Some (parcels.Notices n)) ∷ c) 1)) (sym at)
      (send_allowed b k id m q ds c to n may saw hand)))) me.0 mine me.1 at out may saw hand

  pub receive_owes : (i from : ℕ) (c : List (ℕ × Option Parcel)) → i ≡ mail_word (size (origin_in me.0)) from (number_in me.0) → me.1 ≡ (mail_place (size (origin_in me.0)) from (number_in me.0), None) ∷ c → from < size (origin_in me.0)
      → In (loads.Mail from (number_in me.0) true) (view_in me.0).looked → hand_in me.0 ≡ grip_at (pool_place from (number_in me.0)) (gripped (hand_in me.0)).dead (gripped (hand_in me.0)).gone → Allows (ShowsLawful key) k id me i (λ _. 0) (λ _. tells_receive (step k i 0 0 none) me 0)
  receive_owes i from c at out low saw hand = by_own (λ d. (l : List (ℕ × Option Parcel)) → i ≡ mail_word (size (origin_in d)) from (number_in d) → l ≡ (mail_place (size (origin_in d)) from (number_in d), None) ∷ c → from < size (origin_in d)
      → In (loads.Mail from (number_in d) true) (view_in d).looked → hand_in d ≡ grip_at (pool_place from (number_in d)) (gripped (hand_in d)).dead (gripped (hand_in d)).gone → Allows (ShowsLawful key) k id (d, l) i (λ _. 0) (λ _. tells_receive (step k i 0 0 none) (d, l) 0))
      (λ m q b ds l at out low saw hand. at_own_origin key b k id m q ds l i (λ _. 0) (λ _. tells_receive (step k i 0 0 none) (Own m q b ds, l) 0)
      (subst (λ z. Allows (ShowsLawful b) k id (Own m q b ds, z) i (λ _. 0) (λ _. tells_receive (step k i 0 0 none) (Own m q b ds, z) 0)) (sym out)
      (subst (λ j. Allows (ShowsLawful b) k id (Own m q b ds, (mail_place (size b) from m, None) ∷ c) j (λ _. 0) (λ _. tells_receive (step k j 0 0 none) (Own m q b ds, (mail_place (size b) from m, None) ∷ c) 0)) (sym at)
      (receive_allowed b k id m q ds c from low saw hand)))) me.0 mine me.1 at out low saw hand
