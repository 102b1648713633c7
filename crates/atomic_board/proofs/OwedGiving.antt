-- What the steps owe that give changes back and take them back, and those of cleaning on the own log.
use Rattle.std.proofs.Common.{◌≡◌, ◌≢◌, ℕ, zero, suc, ◌+◌, ◌*◌, ◌%◌, ◌^◌, ◌<◌, ◌≤◌, Bool, true, false, eqb, cond, List, [], ◌∷◌, length, get_or, set, sym, refl, ap, ◌∙◌, subst, inl, inr, ◌⊎◌, ⊎_elim, arith, Option, Some, None, MatchOption}
use mathlib.Core.Option.{some, none}
use lib.ListN.{get_elem?}
use Rattle.atomic_table.specs.Table.{State, Act, keeps, takes, gives, step, stepped, Allows, Valid, rest}
use Rattle.log_entry.specs.declared.entry.Entry.{Entry}
use Rattle.log_entry.specs.declared.entry.EntryName.{EntryName}
use Rattle.store_image.specs.Facts.{In}
use Rattle.group_laws.specs.declared.types.Slot.{Slot}
use Rattle.group_laws.specs.declared.types.Slot.TheVariants.{Done, Failed}
use Rattle.group_laws.specs.declared.types.SlotWord.TheVariants as words
use Rattle.group_laws.specs.declared.types.Seen.TheVariants as loads
use Rattle.group_laws.specs.Places.{owner}
use Rattle.group_laws.specs.Updates.{has}
use Rattle.group_laws.specs.State.{Group}
use Rattle.group_laws.specs.Invariant.{PendsAt}
use Rattle.group_board.specs.declared.change.Change.{Change}
use Rattle.group_laws.specs.MemberViews.{View}
use Rattle.group_board.specs.Views.{after_finish, after_give_up, after_retire}
use Rattle.group_board.specs.Conditions.{MayMark, MayFail, MayFinish, MayWithdraw, MayDoom, MayRetire}
use Rattle.group_board.specs.Journals.{name_of}
use Rattle.group_board.proofs.Clients.{covers_more, covers_less}
use Rattle.atomic_board.specs.declared.parcel.Parcel.{Parcel}
use Rattle.atomic_board.specs.declared.parcel.Parcel.TheVariants as parcels
use Rattle.atomic_board.specs.declared.seat_data.Origin.{Origin}
use Rattle.atomic_board.specs.declared.seat_data.Holding.{Holding}
use Rattle.atomic_board.specs.declared.seat_data.Deed.{Deed}
use Rattle.atomic_board.specs.declared.seat_data.Deed.TheVariants.{Mark, Fail, Finish, GiveUp, Withdraw, Doom, Retire}
use Rattle.atomic_board.specs.declared.seat_data.SeatData.{SeatData}
use Rattle.atomic_board.specs.declared.seat_data.SeatData.TheVariants.{Own}
use Rattle.atomic_board.specs.TableWords.{own_word, pool_word, pool_place}
use Rattle.atomic_board.specs.Deeds.{group_of, alike, place_of, size, names_of, names_by, view_by}
use Rattle.atomic_board.specs.ShownState.{TableState, lies, views_of, pose_at, IsSlot, ShowsLawful}
use Rattle.atomic_board.specs.StepTells.{SeatState, origin_in, number_in, is_own, is_settled, view_in, IsNamed, IsNotOut, Stands, tells_give, tells_finish, tells_withdraw, tells_doom, tells_retire}
use Rattle.atomic_board.proofs.SeatPlaces.{place}
use Rattle.atomic_board.proofs.TidyViews.{tidied_view, covers_by}
use Rattle.atomic_board.proofs.RuleKept.{known, own_by, posted_home, doom_keeps}
use Rattle.atomic_board.proofs.GivingKept.{mark_keeps, fail_keeps, withdraw_can, withdraw_keeps, finish_can, finish_keeps, give_up_can, give_up_keeps, retire_keeps}
use Rattle.atomic_board.proofs.SlotsReturned.{posted_not_out, done_not_out, failed_not_out}
use Rattle.atomic_board.proofs.ToldByState.{home_of}
use Rattle.atomic_board.proofs.OwedLeading.{by_own, at_own_origin}

-- what lies in a slot that a leader gave back
module _ (b : Origin) (s : TableState) (o : ShowsLawful b s) (m : ℕ) (q : Holding) (ds : List Deed) (me : get_elem? s.views (suc m) ≡ some (Own m q b ds)) (near : m < size b) where
  abbrev w : Group
  w = group_of (place_of b) o.holder o.slot o.mail (views_of b s.views)

  done_home : (a t h : ℕ) (e : Entry) → a < size b → t < 8 → o.slot a t ≡ Done e h → get_elem? s.homes (pool_place a t) ≡ some (some (lies e (Some h)))
  done_home a t h e low less is = (subst (λ (y : Slot). IsSlot (get_or s.words (pool_word (size b) a t) 0) (get_elem? s.homes (pool_place a t)) (pose_at s.views a).settled y) is (o.fits.pool a t low less)).1.0

  failed_home : (a t : ℕ) (e : Entry) → a < size b → t < 8 → o.slot a t ≡ Failed e → get_elem? s.homes (pool_place a t) ≡ some (some (lies e None))
  failed_home a t e low less is = (subst (λ (y : Slot). IsSlot (get_or s.words (pool_word (size b) a t) 0) (get_elem? s.homes (pool_place a t)) (pose_at s.views a).settled y) is (o.fits.pool a t low less)).1

  -- a change that the state names in an own slot stands there by the view
  stands : (t : ℕ) (e : Entry) → PendsAt w e (Some t) → owner (place_of b) e.key ≡ m → IsNotOut (place_of b) m (view_by b m ds) m t → Stands (place_of b) m (view_by b m ds) t e
  stands t e pends own out = record {
    pends = sym (own_by b s o m q ds me near e.key (λ (u : View). u.pending e.key) own) ∙ pends;
    alone = λ k x mine is. o.reached.lawful.slots.once k e.key t x e (own_by b s o m q ds me near k (λ (u : View). u.pending k) mine ∙ is) pends (mine ∙ sym own);
    not_out = out;
  }

module _ (b : Origin) (k id m : ℕ) (q : Holding) (ds : List Deed) (c : List (ℕ × Option Parcel)) where
  taken_named : (s : TableState) (o : ShowsLawful b s) (near : m < size b) (me : get_elem? s.views (suc m) ≡ some (Own m q b ds)) (a t : ℕ) (e : Entry) → (view_by b m ds).taken a t ≡ Some e → a ≡ m → IsNamed (place_of b) m (view_by b m ds) t
  taken_named s o near me a t e is same =
      let n = o.reached.lawful.slots.taken_named m a t e (ap (λ (u : View). u.taken a t) (known b s o m q ds me near) ∙ is) in
      (e.key, e, n.1 ∙ same, sym (own_by b s o m q ds me near e.key (λ (u : View). u.pending e.key) (n.1 ∙ same)) ∙ n.0)

  mark_allowed : (a t : ℕ) (x : Change) → x.home ≡ Some m → MayMark (place_of b) m (view_by b m ds) a t x.entry
      → Allows (ShowsLawful b) k id (Own m q b ds, (pool_place a t, Some (parcels.Change x)) ∷ c) (pool_word (size b) a t) (λ _. 8 + m) (λ _. tells_give Mark (step k (pool_word (size b) a t) (8 + m) 0 none) (Own m q b ds, (pool_place a t, Some (parcels.Change x)) ∷ c) (8 + m))
  mark_allowed a t x home may s o many at fits64 =
      let here = place b o.holder o.slot o.mail s o.fits id m q ds at in
      let there : get_elem? s.views (suc m) ≡ some (Own m q b ds) = ap (get_elem? s.views) (sym here.0) ∙ at in (
        Own m q b (Mark a t ∷ ds),
        gives,
        tt,
        subst (λ j. ShowsLawful b (record { words = set s.words (pool_word (size b) a t) (8 + m); homes = set s.homes (pool_place a t) (some (Some (parcels.Change x))); views = set s.views j (Own m q b (Mark a t ∷ ds)) })) (sym here.0)
            (subst (λ h. ShowsLawful b (record { words = set s.words (pool_word (size b) a t) (8 + m); homes = set s.homes (pool_place a t) (some (Some (parcels.Change (record { entry = x.entry; home = h })))); views = set s.views (suc m) (Own m q b (Mark a t ∷ ds)) })) (sym home)
            (mark_keeps b s o m q ds there here.1 a t x.entry may)),
        λ a' t' y less is front. let u : a ≡ a' = (let l = may.slot in omega arith) in let z : t ≡ t' = (let l = may.slot in omega arith) in
            ((λ i. (Own m q b (Mark (u i) (z i) ∷ ds), c)), λ same. subst (λ j. IsNamed (place_of b) m (view_by b m ds) j) z (taken_named s o here.1 there a t x.entry may.taken (u ∙ same))),
      )

  fail_allowed : (a t : ℕ) (x : Change) → x.home ≡ None → MayFail (place_of b) m (view_by b m ds) a t x.entry
      → Allows (ShowsLawful b) k id (Own m q b ds, (pool_place a t, Some (parcels.Change x)) ∷ c) (pool_word (size b) a t) (λ _. 4) (λ _. tells_give Fail (step k (pool_word (size b) a t) 4 0 none) (Own m q b ds, (pool_place a t, Some (parcels.Change x)) ∷ c) 4)
  fail_allowed a t x home may s o many at fits64 =
      let here = place b o.holder o.slot o.mail s o.fits id m q ds at in
      let there : get_elem? s.views (suc m) ≡ some (Own m q b ds) = ap (get_elem? s.views) (sym here.0) ∙ at in (
        Own m q b (Fail a t ∷ ds),
        gives,
        tt,
        subst (λ j. ShowsLawful b (record { words = set s.words (pool_word (size b) a t) 4; homes = set s.homes (pool_place a t) (some (Some (parcels.Change x))); views = set s.views j (Own m q b (Fail a t ∷ ds)) })) (sym here.0)
            (subst (λ h. ShowsLawful b (record { words = set s.words (pool_word (size b) a t) 4; homes = set s.homes (pool_place a t) (some (Some (parcels.Change (record { entry = x.entry; home = h })))); views = set s.views (suc m) (Own m q b (Fail a t ∷ ds)) })) (sym home)
            (fail_keeps b s o m q ds there here.1 a t x.entry may)),
        λ a' t' y less is front. let u : a ≡ a' = (let l = may.slot in omega arith) in let z : t ≡ t' = (let l = may.slot in omega arith) in
            ((λ i. (Own m q b (Fail (u i) (z i) ∷ ds), c)), λ same. subst (λ j. IsNamed (place_of b) m (view_by b m ds) j) z (taken_named s o here.1 there a t x.entry may.taken (u ∙ same))),
      )

  withdraw_allowed : (t : ℕ) → q.settled ≡ true → MayWithdraw (place_of b) m (view_by b m ds) t
      → Allows (ShowsLawful b) k id (Own m q b ds, c) (pool_word (size b) m t) (λ _. 0) (λ _. tells_withdraw (step k (pool_word (size b) m t) 0 0 none) (Own m q b ds, c) 0)
  withdraw_allowed t settled may s o many at fits64 =
      let here = place b o.holder o.slot o.mail s o.fits id m q ds at in
      let there : get_elem? s.views (suc m) ≡ some (Own m q b ds) = ap (get_elem? s.views) (sym here.0) ∙ at in
      let can = withdraw_can b s o m q ds there here.1 t may in
      let e : Entry = can.0 in (
        Own m q b (Withdraw t e ∷ ds),
        takes (pool_place m t) (lies e None),
        posted_home b s o m q ds there here.1 m t e here.1 may.slot can.1.posted,
        subst (λ j. ShowsLawful b (record { words = set s.words (pool_word (size b) m t) 0; homes = set s.homes (pool_place m t) none; views = set s.views j (Own m q b (Withdraw t e ∷ ds)) })) (sym here.0)
            (withdraw_keeps b s o m q ds there here.1 t e settled can.1),
        λ t' less is. let z : t ≡ t' = (let l = may.slot in omega arith) in (
          e,
          (λ i. (Own m q b (Withdraw (z i) e ∷ ds), (pool_place m (z i), lies e None) ∷ c)),
          subst (λ j. Stands (place_of b) m (view_by b m ds) j e) z
              (stands b s o m q ds there here.1 t e (o.reached.lawful.slots.posted_named m t e can.1.posted).0 can.1.own (posted_not_out b s o m q ds there here.1 m t e can.1.posted)),
        ),
      )

  finish_allowed : (t : ℕ) → q.settled ≡ true → MayFinish (place_of b) m (view_by b m ds) t
      → Allows (ShowsLawful b) k id (Own m q b ds, c) (pool_word (size b) m t) (λ _. 0) (λ _. tells_finish (step k (pool_word (size b) m t) 0 0 none) (Own m q b ds, c) 0)
  finish_allowed t settled may s o many at fits64 =
      let here = place b o.holder o.slot o.mail s o.fits id m q ds at in
      let there : get_elem? s.views (suc m) ≡ some (Own m q b ds) = ap (get_elem? s.views) (sym here.0) ∙ at in
      elim may.seen [ inl failed ↦ give_up s o here there failed | inr done ↦ finish s o here there done.0 done.1 ] where
        give_up : (s : TableState) (o : ShowsLawful b s) (here : (id ≡ suc m) × (m < size b)) (there : get_elem? s.views (suc m) ≡ some (Own m q b ds)) → In (loads.Slot m t words.Failed) (view_by b m ds).looked
            → (w : SeatData) × (a : Act (Option Parcel)) × Valid s.homes c a × ShowsLawful b (stepped s (pool_word (size b) m t) 0 id c w a) × tells_finish (step k (pool_word (size b) m t) 0 0 none) (Own m q b ds, c) 0 (w, Rattle.atomic_table.specs.Table.carried_after c a)
        give_up s o here there saw =
            let can = give_up_can b s o m q ds there here.1 t saw may.slot in let e : Entry = can.0 in (
              Own m q b (GiveUp t e ∷ ds),
              takes (pool_place m t) (lies e None),
              failed_home b s o m q ds there here.1 m t e here.1 may.slot can.1.failed,
              subst (λ j. ShowsLawful b (record { words = set s.words (pool_word (size b) m t) 0; homes = set s.homes (pool_place m t) none; views = set s.views j (Own m q b (GiveUp t e ∷ ds)) })) (sym here.0)
                  (give_up_keeps b s o m q ds there here.1 t e settled can.1),
              λ t' less is. let z : t ≡ t' = (let l = may.slot in omega arith) in (
                e,
                None,
                (λ i. (Own m q b (GiveUp (z i) e ∷ ds), (pool_place m (z i), lies e None) ∷ c)),
                subst (λ j. Stands (place_of b) m (view_by b m ds) j e) z
                    (stands b s o m q ds there here.1 t e (o.reached.lawful.slots.failed_named m t e can.1.failed).0 can.1.own (failed_not_out b s o m q ds there here.1 m t e can.1.failed)),
                subst (λ j. In (loads.Slot m j words.Failed) (view_by b m ds).looked) z saw,
                tidied_view (names_by (names_of b) ds) (place_of b) m (after_give_up e (view_by b m ds)) (covers_by b o.fits.begun m ds),
                tt,
              ),
            )

        finish : (s : TableState) (o : ShowsLawful b s) (here : (id ≡ suc m) × (m < size b)) (there : get_elem? s.views (suc m) ≡ some (Own m q b ds)) (h : ℕ) → In (loads.Slot m t (words.Done h)) (view_by b m ds).looked
            → (w : SeatData) × (a : Act (Option Parcel)) × Valid s.homes c a × ShowsLawful b (stepped s (pool_word (size b) m t) 0 id c w a) × tells_finish (step k (pool_word (size b) m t) 0 0 none) (Own m q b ds, c) 0 (w, Rattle.atomic_table.specs.Table.carried_after c a)
        finish s o here there h saw =
            let can = finish_can b s o m q ds there here.1 t h saw may.slot in let e : Entry = can.0 in (
              Own m q b (Finish t e h ∷ ds),
              takes (pool_place m t) (lies e (Some h)),
              done_home b s o m q ds there here.1 m t h e here.1 may.slot can.1.done,
              subst (λ j. ShowsLawful b (record { words = set s.words (pool_word (size b) m t) 0; homes = set s.homes (pool_place m t) none; views = set s.views j (Own m q b (Finish t e h ∷ ds)) })) (sym here.0)
                  (finish_keeps b s o m q ds there here.1 t h e settled can.1),
              λ t' less is. let z : t ≡ t' = (let l = may.slot in omega arith) in (
                e,
                Some h,
                (λ i. (Own m q b (Finish (z i) e h ∷ ds), (pool_place m (z i), lies e (Some h)) ∷ c)),
                subst (λ j. Stands (place_of b) m (view_by b m ds) j e) z
                    (stands b s o m q ds there here.1 t e (o.reached.lawful.slots.done_named m t h e can.1.done).0 can.1.own (done_not_out b s o m q ds there here.1 m t e h can.1.done)),
                subst (λ j. In (loads.Slot m j (words.Done h)) (view_by b m ds).looked) z saw,
                tidied_view (name_of e ∷ names_by (names_of b) ds) (place_of b) m (after_finish e h (view_by b m ds)) (covers_more (alike (place_of b) (view_by b m ds)) (names_by (names_of b) ds) (covers_by b o.fits.begun m ds) e h),
                home_of b s o m q ds there here.1 t h e can.1.done,
              ),
            )

  doom_allowed : (ns : List EntryName) (stamp : ℕ) (g : ℕ → ℕ) → ((y : ℕ) → g y ≡ (y + 1) % 2 ^ 64) → MayDoom (place_of b) m (view_by b m ds) ns → Allows (ShowsLawful b) k id (Own m q b ds, c) (own_word m) g (tells_doom ns stamp (step k (own_word m) 1 0 none) (Own m q b ds, c))
  doom_allowed ns stamp g up may s o many at fits64 = let here = place b o.holder o.slot o.mail s o.fits id m q ds at in (
    Own m q b (Doom ns stamp ∷ ds),
    keeps,
    tt,
    subst (λ j. ShowsLawful b (record { words = set s.words (own_word m) (g (get_or s.words (own_word m) 0)); homes = s.homes; views = set s.views j (Own m q b (Doom ns stamp ∷ ds)) })) (sym here.0)
        (doom_keeps b s o m q ds (ap (get_elem? s.views) (sym here.0) ∙ at) here.1 (g (get_or s.words (own_word m) 0)) ns stamp (up (get_or s.words (own_word m) 0)) may),
    refl,
  )

  retire_allowed : (ns : List EntryName) (stamp : ℕ) (g : ℕ → ℕ) → ((y : ℕ) → g y ≡ (y + 1) % 2 ^ 64) → MayRetire (place_of b) m (view_by b m ds) ns → Allows (ShowsLawful b) k id (Own m q b ds, c) (own_word m) g (tells_retire ns stamp (step k (own_word m) 1 0 none) (Own m q b ds, c))
  retire_allowed ns stamp g up may s o many at fits64 = let here = place b o.holder o.slot o.mail s o.fits id m q ds at in (
    Own m q b (Retire ns stamp ∷ ds),
    keeps,
    tt,
    subst (λ j. ShowsLawful b (record { words = set s.words (own_word m) (g (get_or s.words (own_word m) 0)); homes = s.homes; views = set s.views j (Own m q b (Retire ns stamp ∷ ds)) })) (sym here.0)
        (retire_keeps b s o m q ds (ap (get_elem? s.views) (sym here.0) ∙ at) here.1 (g (get_or s.words (own_word m) 0)) ns stamp (up (get_or s.words (own_word m) 0)) may),
    (
      refl,
      tidied_view (names_by (names_of b) ds) (place_of b) m (after_retire (place_of b) m ns (view_by b m ds))
          (covers_less (alike (place_of b) (view_by b m ds)) (names_by (names_of b) ds) (covers_by b o.fits.begun m ds) (λ j n. Rattle.std.proofs.Common.◌&&◌ (eqb (owner (place_of b) j) m) (has ns j n))),
    ),
  )

module _ (key : Origin) (k id : ℕ) (me : SeatState) (mine : is_own me.0 ≡ true) where
  pub mark_owes : (i x a t : ℕ) (y : Change) (c : List (ℕ × Option Parcel)) → i ≡ pool_word (size (origin_in me.0)) a t → x ≡ 8 + number_in me.0 → me.1 ≡ (pool_place a t, Some (parcels.Change y)) ∷ c → y.home ≡ Some (number_in me.0)
      → MayMark (place_of (origin_in me.0)) (number_in me.0) (view_in me.0) a t y.entry → Allows (ShowsLawful key) k id me i (λ _. x) (λ _. tells_give Mark (step k i x 0 none) me x)
  mark_owes i x a t y c at is out home may = by_own (λ d. (l : List (ℕ × Option Parcel)) → i ≡ pool_word (size (origin_in d)) a t → x ≡ 8 + number_in d → l ≡ (pool_place a t, Some (parcels.Change y)) ∷ c → y.home ≡ Some (number_in d) → MayMark (place_of (origin_in d)) (number_in d) (view_in d) a t y.entry
      → Allows (ShowsLawful key) k id (d, l) i (λ _. x) (λ _. tells_give Mark (step k i x 0 none) (d, l) x))
      (λ m q b ds l at is out home may. at_own_origin key b k id m q ds l i (λ _. x) (λ _. tells_give Mark (step k i x 0 none) (Own m q b ds, l) x)
      (subst (λ z. Allows (ShowsLawful b) k id (Own m q b ds, z) i (λ _. x) (λ _. tells_give Mark (step k i x 0 none) (Own m q b ds, z) x)) (sym out)
      (subst (λ j. Allows (ShowsLawful b) k id (Own m q b ds, (pool_place a t, Some (parcels.Change y)) ∷ c) j (λ _. x) (λ _. tells_give Mark (step k j x 0 none) (Own m q b ds, (pool_place a t, Some (parcels.Change y)) ∷ c) x)) (sym at)
      (subst (λ z. Allows (ShowsLawful b) k id (Own m q b ds, (pool_place a t, Some (parcels.Change y)) ∷ c) (pool_word (size b) a t) (λ _. z) (λ _. tells_give Mark (step k (pool_word (size b) a t) z 0 none) (Own m q b ds, (pool_place a t, Some (parcels.Change y)) ∷ c) z)) (sym is)
      (mark_allowed b k id m q ds c a t y home may))))) me.0 mine me.1 at is out home may

  pub fail_owes : (i a t : ℕ) (y : Change) (c : List (ℕ × Option Parcel)) → i ≡ pool_word (size (origin_in me.0)) a t → me.1 ≡ (pool_place a t, Some (parcels.Change y)) ∷ c → y.home ≡ None
      → MayFail (place_of (origin_in me.0)) (number_in me.0) (view_in me.0) a t y.entry → Allows (ShowsLawful key) k id me i (λ _. 4) (λ _. tells_give Fail (step k i 4 0 none) me 4)
  fail_owes i a t y c at out home may = by_own (λ d. (l : List (ℕ × Option Parcel)) → i ≡ pool_word (size (origin_in d)) a t → l ≡ (pool_place a t, Some (parcels.Change y)) ∷ c → MayFail (place_of (origin_in d)) (number_in d) (view_in d) a t y.entry
      → Allows (ShowsLawful key) k id (d, l) i (λ _. 4) (λ _. tells_give Fail (step k i 4 0 none) (d, l) 4))
      (λ m q b ds l at out may. at_own_origin key b k id m q ds l i (λ _. 4) (λ _. tells_give Fail (step k i 4 0 none) (Own m q b ds, l) 4)
      (subst (λ z. Allows (ShowsLawful b) k id (Own m q b ds, z) i (λ _. 4) (λ _. tells_give Fail (step k i 4 0 none) (Own m q b ds, z) 4)) (sym out)
      (subst (λ j. Allows (ShowsLawful b) k id (Own m q b ds, (pool_place a t, Some (parcels.Change y)) ∷ c) j (λ _. 4) (λ _. tells_give Fail (step k j 4 0 none) (Own m q b ds, (pool_place a t, Some (parcels.Change y)) ∷ c) 4)) (sym at)
      (fail_allowed b k id m q ds c a t y home may)))) me.0 mine me.1 at out may

  pub withdraw_owes : (i t : ℕ) → i ≡ pool_word (size (origin_in me.0)) (number_in me.0) t → is_settled me.0 ≡ true → MayWithdraw (place_of (origin_in me.0)) (number_in me.0) (view_in me.0) t → Allows (ShowsLawful key) k id me i (λ _. 0) (λ _. tells_withdraw (step k i 0 0 none) me 0)
  withdraw_owes i t at settled may = by_own (λ d. i ≡ pool_word (size (origin_in d)) (number_in d) t → is_settled d ≡ true → MayWithdraw (place_of (origin_in d)) (number_in d) (view_in d) t → Allows (ShowsLawful key) k id (d, me.1) i (λ _. 0) (λ _. tells_withdraw (step k i 0 0 none) (d, me.1) 0))
      (λ m q b ds at settled may. at_own_origin key b k id m q ds me.1 i (λ _. 0) (λ _. tells_withdraw (step k i 0 0 none) (Own m q b ds, me.1) 0)
      (subst (λ j. Allows (ShowsLawful b) k id (Own m q b ds, me.1) j (λ _. 0) (λ _. tells_withdraw (step k j 0 0 none) (Own m q b ds, me.1) 0)) (sym at) (withdraw_allowed b k id m q ds me.1 t settled may))) me.0 mine at settled may

  pub finish_owes : (i t : ℕ) → i ≡ pool_word (size (origin_in me.0)) (number_in me.0) t → is_settled me.0 ≡ true → MayFinish (place_of (origin_in me.0)) (number_in me.0) (view_in me.0) t → Allows (ShowsLawful key) k id me i (λ _. 0) (λ _. tells_finish (step k i 0 0 none) me 0)
  finish_owes i t at settled may = by_own (λ d. i ≡ pool_word (size (origin_in d)) (number_in d) t → is_settled d ≡ true → MayFinish (place_of (origin_in d)) (number_in d) (view_in d) t → Allows (ShowsLawful key) k id (d, me.1) i (λ _. 0) (λ _. tells_finish (step k i 0 0 none) (d, me.1) 0))
      (λ m q b ds at settled may. at_own_origin key b k id m q ds me.1 i (λ _. 0) (λ _. tells_finish (step k i 0 0 none) (Own m q b ds, me.1) 0)
      (subst (λ j. Allows (ShowsLawful b) k id (Own m q b ds, me.1) j (λ _. 0) (λ _. tells_finish (step k j 0 0 none) (Own m q b ds, me.1) 0)) (sym at) (finish_allowed b k id m q ds me.1 t settled may))) me.0 mine at settled may

  pub doom_owes : (i : ℕ) (ns : List EntryName) (stamp : ℕ) (g : ℕ → ℕ) → ((y : ℕ) → g y ≡ (y + 1) % 2 ^ 64) → i ≡ own_word (number_in me.0) → MayDoom (place_of (origin_in me.0)) (number_in me.0) (view_in me.0) ns → Allows (ShowsLawful key) k id me i g (tells_doom ns stamp (step k i 1 0 none) me)
  doom_owes i ns stamp g up at may = by_own (λ d. i ≡ own_word (number_in d) → MayDoom (place_of (origin_in d)) (number_in d) (view_in d) ns → Allows (ShowsLawful key) k id (d, me.1) i g (tells_doom ns stamp (step k i 1 0 none) (d, me.1)))
      (λ m q b ds at may. at_own_origin key b k id m q ds me.1 i g (tells_doom ns stamp (step k i 1 0 none) (Own m q b ds, me.1))
      (subst (λ j. Allows (ShowsLawful b) k id (Own m q b ds, me.1) j g (tells_doom ns stamp (step k j 1 0 none) (Own m q b ds, me.1))) (sym at) (doom_allowed b k id m q ds me.1 ns stamp g up may))) me.0 mine at may

  pub retire_owes : (i : ℕ) (ns : List EntryName) (stamp : ℕ) (g : ℕ → ℕ) → ((y : ℕ) → g y ≡ (y + 1) % 2 ^ 64) → i ≡ own_word (number_in me.0) → MayRetire (place_of (origin_in me.0)) (number_in me.0) (view_in me.0) ns → Allows (ShowsLawful key) k id me i g (tells_retire ns stamp (step k i 1 0 none) me)
  retire_owes i ns stamp g up at may = by_own (λ d. i ≡ own_word (number_in d) → MayRetire (place_of (origin_in d)) (number_in d) (view_in d) ns → Allows (ShowsLawful key) k id (d, me.1) i g (tells_retire ns stamp (step k i 1 0 none) (d, me.1)))
      (λ m q b ds at may. at_own_origin key b k id m q ds me.1 i g (tells_retire ns stamp (step k i 1 0 none) (Own m q b ds, me.1))
      (subst (λ j. Allows (ShowsLawful b) k id (Own m q b ds, me.1) j g (tells_retire ns stamp (step k j 1 0 none) (Own m q b ds, me.1))) (sym at) (retire_allowed b k id m q ds me.1 ns stamp g up may))) me.0 mine at may
