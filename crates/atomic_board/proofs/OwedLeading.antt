-- What the step of each call owes, for a seat as a call has it.
use Rattle.std.proofs.Common.{◌≡◌, ◌≢◌, ℕ, zero, suc, ◌+◌, ◌*◌, ◌%◌, ◌^◌, ◌<◌, ◌≤◌, Bool, true, false, eqb, List, ◌∷◌, length, get_or, set, sym, refl, ap, ◌∙◌, subst, ⊎_elim, arith, Option, Some, None}
use mathlib.Core.Option.{some, none, some-injective, some-ne-none}
use mathlib.Core.Option as maybe
use lib.ListN.{get_elem?}
use prog.Atomic.{either}
use Rattle.atomic_table.specs.Table.{Act, keeps, takes, gives, step, stepped, Allows, Valid, carried_after, homes_after}
use Rattle.atomic_table.proofs.Lists.{exchanged}
use Rattle.log_entry.specs.declared.entry.Entry.{Entry}
use Rattle.log_entry.specs.Spelling.{words_of}
use Rattle.store_image.specs.Facts.{In}
use Rattle.group_laws.specs.declared.types.Slot.{Slot}
use Rattle.group_laws.specs.declared.types.Slot.TheVariants.{Empty, Posted, Taken, Done, Failed}
use Rattle.group_laws.specs.declared.types.SlotWord.TheVariants as words
use Rattle.group_laws.specs.declared.types.Seen.TheVariants as loads
use Rattle.group_laws.specs.State.{word_shown}
use Rattle.group_board.specs.declared.change.Change.{Change}
use Rattle.group_laws.specs.MemberViews.{View}
use Rattle.group_board.specs.Conditions.{IsFree, MayPost, MayLock, MayLook, MayTake, MayUnlock, MayCommit}
use Rattle.atomic_board.specs.declared.parcel.Parcel.{Parcel}
use Rattle.atomic_board.specs.declared.parcel.Parcel.TheVariants as parcels
use Rattle.atomic_board.specs.declared.seat_data.Origin.{Origin}
use Rattle.atomic_board.specs.declared.seat_data.Holding.{Holding}
use Rattle.atomic_board.specs.declared.seat_data.Deed.{Deed}
use Rattle.atomic_board.specs.declared.seat_data.Deed.TheVariants.{Post, Lock, Found, Take, Unlock, Commit}
use Rattle.atomic_board.specs.declared.seat_data.SeatData.{SeatData}
use Rattle.atomic_board.specs.declared.seat_data.SeatData.TheVariants.{Store, Own, Spent}
use Rattle.atomic_board.specs.TableWords.{own_word, pool_word, pool_place, IsClearWord}
use Rattle.atomic_board.specs.Deeds.{place_of, size, view_by}
use Rattle.atomic_board.specs.ShownState.{TableState, lies, pose_at, IsSlot, ShowsLawful}
use Rattle.atomic_board.specs.SlotsOut.{has, empties}
use Rattle.atomic_board.specs.StepTells.{SeatState, origin_in, number_in, is_own, is_settled, view_in, tells_commit, tells_unlock, tells_lock, tells_look, tells_settle, tells_return, tells_take, tells_post, IsNotOut}
use Rattle.atomic_board.proofs.SeatPlaces.{place, own_spent}
use Rattle.atomic_board.proofs.RuleKept.{known, commit_keeps, lock_keeps, busy_keeps, not_self, unlock_keeps, look_keeps, take_can, take_keeps, posted_home, own_empty, post_keeps}
use Rattle.atomic_board.proofs.RuleOpened.{takes_row, row_carried, settle_valid, settle_keeps}
use Rattle.atomic_board.proofs.ToldByState.{taken_unlogged}
use Rattle.group_board.specs.Assurances.{IsUnlogged}
use Rattle.atomic_board.proofs.SlotsReturned.{gives_all, all_valid, all_given, back_keeps, posted_not_out, taken_none}

pub by_own : (P : SeatData → Type 0) → ((m : ℕ) (q : Holding) (b : Origin) (ds : List Deed) → P (Own m q b ds)) → (d : SeatData) → is_own d ≡ true → P d
by_own P f (Store k b back) e = absurd (cc e)
by_own P f (Own m q b ds) e = f m q b ds
by_own P f Spent e = absurd (cc e)

origin_of : SeatData → Origin → Origin
origin_of (Store k b l) c = c
origin_of (Own m q b ds) c = b
origin_of Spent c = c

pub same_origin : (j m : ℕ) (q r : Holding) (b c : Origin) (ds es : List Deed) → Own j q b ds ≡ Own m r c es → b ≡ c
unfolding origin_of
same_origin j m q r b c ds es e = ap (λ d. origin_of d b) e

-- a seat's origin is its table's
pub based : (b c : Origin) (k id m : ℕ) (q : Holding) (ds : List Deed) (l : List (ℕ × Option Parcel)) (i : ℕ) (f : ℕ → ℕ) (then : ℕ → SeatState → Type 0)
    → (c ≡ b → Allows (ShowsLawful b) k id (Own m q c ds, l) i f then) → Allows (ShowsLawful b) k id (Own m q c ds, l) i f then
based b c k id m q ds l i f then g s o many me fits64 = g (is id me) s o many me fits64 where
  is : (j : ℕ) → get_elem? s.views j ≡ some (Own m q c ds) → c ≡ b
  is zero e = absurd (Rattle.atomic_board.proofs.SeatPlaces.store_own o.fits.given b c o.fits.back m q ds (some-injective (Store o.fits.given b o.fits.back) (Own m q c ds) (sym o.fits.store ∙ e)))
  is (suc j) e = ⊎_elim
      (λ (t : (r : Holding) × (es : List Deed) × (Own m q c ds ≡ Own j r b es)). same_origin m j q t.0 c b ds t.1 t.2)
      (λ (t : Own m q c ds ≡ Spent). absurd (own_spent m q c ds t)) (o.fits.own j (Own m q c ds) e)

-- the same at the table's own origin
pub at_own_origin : (b c : Origin) (k id m : ℕ) (q : Holding) (ds : List Deed) (l : List (ℕ × Option Parcel)) (i : ℕ) (f : ℕ → ℕ) (then : ℕ → SeatState → Type 0)
    → Allows (ShowsLawful c) k id (Own m q c ds, l) i f then → Allows (ShowsLawful b) k id (Own m q c ds, l) i f then
at_own_origin b c k id m q ds l i f then g = based b c k id m q ds l i f then (λ e. subst (λ x. Allows (ShowsLawful x) k id (Own m q c ds, l) i f then) e g)

module _ (b : Origin) (k id m : ℕ) (q : Holding) (ds : List Deed) (c : List (ℕ × Option Parcel)) where
  abbrev me : SeatState
  me = (Own m q b ds, c)

  commit_allowed : (at : ℕ) (g : ℕ → ℕ) → ((y : ℕ) → g y ≡ (y + 1) % 2 ^ 64) → MayCommit (place_of b) m (view_by b m ds) → Allows (ShowsLawful b) k id (Own m q b ds, c) (own_word m) g (tells_commit at (step k (own_word m) 1 0 none) (Own m q b ds, c))
  commit_allowed at g up may s o many there fits64 = let here = place b o.holder o.slot o.mail s o.fits id m q ds there in (
    Own m q b (Commit at ∷ ds),
    keeps,
    tt,
    subst (λ j. ShowsLawful b (record { words = set s.words (own_word m) (g (get_or s.words (own_word m) 0)); homes = s.homes; views = set s.views j (Own m q b (Commit at ∷ ds)) })) (sym here.0)
        (commit_keeps b s o m q ds (ap (get_elem? s.views) (sym here.0) ∙ there) here.1 at (g (get_or s.words (own_word m) 0)) (up (get_or s.words (own_word m) 0)) may),
    refl,
  )

  unlock_allowed : MayUnlock (place_of b) m (view_by b m ds) → Allows (ShowsLawful b) k id (Own m q b ds, c) 0 (λ _. 0) (λ _. tells_unlock (step k 0 0 0 none) (Own m q b ds, c) 0)
  unlock_allowed may s o many at fits64 = let here = place b o.holder o.slot o.mail s o.fits id m q ds at in (
    Own m q b (Unlock ∷ ds),
    keeps,
    tt,
    subst (λ j. ShowsLawful b (record { words = set s.words 0 0; homes = s.homes; views = set s.views j (Own m q b (Unlock ∷ ds)) })) (sym here.0)
        (unlock_keeps b s o m q ds (ap (get_elem? s.views) (sym here.0) ∙ at) here.1 may),
    refl,
  )

  lock_allowed : MayLock (place_of b) m (view_by b m ds) → Allows (ShowsLawful b) k id (Own m q b ds, c) 0 (λ y. either (eqb y 0) (m + 1) y) (tells_lock (step k 0 0 (m + 1) none) (Own m q b ds, c))
  lock_allowed may s o many at fits64 =
      let here = place b o.holder o.slot o.mail s o.fits id m q ds at in
      let there : get_elem? s.views (suc m) ≡ some (Own m q b ds) = ap (get_elem? s.views) (sym here.0) ∙ at in
      let x : ℕ = get_or s.words 0 0 in
      let low : x ≤ size b = subst (λ y. y ≤ size b) (sym o.fits.lock) o.fits.member in
      exchanged (get_or s.words 0 0) 0 (m + 1) (λ y. (w : SeatData) × (a : Act (Option Parcel)) × Valid s.homes c a × ShowsLawful b (stepped s 0 y id c w a) × tells_lock (step k 0 0 (m + 1) none) (Own m q b ds, c) (get_or s.words 0 0) (w, carried_after c a))
      (λ free. (
        Own m q b (Lock ∷ ds),
        keeps,
        tt,
        subst (λ j. ShowsLawful b (record { words = set s.words 0 (m + 1); homes = s.homes; views = set s.views j (Own m q b (Lock ∷ ds)) })) (sym here.0) (lock_keeps b s o m q ds there here.1 free may),
        (low, (λ e. omega arith), (λ _. refl), λ h e. absurd (omega arith)),
      ))
      (λ busy. taken s o here there low busy (get_or s.words 0 0) refl) where
        taken : (s : TableState) (o : ShowsLawful b s) (here : (id ≡ suc m) × (m < size b)) (there : get_elem? s.views (suc m) ≡ some (Own m q b ds)) (low : get_or s.words 0 0 ≤ size b) → get_or s.words 0 0 ≢ 0 → (x : ℕ) → x ≡ get_or s.words 0 0
            → (w : SeatData) × (a : Act (Option Parcel)) × Valid s.homes c a × ShowsLawful b (stepped s 0 (get_or s.words 0 0) id c w a) × tells_lock (step k 0 0 (m + 1) none) (Own m q b ds, c) (get_or s.words 0 0) (w, carried_after c a)
        taken s o here there low busy zero e = absurd (busy (sym e))
        taken s o here there low busy (suc h) e = let held : get_or s.words 0 0 ≡ h + 1 = sym e ∙ omega arith in (
          Own m q b (Found (loads.Holder h) ∷ ds),
          keeps,
          tt,
          subst (λ j. ShowsLawful b (record { words = set s.words 0 (get_or s.words 0 0); homes = s.homes; views = set s.views j (Own m q b (Found (loads.Holder h) ∷ ds)) })) (sym here.0) (busy_keeps b s o m q ds there here.1 h held may),
          (low, (λ same. not_self b s o m q ds there here.1 h held may.not_held (omega arith)), (λ free. absurd (busy free)), λ i is. let z : h ≡ i = omega arith in ap (λ j. (Own m q b (Found (loads.Holder j) ∷ ds), c)) z),
        )

  clear_home : (x : ℕ) (h : maybe.Option (maybe.Option (Option Parcel))) (g : Bool) (y : Slot) → IsSlot x h g y → IsClearWord (word_shown y)
  clear_home x h g Empty t = tt
  clear_home x h g (Posted e) t = tt
  clear_home x h g Taken t = tt
  clear_home x h g (Done e home) t = t.1.1
  clear_home x h g (Failed e) t = tt

  look_allowed : (a t : ℕ) → MayLook (place_of b) m a t → Allows (ShowsLawful b) k id (Own m q b ds, c) (pool_word (size b) a t) (λ y. y) (tells_look (step k (pool_word (size b) a t) 0 0 none) (Own m q b ds, c))
  look_allowed a t may s o many at fits64 = let here = place b o.holder o.slot o.mail s o.fits id m q ds at in let slot = o.fits.pool a t may.target may.slot in (
    Own m q b (Found (loads.Slot a t (word_shown (o.slot a t))) ∷ ds),
    keeps,
    tt,
    subst (λ j. ShowsLawful b (record { words = set s.words (pool_word (size b) a t) (get_or s.words (pool_word (size b) a t) 0); homes = s.homes; views = set s.views j (Own m q b (Found (loads.Slot a t (word_shown (o.slot a t))) ∷ ds)) })) (sym here.0)
        (look_keeps b s o m q ds (ap (get_elem? s.views) (sym here.0) ∙ at) here.1 a t may.target may.slot),
    λ a' t' less is. let x : a ≡ a' = (let l = may.slot in omega arith) in let y : t ≡ t' = (let l = may.slot in omega arith) in
        (word_shown (o.slot a t), slot.0, clear_home (get_or s.words (pool_word (size b) a t) 0) (get_elem? s.homes (pool_place a t)) (pose_at s.views a).settled (o.slot a t) slot, λ i. (Own m q b (Found (loads.Slot (x i) (y i) (word_shown (o.slot a t))) ∷ ds), c)),
  )

  words_same : (e f : Entry) (x : Slot) (n : ℕ) → x ≡ Posted e → word_shown x ≡ words.Posted n → length (words_of e) ≡ n
  words_same e f x n is seen = let p : words.Posted (length (words_of e)) ≡ words.Posted n = sym (ap word_shown is) ∙ seen in cc p

  take_allowed : (a t : ℕ) → MayTake (place_of b) m (view_by b m ds) a t → Allows (ShowsLawful b) k id (Own m q b ds, c) (pool_word (size b) a t) (λ _. 2) (λ _. tells_take (step k (pool_word (size b) a t) 2 0 none) (Own m q b ds, c) 2)
  take_allowed a t may s o many at fits64 =
      let here = place b o.holder o.slot o.mail s o.fits id m q ds at in
      let there : get_elem? s.views (suc m) ≡ some (Own m q b ds) = ap (get_elem? s.views) (sym here.0) ∙ at in
      let can = take_can b s o m q ds there here.1 a t may in
      let e : Entry = can.0 in (
        Own m q b (Take a t e ∷ ds),
        takes (pool_place a t) (lies e None),
        posted_home b s o m q ds there here.1 a t e may.target may.slot can.1.entry,
        subst (λ j. ShowsLawful b (record { words = set s.words (pool_word (size b) a t) 2; homes = set s.homes (pool_place a t) none; views = set s.views j (Own m q b (Take a t e ∷ ds)) })) (sym here.0)
            (take_keeps b s o m q ds there here.1 a t e may.target may.slot can.1),
        λ a' t' less is. let x : a ≡ a' = (let l = may.slot in omega arith) in let y : t ≡ t' = (let l = may.slot in omega arith) in (
          e,
          (λ i. (Own m q b (Take (x i) (y i) e ∷ ds), (pool_place (x i) (y i), lies e None) ∷ c)),
          subst (λ j. IsNotOut (place_of b) m (view_by b m ds) j t') x (subst (λ j. IsNotOut (place_of b) m (view_by b m ds) a j) y (posted_not_out b s o m q ds there here.1 a t e can.1.entry)),
          (λ n seen. words_same e e (o.slot a t) n can.1.entry (o.reached.lawful.looks.posted_seen m a t n ((o.reached.lawful.looks.holds_is m).0 can.1.holds)
              (subst (λ (u : View). In (loads.Slot a t (words.Posted n)) u.looked) (sym (known b s o m q ds there here.1)) (subst (λ j. In (loads.Slot j t (words.Posted n)) (view_by b m ds).looked) (sym x) (subst (λ j. In (loads.Slot a' j (words.Posted n)) (view_by b m ds).looked) (sym y) seen))))),
          o.reached.lawful.keys.spelled e.key (record { entry = e; slot = Some t }) (o.reached.lawful.slots.posted_named a t e can.1.entry).0,
          subst (λ j. IsUnlogged m j t' (view_by b m ds) e) x (subst (λ j. IsUnlogged m a j (view_by b m ds) e) y (taken_unlogged b s o m q ds there here.1 a t e can.1.entry)),
        ),
      )

  -- the change that stands first
  pub first_change : (x y : Change) (p r : ℕ) (l n : List (ℕ × Option Parcel)) → ((p, Some (parcels.Change x)) ∷ l) ≡ ((r, Some (parcels.Change y)) ∷ n) → x ≡ y
  first_change x y p r l n is = let h : Some (parcels.Change x) ≡ Some (parcels.Change y) = ap (λ (z : List (ℕ × Option Parcel)). (get_or z 0 (0, None)).1) is in cc h

module _ (b : Origin) (k id m : ℕ) (q : Holding) (ds : List Deed) (c : List (ℕ × Option Parcel)) where
  post_allowed : (t : ℕ) (x : Change) (value : List ℕ) (stamp : ℕ) → MayPost (place_of b) m (view_by b m ds) t x value
      → Allows (ShowsLawful b) k id (Own m q b ds, (pool_place m t, Some (parcels.Change x)) ∷ c) (pool_word (size b) m t) (λ _. 16 + length (words_of x.entry))
      (λ _. tells_post value stamp (step k (pool_word (size b) m t) (16 + length (words_of x.entry)) 0 none) (Own m q b ds, (pool_place m t, Some (parcels.Change x)) ∷ c) (16 + length (words_of x.entry)))
  post_allowed t x value stamp may s o many at fits64 = let here = place b o.holder o.slot o.mail s o.fits id m q ds at in (
    Own m q b (Post t x.entry value stamp ∷ ds),
    gives,
    tt,
    subst (λ j. ShowsLawful b (record { words = set s.words (pool_word (size b) m t) (16 + length (words_of x.entry)); homes = set s.homes (pool_place m t) (some (Some (parcels.Change x))); views = set s.views j (Own m q b (Post t x.entry value stamp ∷ ds)) })) (sym here.0)
        (subst (λ h. ShowsLawful b (record { words = set s.words (pool_word (size b) m t) (16 + length (words_of x.entry)); homes = set s.homes (pool_place m t) (some (Some (parcels.Change (record { entry = x.entry; home = h })))); views = set s.views (suc m) (Own m q b (Post t x.entry value stamp ∷ ds)) })) (sym may.home)
        (post_keeps b s o m q ds (ap (get_elem? s.views) (sym here.0) ∙ at) here.1 t x value stamp may)),
    λ u y is front. let same : t ≡ u = omega arith in let z = first_change b k id m q ds c x y (pool_place m t) (pool_place m u) c c front in
        ((λ i. (Own m q b (Post (same i) (z i).entry value stamp ∷ ds), c)), subst (λ j. (view_by b m ds).taken m j ≡ None) same (taken_none b s o m q ds (ap (get_elem? s.views) (sym here.0) ∙ at) here.1 m t Empty (own_empty b s o m q ds (ap (get_elem? s.views) (sym here.0) ∙ at) here.1 t may.free) (λ p. cc p))),
  )

  settle_allowed : (i : ℕ) → q.settled ≡ false → ((t : ℕ) → t < 8 → IsFree (view_by b m ds) t) → Allows (ShowsLawful b) k id (Own m q b ds, c) i (λ y. y) (tells_settle (step k i 0 0 none) (Own m q b ds, c))
  settle_allowed i fresh free s o many at fits64 =
      let here = place b o.holder o.slot o.mail s o.fits id m q ds at in
      let turned : q ≡ record { settled = false; hand = q.hand } = λ j. record { settled = fresh j; hand = q.hand } in
      let there : get_elem? s.views (suc m) ≡ some (Own m (record { settled = false; hand = q.hand }) b ds) = ap (get_elem? s.views) (sym here.0) ∙ (at ∙ ap (λ r. some (Own m r b ds)) turned) in (
        Own m (record { settled = true; hand = q.hand }) b ds,
        takes_row (pool_place m 0) 8,
        settle_valid b s o m q.hand ds there here.1 free c,
        subst (λ j. ShowsLawful b (record { words = set s.words i (get_or s.words i 0); homes = homes_after s.homes c (takes_row (pool_place m 0) 8); views = set s.views j (Own m (record { settled = true; hand = q.hand }) b ds) })) (sym here.0)
            (settle_keeps b s o m q.hand ds there here.1 free i c),
        ap (λ l. (Own m (record { settled = true; hand = q.hand }) b ds, l)) (row_carried (pool_place m 0) s.homes c 8),
      )

  return_allowed : (i : ℕ) (ks : List ℕ) → c ≡ empties ks → q.settled ≡ true → ((a t : ℕ) → a < size b → t < 8 → IsNotOut (place_of b) m (view_by b m ds) a t → has (pool_place a t) ks ≡ false) → ((j : ℕ) → has j ks ≡ true → j < 8 * size b)
      → Allows (ShowsLawful b) k id (Own m q b ds, c) i (λ y. y) (tells_return b (step k i 0 0 none) (Own m q b ds, c))
  return_allowed i ks are settled others below = subst (λ l. Allows (ShowsLawful b) k id (Own m q b ds, l) i (λ y. y) (tells_return b (step k i 0 0 none) (Own m q b ds, l))) (sym are)
      (λ s o many at fits64. let here = place b o.holder o.slot o.mail s o.fits id m q ds at in (
        Own m q b ds,
        gives_all ks,
        all_valid s.homes ks,
        subst (λ j. ShowsLawful b (record { words = set s.words i (get_or s.words i 0); homes = homes_after s.homes (empties ks) (gives_all ks); views = set s.views j (Own m q b ds) })) (sym here.0)
            (back_keeps b s o m q ds (ap (get_elem? s.views) (sym here.0) ∙ at) here.1 ks settled others below i),
        (ap (λ l. (Own m q b ds, l)) (all_given ks), refl),
      ))

-- The same for a seat as a call has it: what it is by its ghost fields.
module _ (key : Origin) (k id : ℕ) (me : SeatState) (mine : is_own me.0 ≡ true) where
  abbrev Owes : ℕ → (ℕ → ℕ) → (ℕ → SeatState → Type 0) → Type 0
  Owes i f then = Allows (ShowsLawful key) k id me i f then

  pub commit_owes : (i stamp : ℕ) (g : ℕ → ℕ) → ((y : ℕ) → g y ≡ (y + 1) % 2 ^ 64) → i ≡ own_word (number_in me.0) → MayCommit (place_of (origin_in me.0)) (number_in me.0) (view_in me.0) → Allows (ShowsLawful key) k id me i g (tells_commit stamp (step k i 1 0 none) me)
  commit_owes i stamp g up at may = by_own (λ d. i ≡ own_word (number_in d) → MayCommit (place_of (origin_in d)) (number_in d) (view_in d) → Allows (ShowsLawful key) k id (d, me.1) i g (tells_commit stamp (step k i 1 0 none) (d, me.1)))
      (λ m q b ds at may. at_own_origin key b k id m q ds me.1 i g (tells_commit stamp (step k i 1 0 none) (Own m q b ds, me.1))
      (subst (λ j. Allows (ShowsLawful b) k id (Own m q b ds, me.1) j g (tells_commit stamp (step k j 1 0 none) (Own m q b ds, me.1))) (sym at) (commit_allowed b k id m q ds me.1 stamp g up may))) me.0 mine at may

  pub unlock_owes : MayUnlock (place_of (origin_in me.0)) (number_in me.0) (view_in me.0) → Allows (ShowsLawful key) k id me 0 (λ _. 0) (λ _. tells_unlock (step k 0 0 0 none) me 0)
  unlock_owes may = by_own (λ d. MayUnlock (place_of (origin_in d)) (number_in d) (view_in d) → Allows (ShowsLawful key) k id (d, me.1) 0 (λ _. 0) (λ _. tells_unlock (step k 0 0 0 none) (d, me.1) 0))
      (λ m q b ds may. at_own_origin key b k id m q ds me.1 0 (λ _. 0) (λ _. tells_unlock (step k 0 0 0 none) (Own m q b ds, me.1) 0) (unlock_allowed b k id m q ds me.1 may)) me.0 mine may

  pub lock_owes : (new : ℕ) → new ≡ number_in me.0 + 1 → MayLock (place_of (origin_in me.0)) (number_in me.0) (view_in me.0) → Allows (ShowsLawful key) k id me 0 (λ y. either (eqb y 0) new y) (tells_lock (step k 0 0 new none) me)
  lock_owes new at may = by_own (λ d. new ≡ number_in d + 1 → MayLock (place_of (origin_in d)) (number_in d) (view_in d) → Allows (ShowsLawful key) k id (d, me.1) 0 (λ y. either (eqb y 0) new y) (tells_lock (step k 0 0 new none) (d, me.1)))
      (λ m q b ds at may. at_own_origin key b k id m q ds me.1 0 (λ y. either (eqb y 0) new y) (tells_lock (step k 0 0 new none) (Own m q b ds, me.1))
      (subst (λ j. Allows (ShowsLawful b) k id (Own m q b ds, me.1) 0 (λ y. either (eqb y 0) j y) (tells_lock (step k 0 0 j none) (Own m q b ds, me.1))) (sym at) (lock_allowed b k id m q ds me.1 may))) me.0 mine at may

  pub look_owes : (i a t : ℕ) → i ≡ pool_word (size (origin_in me.0)) a t → MayLook (place_of (origin_in me.0)) (number_in me.0) a t → Allows (ShowsLawful key) k id me i (λ y. y) (tells_look (step k i 0 0 none) me)
  look_owes i a t at may = by_own (λ d. i ≡ pool_word (size (origin_in d)) a t → MayLook (place_of (origin_in d)) (number_in d) a t → Allows (ShowsLawful key) k id (d, me.1) i (λ y. y) (tells_look (step k i 0 0 none) (d, me.1)))
      (λ m q b ds at may. at_own_origin key b k id m q ds me.1 i (λ y. y) (tells_look (step k i 0 0 none) (Own m q b ds, me.1))
      (subst (λ j. Allows (ShowsLawful b) k id (Own m q b ds, me.1) j (λ y. y) (tells_look (step k j 0 0 none) (Own m q b ds, me.1))) (sym at) (look_allowed b k id m q ds me.1 a t may))) me.0 mine at may

  pub take_owes : (i a t : ℕ) → i ≡ pool_word (size (origin_in me.0)) a t → MayTake (place_of (origin_in me.0)) (number_in me.0) (view_in me.0) a t → Allows (ShowsLawful key) k id me i (λ _. 2) (λ _. tells_take (step k i 2 0 none) me 2)
  take_owes i a t at may = by_own (λ d. i ≡ pool_word (size (origin_in d)) a t → MayTake (place_of (origin_in d)) (number_in d) (view_in d) a t → Allows (ShowsLawful key) k id (d, me.1) i (λ _. 2) (λ _. tells_take (step k i 2 0 none) (d, me.1) 2))
      (λ m q b ds at may. at_own_origin key b k id m q ds me.1 i (λ _. 2) (λ _. tells_take (step k i 2 0 none) (Own m q b ds, me.1) 2)
      (subst (λ j. Allows (ShowsLawful b) k id (Own m q b ds, me.1) j (λ _. 2) (λ _. tells_take (step k j 2 0 none) (Own m q b ds, me.1) 2)) (sym at) (take_allowed b k id m q ds me.1 a t may))) me.0 mine at may

  pub post_owes : (i x t : ℕ) (y : Change) (value : List ℕ) (stamp : ℕ) (c : List (ℕ × Option Parcel)) → i ≡ pool_word (size (origin_in me.0)) (number_in me.0) t → x ≡ 16 + length (words_of y.entry) → me.1 ≡ (pool_place (number_in me.0) t, Some (parcels.Change y)) ∷ c
      → MayPost (place_of (origin_in me.0)) (number_in me.0) (view_in me.0) t y value → Allows (ShowsLawful key) k id me i (λ _. x) (λ _. tells_post value stamp (step k i x 0 none) me x)
  post_owes i x t y value stamp c at is out may = by_own (λ d. (l : List (ℕ × Option Parcel)) → i ≡ pool_word (size (origin_in d)) (number_in d) t → l ≡ (pool_place (number_in d) t, Some (parcels.Change y)) ∷ c → MayPost (place_of (origin_in d)) (number_in d) (view_in d) t y value → Allows (ShowsLawful key) k id (d, l) i (λ _. x) (λ _. tells_post value stamp (step k i x 0 none) (d, l) x))
      (λ m q b ds l at out may. at_own_origin key b k id m q ds l i (λ _. x) (λ _. tells_post value stamp (step k i x 0 none) (Own m q b ds, l) x)
      (subst (λ z. Allows (ShowsLawful b) k id (Own m q b ds, z) i (λ _. x) (λ _. tells_post value stamp (step k i x 0 none) (Own m q b ds, z) x)) (sym out)
      (subst (λ j. Allows (ShowsLawful b) k id (Own m q b ds, (pool_place m t, Some (parcels.Change y)) ∷ c) j (λ _. x) (λ _. tells_post value stamp (step k j x 0 none) (Own m q b ds, (pool_place m t, Some (parcels.Change y)) ∷ c) x)) (sym at)
      (subst (λ z. Allows (ShowsLawful b) k id (Own m q b ds, (pool_place m t, Some (parcels.Change y)) ∷ c) (pool_word (size b) m t) (λ _. z) (λ _. tells_post value stamp (step k (pool_word (size b) m t) z 0 none) (Own m q b ds, (pool_place m t, Some (parcels.Change y)) ∷ c) z)) (sym is)
      (post_allowed b k id m q ds c t y value stamp may))))) me.0 mine me.1 at out may

  pub settle_owes : (i : ℕ) → is_settled me.0 ≡ false → ((t : ℕ) → t < 8 → IsFree (view_in me.0) t) → Allows (ShowsLawful key) k id me i (λ y. y) (tells_settle (step k i 0 0 none) me)
  settle_owes i fresh free = by_own (λ d. is_settled d ≡ false → ((t : ℕ) → t < 8 → IsFree (view_in d) t) → Allows (ShowsLawful key) k id (d, me.1) i (λ y. y) (tells_settle (step k i 0 0 none) (d, me.1)))
      (λ m q b ds fresh free. at_own_origin key b k id m q ds me.1 i (λ y. y) (tells_settle (step k i 0 0 none) (Own m q b ds, me.1)) (settle_allowed b k id m q ds me.1 i fresh free)) me.0 mine fresh free

  pub return_owes : (i : ℕ) (ks : List ℕ) → me.1 ≡ empties ks → is_settled me.0 ≡ true → ((a t : ℕ) → a < size (origin_in me.0) → t < 8 → IsNotOut (place_of (origin_in me.0)) (number_in me.0) (view_in me.0) a t → has (pool_place a t) ks ≡ false) → ((j : ℕ) → has j ks ≡ true → j < 8 * size (origin_in me.0))
      → Allows (ShowsLawful key) k id me i (λ y. y) (tells_return key (step k i 0 0 none) me)
  return_owes i ks are settled others below = by_own (λ d. is_settled d ≡ true → ((a t : ℕ) → a < size (origin_in d) → t < 8 → IsNotOut (place_of (origin_in d)) (number_in d) (view_in d) a t → has (pool_place a t) ks ≡ false) → ((j : ℕ) → has j ks ≡ true → j < 8 * size (origin_in d)) → Allows (ShowsLawful key) k id (d, me.1) i (λ y. y) (tells_return key (step k i 0 0 none) (d, me.1)))
      (λ m q b ds settled others below. based key b k id m q ds me.1 i (λ y. y) (tells_return key (step k i 0 0 none) (Own m q b ds, me.1))
      (λ e. subst (λ x. Allows (ShowsLawful x) k id (Own m q b ds, me.1) i (λ y. y) (tells_return x (step k i 0 0 none) (Own m q b ds, me.1))) e (return_allowed b k id m q ds me.1 i ks are settled others below))) me.0 mine settled others below
