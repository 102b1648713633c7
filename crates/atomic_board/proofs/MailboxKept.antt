-- The steps at mailboxes keep the rule: a load that takes the slot in hand or finds it is not the member's turn, and the store that gives it back.
use Rattle.atomic_board.proofs.Reaches.{more, reached_by}
use Rattle.std.proofs.Common.{◌≡◌, ◌≢◌, ℕ, suc, ◌+◌, ◌*◌, ◌<◌, ◌≤◌, Bool, true, false, List, [], ◌∷◌, length, get_or, set, sym, refl, ap, ◌∙◌, subst, inl, inr, ◌⊎◌, ⊎_elim, eq-eqb, ne_eqb, arith, length-set, get_or-set_other, get_or-set_same, mul-le-mul_right, suc-mul, mul_comm, Option, Some, None, lt_of_not-le}
use mathlib.Core.Option.{some, none}
use mathlib.Core.Option as maybe
use mathlib.Core.Logic.{dite}
use native.Mathlib.Decide.{ℕ_discrete, dec_le}
use lib.ListN.{get_elem?}
use lib.Seq.{set-get_or}
use Rattle.atomic_table.proofs.Lists.{set_here, set_else}
use Rattle.log_entry.specs.declared.entry.EntryName.{EntryName}
use Rattle.store_image.specs.Facts.{In}
use Rattle.group_laws.specs.declared.types.Seen.TheVariants as loads
use Rattle.group_laws.specs.Updates.{put, put2}
use Rattle.group_laws.specs.State.{Notices, is_full}
use Rattle.group_board.specs.declared.names.Notices.{Notices as Parceled}
use Rattle.group_board.specs.Mailing.{notices_of}
use Rattle.group_laws.specs.MemberViews.{View}
use Rattle.group_board.specs.Conditions.{MaySend}
use Rattle.atomic_board.specs.declared.parcel.Parcel.{Parcel}
use Rattle.atomic_board.specs.declared.parcel.Parcel.TheVariants as parcels
use Rattle.atomic_board.specs.declared.seat_data.Origin.{Origin}
use Rattle.atomic_board.specs.declared.seat_data.MailHold.{MailHold}
use Rattle.atomic_board.specs.declared.seat_data.Holding.{Holding}
use Rattle.atomic_board.specs.declared.seat_data.Deed.{Deed}
use Rattle.atomic_board.specs.declared.seat_data.Deed.TheVariants.{Found, Send, Receive}
use Rattle.atomic_board.specs.declared.seat_data.SeatData.TheVariants.{Own}
use Rattle.atomic_board.specs.TableWords.{own_word, pool_word, pool_place, mail_word, mail_place, word_count}
use Rattle.atomic_board.specs.Deeds.{group_of, place_of, size, names_of, names_by, after_deed, view_by, stepped_by}
use Rattle.atomic_board.specs.ShownState.{TableState, Home, deeds_at, views_of, pose_at, grips, gripped, grip_at, IsSlot, IsBox, IsReached, ShowsLawful}
use Rattle.atomic_board.proofs.ViewSteps.{moved}
use Rattle.atomic_board.proofs.SeatPlaces.{put_here, put_else, put_at, put2_here, put2_else, pose_here, pose_moved, deeds_moved, views_moved}
use Rattle.atomic_board.proofs.RuleKept.{known, fits_after, own_still, calm}
use Rattle.atomic_board.proofs.MailSteps.{look_mail_law, send_law, receive_law}

-- one row of mailboxes stands behind another
far : (n i a j : ℕ) → i < a → j < n → n * i + j < n * a
far n i a j h l = let up : suc i * n ≤ a * n = mul-le-mul_right n h in omega (arith, suc-mul i n, mul_comm n i, mul_comm n a)

pub mail_apart2 : (n i j a c : ℕ) → j < n → c < n → (i ≢ a) ⊎ (j ≢ c) → mail_word n i j ≢ mail_word n a c
mail_apart2 n i j a c l r ne e = ⊎_elim
    (λ (d : i ≢ a). dite (dec_le (suc i) a)
    (λ low. let f = far n i a j low l in omega (arith, f, e))
    (λ no. let high : a < suc i = lt_of_not-le no in let f = far n a i c (omega arith) r in omega (arith, f, e)))
    (λ (d : j ≢ c). dite (ℕ_discrete i a) (λ same. d (let f = ap (λ x. n * x) same in omega (arith, f, e))) (λ other. dite (dec_le (suc i) a)
    (λ low. let f = far n i a j low l in omega (arith, f, e))
    (λ no. let high : a < suc i = lt_of_not-le no in let f = far n a i c (omega arith) r in omega (arith, f, e)))) ne

-- a mailbox's word is one of the table's
pub mail_low : (n a c : ℕ) → a < n → c < n → mail_word n a c < word_count n
mail_low n a c h l = let f = far n a n c h l in omega (arith, f)

-- other hands that hold the same of a mailbox
regrip : (x : ℕ) (h : Home) (k : ℕ) (s t r u : Option MailHold) (y : Option Notices) → grips t k ≡ grips s k → grips u k ≡ grips r k → (grips u k ≡ true → gripped u ≡ gripped r) → IsBox x h k s r y → IsBox x h k t u y
regrip x h k s t r u None es er eg p = (p.0, er ∙ p.1, λ f. p.2 (sym es ∙ f))
regrip x h k s t r u (Some n) es er eg p = (p.0, (λ f. p.1 (sym er ∙ f)), λ f. p.2 (sym er ∙ f) ∙ sym (eg f))

module _ (b : Origin) (s : TableState) (o : ShowsLawful b s) (m : ℕ) (q : Holding) (ds : List Deed) (me : get_elem? s.views (suc m) ≡ some (Own m q b ds)) (near : m < size b) where
  -- one mailbox's word changes, with what lies in its slot and the member's hand
  pub boxed : (d : Deed) (a c x : ℕ) (h : Home) (hs : List (maybe.Option (Option Parcel))) (y : Option Notices) (r : Holding) (post : ℕ → ℕ → Option Notices) → a < size b → c < size b → r.settled ≡ q.settled
      → ((k : ℕ) → k ≢ pool_place a c → grips q.hand k ≡ false) → ((k : ℕ) → k ≢ pool_place a c → grips r.hand k ≡ false)
      → length hs ≡ length s.homes → get_elem? hs (mail_place (size b) a c) ≡ h → ((k : ℕ) → k ≢ mail_place (size b) a c → get_elem? hs k ≡ get_elem? s.homes k)
      → post a c ≡ y → ((i j : ℕ) → (i ≢ a) ⊎ (j ≢ c) → post i j ≡ o.mail i j)
      → IsBox x h (pool_place a c) (put (pose_at s.views) m r a).hand (put (pose_at s.views) m r c).hand y → ((n : ℕ) → stepped_by d n ≡ n)
      → IsReached b (deeds_at (set s.views (suc m) (Own m r b (d ∷ ds)))) (group_of (place_of b) o.holder o.slot post (views_of b (set s.views (suc m) (Own m r b (d ∷ ds)))))
      → ShowsLawful b (record { words = set s.words (mail_word (size b) a c) x; homes = hs; views = set s.views (suc m) (Own m r b (d ∷ ds)) })
  boxed d a c x h hs y r post low less settled old new many here else at away box uncounted law = record {
    holder = o.holder;
    slot = o.slot;
    mail = post;
    fits = fits_after b o.holder o.holder o.slot o.slot o.mail post s (record { words = set s.words (mail_word (size b) a c) x; homes = hs; views = set s.views (suc m) (Own m r b (d ∷ ds)) }) o.fits m q r ds (d ∷ ds) me refl
        (length-set s.words (mail_word (size b) a c) x) many (get_or-set_other s.words (mail_word (size b) a c) 0 x 0 (λ e. omega arith) ∙ o.fits.lock) o.fits.member
        (λ i t hi lt. subst (λ z. IsSlot z (get_elem? hs (pool_place i t)) (pose_at (set s.views (suc m) (Own m r b (d ∷ ds))) i).settled (o.slot i t)) (sym (get_or-set_other s.words (mail_word (size b) a c) (pool_word (size b) i t) x 0 (λ e. omega arith)))
        (subst (λ z. IsSlot (get_or s.words (pool_word (size b) i t) 0) z (pose_at (set s.views (suc m) (Own m r b (d ∷ ds))) i).settled (o.slot i t)) (sym (else (pool_place i t) (λ e. omega arith)))
        (subst (λ z. IsSlot (get_or s.words (pool_word (size b) i t) 0) (get_elem? s.homes (pool_place i t)) z (o.slot i t)) (sym (still i)) (o.fits.pool i t hi lt))))
        o.fits.outside
        (λ i j hi lj. by i j hi lj (where_is i j))
        (λ i j out. away i j (elsewhere i j out) ∙ o.fits.no_box i j out)
        (own_still b s o m q ds me near d r uncounted (set s.words (mail_word (size b) a c) x) (λ j l. get_or-set_other s.words (mail_word (size b) a c) (own_word j) x 0 (λ e. omega (arith, e, l))));
    reached = law;
  } where
    poses : (i : ℕ) → pose_at (set s.views (suc m) (Own m r b (d ∷ ds))) i ≡ put (pose_at s.views) m r i
    poses = pose_moved s.views m q r b d ds me

    still : (i : ℕ) → (pose_at (set s.views (suc m) (Own m r b (d ∷ ds))) i).settled ≡ (pose_at s.views i).settled
    still i = ap (λ (z : Holding). z.settled) (poses i) ∙ put_at (pose_at s.views) m r (λ j (z : Holding). z.settled ≡ (pose_at s.views j).settled) (settled ∙ sym (ap (λ (z : Holding). z.settled) (pose_here s.views m q b ds me))) (λ j ne. refl) i

    elsewhere : (i j : ℕ) → (size b ≤ i) ⊎ (size b ≤ j) → (i ≢ a) ⊎ (j ≢ c)
    elsewhere i j (inl high) = inl (λ e. omega arith)
    elsewhere i j (inr high) = inr (λ e. omega arith)

    where_is : (i j : ℕ) → ((i ≡ a) × (j ≡ c)) ⊎ ((i ≢ a) ⊎ (j ≢ c))
    where_is i j = dite (ℕ_discrete i a) (λ e. dite (ℕ_discrete j c) (λ f. inl (e, f)) (λ ne. inr (inr ne))) (λ ne. inr (inl ne))

    -- another mailbox is in the hand neither before nor after
    hand_at : (k i : ℕ) → k ≢ pool_place a c → (grips (pose_at (set s.views (suc m) (Own m r b (d ∷ ds))) i).hand k ≡ grips (pose_at s.views i).hand k) × (grips (pose_at (set s.views (suc m) (Own m r b (d ∷ ds))) i).hand k ≡ true → gripped (pose_at (set s.views (suc m) (Own m r b (d ∷ ds))) i).hand ≡ gripped (pose_at s.views i).hand)
    hand_at k i ne = dite (ℕ_discrete i m)
        (λ e. let now : grips (pose_at (set s.views (suc m) (Own m r b (d ∷ ds))) i).hand k ≡ false = ap (λ (z : Holding). grips z.hand k) (poses i ∙ (ap (put (pose_at s.views) m r) e ∙ put_here (pose_at s.views) m r)) ∙ new k ne in
        let then : grips (pose_at s.views i).hand k ≡ false = ap (λ (z : Holding). grips z.hand k) (ap (pose_at s.views) e ∙ pose_here s.views m q b ds me) ∙ old k ne in
        (now ∙ sym then, λ t. absurd (cc (now, t))))
        (λ other. let same = poses i ∙ put_else (pose_at s.views) m r i other in (ap (λ (z : Holding). grips z.hand k) same, λ _. ap (λ (z : Holding). gripped z.hand) same))

    by : (i j : ℕ) → i < size b → j < size b → ((i ≡ a) × (j ≡ c)) ⊎ ((i ≢ a) ⊎ (j ≢ c))
        → IsBox (get_or (set s.words (mail_word (size b) a c) x) (mail_word (size b) i j) 0) (get_elem? hs (mail_place (size b) i j)) (pool_place i j) (pose_at (set s.views (suc m) (Own m r b (d ∷ ds))) i).hand (pose_at (set s.views (suc m) (Own m r b (d ∷ ds))) j).hand (post i j)
    by i j hi lj (inl is) = subst (λ k. IsBox (get_or (set s.words (mail_word (size b) a c) x) (mail_word (size b) k j) 0) (get_elem? hs (mail_place (size b) k j)) (pool_place k j) (pose_at (set s.views (suc m) (Own m r b (d ∷ ds))) k).hand (pose_at (set s.views (suc m) (Own m r b (d ∷ ds))) j).hand (post k j)) (sym is.0)
        (subst (λ k. IsBox (get_or (set s.words (mail_word (size b) a c) x) (mail_word (size b) a k) 0) (get_elem? hs (mail_place (size b) a k)) (pool_place a k) (pose_at (set s.views (suc m) (Own m r b (d ∷ ds))) a).hand (pose_at (set s.views (suc m) (Own m r b (d ∷ ds))) k).hand (post a k)) (sym is.1)
        (subst (λ z. IsBox z (get_elem? hs (mail_place (size b) a c)) (pool_place a c) (pose_at (set s.views (suc m) (Own m r b (d ∷ ds))) a).hand (pose_at (set s.views (suc m) (Own m r b (d ∷ ds))) c).hand (post a c)) (sym (get_or-set_same s.words (mail_word (size b) a c) x 0 room))
        (subst (λ z. IsBox x z (pool_place a c) (pose_at (set s.views (suc m) (Own m r b (d ∷ ds))) a).hand (pose_at (set s.views (suc m) (Own m r b (d ∷ ds))) c).hand (post a c)) (sym here)
        (subst (λ (z : Holding). IsBox x h (pool_place a c) z.hand (pose_at (set s.views (suc m) (Own m r b (d ∷ ds))) c).hand (post a c)) (sym (poses a))
        (subst (λ (z : Holding). IsBox x h (pool_place a c) (put (pose_at s.views) m r a).hand z.hand (post a c)) (sym (poses c))
        (subst (λ z. IsBox x h (pool_place a c) (put (pose_at s.views) m r a).hand (put (pose_at s.views) m r c).hand z) (sym at) box)))))) where
          room : mail_word (size b) a c < length s.words
          room = let wide = o.fits.wide in let f = far (size b) a (size b) c low less in omega (arith, wide, f)
    by i j hi lj (inr ne) =
        let few = o.fits.few in
        let place : pool_place i j ≢ pool_place a c = (λ e. ⊎_elim (λ (d : i ≢ a). d (omega (arith, e, few, lj, less))) (λ (d : j ≢ c). d (omega (arith, e, few, lj, less))) ne) in
        let slot : mail_place (size b) i j ≢ mail_place (size b) a c = (λ e. place (omega (arith, e))) in
        subst (λ z. IsBox z (get_elem? hs (mail_place (size b) i j)) (pool_place i j) (pose_at (set s.views (suc m) (Own m r b (d ∷ ds))) i).hand (pose_at (set s.views (suc m) (Own m r b (d ∷ ds))) j).hand (post i j)) (sym (get_or-set_other s.words (mail_word (size b) a c) (mail_word (size b) i j) x 0 (mail_apart2 (size b) i j a c lj less ne)))
        (subst (λ z. IsBox (get_or s.words (mail_word (size b) i j) 0) z (pool_place i j) (pose_at (set s.views (suc m) (Own m r b (d ∷ ds))) i).hand (pose_at (set s.views (suc m) (Own m r b (d ∷ ds))) j).hand (post i j)) (sym (else (mail_place (size b) i j) slot))
        (subst (λ z. IsBox (get_or s.words (mail_word (size b) i j) 0) (get_elem? s.homes (mail_place (size b) i j)) (pool_place i j) (pose_at (set s.views (suc m) (Own m r b (d ∷ ds))) i).hand (pose_at (set s.views (suc m) (Own m r b (d ∷ ds))) j).hand z) (sym (away i j ne))
        (regrip (get_or s.words (mail_word (size b) i j) 0) (get_elem? s.homes (mail_place (size b) i j)) (pool_place i j) (pose_at s.views i).hand (pose_at (set s.views (suc m) (Own m r b (d ∷ ds))) i).hand (pose_at s.views j).hand (pose_at (set s.views (suc m) (Own m r b (d ∷ ds))) j).hand (o.mail i j)
        (hand_at (pool_place i j) i place).0 (hand_at (pool_place i j) j place).0 (hand_at (pool_place i j) j place).1 (o.fits.box i j hi lj))))

-- what a mailbox's word says
pub box_zero : (x : ℕ) (h : Home) (k : ℕ) (s r : Option MailHold) (y : Option Notices) → IsBox x h k s r y → x ≡ 0 → (y ≡ None) × (grips r k ≡ false) × (grips s k ≡ false → h ≡ some (some None))
box_zero x h k s r None p e = (refl, p.1, p.2)
box_zero x h k s r (Some n) p e = absurd (let a = p.0 in omega (arith, a, e))

pub box_one : (x : ℕ) (h : Home) (k : ℕ) (s r : Option MailHold) (y : Option Notices) → IsBox x h k s r y → x ≢ 0
    → (x ≡ 1) × (n : Notices) × (y ≡ Some n) × (grips r k ≡ false → (q : Parceled) × (h ≡ some (some (Some (parcels.Notices q)))) × (notices_of q ≡ n))
box_one x h k s r None p ne = absurd (ne p.0)
box_one x h k s r (Some n) p ne = (p.0, n, refl, p.1)

pub box_none : (x : ℕ) (h : Home) (k : ℕ) (s r : Option MailHold) (y : Option Notices) → IsBox x h k s r y → y ≡ None → grips r k ≡ false
box_none x h k s r None p e = p.1
box_none x h k s r (Some n) p e = absurd (cc e)

pub box_some : (x : ℕ) (h : Home) (k : ℕ) (s r : Option MailHold) (y : Option Notices) → IsBox x h k s r y → (y ≡ None → ⊥) → grips r k ≡ true → y ≡ Some (gripped r)
box_some x h k s r None p ne t = absurd (ne refl)
box_some x h k s r (Some n) p ne t = ap Some (p.2 t)

abbrev pub handed : Holding → Option MailHold → Holding
handed q g = record { settled = q.settled; hand = g }

module _ (b : Origin) (s : TableState) (o : ShowsLawful b s) (m : ℕ) (q : Holding) (ds : List Deed) (me : get_elem? s.views (suc m) ≡ some (Own m q b ds)) (near : m < size b) where
  law_at : (d : Deed) (r : Holding) (post : ℕ → ℕ → Option Notices) → IsReached b (more (deeds_at s.views) m d) (moved (place_of b) o.holder o.slot post (views_of b s.views) m (after_deed (names_by (names_of b) (d ∷ ds)) (place_of b) m d)) → IsReached b (deeds_at (set s.views (suc m) (Own m r b (d ∷ ds)))) (group_of (place_of b) o.holder o.slot post (views_of b (set s.views (suc m) (Own m r b (d ∷ ds)))))
  law_at d r post law = reached_by b _ _ _ _ (λ k. sym (deeds_moved s.views m q r b d ds me k)) (λ i. group_of (place_of b) o.holder o.slot post (λ k. sym (views_moved s.views m q r b d ds me k) i)) law

  one_grip : (k j : ℕ) (dead gone : List EntryName) → j ≢ k → grips (grip_at k dead gone) j ≡ false
  one_grip k j dead gone ne = ne_eqb k j (λ e. ne (sym e))

  no_grip : (g : Option MailHold) (k : ℕ) → g ≡ None → grips g k ≡ false
  no_grip g k e = ap (λ x. grips x k) e

  mine : (r : Holding) → (put (pose_at s.views) m r m) ≡ r
  mine r = put_here (pose_at s.views) m r

  full_is : (a c : ℕ) (f : Bool) → is_full (o.mail a c) ≡ f → (r : Holding) → IsReached b (deeds_at (set s.views (suc m) (Own m r b (Found (loads.Mail a c (is_full (o.mail a c))) ∷ ds)))) (group_of (place_of b) o.holder o.slot o.mail (views_of b (set s.views (suc m) (Own m r b (Found (loads.Mail a c (is_full (o.mail a c))) ∷ ds))))) → IsReached b (deeds_at (set s.views (suc m) (Own m r b (Found (loads.Mail a c f) ∷ ds)))) (group_of (place_of b) o.holder o.slot o.mail (views_of b (set s.views (suc m) (Own m r b (Found (loads.Mail a c f) ∷ ds)))))
  full_is a c f is r law = subst (λ z. IsReached b (deeds_at (set s.views (suc m) (Own m r b (Found (loads.Mail a c z) ∷ ds)))) (group_of (place_of b) o.holder o.slot o.mail (views_of b (set s.views (suc m) (Own m r b (Found (loads.Mail a c z) ∷ ds)))))) is law

  home_at : (a c : ℕ) (x : maybe.Option (Option Parcel)) → a < size b → c < size b → get_elem? (set s.homes (mail_place (size b) a c) x) (mail_place (size b) a c) ≡ some x
  home_at a c x low less = let many = o.fits.many in let few = o.fits.few in set_here s.homes (mail_place (size b) a c) x (omega (arith, many, few, low, less))

  -- a load that finds a mailbox not to be the member's turn
  pub peek_keeps : (a c : ℕ) (f : Bool) → is_full (o.mail a c) ≡ f → a < size b → c < size b
      → ShowsLawful b (record { words = set s.words (mail_word (size b) a c) (get_or s.words (mail_word (size b) a c) 0); homes = s.homes; views = set s.views (suc m) (Own m q b (Found (loads.Mail a c f) ∷ ds)) })
  peek_keeps a c f is low less = subst (λ z. ShowsLawful b (record { words = set s.words (mail_word (size b) a c) (get_or s.words (mail_word (size b) a c) 0); homes = s.homes; views = set s.views (suc m) (Own m q b (Found (loads.Mail a c z) ∷ ds)) })) is
      (calm b s o m q ds me near (Found (loads.Mail a c (is_full (o.mail a c)))) (mail_word (size b) a c) (get_or s.words (mail_word (size b) a c) 0) o.holder
      (λ i j. ap (λ l. get_or l (pool_word (size b) i j) 0) (set-get_or s.words (mail_word (size b) a c) 0)) (λ i j. ap (λ l. get_or l (mail_word (size b) i j) 0) (set-get_or s.words (mail_word (size b) a c) 0)) (ap (λ l. get_or l 0 0) (set-get_or s.words (mail_word (size b) a c) 0) ∙ o.fits.lock) o.fits.member
      (own_still b s o m q ds me near (Found (loads.Mail a c (is_full (o.mail a c)))) q (λ n. refl) (set s.words (mail_word (size b) a c) (get_or s.words (mail_word (size b) a c) 0)) (λ j l. ap (λ k. get_or k (own_word j) 0) (set-get_or s.words (mail_word (size b) a c) 0)))
      (look_mail_law b s o m q ds me near a c low less))

  -- the sender takes the slot of an empty mailbox in hand
  pub grab_keeps : (to : ℕ) → to < size b → to ≢ m → q.hand ≡ None → get_or s.words (mail_word (size b) m to) 0 ≡ 0
      → (get_elem? s.homes (mail_place (size b) m to) ≡ some (some None))
      × ShowsLawful b (record { words = set s.words (mail_word (size b) m to) (get_or s.words (mail_word (size b) m to) 0); homes = set s.homes (mail_place (size b) m to) none; views = set s.views (suc m) (Own m (handed q (grip_at (pool_place m to) [] [])) b (Found (loads.Mail m to false) ∷ ds)) })
  grab_keeps to less other empty zero_word =
      let x : ℕ = get_or s.words (mail_word (size b) m to) 0 in let r = handed q (grip_at (pool_place m to) [] []) in
      let z = box_zero x (get_elem? s.homes (mail_place (size b) m to)) (pool_place m to) (pose_at s.views m).hand (pose_at s.views to).hand (o.mail m to) (o.fits.box m to near less) zero_word in (
        z.2 (no_grip (pose_at s.views m).hand (pool_place m to) (ap (λ (p : Holding). p.hand) (pose_here s.views m q b ds me) ∙ empty)),
        boxed b s o m q ds me near (Found (loads.Mail m to false)) m to x (some none) (set s.homes (mail_place (size b) m to) none) None r o.mail near less refl
            (λ k ne. no_grip q.hand k empty) (λ k ne. one_grip (pool_place m to) k [] [] ne) (length-set s.homes (mail_place (size b) m to) none) (home_at m to none near less) (λ k ne. set_else s.homes (mail_place (size b) m to) k none ne)
            z.0 (λ i j ne. refl) (
              zero_word,
              ap (λ (p : Holding). grips p.hand (pool_place m to)) (put_else (pose_at s.views) m r to other) ∙ z.1,
              λ f. absurd (let t = ap (λ (p : Holding). grips p.hand (pool_place m to)) (mine r) ∙ eq-eqb (pool_place m to) (pool_place m to) refl in cc (f, t)),
            )
            (λ n. refl) (full_is m to false (ap is_full z.0) r (law_at (Found (loads.Mail m to (is_full (o.mail m to)))) r o.mail (look_mail_law b s o m q ds me near m to near less))),
      )

  -- the sender puts notices there
  pub send_keeps : (to : ℕ) (n : Parceled) → to ≢ m → MaySend (place_of b) m (view_by b m ds) to (notices_of n) → In (loads.Mail m to false) (view_by b m ds).looked → ((k : ℕ) → k ≢ pool_place m to → grips q.hand k ≡ false)
      → ShowsLawful b (record { words = set s.words (mail_word (size b) m to) 1; homes = set s.homes (mail_place (size b) m to) (some (Some (parcels.Notices n))); views = set s.views (suc m) (Own m (handed q None) b (Send to n.dead.names n.gone.names ∷ ds)) })
  send_keeps to n other may saw old =
      let none_there = o.reached.lawful.looks.empty_seen m to (subst (λ (u : View). In (loads.Mail m to false) u.looked) (sym (known b s o m q ds me near)) saw) in
      boxed b s o m q ds me near (Send to n.dead.names n.gone.names) m to 1 (some (some (Some (parcels.Notices n)))) (set s.homes (mail_place (size b) m to) (some (Some (parcels.Notices n)))) (Some (notices_of n)) (handed q None) (put2 o.mail m to (Some (notices_of n))) near may.receiver refl
      old (λ k ne. refl) (length-set s.homes (mail_place (size b) m to) (some (Some (parcels.Notices n)))) (home_at m to (some (Some (parcels.Notices n))) near may.receiver) (λ k ne. set_else s.homes (mail_place (size b) m to) k (some (Some (parcels.Notices n))) ne)
      (put2_here o.mail m to (Some (notices_of n))) (λ i j ne. put2_else o.mail m to (Some (notices_of n)) i j ne)
      (refl, (λ _. (n, refl, refl)), λ t. absurd (let f = ap (λ (p : Holding). grips p.hand (pool_place m to)) (put_else (pose_at s.views) m (handed q None) to other) ∙ box_none (get_or s.words (mail_word (size b) m to) 0) (get_elem? s.homes (mail_place (size b) m to)) (pool_place m to) (pose_at s.views m).hand (pose_at s.views to).hand (o.mail m to) (o.fits.box m to near may.receiver) none_there in cc (f, t)))
      (λ n. refl) (law_at (Send to n.dead.names n.gone.names) (handed q None) (put2 o.mail m to (Some (notices_of n))) (send_law b s o m q ds me near to n.dead.names n.gone.names may saw))

  -- the receiver takes what a full mailbox has
  pub fetch_keeps : (from : ℕ) → from < size b → q.hand ≡ None → get_or s.words (mail_word (size b) from m) 0 ≢ 0
      → (n : Parceled) × (get_or s.words (mail_word (size b) from m) 0 ≡ 1) × (get_elem? s.homes (mail_place (size b) from m) ≡ some (some (Some (parcels.Notices n))))
      × ShowsLawful b (record { words = set s.words (mail_word (size b) from m) (get_or s.words (mail_word (size b) from m) 0); homes = set s.homes (mail_place (size b) from m) none; views = set s.views (suc m) (Own m (handed q (grip_at (pool_place from m) n.dead.names n.gone.names)) b (Found (loads.Mail from m true) ∷ ds)) })
      × (o.mail from m ≡ Some (notices_of n))
  fetch_keeps from low empty not_zero =
      let x : ℕ = get_or s.words (mail_word (size b) from m) 0 in
      let z = box_one x (get_elem? s.homes (mail_place (size b) from m)) (pool_place from m) (pose_at s.views from).hand (pose_at s.views m).hand (o.mail from m) (o.fits.box from m low near) not_zero in
      let there = z.3 (no_grip (pose_at s.views m).hand (pool_place from m) (ap (λ (p : Holding). p.hand) (pose_here s.views m q b ds me) ∙ empty)) in
      let n : Parceled = there.0 in let r = handed q (grip_at (pool_place from m) n.dead.names n.gone.names) in (
        n,
        z.0,
        there.1,
        boxed b s o m q ds me near (Found (loads.Mail from m true)) from m x (some none) (set s.homes (mail_place (size b) from m) none) (Some z.1) r o.mail low near refl
            (λ k ne. no_grip q.hand k empty) (λ k ne. one_grip (pool_place from m) k n.dead.names n.gone.names ne) (length-set s.homes (mail_place (size b) from m) none) (home_at from m none low near) (λ k ne. set_else s.homes (mail_place (size b) from m) k none ne)
            z.2 (λ i j ne. refl) (
              z.0,
              (λ f. absurd (let t = ap (λ (p : Holding). grips p.hand (pool_place from m)) (mine r) ∙ eq-eqb (pool_place from m) (pool_place from m) refl in cc (f, t))),
              λ t. sym there.2 ∙ ap (λ (p : Holding). gripped p.hand) (sym (mine r)),
            )
            (λ n. refl) (full_is from m true (ap is_full z.2) r (law_at (Found (loads.Mail from m (is_full (o.mail from m)))) r o.mail (look_mail_law b s o m q ds me near from m low near))),
        z.2 ∙ ap Some (sym there.2),
      )

  -- the receiver empties it
  pub receive_keeps : (from : ℕ) (dead gone : List EntryName) → from < size b → In (loads.Mail from m true) (view_by b m ds).looked → q.hand ≡ grip_at (pool_place from m) dead gone
      → ShowsLawful b (record { words = set s.words (mail_word (size b) from m) 0; homes = set s.homes (mail_place (size b) from m) (some None); views = set s.views (suc m) (Own m (handed q None) b (Receive from dead gone ∷ ds)) })
  receive_keeps from dead gone low saw hand =
      let full = o.reached.lawful.looks.full_seen m from (subst (λ (u : View). In (loads.Mail from m true) u.looked) (sym (known b s o m q ds me near)) saw) in
      let held : (pose_at s.views m).hand ≡ grip_at (pool_place from m) dead gone = ap (λ (p : Holding). p.hand) (pose_here s.views m q b ds me) ∙ hand in
      let there = box_some (get_or s.words (mail_word (size b) from m) 0) (get_elem? s.homes (mail_place (size b) from m)) (pool_place from m) (pose_at s.views from).hand (pose_at s.views m).hand (o.mail from m) (o.fits.box from m low near) full
      (ap (λ g. grips g (pool_place from m)) held ∙ eq-eqb (pool_place from m) (pool_place from m) refl) ∙ ap (λ g. Some (gripped g)) held in
      boxed b s o m q ds me near (Receive from dead gone) from m 0 (some (some None)) (set s.homes (mail_place (size b) from m) (some None)) None (handed q None) (put2 o.mail from m None) low near refl
      (λ k ne. ap (λ g. grips g k) hand ∙ one_grip (pool_place from m) k dead gone ne) (λ k ne. refl) (length-set s.homes (mail_place (size b) from m) (some None)) (home_at from m (some None) low near) (λ k ne. set_else s.homes (mail_place (size b) from m) k (some None) ne)
      (put2_here o.mail from m None) (λ i j ne. put2_else o.mail from m None i j ne)
      (refl, ap (λ (p : Holding). grips p.hand (pool_place from m)) (mine (handed q None)), λ _. refl)
      (λ n. refl) (law_at (Receive from dead gone) (handed q None) (put2 o.mail from m None) (receive_law b s o m q ds me near from dead gone low saw there))
