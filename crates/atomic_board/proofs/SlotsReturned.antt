-- A member's seat gives its slots back, and is joined with the store.
use Rattle.atomic_board.proofs.Reaches.{reached_by}
use Rattle.std.proofs.Common.{◌≡◌, ◌≢◌, ℕ, zero, suc, ◌*◌, ◌<◌, ◌≤◌, Bool, true, false, cond, ◌||◌, List, [], ◌∷◌, length, get_or, set, sym, refl, ap, ap₂, ◌∙◌, subst, inl, inr, ◌⊎◌, ⊎_elim, arith, length-set, eq-eqb, ne_eqb, Option, Some, None}
use mathlib.Core.Option.{some, none, some-injective, some-ne-none}
use mathlib.Core.Option as maybe
use mathlib.Core.Logic.{dite}
use native.Mathlib.Decide.{ℕ_discrete}
use lib.ListN.{get_elem?}
use Rattle.atomic_table.specs.Table.{Act, keeps, gives, chain, Joins, Valid, homes_after, carried_after}
use Rattle.atomic_table.proofs.Lists.{at_set, set_here, set_else}
use Rattle.group_laws.specs.declared.types.Slot.{Slot}
use Rattle.group_laws.specs.declared.types.Slot.TheVariants.{Empty, Posted, Taken, Done, Failed}
use Rattle.group_laws.specs.Places.{owner}
use Rattle.group_laws.specs.Updates.{put}
use Rattle.log_entry.specs.declared.entry.Entry.{Entry}
use Rattle.group_laws.specs.Invariant.{PendsAt}
use Rattle.group_laws.specs.MemberViews.{View}
use Rattle.atomic_board.specs.declared.parcel.Parcel.{Parcel}
use Rattle.atomic_board.specs.declared.seat_data.Origin.{Origin}
use Rattle.atomic_board.specs.declared.seat_data.MailHold.{MailHold}
use Rattle.atomic_board.specs.declared.seat_data.Holding.{Holding}
use Rattle.atomic_board.specs.declared.seat_data.Deed.{Deed}
use Rattle.atomic_board.specs.declared.seat_data.SeatData.{SeatData}
use Rattle.atomic_board.specs.declared.seat_data.SeatData.TheVariants.{Store, Own, Spent}
use Rattle.atomic_board.specs.TableWords.{pool_word, pool_place, mail_word, mail_place}
use Rattle.atomic_board.specs.Deeds.{group_of, place_of, size, view_by, own_number}
use Rattle.atomic_board.specs.ShownState.{TableState, Home, is_back, deeds_in, own_or, deeds_at, views_of, pose_or, pose_at, IsHome, IsSlot, IsBox, IsReached, ShowsLawful}
use Rattle.atomic_board.specs.SlotsOut.{has, empties}
use Rattle.atomic_board.specs.StepTells.{IsNamed, IsNotOut}
use Rattle.atomic_board.proofs.SeatPlaces.{at_lt, put_at, pose_here, store_own, store_spent, place}
use Rattle.atomic_board.proofs.RuleKept.{known, own_by}
use Rattle.atomic_board.proofs.RuleOpened.{pose_keeps, same_given, same_back}

abbrev pub gives_all : List ℕ → Act (Option Parcel)
gives_all [] = keeps
gives_all (k ∷ ks) = chain gives (gives_all ks)

pub all_valid : (hs : List (maybe.Option (Option Parcel))) (ks : List ℕ) → Valid hs (empties ks) (gives_all ks)
all_valid hs [] = tt
all_valid hs (k ∷ ks) = (tt, all_valid (set hs k (some None)) ks)

pub all_given : (ks : List ℕ) → carried_after (empties ks) (gives_all ks) ≡ []
all_given [] = refl
all_given (k ∷ ks) = all_given ks

back_long : (ks : List ℕ) (hs : List (maybe.Option (Option Parcel))) → length (homes_after hs (empties ks) (gives_all ks)) ≡ length hs
back_long [] hs = refl
back_long (k ∷ ks) hs = back_long ks (set hs k (some None)) ∙ length-set hs k (some None)

back_else : (ks : List ℕ) (hs : List (maybe.Option (Option Parcel))) (j : ℕ) → has j ks ≡ false → get_elem? (homes_after hs (empties ks) (gives_all ks)) j ≡ get_elem? hs j
back_else [] hs j h = refl
back_else (k ∷ ks) hs j h = dite (ℕ_discrete j k)
    (λ e. absurd (let t = eq-eqb j k e in cc (ap (λ b. b || has j ks) t, h)))
    (λ ne. back_else ks (set hs k (some None)) j (ap (λ b. b || has j ks) (sym (ne_eqb j k ne)) ∙ h) ∙ set_else hs k j (some None) ne)

back_here : (ks : List ℕ) (hs : List (maybe.Option (Option Parcel))) (j : ℕ) → has j ks ≡ true → j < length hs → get_elem? (homes_after hs (empties ks) (gives_all ks)) j ≡ some (some None)
back_here [] hs j h l = absurd (cc h)
back_here (k ∷ ks) hs j h l = by (λ e. back_here ks (set hs k (some None)) j e (let long = length-set hs k (some None) in omega (arith, long, l))) (has j ks) refl where
  by : (has j ks ≡ true → get_elem? (homes_after (set hs k (some None)) (empties ks) (gives_all ks)) j ≡ some (some None)) → (c : Bool) → has j ks ≡ c → get_elem? (homes_after (set hs k (some None)) (empties ks) (gives_all ks)) j ≡ some (some None)
  by later true e = later e
  by later false e = dite (ℕ_discrete j k)
      (λ same. back_else ks (set hs k (some None)) j e ∙ (ap (get_elem? (set hs k (some None))) same ∙ set_here hs k (some None) (subst (λ (i : ℕ). i < length hs) same l)))
      (λ ne. absurd (cc (ap₂ (λ x y. x || y) (ne_eqb j k ne) e, h)))

-- a change of m's stands in a slot of it, so a key of m names it
module _ (b : Origin) (s : TableState) (o : ShowsLawful b s) (m : ℕ) (q : Holding) (ds : List Deed) (me : get_elem? s.views (suc m) ≡ some (Own m q b ds)) (near : m < size b) where
  pends_by : (t : ℕ) (e : Entry) → PendsAt (group_of (place_of b) o.holder o.slot o.mail (views_of b s.views)) e (Some t) × (owner (place_of b) e.key ≡ m) → IsNamed (place_of b) m (view_by b m ds) t
  pends_by t e x = (e.key, e, x.1, sym (own_by b s o m q ds me near e.key (λ (u : View). u.pending e.key) x.1) ∙ x.0)

  pub posted_named : (t : ℕ) (e : Entry) → o.slot m t ≡ Posted e → IsNamed (place_of b) m (view_by b m ds) t
  posted_named t e is = pends_by t e (o.reached.lawful.slots.posted_named m t e is)

  pub done_named : (t : ℕ) (e : Entry) (h : ℕ) → o.slot m t ≡ Done e h → IsNamed (place_of b) m (view_by b m ds) t
  done_named t e h is = pends_by t e (o.reached.lawful.slots.done_named m t h e is)

  pub failed_named : (t : ℕ) (e : Entry) → o.slot m t ≡ Failed e → IsNamed (place_of b) m (view_by b m ds) t
  failed_named t e is = pends_by t e (o.reached.lawful.slots.failed_named m t e is)

  -- what is taken out of a slot leaves it Taken
  pub taken_none : (a t : ℕ) (y : Slot) → o.slot a t ≡ y → (y ≡ Taken → ⊥) → (view_by b m ds).taken a t ≡ None
  taken_none a t y is ne = by ((view_by b m ds).taken a t) refl where
    by : (x : Option Entry) → (view_by b m ds).taken a t ≡ x → x ≡ None
    by None e = refl
    by (Some x) e = absurd (ne (sym is ∙ (o.reached.lawful.slots.taken_named m a t x (ap (λ (u : View). u.taken a t) (known b s o m q ds me near) ∙ e)).2))

  pub posted_not_out : (a t : ℕ) (e : Entry) → o.slot a t ≡ Posted e → IsNotOut (place_of b) m (view_by b m ds) a t
  posted_not_out a t e is = (λ same. posted_named t e (ap (λ j. o.slot j t) (sym same) ∙ is), taken_none a t (Posted e) is (λ p. cc p))

  pub done_not_out : (a t : ℕ) (e : Entry) (h : ℕ) → o.slot a t ≡ Done e h → IsNotOut (place_of b) m (view_by b m ds) a t
  done_not_out a t e h is = (λ same. done_named t e h (ap (λ j. o.slot j t) (sym same) ∙ is), taken_none a t (Done e h) is (λ p. cc p))

  pub failed_not_out : (a t : ℕ) (e : Entry) → o.slot a t ≡ Failed e → IsNotOut (place_of b) m (view_by b m ds) a t
  failed_not_out a t e is = (λ same. failed_named t e (ap (λ j. o.slot j t) (sym same) ∙ is), taken_none a t (Failed e) is (λ p. cc p))

module _ (b : Origin) (s : TableState) (o : ShowsLawful b s) (m : ℕ) (q : Holding) (ds : List Deed) (me : get_elem? s.views (suc m) ≡ some (Own m q b ds)) (near : m < size b) (ks : List ℕ)
    (settled : q.settled ≡ true)
    (others : (a t : ℕ) → a < size b → t < 8 → IsNotOut (place_of b) m (view_by b m ds) a t → has (pool_place a t) ks ≡ false) (below : (k : ℕ) → has k ks ≡ true → k < 8 * size b) where
  pub back_keeps : (i : ℕ) → ShowsLawful b (record { words = set s.words i (get_or s.words i 0); homes = homes_after s.homes (empties ks) (gives_all ks); views = set s.views (suc m) (Own m q b ds) })
  back_keeps i = pose_keeps b s o m q q ds me i (homes_after s.homes (empties ks) (gives_all ks)) (back_long ks s.homes) (λ a t low less. pool a t low less (o.slot a t) refl) refl (λ a c l r. back_else ks s.homes (mail_place (size b) a c) (not_held (mail_place (size b) a c) (omega arith))) where
    not_held : (k : ℕ) → 8 * size b ≤ k → has k ks ≡ false
    not_held k high = by (has k ks) refl where
      by : (c : Bool) → has k ks ≡ c → c ≡ false
      by true e = absurd (let l = below k e in omega (arith, l, high))
      by false e = refl

    same_pose : (a : ℕ) → put (pose_at s.views) m q a ≡ pose_at s.views a
    same_pose a = put_at (pose_at s.views) m q (λ j y. y ≡ pose_at s.views j) (sym (pose_here s.views m q b ds me)) (λ j ne. refl) a

    stays : (a t : ℕ) (y : Slot) → a < size b → t < 8 → o.slot a t ≡ y → has (pool_place a t) ks ≡ false → IsHome (get_elem? (homes_after s.homes (empties ks) (gives_all ks)) (pool_place a t)) (put (pose_at s.views) m q a).settled y
    stays a t y low less is away = subst (λ (h : Home). IsHome h (put (pose_at s.views) m q a).settled y) (sym (back_else ks s.homes (pool_place a t) away))
        (subst (λ (r : Holding). IsHome (get_elem? s.homes (pool_place a t)) r.settled y) (sym (same_pose a)) (subst (IsHome (get_elem? s.homes (pool_place a t)) (pose_at s.views a).settled) is (o.fits.pool a t low less).1))

    -- an Empty slot of a member that never settled is at home, with nothing, before and after
    empty_stays : (a t : ℕ) → a < size b → t < 8 → o.slot a t ≡ Empty → IsHome (get_elem? (homes_after s.homes (empties ks) (gives_all ks)) (pool_place a t)) (put (pose_at s.views) m q a).settled Empty
    empty_stays a t low less is fresh = by (has (pool_place a t) ks) refl where
      by : (c : Bool) → has (pool_place a t) ks ≡ c → get_elem? (homes_after s.homes (empties ks) (gives_all ks)) (pool_place a t) ≡ some (some None)
      by true e = back_here ks s.homes (pool_place a t) e (let many = o.fits.many in omega (arith, many, low, less))
      by false e = stays a t Empty low less is e fresh

    pool : (a t : ℕ) → a < size b → t < 8 → (y : Slot) → o.slot a t ≡ y → IsHome (get_elem? (homes_after s.homes (empties ks) (gives_all ks)) (pool_place a t)) (put (pose_at s.views) m q a).settled (o.slot a t)
    pool a t low less Empty is = subst (IsHome _ _) (sym is) (empty_stays a t low less is)
    pool a t low less (Posted e) is = subst (IsHome _ _) (sym is) (stays a t (Posted e) low less is (others a t low less (posted_not_out b s o m q ds me near a t e is)))
    pool a t low less Taken is = subst (IsHome _ _) (sym is) tt
    pool a t low less (Done e h) is = subst (IsHome _ _) (sym is) (stays a t (Done e h) low less is (others a t low less (done_not_out b s o m q ds me near a t e h is)))
    pool a t low less (Failed e) is = subst (IsHome _ _) (sym is) (stays a t (Failed e) low less is (others a t low less (failed_not_out b s o m q ds me near a t e is)))

module _ (b : Origin) (k m : ℕ) (q : Holding) (ds : List Deed) (back : List (ℕ × List Deed)) (l : List SeatData) (settled : q.settled ≡ true) (empty : q.hand ≡ None) (at : get_elem? l m ≡ some (Own m q b ds)) where
  join_deeds : (j : ℕ) → deeds_at (Store k b ((m, ds) ∷ back) ∷ set l m Spent) j ≡ deeds_at (Store k b back ∷ l) j
  join_deeds j = dite (ℕ_discrete j m)
      (λ e. subst (λ i. own_or (deeds_in ((m, ds) ∷ back) i) (get_elem? (set l m Spent) i) ≡ own_or (deeds_in back i) (get_elem? l i)) (sym e)
      (ap (own_or (deeds_in ((m, ds) ∷ back) m)) (set_here l m Spent (at_lt l m (Own m q b ds) at)) ∙ (ap (λ c. cond c ds (deeds_in back m)) (eq-eqb m m refl) ∙ sym (ap (own_or (deeds_in back m)) at))))
      (λ ne. ap (own_or (deeds_in ((m, ds) ∷ back) j)) (set_else l m j Spent ne) ∙ ap (λ c. own_or (cond c ds (deeds_in back j)) (get_elem? l j)) (ne_eqb j m ne))

  join_pose : (j : ℕ) → (pose_at (Store k b ((m, ds) ∷ back) ∷ set l m Spent) j).settled ≡ (pose_at (Store k b back ∷ l) j).settled
  join_pose j = dite (ℕ_discrete j m)
      (λ e. subst (λ i. (pose_or (get_elem? (set l m Spent) i)).settled ≡ (pose_or (get_elem? l i)).settled) (sym e)
      (ap (λ x. (pose_or x).settled) (set_here l m Spent (at_lt l m (Own m q b ds) at)) ∙ (sym settled ∙ sym (ap (λ x. (pose_or x).settled) at))))
      (λ ne. ap (λ x. (pose_or x).settled) (set_else l m j Spent ne))

  join_hand : (j : ℕ) → (pose_at (Store k b ((m, ds) ∷ back) ∷ set l m Spent) j).hand ≡ (pose_at (Store k b back ∷ l) j).hand
  join_hand j = dite (ℕ_discrete j m)
      (λ e. subst (λ i. (pose_or (get_elem? (set l m Spent) i)).hand ≡ (pose_or (get_elem? l i)).hand) (sym e)
      (ap (λ x. (pose_or x).hand) (set_here l m Spent (at_lt l m (Own m q b ds) at)) ∙ (sym empty ∙ sym (ap (λ x. (pose_or x).hand) at))))
      (λ ne. ap (λ x. (pose_or x).hand) (set_else l m j Spent ne))

  join_rule : (ws : List ℕ) (hs : List (maybe.Option (Option Parcel))) → ShowsLawful b (record { words = ws; homes = hs; views = Store k b back ∷ l }) → ShowsLawful b (record { words = ws; homes = hs; views = Store k b ((m, ds) ∷ back) ∷ set l m Spent })
  join_rule ws hs o = let given : k ≡ o.fits.given = same_given k o.fits.given b b back o.fits.back (some-injective (Store k b back) (Store o.fits.given b o.fits.back) o.fits.store) in record {
    holder = o.holder;
    slot = o.slot;
    mail = o.mail;
    fits = record {
      few = o.fits.few;
      begun = o.fits.begun;
      wide = o.fits.wide;
      many = o.fits.many;
      lock = o.fits.lock;
      member = o.fits.member;
      given = k;
      low = subst (λ g. g ≤ size b) (sym given) o.fits.low;
      back = (m, ds) ∷ back;
      store = refl;
      long = ap suc (length-set l m Spent) ∙ (o.fits.long ∙ ap suc (sym given));
      gone = λ j h. by_member j h (dec_eq j);
      own = λ j d e. ⊎_elim (λ (u : (j ≡ m) × (Spent ≡ d)). inr (sym u.1)) (λ (u : (j ≢ m) × (get_elem? l j ≡ some d)). o.fits.own j d u.1) (at_set l m j Spent d e);
      pool = λ a t h less. subst (λ (y : Bool). IsSlot (get_or ws (pool_word (size b) a t) 0) (get_elem? hs (pool_place a t)) y (o.slot a t)) (sym (join_pose a)) (o.fits.pool a t h less);
      outside = o.fits.outside;
      box = λ a c h less. subst (λ (y : Option MailHold). IsBox (get_or ws (mail_word (size b) a c) 0) (get_elem? hs (mail_place (size b) a c)) (pool_place a c) y (pose_at (Store k b ((m, ds) ∷ back) ∷ set l m Spent) c).hand (o.mail a c)) (sym (join_hand a))
          (subst (λ (y : Option MailHold). IsBox (get_or ws (mail_word (size b) a c) 0) (get_elem? hs (mail_place (size b) a c)) (pool_place a c) (pose_at (Store k b back ∷ l) a).hand y (o.mail a c)) (sym (join_hand c)) (o.fits.box a c h less));
      no_box = o.fits.no_box;
      count = λ j h. o.fits.count j h ∙ ap own_number (sym (join_deeds j));
    };
    reached = reached_by b _ _ _ _ (λ j. sym (join_deeds j)) (λ i. group_of (place_of b) o.holder o.slot o.mail (λ j. ap (view_by b j) (sym (join_deeds j)) i)) o.reached;
  } where
    dec_eq : (j : ℕ) → (j ≡ m) ⊎ (j ≢ m)
    dec_eq j = dite (ℕ_discrete j m) (λ e. inl e) (λ ne. inr ne)

    by_member : (j : ℕ) → is_back ((m, ds) ∷ back) j ≡ true → (j ≡ m) ⊎ (j ≢ m) → get_elem? (set l m Spent) j ≡ some Spent
    by_member j h (inl e) = ap (get_elem? (set l m Spent)) e ∙ set_here l m Spent (at_lt l m (Own m q b ds) at)
    by_member j h (inr ne) = set_else l m j Spent ne ∙ o.fits.gone j (subst (λ x. is_back x j ≡ true) (same_back k o.fits.given b b back o.fits.back (some-injective (Store k b back) (Store o.fits.given b o.fits.back) o.fits.store)) (ap (λ c. c || is_back back j) (sym (ne_eqb j m ne)) ∙ h))

join_at : (b : Origin) (k m : ℕ) (q : Holding) (ds : List Deed) (back : List (ℕ × List Deed)) → q.settled ≡ true → q.hand ≡ None → (ws : List ℕ) (hs : List (maybe.Option (Option Parcel))) (l : List SeatData) (other : ℕ) → ShowsLawful b (record { words = ws; homes = hs; views = l }) → get_elem? l 0 ≡ some (Store k b back)
    → ¬ (other ≡ 0) → get_elem? (set l 0 (Store k b ((m, ds) ∷ back))) other ≡ some (Own m q b ds) → ShowsLawful b (record { words = ws; homes = hs; views = set (set l 0 (Store k b ((m, ds) ∷ back))) other Spent })
join_at b k m q ds back settled empty ws hs [] other o e ne at = absurd (some-ne-none (Store k b back) (sym e))
join_at b k m q ds back settled empty ws hs (d ∷ l) zero o e ne at = absurd (ne refl)
join_at b k m q ds back settled empty ws hs (d ∷ l) (suc j) o e ne at = let is : d ≡ Store k b back = some-injective d (Store k b back) e in
    let here = place b o.holder o.slot o.mail (record { words = ws; homes = hs; views = d ∷ l }) o.fits (suc j) m q ds at in
    let same : j ≡ m = (let h : suc j ≡ suc m = here.0 in omega arith) in
    let rule : ShowsLawful b (record { words = ws; homes = hs; views = Store k b back ∷ l }) = subst (λ x. ShowsLawful b (record { words = ws; homes = hs; views = x ∷ l })) is o in
    subst (λ i. ShowsLawful b (record { words = ws; homes = hs; views = Store k b ((m, ds) ∷ back) ∷ set l i Spent })) (sym same)
    (join_rule b k m q ds back l settled empty (ap (get_elem? l) (sym same) ∙ at) ws hs rule)

-- the spare seat takes in what a member did, and that member's seat is spent
pub join_owes : (b : Origin) (id other k m : ℕ) (q : Holding) (ds : List Deed) (back : List (ℕ × List Deed)) → q.settled ≡ true → q.hand ≡ None → Joins (ShowsLawful b) id (Store k b back) other (Own m q b ds) (Store k b ((m, ds) ∷ back)) Spent
join_owes b zero other k m q ds back settled empty s o me ne at = join_at b k m q ds back settled empty s.words s.homes s.views other o me ne at
join_owes b (suc j) other k m q ds back settled empty s o me ne at = ⊎_elim (λ (t : (r : Holding) × (es : List Deed) × (Store k b back ≡ Own j r b es)). absurd (store_own k b b back j t.0 t.1 t.2)) (λ (t : Store k b back ≡ Spent). absurd (store_spent k b back t)) (o.fits.own j (Store k b back) me)
