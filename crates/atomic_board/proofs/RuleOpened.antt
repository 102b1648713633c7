-- The rule as a board begins and ends: the opening, the split of a member's seat from the store, the load by which it takes its slots out, the one by which it gives all back, and the join.
use Rattle.atomic_board.proofs.Reaches.{reached_by}
use Rattle.std.proofs.Common.{◌≡◌, ◌≢◌, ℕ, zero, suc, ◌+◌, ◌*◌, ◌<◌, ◌≤◌, Bool, true, false, eqb, cond, List, [], ◌∷◌, ◌++◌, map, replicate, length, get_or, set, sym, refl, ap, ◌∙◌, subst, inl, inr, ◌⊎◌, ⊎_elim, arith, length-set, length-append, lt_of_not-le, Option, None}
use mathlib.Core.Option.{some, none, some-injective, some-ne-none}
use mathlib.Core.Option as maybe
use mathlib.Core.Logic.{dite}
use native.Mathlib.Decide.{ℕ_discrete, dec_le}
use lib.ListN.{get_elem?}
use lib.Seq.{set-get_or}
use Rattle.atomic_table.specs.Table.{Act, keeps, takes, chain, Splits, Valid, homes_after, carried_after, opening}
use Rattle.atomic_table.proofs.Lists.{set_here, set_else, at_longer}
use Rattle.group_laws.specs.declared.types.Slot.{Slot}
use Rattle.group_laws.specs.declared.types.Slot.TheVariants.{Empty}
use Rattle.group_laws.specs.Places.{owner}
use Rattle.group_laws.specs.Updates.{put}
use Rattle.group_laws.specs.State.{Group}
use Rattle.group_laws.specs.Invariant.{Lawful}
use Rattle.group_laws.specs.MemberViews.{view_of}
use Rattle.group_board.specs.Conditions.{IsFree}
use Rattle.group_board.specs.Journals.{place_in}
use Rattle.group_board.specs.Tidies.{Covers}
use Rattle.group_board.proofs.Clients.{here}
use Rattle.atomic_board.specs.declared.parcel.Parcel.{Parcel}
use Rattle.atomic_board.specs.declared.seat_data.Origin.{Origin}
use Rattle.atomic_board.specs.declared.seat_data.MailHold.{MailHold}
use Rattle.atomic_board.specs.declared.seat_data.Holding.{Holding}
use Rattle.atomic_board.specs.declared.seat_data.Deed.{Deed}
use Rattle.atomic_board.specs.declared.seat_data.SeatData.{SeatData}
use Rattle.atomic_board.specs.declared.seat_data.SeatData.TheVariants.{Store, Own, Spent}
use Rattle.atomic_board.specs.TableWords.{own_word, pool_word, pool_place, mail_word, mail_place, word_count}
use Rattle.atomic_board.specs.Deeds.{group_of, names_of, began, place_of, size, view_by, own_number}
use Rattle.atomic_board.specs.ShownState.{TableState, Home, is_back, deeds_in, own_or, deeds_at, views_of, pose_or, pose_at, IsHome, IsSlot, IsBox, IsReached, ShowsLawful}
use Rattle.atomic_board.specs.StepTells.{row_out}
use Rattle.atomic_board.proofs.SeatPlaces.{put_at, pose_here, deeds_same, views_same, pose_turned, store_own, store_spent}
use Rattle.atomic_board.proofs.RuleKept.{fits_after, own_empty}

-- a group is what its members' views show
regroup : (w : Group) → group_of w.place w.holder w.slot w.mail (view_of w) ≡ w
regroup w i = record w {
  last = λ k. cond (here (owner w.place k) i) (w.last k) 0;
  cell = λ k. cond (here (owner w.place k) i) (w.cell k) None;
  pending = λ k. cond (here (owner w.place k) i) (w.pending k) None;
  present = λ k v. cond (here (owner w.place k) i) (w.present k v) None;
  told = λ k v. cond (here (owner w.place k) i) (w.told k v) false;
}

-- nothing is under way as a group opens
pub idle_holder : (b : Origin) → (began b).holder ≡ None
unfolding began
idle_holder b = refl

pub idle_slot : (b : Origin) → (began b).slot ≡ (λ a t. Empty)
unfolding began
idle_slot b = refl

pub idle_mail : (b : Origin) → (began b).mail ≡ (λ a c. None)
unfolding began
idle_mail b = refl

idle_pending : (b : Origin) (k : ℕ) → (began b).pending k ≡ None
unfolding began
idle_pending b k = refl

pub place_is : (b : Origin) → place_of b ≡ place_in b.group b.words
unfolding began
place_is b = refl

none_by : (c : Bool) (x : Option Rattle.group_laws.specs.declared.types.Pending.Pending) → x ≡ None → cond c x None ≡ None
none_by true x e = e
none_by false x e = refl

pub fresh_free : (b : Origin) (m t : ℕ) → IsFree (view_by b m []) t
fresh_free b m t k e is = let z : (view_by b m []).pending k ≡ None = none_by (eqb (owner (place_of b) k) m) ((began b).pending k) (idle_pending b k) in absurd (cc (z, is))

pub opened_shows : (b : Origin) → group_of (place_of b) None (λ a t. Empty) (λ a c. None) (views_of b (Store 0 b [] ∷ [])) ≡ began b
opened_shows b = (λ i. group_of (place_of b) (sym (idle_holder b) i) (sym (idle_slot b) i) (sym (idle_mail b) i) (view_of (began b))) ∙ regroup (began b)

abbrev nothing : Option Parcel
nothing = None

all_home : (k a : ℕ) → a < k → get_elem? (map some (replicate k nothing)) a ≡ some (some None)
all_home zero a h = absurd (omega arith)
all_home (suc k) zero h = refl
all_home (suc k) (suc a) h = all_home k a (omega arith)

many_home : (k : ℕ) → length (map some (replicate k nothing)) ≡ k
many_home zero = refl
many_home (suc k) = ap suc (many_home k)

none_before : (late : List (ℕ × Deed)) (x : ℕ × Deed) (early : List (ℕ × Deed)) → [] ≡ late ++ x ∷ early → ⊥
none_before [] x early e = cc e
none_before (y ∷ late) x early e = cc e

pub opens : (b : Origin) (ws : List ℕ) → size b ≤ 8 → length ws ≡ word_count (size b) → ((i : ℕ) → get_or ws i 0 ≡ 0) → Covers (names_of b) (began b) → Lawful (began b) → ShowsLawful b (opening ws (replicate (16 * size b) None) (Store 0 b []))
opens b ws few wide zeros begun law =
    record {
      holder = None;
      slot = λ a t. Empty;
      mail = λ a c. None;
      fits = record {
        few = few;
        begun = begun;
        wide = wide;
        many = many_home (16 * size b);
        lock = zeros 0;
        member = omega arith;
        given = 0;
        low = omega arith;
        back = [];
        store = refl;
        long = refl;
        gone = λ m h. absurd (cc h);
        own = λ j d e. absurd (some-ne-none d (sym e));
        pool = λ a t h l. (zeros (pool_word (size b) a t), λ _. all_home (16 * size b) (pool_place a t) (omega arith));
        outside = λ a t out. refl;
        box = λ a c h l. (zeros (mail_word (size b) a c), refl, λ _. all_home (16 * size b) (mail_place (size b) a c) (omega arith));
        no_box = λ a c out. refl;
        count = λ m h. zeros (own_word m);
      };
      reached = subst (IsReached b _) (sym (opened_shows b)) (record { lawful = law; order = []; runs = refl; made = λ m. refl; cuts = λ late x early e. absurd (none_before late x early e) });
    }

at_append : (ds : List SeatData) (o : SeatData) (m : ℕ) → (get_elem? (ds ++ o ∷ []) m ≡ get_elem? ds m) ⊎ ((m ≡ length ds) × (get_elem? (ds ++ o ∷ []) m ≡ some o) × (get_elem? ds m ≡ none))
at_append [] o zero = inr (refl, refl, refl)
at_append [] o (suc m) = inl refl
at_append (d ∷ ds) o zero = inl refl
at_append (d ∷ ds) o (suc m) = ⊎_elim (λ e. inl e) (λ (t : (m ≡ length ds) × (get_elem? (ds ++ o ∷ []) m ≡ some o) × (get_elem? ds m ≡ none)). inr (ap suc t.0, t.1, t.2)) (at_append ds o m)

given_of : SeatData → ℕ
given_of (Store k b l) = k
given_of (Own m q b ds) = 0
given_of Spent = 0

back_of : SeatData → List (ℕ × List Deed)
back_of (Store k b l) = l
back_of (Own m q b ds) = []
back_of Spent = []

pub same_back : (k j : ℕ) (b c : Origin) (l r : List (ℕ × List Deed)) → Store k b l ≡ Store j c r → l ≡ r
unfolding back_of
same_back k j b c l r e = ap back_of e

pub same_given : (k j : ℕ) (b c : Origin) (l r : List (ℕ × List Deed)) → Store k b l ≡ Store j c r → k ≡ j
unfolding given_of
same_given k j b c l r e = ap given_of e

abbrev pub fresh : ℕ → Origin → List (ℕ × List Deed) → SeatData
fresh k b back = Own k (record { settled = false; hand = None }) b (deeds_in back k)

module _ (k : ℕ) (b : Origin) (back : List (ℕ × List Deed)) (ds : List SeatData) where
  split_deeds : length ds ≡ k → (m : ℕ) → deeds_at (Store (suc k) b back ∷ (ds ++ fresh k b back ∷ [])) m ≡ deeds_at (Store k b back ∷ ds) m
  split_deeds long m = ⊎_elim (λ e. ap (own_or (deeds_in back m)) e)
      (λ (t : (m ≡ length ds) × (get_elem? (ds ++ fresh k b back ∷ []) m ≡ some (fresh k b back)) × (get_elem? ds m ≡ none)).
      ap (own_or (deeds_in back m)) t.1 ∙ (ap (deeds_in back) (sym (t.0 ∙ long)) ∙ sym (ap (own_or (deeds_in back m)) t.2)))
      (at_append ds (fresh k b back) m)

  split_pose : (m : ℕ) → pose_at (Store (suc k) b back ∷ (ds ++ fresh k b back ∷ [])) m ≡ pose_at (Store k b back ∷ ds) m
  split_pose m = ⊎_elim (λ e. ap pose_or e)
      (λ (t : (m ≡ length ds) × (get_elem? (ds ++ fresh k b back ∷ []) m ≡ some (fresh k b back)) × (get_elem? ds m ≡ none)). ap pose_or t.1 ∙ sym (ap pose_or t.2))
      (at_append ds (fresh k b back) m)

  split_rule : (ws : List ℕ) (hs : List (maybe.Option (Option Parcel))) → k < size b → length ds ≡ k → ShowsLawful b (record { words = ws; homes = hs; views = Store k b back ∷ ds })
      → ShowsLawful b (record { words = ws; homes = hs; views = Store (suc k) b back ∷ (ds ++ fresh k b back ∷ []) })
  split_rule ws hs less long o = record {
    holder = o.holder;
    slot = o.slot;
    mail = o.mail;
    fits = record {
      few = o.fits.few;
      begun = o.fits.begun;
      wide = o.fits.wide;
      many = o.fits.many;
      lock = o.fits.lock;
      member = o.fits.member;
      given = suc k;
      low = omega arith;
      back = back;
      store = refl;
      long = ap suc (length-append ds (fresh k b back ∷ []) ∙ omega arith);
      gone = λ m h. at_longer ds (fresh k b back ∷ []) m Spent (o.fits.gone m (subst (λ l. is_back l m ≡ true) (same_back k o.fits.given b b back o.fits.back (some-injective (Store k b back) (Store o.fits.given b o.fits.back) o.fits.store)) h));
      own = λ j d e. ⊎_elim (λ (same : get_elem? (ds ++ fresh k b back ∷ []) j ≡ get_elem? ds j). o.fits.own j d (sym same ∙ e))
          (λ (t : (j ≡ length ds) × (get_elem? (ds ++ fresh k b back ∷ []) j ≡ some (fresh k b back)) × (get_elem? ds j ≡ none)).
          inl (record { settled = false; hand = None }, deeds_in back k, sym (some-injective (fresh k b back) d (sym t.1 ∙ e)) ∙ ap (λ i. Own i (record { settled = false; hand = None }) b (deeds_in back k)) (sym (t.0 ∙ long))))
          (at_append ds (fresh k b back) j);
      pool = λ a t h l. subst (λ (y : Holding). IsSlot (get_or ws (pool_word (size b) a t) 0) (get_elem? hs (pool_place a t)) y.settled (o.slot a t)) (sym (split_pose a)) (o.fits.pool a t h l);
      outside = o.fits.outside;
      box = λ a c h l. subst (λ (y : Holding). IsBox (get_or ws (mail_word (size b) a c) 0) (get_elem? hs (mail_place (size b) a c)) (pool_place a c) y.hand (pose_at (Store (suc k) b back ∷ (ds ++ fresh k b back ∷ [])) c).hand (o.mail a c)) (sym (split_pose a))
          (subst (λ (y : Holding). IsBox (get_or ws (mail_word (size b) a c) 0) (get_elem? hs (mail_place (size b) a c)) (pool_place a c) (pose_at (Store k b back ∷ ds) a).hand y.hand (o.mail a c)) (sym (split_pose c)) (o.fits.box a c h l));
      no_box = o.fits.no_box;
      count = λ m h. o.fits.count m h ∙ ap own_number (sym (split_deeds long m));
    };
    reached = reached_by b _ _ _ _ (λ m. sym (split_deeds long m)) (λ i. group_of (place_of b) o.holder o.slot o.mail (λ m. ap (view_by b m) (sym (split_deeds long m)) i)) o.reached;
  }

split_at : (k : ℕ) (b : Origin) (back : List (ℕ × List Deed)) (ws : List ℕ) (hs : List (maybe.Option (Option Parcel))) (l : List SeatData) → k < size b → ShowsLawful b (record { words = ws; homes = hs; views = l }) → get_elem? l 0 ≡ some (Store k b back)
    → ShowsLawful b (record { words = ws; homes = hs; views = set l 0 (Store (suc k) b back) ++ fresh k b back ∷ [] })
split_at k b back ws hs [] less o e = absurd (some-ne-none (Store k b back) (sym e))
split_at k b back ws hs (d ∷ ds) less o e = let is : d ≡ Store k b back = some-injective d (Store k b back) e in
    let same : k ≡ o.fits.given = same_given k o.fits.given b b back o.fits.back (sym is ∙ some-injective d (Store o.fits.given b o.fits.back) o.fits.store) in
    let long : length ds ≡ k = let h = o.fits.long in omega arith in
    split_rule k b back ds ws hs less long (subst (λ x. ShowsLawful b (record { words = ws; homes = hs; views = x ∷ ds })) is o)

pub split_owes : (b : Origin) (id k : ℕ) (back : List (ℕ × List Deed)) → k < size b → Splits (ShowsLawful b) id (Store k b back) (Store (suc k) b back) (fresh k b back)
split_owes b zero k back less s o me = split_at k b back s.words s.homes s.views less o me
split_owes b (suc j) k back less s o me = ⊎_elim (λ (t : (q : Holding) × (ds : List Deed) × (Store k b back ≡ Own j q b ds)). absurd (store_own k b b back j t.0 t.1 t.2)) (λ (t : Store k b back ≡ Spent). absurd (store_spent k b back t)) (o.fits.own j (Store k b back) me)

-- What a seat holds turns, with the homes, and each slot is still kept: the state shown is the same.
module _ (b : Origin) (s : TableState) (o : ShowsLawful b s) (m : ℕ) (q r : Holding) (ds : List Deed) (me : get_elem? s.views (suc m) ≡ some (Own m q b ds)) where
  pub pose_keeps : (i : ℕ) (hs : List (maybe.Option (Option Parcel))) → length hs ≡ length s.homes
      → ((a t : ℕ) → a < size b → t < 8 → IsHome (get_elem? hs (pool_place a t)) (put (pose_at s.views) m r a).settled (o.slot a t))
      → r.hand ≡ q.hand → ((a c : ℕ) → a < size b → c < size b → get_elem? hs (mail_place (size b) a c) ≡ get_elem? s.homes (mail_place (size b) a c))
      → ShowsLawful b (record { words = set s.words i (get_or s.words i 0); homes = hs; views = set s.views (suc m) (Own m r b ds) })
  pose_keeps i hs many pool grip boxes =
      let same : (j : ℕ) → get_or (set s.words i (get_or s.words i 0)) j 0 ≡ get_or s.words j 0 = λ j. ap (λ l. get_or l j 0) (set-get_or s.words i 0) in
      record {
        holder = o.holder;
        slot = o.slot;
        mail = o.mail;
        fits = fits_after b o.holder o.holder o.slot o.slot o.mail o.mail s (record { words = set s.words i (get_or s.words i 0); homes = hs; views = set s.views (suc m) (Own m r b ds) }) o.fits m q r ds ds me refl (length-set s.words i (get_or s.words i 0)) many (same 0 ∙ o.fits.lock) o.fits.member
            (λ a t h l. subst (λ (y : Holding). IsSlot (get_or (set s.words i (get_or s.words i 0)) (pool_word (size b) a t) 0) (get_elem? hs (pool_place a t)) y.settled (o.slot a t)) (sym (pose_turned s.views m q r b ds me a))
            (same (pool_word (size b) a t) ∙ (o.fits.pool a t h l).0, pool a t h l)) o.fits.outside
            (λ a c h l. subst (λ x. IsBox x (get_elem? hs (mail_place (size b) a c)) (pool_place a c) (pose_at (set s.views (suc m) (Own m r b ds)) a).hand (pose_at (set s.views (suc m) (Own m r b ds)) c).hand (o.mail a c)) (sym (same (mail_word (size b) a c)))
            (subst (λ x. IsBox (get_or s.words (mail_word (size b) a c) 0) x (pool_place a c) (pose_at (set s.views (suc m) (Own m r b ds)) a).hand (pose_at (set s.views (suc m) (Own m r b ds)) c).hand (o.mail a c)) (sym (boxes a c h l))
            (subst (λ x. IsBox (get_or s.words (mail_word (size b) a c) 0) (get_elem? s.homes (mail_place (size b) a c)) (pool_place a c) x (pose_at (set s.views (suc m) (Own m r b ds)) c).hand (o.mail a c)) (sym (hands a))
            (subst (λ x. IsBox (get_or s.words (mail_word (size b) a c) 0) (get_elem? s.homes (mail_place (size b) a c)) (pool_place a c) (pose_at s.views a).hand x (o.mail a c)) (sym (hands c)) (o.fits.box a c h l))))) o.fits.no_box
            (λ j l. same (own_word j) ∙ (o.fits.count j l ∙ ap own_number (sym (deeds_same s.views m q r b ds me j))));
        reached = reached_by b _ _ _ _ (λ k. sym (deeds_same s.views m q r b ds me k)) (λ j. group_of (place_of b) o.holder o.slot o.mail (λ k. sym (views_same s.views m q r b ds me k) j)) o.reached;
      } where
        hands : (a : ℕ) → (pose_at (set s.views (suc m) (Own m r b ds)) a).hand ≡ (pose_at s.views a).hand
        hands a = ap (λ (x : Holding). x.hand) (pose_turned s.views m q r b ds me a) ∙ put_at (pose_at s.views) m r (λ j (y : Holding). y.hand ≡ (pose_at s.views j).hand) (grip ∙ sym (ap (λ (x : Holding). x.hand) (pose_here s.views m q b ds me))) (λ j ne. refl) a

-- k slots from a place on are taken, all at home with nothing
abbrev pub takes_row : ℕ → ℕ → Act (Option Parcel)
takes_row at zero = keeps
takes_row at (suc k) = chain (takes_row at k) (takes (at + k) None)

module _ (at : ℕ) (hs : List (maybe.Option (Option Parcel))) (c : List (ℕ × Option Parcel)) where
  pub row_carried : (k : ℕ) → carried_after c (takes_row at k) ≡ row_out at k c
  row_carried zero = refl
  row_carried (suc k) = ap (λ l. (at + k, None) ∷ l) (row_carried k)

  row_long : (k : ℕ) → length (homes_after hs c (takes_row at k)) ≡ length hs
  row_long zero = refl
  row_long (suc k) = length-set (homes_after hs c (takes_row at k)) (at + k) none ∙ row_long k

  -- those of the row are out, and the others as they were
  row_in : (k j : ℕ) → at + k ≤ length hs → at ≤ j → j < at + k → get_elem? (homes_after hs c (takes_row at k)) j ≡ some none
  row_in zero j room low high = absurd (omega arith)
  row_in (suc k) j room low high = dite (ℕ_discrete j (at + k))
      (λ e. let long = row_long k in let lt : at + k < length (homes_after hs c (takes_row at k)) = omega (arith, long, room) in ap (get_elem? (set (homes_after hs c (takes_row at k)) (at + k) none)) e ∙ set_here (homes_after hs c (takes_row at k)) (at + k) none lt)
      (λ ne. set_else (homes_after hs c (takes_row at k)) (at + k) j none ne ∙ row_in k j (omega arith) low (omega arith))

  row_else : (k j : ℕ) → (j < at) ⊎ (at + k ≤ j) → get_elem? (homes_after hs c (takes_row at k)) j ≡ get_elem? hs j
  row_else zero j out = refl
  row_else (suc k) j (inl low) = set_else (homes_after hs c (takes_row at k)) (at + k) j none (λ e. omega arith) ∙ row_else k j (inl low)
  row_else (suc k) j (inr high) = set_else (homes_after hs c (takes_row at k)) (at + k) j none (λ e. omega arith) ∙ row_else k j (inr (omega arith))

  row_valid : (k : ℕ) → at + k ≤ length hs → ((t : ℕ) → t < k → get_elem? hs (at + t) ≡ some (some None)) → Valid hs c (takes_row at k)
  row_valid zero room all = tt
  row_valid (suc k) room all = (row_valid k (omega arith) (λ t l. all t (omega arith)), row_else k (at + k) (inr (omega arith)) ∙ all k (omega arith))

module _ (b : Origin) (s : TableState) (o : ShowsLawful b s) (m : ℕ) (h : Option MailHold) (ds : List Deed) (me : get_elem? s.views (suc m) ≡ some (Own m (record { settled = false; hand = h }) b ds)) (near : m < size b) (free : (t : ℕ) → t < 8 → IsFree (view_by b m ds) t) where
  all_empty : (t : ℕ) → t < 8 → o.slot m t ≡ Empty
  all_empty t l = own_empty b s o m (record { settled = false; hand = h }) ds me near t (free t l)

  all_at_home : (t : ℕ) → t < 8 → get_elem? s.homes (pool_place m 0 + t) ≡ some (some None)
  all_at_home t l = let same : pool_place m 0 + t ≡ pool_place m t = omega arith in
      ap (get_elem? s.homes) same ∙ subst (λ (y : Slot). IsHome (get_elem? s.homes (pool_place m t)) false y) (all_empty t l)
      (subst (λ (y : Holding). IsHome (get_elem? s.homes (pool_place m t)) y.settled (o.slot m t)) (pose_here s.views m (record { settled = false; hand = h }) b ds me) (o.fits.pool m t near l).1) refl

  row_room : pool_place m 0 + 8 ≤ length s.homes
  row_room = let many = o.fits.many in omega (arith, many, near)

  pub settle_valid : (c : List (ℕ × Option Parcel)) → Valid s.homes c (takes_row (pool_place m 0) 8)
  settle_valid c = row_valid (pool_place m 0) s.homes c 8 row_room all_at_home

  pub settle_keeps : (i : ℕ) (c : List (ℕ × Option Parcel))
      → ShowsLawful b (record { words = set s.words i (get_or s.words i 0); homes = homes_after s.homes c (takes_row (pool_place m 0) 8); views = set s.views (suc m) (Own m (record { settled = true; hand = h }) b ds) })
  settle_keeps i c = pose_keeps b s o m (record { settled = false; hand = h }) (record { settled = true; hand = h }) ds me i (homes_after s.homes c (takes_row (pool_place m 0) 8)) (row_long (pool_place m 0) s.homes c 8) pool refl (λ a u l r. row_else (pool_place m 0) s.homes c 8 (mail_place (size b) a u) (inr (omega arith))) where
    hs : List (maybe.Option (Option Parcel))
    hs = homes_after s.homes c (takes_row (pool_place m 0) 8)

    pool : (a t : ℕ) → a < size b → t < 8 → IsHome (get_elem? (homes_after s.homes c (takes_row (pool_place m 0) 8)) (pool_place a t)) (put (pose_at s.views) m (record { settled = true; hand = h }) a).settled (o.slot a t)
    pool a t low less = put_at (pose_at s.views) m (record { settled = true; hand = h }) (λ (j : ℕ) (y : Holding). j < size b → IsHome (get_elem? (homes_after s.homes c (takes_row (pool_place m 0) 8)) (pool_place j t)) y.settled (o.slot j t))
        (λ l. subst (λ (y : Slot). IsHome (get_elem? (homes_after s.homes c (takes_row (pool_place m 0) 8)) (pool_place m t)) true y) (sym (all_empty t less)) (λ e. absurd (cc e)))
        (λ j ne l. subst (λ (y : Home). IsHome y (pose_at s.views j).settled (o.slot j t)) (sym (row_else (pool_place m 0) s.homes c 8 (pool_place j t) (outside j ne))) (o.fits.pool j t l less).1) a low where
          outside : (j : ℕ) → j ≢ m → (pool_place j t < pool_place m 0) ⊎ (pool_place m 0 + 8 ≤ pool_place j t)
          outside j ne = dite (dec_le (suc j) m) (λ d. inl (omega arith)) (λ d. inr (let l : m < suc j = lt_of_not-le d in omega arith))
