-- The views of a table: where a member's seat stands, and what all seats show once it moves.
use Rattle.std.proofs.Common.{◌≡◌, ◌≢◌, ℕ, zero, suc, ◌<◌, Bool, true, false, eqb, cond, ◌&&◌, List, [], ◌∷◌, length, set, sym, refl, ap, ◌∙◌, subst, inl, inr, ◌⊎◌, ⊎_elim, eq-eqb, ne_eqb, arith, Option}
use mathlib.Core.Option.{some, some-injective, some-ne-none}
use mathlib.Core.Logic.{dite}
use native.Mathlib.Decide.{ℕ_discrete}
use lib.ListN.{get_elem?}
use Rattle.atomic_table.proofs.Lists.{set_here, set_else}
use Rattle.group_laws.specs.declared.types.Slot.{Slot}
use Rattle.group_laws.specs.State.{Notices}
use Rattle.group_laws.specs.Updates.{put, put2, change}
use Rattle.atomic_board.proofs.Reaches.{more}
use Rattle.group_laws.specs.MemberViews.{View}
use Rattle.atomic_board.specs.declared.seat_data.Origin.{Origin}
use Rattle.atomic_board.specs.declared.seat_data.Holding.{Holding}
use Rattle.atomic_board.specs.declared.seat_data.Deed.{Deed}
use Rattle.atomic_board.specs.declared.seat_data.SeatData.{SeatData}
use Rattle.atomic_board.specs.declared.seat_data.SeatData.TheVariants.{Store, Own, Spent}
use Rattle.atomic_board.specs.Deeds.{place_of, size, names_of, names_by, after_deed, view_by}
use Rattle.atomic_board.specs.ShownState.{TableState, stored, own_or, deeds_at, views_of, pose_or, pose_at, Fits}

number : SeatData → ℕ
number (Store k b l) = 0
number (Own m q b ds) = m
number Spent = 0

kind : SeatData → ℕ
kind (Store k b l) = 0
kind (Own m q b ds) = 1
kind Spent = 2

pub own_spent : (m : ℕ) (q : Holding) (b : Origin) (ds : List Deed) → Own m q b ds ≡ Spent → ⊥
unfolding kind
own_spent m q b ds e = let p : 1 ≡ 2 = ap kind e in absurd (cc p)

own_number : (j m : ℕ) (q r : Holding) (b c : Origin) (ds es : List Deed) → Own j q b ds ≡ Own m r c es → j ≡ m
unfolding number
own_number j m q r b c ds es e = ap number e

pub store_own : (k : ℕ) (b c : Origin) (l : List (ℕ × List Deed)) (m : ℕ) (q : Holding) (ds : List Deed) → Store k b l ≡ Own m q c ds → ⊥
unfolding kind
store_own k b c l m q ds e = let p : 0 ≡ 1 = ap kind e in absurd (cc p)

pub store_spent : (k : ℕ) (b : Origin) (l : List (ℕ × List Deed)) → Store k b l ≡ Spent → ⊥
unfolding kind
store_spent k b l e = let p : 0 ≡ 2 = ap kind e in absurd (cc p)

pub at_lt : {A : Type 0} (l : List A) (i : ℕ) (a : A) → get_elem? l i ≡ some a → i < length l
at_lt [] i a e = absurd (some-ne-none a (sym e))
at_lt (x ∷ xs) zero a e = omega arith
at_lt (x ∷ xs) (suc i) a e = let h = at_lt xs i a e in omega arith

module _ {X : Type 0} (f : ℕ → X) (m : ℕ) (x : X) where
  pub put_here : put f m x m ≡ x
  put_here = ap (λ b. cond b x (f m)) (eq-eqb m m refl)

  pub put_else : (k : ℕ) → k ≢ m → put f m x k ≡ f k
  put_else k ne = ap (λ b. cond b x (f k)) (ne_eqb k m ne)

  pub put_at : (F : ℕ → X → Type 0) → F m x → ((k : ℕ) → k ≢ m → F k (f k)) → (k : ℕ) → F k (put f m x k)
  put_at F h g k = dite (ℕ_discrete k m)
      (λ e. subst (λ j. F j (put f m x j)) (sym e) (subst (F m) (sym put_here) h))
      (λ ne. subst (F k) (sym (put_else k ne)) (g k ne))

and_none : (b : Bool) → b && false ≡ false
and_none true = refl
and_none false = refl

module _ {X : Type 0} (f : ℕ → ℕ → X) (a t : ℕ) (x : X) where
  pub put2_here : put2 f a t x a t ≡ x
  put2_here = ap (λ b. cond (b && eqb t t) x (f a t)) (eq-eqb a a refl) ∙ ap (λ b. cond b x (f a t)) (eq-eqb t t refl)

  pub put2_else : (c u : ℕ) → (c ≢ a) ⊎ (u ≢ t) → put2 f a t x c u ≡ f c u
  put2_else c u (inl ne) = ap (λ b. cond (b && eqb u t) x (f c u)) (ne_eqb c a ne)
  put2_else c u (inr ne) = ap (λ b. cond (eqb c a && b) x (f c u)) (ne_eqb u t ne) ∙ ap (λ b. cond b x (f c u)) (and_none (eqb c a))

  -- what holds at the place of the write, and elsewhere of what stood there
  pub put2_at : (F : ℕ → ℕ → X → Type 0) → F a t x → ((c u : ℕ) → (c ≢ a) ⊎ (u ≢ t) → F c u (f c u)) → (c u : ℕ) → F c u (put2 f a t x c u)
  put2_at F h g c u =
      dite (ℕ_discrete c a)
      (λ e. dite (ℕ_discrete u t)
      (λ i. subst (λ j. F j u (put2 f a t x j u)) (sym e) (subst (λ j. F a j (put2 f a t x a j)) (sym i) (subst (F a t) (sym put2_here) h)))
      (λ ne. subst (F c u) (sym (put2_else c u (inr ne))) (g c u (inr ne))))
      (λ ne. subst (F c u) (sym (put2_else c u (inl ne))) (g c u (inl ne)))

module _ (ds : List SeatData) (m : ℕ) (q : Holding) (b : Origin) (es : List Deed) where
  pub deeds_here : get_elem? ds (suc m) ≡ some (Own m q b es) → deeds_at ds m ≡ es
  deeds_here = go ds where
    go : (l : List SeatData) → get_elem? l (suc m) ≡ some (Own m q b es) → deeds_at l m ≡ es
    go [] e = absurd (some-ne-none (Own m q b es) (sym e))
    go (d ∷ l) e = ap (own_or (stored d m)) e

  pub pose_here : get_elem? ds (suc m) ≡ some (Own m q b es) → pose_at ds m ≡ q
  pose_here = go ds where
    go : (l : List SeatData) → get_elem? l (suc m) ≡ some (Own m q b es) → pose_at l m ≡ q
    go [] e = absurd (some-ne-none (Own m q b es) (sym e))
    go (d ∷ l) e = ap pose_or e

  deeds_set : suc m < length ds → (k : ℕ) → deeds_at (set ds (suc m) (Own m q b es)) k ≡ put (deeds_at ds) m es k
  deeds_set h k = go ds h where
    go : (l : List SeatData) → suc m < length l → deeds_at (set l (suc m) (Own m q b es)) k ≡ put (deeds_at l) m es k
    go [] h = absurd (omega arith)
    go (d ∷ l) h = put_at (deeds_at (d ∷ l)) m es (λ j y. deeds_at (set (d ∷ l) (suc m) (Own m q b es)) j ≡ y)
        (ap (own_or (stored d m)) (set_here l m (Own m q b es) (omega arith))) (λ j ne. ap (own_or (stored d j)) (set_else l m j (Own m q b es) ne)) k

  pose_set : suc m < length ds → (k : ℕ) → pose_at (set ds (suc m) (Own m q b es)) k ≡ put (pose_at ds) m q k
  pose_set h k = go ds h where
    go : (l : List SeatData) → suc m < length l → pose_at (set l (suc m) (Own m q b es)) k ≡ put (pose_at l) m q k
    go [] h = absurd (omega arith)
    go (d ∷ l) h = put_at (pose_at (d ∷ l)) m q (λ j y. pose_at (set (d ∷ l) (suc m) (Own m q b es)) j ≡ y)
        (ap pose_or (set_here l m (Own m q b es) (omega arith))) (λ j ne. ap pose_or (set_else l m j (Own m q b es) ne)) k

-- once the seat of m has another holding and one more deed
module _ (ds : List SeatData) (m : ℕ) (q r : Holding) (b : Origin) (d : Deed) (es : List Deed) (me : get_elem? ds (suc m) ≡ some (Own m q b es)) where
  pub views_moved : (k : ℕ) → views_of b (set ds (suc m) (Own m r b (d ∷ es))) k ≡ change (views_of b ds) m (after_deed (names_by (names_of b) (d ∷ es)) (place_of b) m d) k
  views_moved k = ap (view_by b k) (deeds_set ds m r b (d ∷ es) (at_lt ds (suc m) (Own m q b es) me) k) ∙ at_k where
    f : View → View
    f = after_deed (names_by (names_of b) (d ∷ es)) (place_of b) m d

    at_k : view_by b k (put (deeds_at ds) m (d ∷ es) k) ≡ change (views_of b ds) m f k
    at_k = dite (ℕ_discrete k m)
        (λ e. subst (λ j. view_by b j (put (deeds_at ds) m (d ∷ es) j) ≡ change (views_of b ds) m f j) (sym e)
        (ap (view_by b m) (put_here (deeds_at ds) m (d ∷ es)) ∙ (ap f (ap (view_by b m) (sym (deeds_here ds m q b es me))) ∙ sym (ap (λ t. cond t (f (views_of b ds m)) (views_of b ds m)) (eq-eqb m m refl)))))
        (λ ne. ap (view_by b k) (put_else (deeds_at ds) m (d ∷ es) k ne) ∙ sym (ap (λ t. cond t (f (views_of b ds k)) (views_of b ds k)) (ne_eqb k m ne)))

  pub deeds_moved : (k : ℕ) → deeds_at (set ds (suc m) (Own m r b (d ∷ es))) k ≡ more (deeds_at ds) m d k
  deeds_moved k = deeds_set ds m r b (d ∷ es) (at_lt ds (suc m) (Own m q b es) me) k ∙ put_at (deeds_at ds) m (d ∷ es) (λ j y. y ≡ more (deeds_at ds) m d j)
      (ap (λ l. d ∷ l) (sym (deeds_here ds m q b es me)) ∙ sym (ap (λ t. cond t (d ∷ deeds_at ds m) (deeds_at ds m)) (eq-eqb m m refl)))
      (λ j ne. sym (ap (λ t. cond t (d ∷ deeds_at ds j) (deeds_at ds j)) (ne_eqb j m ne))) k

  pub pose_moved : (k : ℕ) → pose_at (set ds (suc m) (Own m r b (d ∷ es))) k ≡ put (pose_at ds) m r k
  pose_moved = pose_set ds m r b (d ∷ es) (at_lt ds (suc m) (Own m q b es) me)

-- once it has another holding alone
module _ (ds : List SeatData) (m : ℕ) (q r : Holding) (b : Origin) (es : List Deed) (me : get_elem? ds (suc m) ≡ some (Own m q b es)) where
  pub deeds_same : (k : ℕ) → deeds_at (set ds (suc m) (Own m r b es)) k ≡ deeds_at ds k
  deeds_same k = deeds_set ds m r b es (at_lt ds (suc m) (Own m q b es) me) k ∙ put_at (deeds_at ds) m es (λ j y. y ≡ deeds_at ds j) (sym (deeds_here ds m q b es me)) (λ j ne. refl) k

  pub views_same : (k : ℕ) → views_of b (set ds (suc m) (Own m r b es)) k ≡ views_of b ds k
  views_same k = ap (view_by b k) (deeds_same k)

  pub pose_turned : (k : ℕ) → pose_at (set ds (suc m) (Own m r b es)) k ≡ put (pose_at ds) m r k
  pose_turned = pose_set ds m r b es (at_lt ds (suc m) (Own m q b es) me)

-- the seat of the member m stands at m + 1
pub place : (b : Origin) (holder : Option ℕ) (slot : ℕ → ℕ → Slot) (mail : ℕ → ℕ → Option Notices) (s : TableState) (f : Fits b holder slot mail s) (id m : ℕ) (q : Holding) (ds : List Deed) → get_elem? s.views id ≡ some (Own m q b ds) → (id ≡ suc m) × (m < size b)
place b holder slot mail s f zero m q ds e = absurd (store_own f.given b b f.back m q ds (some-injective (Store f.given b f.back) (Own m q b ds) (sym f.store ∙ e)))
place b holder slot mail s f (suc j) m q ds e = ⊎_elim
    (λ (t : (r : Holding) × (es : List Deed) × (Own m q b ds ≡ Own j r b es)). let same = own_number m j q t.0 b b ds t.1 t.2 in (sym (ap suc same), let near = at_lt s.views (suc j) (Own m q b ds) e in let few = f.low in let long = f.long in omega arith))
    (λ (t : Own m q b ds ≡ Spent). absurd (own_spent m q b ds t)) (f.own j (Own m q b ds) e)
