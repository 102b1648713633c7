-- The two rules on a member's own keys, on its view and on the group that the views show.
use Rattle.std.proofs.Common.{◌≡◌, ◌≢◌, ℕ, ◌<◌, Bool, true, false, cond, ◌&&◌, eqb, List, [], ◌∷◌, Option, Some, None, ◌⊎◌, inl, inr, refl, sym, ap, ◌∙◌, subst, eq-eqb, ne_eqb}
use mathlib.Core.Logic.{dite}
use native.Mathlib.Decide.{ℕ_discrete}
use Rattle.log_entry.specs.declared.entry.EntryName.{EntryName}
use Rattle.group_laws.specs.declared.types.Slot.{Slot}
use Rattle.group_laws.specs.Places.{Place, owner}
use Rattle.group_laws.specs.Updates.{change, has}
use Rattle.group_laws.specs.State.{Group, Notices}
use Rattle.group_laws.specs.Tidying.{IsSpent, TellsItself, IsTidy, Tidied}
use Rattle.group_board.specs.Tidies.{Covers, tidied}
use Rattle.group_laws.specs.MemberViews.{View}
use Rattle.group_board.specs.Views.{TidiedIn}
use Rattle.group_board.proofs.Clients.{covers_more, covers_less, tidied_is}
use Rattle.atomic_board.specs.declared.seat_data.Origin.{Origin}
use Rattle.atomic_board.specs.declared.seat_data.Deed.{Deed}
use Rattle.atomic_board.specs.declared.seat_data.Deed.TheVariants.{Post, Lock, Found, Take, Unlock, Commit, Mark, Fail, Finish, GiveUp, Withdraw, Doom, Retire, Send, Receive}
use Rattle.atomic_board.specs.Deeds.{group_of, alike, tidied_in, began, names_of, place_of, names_by, view_by, CoversIn}

-- a view after the rules, and one that they don't touch
tidy_row : (ns : List EntryName) (p : Place) (m : ℕ) (b : Bool) (v : View)
    → cond b (tidied_in ns p m v) v ≡ record v { last = (cond b (tidied_in ns p m v) v).last; told = (cond b (tidied_in ns p m v) v).told; dead = (cond b (tidied_in ns p m v) v).dead }
tidy_row ns p m true v = refl
tidy_row ns p m false v = refl

module _ (ns : List EntryName) (p : Place) (m : ℕ) (v : View) (covers : CoversIn ns v) where
  pub alike_tidy : IsTidy (alike p v) m (tidied (alike p v) ns m).last (tidied (alike p v) ns m).told (tidied (alike p v) ns m).dead
  alike_tidy = let t = tidied_is (alike p v) ns covers m in subst (λ (u : Group). IsTidy (alike p v) m u.last u.told u.dead) (sym t.4) t.3

  -- the function of the rules is what they say of a view
  pub tidied_view : TidiedIn p m v (tidied_in ns p m v)
  tidied_view = (
    (tidied_in ns p m v).last,
    (tidied_in ns p m v).told,
    (tidied_in ns p m v).dead,
    record {
      forgets = alike_tidy.forgets;
      keeps = alike_tidy.keeps;
      tells = alike_tidy.tells;
      learns = λ k n. (
        (λ t. elim ((alike_tidy.learns m k n).0 t) [ inl old ↦ inl old | inr new ↦ inr new.1 ]),
        (λ q. elim q [ inl old ↦ (alike_tidy.learns m k n).1 (inl old) | inr new ↦ (alike_tidy.learns m k n).1 (inr (refl, new)) ]),
      );
    },
    refl,
  )

module _ (ns : List EntryName) (p : Place) (holder : Option ℕ) (slot : ℕ → ℕ → Slot) (mail : ℕ → ℕ → Option Notices) (view : ℕ → View) (m : ℕ) (covers : CoversIn ns (view m)) where
  abbrev w : Group
  w = group_of p holder slot mail view

  abbrev T : View → View
  T = tidied_in ns p m

  abbrev SpentBy : ℕ → ℕ → Type 0
  SpentBy k j = (owner p k ≡ m) × ((view j).cell k ≡ None) × ((n : ℕ) → (view j).present k n ≡ None) × ((view j).pending k ≡ None)

  abbrev TellsBy : ℕ → ℕ → ℕ → Type 0
  TellsBy k n j = (owner p k ≡ m) × ((view j).present k n ≡ Some m) × ((n < (view j).last k) ⊎ ((n ≡ (view j).last k) × ((view j).cell k ≡ None) × ((u h : ℕ) → (view j).present k u ≡ Some h → u ≡ n)))

  tidy : IsTidy (alike p (view m)) m (tidied (alike p (view m)) ns m).last (tidied (alike p (view m)) ns m).told (tidied (alike p (view m)) ns m).dead
  tidy = alike_tidy ns p m (view m) covers

  at_m : change view m (tidied_in ns p m) m ≡ tidied_in ns p m (view m)
  at_m = ap (λ b. cond b (tidied_in ns p m (view m)) (view m)) (eq-eqb m m refl)

  own : (k : ℕ) → owner p k ≡ m → change view m (tidied_in ns p m) (owner p k) ≡ tidied_in ns p m (view m)
  own k o = ap (change view m (tidied_in ns p m)) o ∙ at_m

  other : (j : ℕ) → j ≢ m → change view m (tidied_in ns p m) j ≡ view j
  other j ne = ap (λ b. cond b (tidied_in ns p m (view j)) (view j)) (ne_eqb j m ne)

  spent_here : (k : ℕ) → IsSpent w m k → IsSpent (alike p (view m)) m k
  spent_here k s = subst (SpentBy k) s.0 s

  spent_there : (k : ℕ) → IsSpent (alike p (view m)) m k → IsSpent w m k
  spent_there k s = subst (SpentBy k) (sym s.0) s

  tells_here : (k n : ℕ) → TellsItself w m k n → TellsItself (alike p (view m)) m k n
  tells_here k n t = subst (TellsBy k n) t.0 t

  tells_there : (k n : ℕ) → TellsItself (alike p (view m)) m k n → TellsItself w m k n
  tells_there k n t = subst (TellsBy k n) (sym t.0) t

  pub tidied_shows : Tidied (group_of p holder slot mail view) m (group_of p holder slot mail (change view m (tidied_in ns p m)))
  tidied_shows = (
    λ k. (change view m (tidied_in ns p m) (owner p k)).last k,
    λ k. (change view m (tidied_in ns p m) (owner p k)).told k,
    λ h. (change view m (tidied_in ns p m) h).dead,
    record {
      forgets = λ k s. ap (λ (u : View). u.last k) (own k s.0) ∙ tidy.forgets k (spent_here k s);
      keeps = λ k. dite (ℕ_discrete (owner p k) m)
          (λ o. elim (tidy.keeps k) [
            | inl gone ↦ inl (spent_there k gone.0, ap (λ (u : View). u.last k) (own k o) ∙ gone.1)
            | inr same ↦ inr (ap (λ (u : View). u.last k) (own k o) ∙ (same ∙ ap (λ j. (view j).last k) (sym o)))
          ])
          (λ ne. inr (ap (λ (u : View). u.last k) (other (owner p k) ne)));
      tells = λ k n. dite (ℕ_discrete (owner p k) m)
          (λ o. (
            (λ t. elim ((tidy.tells k n).0 (sym (ap (λ (u : View). u.told k n) (own k o)) ∙ t)) [
              | inl old ↦ inl (ap (λ j. (view j).told k n) o ∙ old)
              | inr new ↦ inr (tells_there k n new)
            ]),
            (λ q. ap (λ (u : View). u.told k n) (own k o) ∙ elim q [
              | inl old ↦ (tidy.tells k n).1 (inl (ap (λ j. (view j).told k n) (sym o) ∙ old))
              | inr new ↦ (tidy.tells k n).1 (inr (tells_here k n new))
            ]),
          ))
          (λ ne. (
            (λ t. inl (sym (ap (λ (u : View). u.told k n) (other (owner p k) ne)) ∙ t)),
            (λ q. elim q [ inl old ↦ ap (λ (u : View). u.told k n) (other (owner p k) ne) ∙ old | inr new ↦ absurd (ne new.0) ]),
          ));
      learns = λ h k n. dite (ℕ_discrete h m)
          (λ o. (
            (λ t. elim ((tidy.learns m k n).0 (sym (ap (λ (u : View). u.dead k n) (ap (change view m (tidied_in ns p m)) o ∙ at_m)) ∙ t)) [
              | inl old ↦ inl (ap (λ j. (view j).dead k n) o ∙ old)
              | inr new ↦ inr (o, tells_there k n new.1)
            ]),
            (λ q. ap (λ (u : View). u.dead k n) (ap (change view m (tidied_in ns p m)) o ∙ at_m) ∙ elim q [
              | inl old ↦ (tidy.learns m k n).1 (inl (ap (λ j. (view j).dead k n) (sym o) ∙ old))
              | inr new ↦ (tidy.learns m k n).1 (inr (refl, tells_here k n new.1))
            ]),
          ))
          (λ ne. (
            (λ t. inl (sym (ap (λ (u : View). u.dead k n) (other h ne)) ∙ t)),
            (λ q. elim q [ inl old ↦ ap (λ (u : View). u.dead k n) (other h ne) ∙ old | inr new ↦ absurd (ne new.0) ]),
          ));
    },
    λ i. group_of p holder slot mail (λ h. tidy_row ns p m (eqb h m) (view h) i),
  )

-- a deed and then the rules
twice : (b : Bool) (f g : View → View) (v : View) → cond b (f (g v)) v ≡ cond b (f (cond b (g v) v)) (cond b (g v) v)
twice true f g v = refl
twice false f g v = refl

pub change_twice : (f g : View → View) (view : ℕ → View) (m k : ℕ) → change view m (λ v. f (g v)) k ≡ change (change view m g) m f k
change_twice f g view m k = twice (eqb k m) f g (view k)

-- the names cover what stands by the view
own_none : {X : Type 0} (b : Bool) (x : Option X) (y : X) → cond b x None ≡ Some y → x ≡ Some y
own_none true x y e = e
own_none false x y e = absurd (cc e)

pub covers_by : (b : Origin) → Covers (names_of b) (began b) → (m : ℕ) (ds : List Deed) → CoversIn (names_by (names_of b) ds) (view_by b m ds)
covers_by b all m [] = λ k n h e. all k n h (own_none (eqb (owner (place_of b) k) m) ((began b).present k n) h e)
covers_by b all m (Post s e v at ∷ ds) = covers_by b all m ds
covers_by b all m (Lock ∷ ds) = covers_by b all m ds
covers_by b all m (Found x ∷ ds) = covers_by b all m ds
covers_by b all m (Take a s e ∷ ds) = covers_by b all m ds
covers_by b all m (Unlock ∷ ds) = covers_by b all m ds
covers_by b all m (Commit at ∷ ds) = covers_by b all m ds
covers_by b all m (Mark a s ∷ ds) = covers_by b all m ds
covers_by b all m (Fail a s ∷ ds) = covers_by b all m ds
covers_by b all m (Finish s e h ∷ ds) = covers_more (alike (place_of b) (view_by b m ds)) (names_by (names_of b) ds) (covers_by b all m ds) e h
covers_by b all m (GiveUp s e ∷ ds) = covers_by b all m ds
covers_by b all m (Withdraw s e ∷ ds) = covers_by b all m ds
covers_by b all m (Doom xs at ∷ ds) = covers_by b all m ds
covers_by b all m (Retire xs at ∷ ds) = covers_less (alike (place_of b) (view_by b m ds)) (names_by (names_of b) ds) (covers_by b all m ds) (λ k n. eqb (owner (place_of b) k) m && has xs k n)
covers_by b all m (Send to dead gone ∷ ds) = covers_by b all m ds
covers_by b all m (Receive from dead gone ∷ ds) = covers_less (alike (place_of b) (view_by b m ds)) (names_by (names_of b) ds) (covers_by b all m ds) (λ k n. eqb (owner (place_of b) k) m && has gone k n)
