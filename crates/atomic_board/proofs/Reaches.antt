-- A state that a step leads to from one that steps lead to.
use Rattle.std.proofs.Common.{◌≡◌, ℕ, List, [], ◌∷◌, ◌++◌, eqb, cond, Option, refl, sym, ap, ◌∙◌, subst}
use Rattle.group_laws.specs.declared.types.Slot.{Slot}
use Rattle.group_laws.specs.Updates.{change}
use Rattle.group_laws.specs.State.{Group, Notices}
use Rattle.group_laws.specs.Runs.{Kind, IsStep, Runs}
use Rattle.group_laws.proofs.Clients.{step_keeps}
use Rattle.atomic_board.specs.declared.seat_data.Origin.{Origin}
use Rattle.atomic_board.specs.declared.seat_data.Deed.{Deed}
use Rattle.atomic_board.specs.Deeds.{group_of, began, place_of, view_by, kind_of, steps_in}
use Rattle.atomic_board.specs.ShownState.{IsCut, IsReached}

-- one step more at the end
runs_more : (w : Group) (xs : List (ℕ × Kind)) (u : Group) (m : ℕ) (k : Kind) (v : Group) → Runs w xs u → IsStep u m k v → Runs w (xs ++ (m, k) ∷ []) v
runs_more w [] u m k v r s = (v, subst (λ (x : Group). IsStep x m k v) r s, refl)
runs_more w (x ∷ xs) u m k v r s = (r.0, r.1, runs_more r.0 xs u m k v r.2 s)

-- the deeds of all, with one more of this member
abbrev pub more : (ℕ → List Deed) → ℕ → Deed → ℕ → List Deed
more f m d = change f m (λ l. d ∷ l)

abbrev tail_of : List (ℕ × Deed) → List (ℕ × Deed)
tail_of [] = []
tail_of (x ∷ xs) = xs

-- a member's deed that is its step of the machine, at a state in which each member has the view of its deeds
pub step_reaches : (b : Origin) (f : ℕ → List Deed) (holder : Option ℕ) (slot : ℕ → ℕ → Slot) (mail : ℕ → ℕ → Option Notices) (m : ℕ) (d : Deed) (u : Group) → IsReached b f (group_of (place_of b) holder slot mail (λ k. view_by b k (f k)))
    → IsStep (group_of (place_of b) holder slot mail (λ k. view_by b k (f k))) m (kind_of d) u → IsReached b (more f m d) u
step_reaches b f holder slot mail m d u r s = record { lawful = step_keeps w m (kind_of d) u r.lawful s; order = (m, d) ∷ r.order; runs = runs_more (began b) (steps_in r.order) w m (kind_of d) u r.runs s; made = λ k. ap (λ l. cond (eqb k m) (d ∷ l) l) (r.made k); cuts = cuts } where
  w : Group
  w = group_of (place_of b) holder slot mail (λ k. view_by b k (f k))

  here : IsCut b r.order
  here = record { holder = holder; slot = slot; mail = mail; runs = subst (Runs (began b) (steps_in r.order)) (λ i. group_of (place_of b) holder slot mail (λ k. view_by b k (sym (r.made k) i))) r.runs }

  cuts : (late : List (ℕ × Deed)) (x : ℕ × Deed) (early : List (ℕ × Deed)) → (m, d) ∷ r.order ≡ late ++ x ∷ early → IsCut b early
  cuts [] x early e = subst (IsCut b) (ap tail_of e) here
  cuts (y ∷ late) x early e = r.cuts late x early (ap tail_of e)

-- the same of deeds and of a state that are the same
pub reached_by : (b : Origin) (f g : ℕ → List Deed) (w u : Group) → ((k : ℕ) → f k ≡ g k) → w ≡ u → IsReached b f w → IsReached b g u
reached_by b f g w u deeds is r = subst (IsReached b g) is (record { lawful = r.lawful; order = r.order; runs = r.runs; made = λ k. r.made k ∙ deeds k; cuts = r.cuts })
