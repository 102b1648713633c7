-- Lists of steps, one step longer, and what holds where they lead.
use Rattle.std.proofs.Common.{◌≡◌, ℕ, ◌+◌, ◌<◌, List, [], ◌∷◌, ◌++◌, take, length, get_or, refl, sym, subst, Some}
use Rattle.std.specs.Prelude.{slice_get}
use Rattle.std.proofs.lemmas.List.{take_more}
use Rattle.group_laws.specs.State.{Group}
use Rattle.group_laws.specs.Invariant.{Lawful}
use Rattle.group_laws.proofs.Clients.{step_keeps, images_safe, run_cell, run_posted, distinct as safe_distinct}
use Rattle.group_machine.specs.declared.kinds.Kind.{Kind}
use Rattle.group_machine.specs.declared.kinds.MemberStep.{MemberStep}
use Rattle.group_machine.specs.declared.state.GroupState.{GroupState}
use Rattle.group_machine.specs.Shows.{group_of}
use Rattle.group_machine.specs.Steps.{IsMade, AreMade, IsReached, kind_of, step_of, kinds_of, run_of}

pub made_keeps : (w : Group) (m : ℕ) (kind : Kind) (u : Group) → Lawful w → IsMade w m kind u → Lawful u
made_keeps w m kind u L s = step_keeps w m (kind_of w m kind u s) u L (step_of w m kind u s)

one_more : (w : Group) (xs : List MemberStep) (x : MemberStep) (mid u : Group) → AreMade w xs mid → IsMade mid x.member x.kind u → AreMade w (xs ++ x ∷ []) u
one_more w [] x mid u r s = (u, subst (λ (v : Group). IsMade v x.member x.kind u) r s, refl)
one_more w (y ∷ ys) x mid u r s = (r.0, r.1, one_more r.0 ys x mid u r.2 s)

pub made_more : (w : Group) (xs : List MemberStep) (i : ℕ) (d : MemberStep) (mid u : Group) → i < length xs → AreMade w (take i xs) mid → IsMade mid (get_or xs i d).member (get_or xs i d).kind u → AreMade w (take (i + 1) xs) u
made_more w xs i d mid u l r s = subst (λ ys. AreMade w ys u) (sym (take_more xs i d l)) (one_more w (take i xs) (get_or xs i d) mid u r s)

pub reached : (g : GroupState) (xs : List MemberStep) (h : GroupState) → Lawful (group_of g) → AreMade (group_of g) xs (group_of h) → Lawful (group_of h) → IsReached g xs h
reached g xs h first made L = record {
  made = made;
  cells = λ k. run_cell (group_of g) (kinds_of (group_of g) xs (group_of h) made) (group_of h) (run_of (group_of g) xs (group_of h) made) k;
  posted = λ k. run_posted (group_of g) (kinds_of (group_of g) xs (group_of h) made) (group_of h) (run_of (group_of g) xs (group_of h) made) first k;
  lawful = L;
  safe = λ images ok. images_safe (group_of h) L images ok;
  distinct = safe_distinct (group_of h) L;
}

-- a step that isn't enabled, after i steps
pub stopped : (g : GroupState) (steps : List MemberStep) (i : ℕ) (x : MemberStep) (before h : GroupState) → h ≡ before → IsReached g (take i steps) before → slice_get steps i ≡ Some x → ((u : Group) → IsMade (group_of before) x.member x.kind u → ⊥)
    → IsReached g (take i steps) h × ((next : MemberStep) × (slice_get steps i ≡ Some next) × ((u : Group) → IsMade (group_of h) next.member next.kind u → ⊥))
stopped g steps i x before h same there at barred =
    subst (λ (h : GroupState). IsReached g (take i steps) h × ((next : MemberStep) × (slice_get steps i ≡ Some next) × ((u : Group) → IsMade (group_of h) next.member next.kind u → ⊥))) (sym same) (there, (x, at, barred))
