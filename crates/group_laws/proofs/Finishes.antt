-- A run leaves in each cell what its finishes left there.
use Rattle.std.proofs.Common.{◌≡◌, ℕ, cond, eqb, List, [], ◌∷◌, ◌++◌, Option, inl, inr, refl, sym, ap, ◌∙◌}
use Rattle.group_laws.specs.State.{Group}
use Rattle.group_laws.specs.Runs.{Kind, IsStep, Runs}
use Rattle.group_laws.specs.Runs.Kind.{Split, Join, Post, Lock, Look, LookMail, Take, Unlock, Commit, Mark, Finish, Fail, Withdraw, Doom, Retire, Send, Receive}
use Rattle.group_laws.specs.Finishes.{finished, finishes_in, cell_after}

pub after_append : (k : ℕ) (xs ys : List (ℕ × Option (List ℕ))) (c : Option (List ℕ)) → cell_after k (xs ++ ys) c ≡ cell_after k ys (cell_after k xs c)
after_append k [] ys c = refl
after_append k (x ∷ xs) ys c = after_append k xs ys (cond (eqb k x.0) x.1 c)

same_cell : (k : ℕ) (u v : Group) → u ≡ v → u.cell k ≡ v.cell k
same_cell k u v e = ap (λ (w : Group). w.cell k) e

pub step_cell : (w : Group) (m : ℕ) (kind : Kind) (u : Group) (s : IsStep w m kind u) (k : ℕ) → u.cell k ≡ cell_after k (finished w m kind u s) (w.cell k)
step_cell w m Split u s k = same_cell k u w s.1
step_cell w m Join u s k = same_cell k u w s.1
step_cell w m (Post n e v) u s k = same_cell k u _ s.1
step_cell w m Lock u s k = elim s.1 [ inl free ↦ same_cell k u _ free.1 | inr held ↦ same_cell k u _ held.2 ]
step_cell w m (Look a n) u s k = same_cell k u _ s.2
step_cell w m (LookMail a b) u s k = same_cell k u _ s.3
step_cell w m (Take a n) u s k = same_cell k u _ s.2
step_cell w m Unlock u s k = same_cell k u _ s.1
step_cell w m Commit u s k = same_cell k u _ s.1
step_cell w m (Mark a n) u s k = same_cell k u _ s.2
step_cell w m (Finish n) u (inl s) k = same_cell k u _ s.3.4
step_cell w m (Finish n) u (inr s) k = same_cell k u _ s.2.4
step_cell w m (Fail a n) u s k = same_cell k u _ s.2
step_cell w m (Withdraw n) u s k = same_cell k u _ s.2
step_cell w m (Doom ns) u s k = same_cell k u _ s.1
step_cell w m (Retire ns) u s k = same_cell k u _ s.1.4
step_cell w m (Send to n) u s k = same_cell k u _ s.1
step_cell w m (Receive from) u s k = same_cell k u _ s.2.4

pub run_cell : (w : Group) (xs : List (ℕ × Kind)) (u : Group) (r : Runs w xs u) (k : ℕ) → u.cell k ≡ cell_after k (finishes_in w xs u r) (w.cell k)
run_cell w [] u r k = same_cell k u w r
run_cell w (x ∷ xs) u r k =
    run_cell r.0 xs u r.2 k
    ∙ ap (cell_after k (finishes_in r.0 xs u r.2)) (step_cell w x.0 x.1 r.0 r.1 k)
    ∙ sym (after_append k (finished w x.0 x.1 r.0 r.1) (finishes_in r.0 xs u r.2) (w.cell k))
