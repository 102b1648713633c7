-- What a run does to the cells: each Finish of a slot that is Done sets one, and no other step does.
use Rattle.std.specs.Prelude.{ℕ, cond, eqb, List, [], ◌∷◌, ◌++◌, Option}
use Rattle.std.proofs.Common.{inl, inr}
use Rattle.group_laws.specs.State.{Group}
use Rattle.group_laws.specs.Steps.{left_by}
use Rattle.group_laws.specs.Runs.{Kind, IsStep, Runs}
use Rattle.group_laws.specs.Runs.Kind.{Split, Join, Post, Lock, Look, LookMail, Take, Unlock, Commit, Mark, Finish, Fail, Withdraw, Doom, Retire, Send, Receive}

-- The key whose change the step finished, and the cell that its entry leaves: the value of a put, none of a delete.
abbrev pub finished : (w : Group) (m : ℕ) (kind : Kind) (u : Group) → IsStep w m kind u
    → List (ℕ × Option (List ℕ))
finished w m Split u s = []
finished w m Join u s = []
finished w m (Post n e v) u s = []
finished w m Lock u s = []
finished w m (Look a n) u s = []
finished w m (LookMail a b) u s = []
finished w m (Take a n) u s = []
finished w m Unlock u s = []
finished w m Commit u s = []
finished w m (Mark a n) u s = []
finished w m (Finish n) u (inl s) = (s.0.key, left_by w m s.0.body) ∷ []
finished w m (Finish n) u (inr s) = []
finished w m (Fail a n) u s = []
finished w m (Withdraw n) u s = []
finished w m (Doom ns) u s = []
finished w m (Retire ns) u s = []
finished w m (Send to n) u s = []
finished w m (Receive from) u s = []

-- what the steps of a run finished, in order
abbrev pub finishes_in : (w : Group) (steps : List (ℕ × Kind)) (u : Group) → Runs w steps u
    → List (ℕ × Option (List ℕ))
finishes_in w [] u r = []
finishes_in w (x ∷ xs) u r = finished w x.0 x.1 r.0 r.1 ++ finishes_in r.0 xs u r.2

-- the cell of a key after these finishes
abbrev pub cell_after : ℕ → List (ℕ × Option (List ℕ)) → Option (List ℕ) → Option (List ℕ)
cell_after k [] c = c
cell_after k (f ∷ fs) c = cell_after k fs (cond (eqb k f.0) f.1 c)
