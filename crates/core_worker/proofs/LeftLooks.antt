-- Loads change nothing but what was looked at.
use Rattle.std.proofs.Common.{◌≡◌, ℕ, zero, suc, ◌+◌, List, [], ◌∷◌, ◌++◌, refl, sym, ◌∙◌, ap, subst}
use Rattle.group_laws.specs.declared.types.Seen.{Seen}
use Rattle.group_laws.specs.State.{Group}
use Rattle.group_laws.specs.Runs.{Kind, IsStep, Runs}
use Rattle.group_laws.specs.Runs.Kind.{Look}
use Rattle.batch_leader.specs.Rounds.{member_at, slot_at}
use Rattle.batch_leader.specs.Leading.{looks_upto}
use Rattle.core_worker.specs.Loads.{Load, load_kind, looks_at}
use Rattle.core_worker.specs.Loads.Load.{Own, Mailbox}
use Rattle.core_worker.specs.Left.{group_left}

abbrev pub LookedOn : Group → Group → Type 0
LookedOn w u = (f : ℕ → List Seen) × (u ≡ record w { looked = f })

on_then : (w mid u : Group) → LookedOn w mid → LookedOn mid u → LookedOn w u
on_then w mid u a b = (b.0, b.1 ∙ ap (λ (g : Group). record g { looked = b.0 }) a.1)

pub runs_split : (w u : Group) (xs ys : List (ℕ × Kind)) → Runs w (xs ++ ys) u → (mid : Group) × Runs w xs mid × Runs mid ys u
runs_split w u [] ys r = (w, refl, r)
runs_split w u (x ∷ xs) ys r = let rest = runs_split r.0 u xs ys r.2 in (rest.0, (r.0, r.1, rest.1), rest.2)

-- a list of steps, and one more
pub last_step : (w u : Group) (xs : List (ℕ × Kind)) (m : ℕ) (k : Kind) → Runs w (xs ++ (m, k) ∷ []) u → (mid : Group) × Runs w xs mid × IsStep mid m k u
last_step w u xs m k r = let parts = runs_split w u xs ((m, k) ∷ []) r in (parts.0, parts.1, subst (λ (g : Group). IsStep parts.0 m k g) (sym parts.2.2) parts.2.1)

pub upto_looked : (w u : Group) (m a n : ℕ) → Runs w (looks_upto m a n) u → LookedOn w u
upto_looked w u m a zero r = (w.looked, r)
upto_looked w u m a (suc n) r =
    let last = last_step w u (looks_upto m a n) m (Look (member_at m (a + n)) (slot_at (a + n))) r in
    on_then w last.0 u (upto_looked w last.0 m a n last.1) (_, last.2.2)

pub load_looked : (w u : Group) (m : ℕ) (l : Load) → IsStep w m (load_kind m l) u → LookedOn w u
load_looked w u m (Own s) r = (_, r.2)
load_looked w u m (Mailbox a b) r = (_, r.3)

pub at_looked : (w u : Group) (m : ℕ) (ls : List Load) → Runs w (looks_at m ls) u → LookedOn w u
at_looked w u m [] r = (w.looked, r)
at_looked w u m (l ∷ ls) r = on_then w r.0 u (load_looked w r.0 m l r.1) (at_looked r.0 u m ls r.2)

pub looked_way : (w u : Group) → LookedOn w u → group_left u ≡ group_left w
looked_way w u on = ap group_left on.1
