-- What a move of one core leaves to the other workers, and what an idle turn's loads leave.
use Rattle.std.proofs.Common.{◌≡◌, ◌≢◌, ℕ, true, false, cond, List, [], ◌∷◌, map, inl, inr, refl, sym, ap, ◌∙◌, subst}
use Rattle.std.specs.List.{AllByRecursion}
use Rattle.std.proofs.lemmas.Bool.{eq-eqb}
use Rattle.fs_model.specs.declared.model.Request.{Request}
use Rattle.chunk_map.specs.declared.layouts.Geometry.{Geometry}
use Rattle.chunk_map.specs.Layouts.{owner}
use Rattle.group_laws.specs.declared.types.Seen.{Seen}
use Rattle.group_laws.specs.State.{Group}
use Rattle.group_laws.specs.Runs.{IsStep, Kind, Runs}
use Rattle.group_laws.specs.Runs.Kind.{Split, Join, Post, Lock, Look, LookMail, Take, Unlock, Commit, Mark, Finish, Fail, Withdraw, Doom, Retire, Send, Receive}
use Rattle.group_laws.specs.MemberViews.{View, view_of}
use Rattle.engine_laws.specs.Parts.{group_of, member_of}
use Rattle.engine_laws.specs.Engine.{Engine}
use Rattle.engine_laws.specs.FreeStock.{Stock, IsAtLeast}
use Rattle.engine_laws.specs.WorkerMoves.{Hands, Fixed}
use Rattle.engine_laws.specs.Moves.{Moves}
use Rattle.engine_laws.specs.Workers.{Sits, IsLoad}
use Rattle.engine_laws.proofs.Others.{other_view}

-- Another core's worker sits as it sat.
pub others_sit : (e f : Engine) (c d : ℕ) (accepted : List (ℕ × Request)) (fixed : List Fixed) (v : View) (w : Hands) → Moves e f c accepted fixed → d ≢ c → Sits e d v w → Sits f d v w
others_sit e f c d accepted fixed v w M ne S = record {
  view = S.view ∙ sym (other_view e.layout c e.group f.group M.steps M.other_groups M.runs d ne) ∙ sym (λ i. view_of (f.group (group_of (M.layout i) d)) (member_of (M.layout i) d));
  place = λ k own. (let own' = back k own in S.place k own' ∙ sym (M.other_keys k (λ q. ne (sym own' ∙ q))).0);
  waits = λ k own. (let own' = back k own in S.waits k own' ∙ sym (M.other_keys k (λ q. ne (sym own' ∙ q))).1);
  stopped = S.stopped ∙ sym (M.other_stops d ne);
  stock = subst (λ (s : Stock). IsAtLeast s w.stock) (sym (M.other_stocks d ne)) S.stock;
} where
  back : (k : ℕ) → owner f.layout k ≡ d → owner e.layout k ≡ d
  back k own = sym (ap (λ (l : Geometry). owner l k) M.layout) ∙ own

-- the steps of one member, as pairs with it
pub own_steps : (m : ℕ) (xs : List (ℕ × Kind)) → AllByRecursion (λ (x : ℕ × Kind). x.0 ≡ m) xs → map (λ y. (m, y)) (map (λ (x : ℕ × Kind). x.1) xs) ≡ xs
own_steps m [] h = refl
own_steps m (x ∷ xs) h = (λ t. (sym h.0 t, x.1) ∷ own_steps m xs h.1 t)

-- Loads alone, after which m isn't the leader, change nothing but what m loaded.
pub loads_only : (m : ℕ) (w u : Group) (steps : List Kind) → AllByRecursion IsLoad steps → Runs w (map (λ y. (m, y)) steps) u → u.holds m ≡ false → (xs : ℕ → List Seen) × (u ≡ record w { looked = xs })
loads_only m w u [] h r off = (w.looked, r)
loads_only m w u (x ∷ xs) h r off =
    let rest = loads_only m r.0 u xs h.1 r.2 off in
    let holds : r.0.holds m ≡ false = sym (ap (λ (g : Group). g.holds m) rest.1) ∙ off in
    let first = one x h.0 r.1 holds in
    (rest.0, rest.1 ∙ ap (λ (g : Group). record g { looked = rest.0 }) first.1) where
      one : (x : Kind) → IsLoad x → IsStep w m x r.0 → r.0.holds m ≡ false → (ys : ℕ → List Seen) × (r.0 ≡ record w { looked = ys })
      one (Look a n) l s q = (r.0.looked, s.2 ∙ ap (λ (ys : ℕ → List Seen). record w { looked = ys }) (sym (ap (λ (g : Group). g.looked) s.2)))
      one (LookMail a b) l s q = (r.0.looked, s.3 ∙ ap (λ (ys : ℕ → List Seen). record w { looked = ys }) (sym (ap (λ (g : Group). g.looked) s.3)))
      one Lock l s q = elim s.1 [
        | inl free ↦ absurd (let on : r.0.holds m ≡ true = ap (λ (g : Group). g.holds m) free.1 ∙ ap (λ b. cond b true (w.holds m)) (eq-eqb m m refl) in cc (on, q))
        | inr held ↦ (r.0.looked, held.2 ∙ ap (λ (ys : ℕ → List Seen). record w { looked = ys }) (sym (ap (λ (g : Group). g.looked) held.2)))
      ]
      one Split l s q = absurd l
      one Join l s q = absurd l
      one (Post n e v) l s q = absurd l
      one (Take a n) l s q = absurd l
      one Unlock l s q = absurd l
      one Commit l s q = absurd l
      one (Mark a n) l s q = absurd l
      one (Finish n) l s q = absurd l
      one (Fail a n) l s q = absurd l
      one (Withdraw n) l s q = absurd l
      one (Doom ns) l s q = absurd l
      one (Retire ns) l s q = absurd l
      one (Send to n) l s q = absurd l
      one (Receive from) l s q = absurd l
