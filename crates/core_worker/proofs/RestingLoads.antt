-- An idle turn made loads alone.
use Rattle.std.proofs.Common.{◌≡◌, ℕ, List, [], ◌∷◌, ◌++◌, map, Option, Some, None, refl, ap, subst}
use Rattle.std.specs.Prelude.{IfSome, IsSomeAnd}
use Rattle.std.specs.List.{AllByRecursion}
use Rattle.group_laws.specs.State.{Group}
use Rattle.group_laws.specs.MemberViews.{View}
use Rattle.group_laws.specs.Runs.{Kind, Runs}
use Rattle.group_laws.specs.Runs.Kind.{Lock}
use Rattle.group_board.specs.Told.{Makes}
use Rattle.batch_leader.specs.Leading.{MakesAll}
use Rattle.batch_leader.proofs.Clients.{makes_then}
use Rattle.core_worker.specs.Loads.{Load, load_kind, looks_at, LooksMade}
use Rattle.core_worker.specs.Loads.Load.{Own, Mailbox}
use Rattle.core_worker.specs.Resting.{LoadsOnly}
use Rattle.engine_laws.specs.Workers.{IsLoad}
use Rattle.core_worker.proofs.Made.{one_step}

abbrev look_kinds : ℕ → List Load → List Kind → List Kind
look_kinds m [] ks = ks
look_kinds m (l ∷ ss) ks = load_kind m l ∷ look_kinds m ss ks

look_loads : (m : ℕ) (ss : List Load) (ks : List Kind) → AllByRecursion IsLoad ks → AllByRecursion IsLoad (look_kinds m ss ks)
look_loads m [] ks each = each
look_loads m (Own s ∷ ss) ks each = (tt, look_loads m ss ks each)
look_loads m (Mailbox a b ∷ ss) ks each = (tt, look_loads m ss ks each)

look_made : (m : ℕ) (ss : List Load) (ks : List Kind) → looks_at m ss ++ map {B = ℕ × Kind} (λ y. (m, y)) ks ≡ map {B = ℕ × Kind} (λ y. (m, y)) (look_kinds m ss ks)
look_made m [] ks = refl
look_made m (l ∷ ss) ks = ap (λ xs. (m, load_kind m l) ∷ xs) (look_made m ss ks)

runs_told : (before after : Option Group) (m : ℕ) (v : View) (xs : List (ℕ × Kind)) → MakesAll before xs after m v → IfSome before (λ a. IsSomeAnd after (λ b. Runs a xs b))
runs_told None after m v xs made = tt
runs_told (Some a) None m v xs made = absurd made
runs_told (Some a) (Some b) m v xs made = made.0

loads_by : (before after : Option Group) (m : ℕ) (v : View) (ss : List Load) (ks : List Kind) → AllByRecursion IsLoad ks → MakesAll before (looks_at m ss ++ map {B = ℕ × Kind} (λ y. (m, y)) ks) after m v → LoadsOnly before after m
loads_by before after m v ss ks each made = record {
  steps = look_kinds m ss ks;
  loads = look_loads m ss ks each;
  whole = runs_told before after m v (map {B = ℕ × Kind} (λ y. (m, y)) (look_kinds m ss ks)) (subst (λ xs. MakesAll before xs after m v) (look_made m ss ks) made);
}

no_more : {X : Type 0} (xs : List X) → xs ≡ xs ++ []
no_more [] = refl
no_more (x ∷ xs) = ap (λ ys. x ∷ ys) (no_more xs)

-- It loaded own slots and mailboxes, and no more;
pub looks_only : (before after : Option Group) (m : ℕ) (v : View) → LooksMade before after m v → LoadsOnly before after m
looks_only before after m v looks = loads_by before after m v looks.0 [] tt (subst (λ xs. MakesAll before xs after m v) (no_more (looks_at m looks.0)) looks.1)

-- or it tried the lock then.
pub looks_and_try : (before mid after : Option Group) (m : ℕ) (v u : View) → LooksMade before mid m v → Makes mid m Lock after u → LoadsOnly before after m
looks_and_try before mid after m v u looks try = loads_by before after m u looks.0 (Lock ∷ []) (tt, tt) (makes_then before mid after (looks_at m looks.0) ((m, Lock) ∷ []) m v u looks.1 (one_step mid after m Lock u try))
