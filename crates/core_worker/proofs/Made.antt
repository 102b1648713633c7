-- Steps of one member.
use Rattle.std.proofs.Common.{◌≡◌, ℕ, zero, suc, ◌+◌, ◌-◌, Bool, true, false, List, [], ◌∷◌, ◌++◌, map, Option, Some, None, refl, sym, ◌∙◌, ap, subst}
use Rattle.group_laws.specs.State.{Group}
use Rattle.group_laws.specs.Runs.{Kind}
use Rattle.group_laws.specs.Runs.Kind.{Look, Take}
use Rattle.group_laws.specs.MemberViews.{View}
use Rattle.group_board.specs.Told.{Makes}
use Rattle.batch_leader.specs.Rounds.{member_at, slot_at}
use Rattle.batch_leader.specs.Leading.{MakesAll, looks_upto, steps_of}
use Rattle.batch_leader.specs.declared.states.Collecting.{Collecting}
use Rattle.core_worker.specs.Turns.{Steps}

pub one_step : (before after : Option Group) (m : ℕ) (kind : Kind) (v : View) → Makes before m kind after v → MakesAll before ((m, kind) ∷ []) after m v
one_step None after m kind v h = tt
one_step (Some w) None m kind v h = absurd h
one_step (Some w) (Some u) m kind v h = ((u, h.0, refl), h.1)

one_more : (m : ℕ) (xs : List Kind) (k : Kind) → map {B = ℕ × Kind} (λ y. (m, y)) (xs ++ k ∷ []) ≡ map {B = ℕ × Kind} (λ y. (m, y)) xs ++ (m, k) ∷ []
one_more m [] k = refl
one_more m (x ∷ xs) k = ap (λ ys. (m, x) ∷ ys) (one_more m xs k)

-- a list of steps that are all of member m
abbrev pub OfMember : ℕ → List (ℕ × Kind) → Type 0
OfMember m xs = (ks : List Kind) × (xs ≡ map {B = ℕ × Kind} (λ y. (m, y)) ks)

pub and_then : (m : ℕ) (xs : List (ℕ × Kind)) (k : Kind) → OfMember m xs → OfMember m (xs ++ (m, k) ∷ [])
and_then m xs k is = (is.0 ++ k ∷ [], ap (λ ys. ys ++ (m, k) ∷ []) is.1 ∙ sym (one_more m is.0 k))

pub looks_of : (m at n : ℕ) → OfMember m (looks_upto m at n)
looks_of m at zero = ([], refl)
looks_of m at (suc n) = and_then m (looks_upto m at n) (Look (member_at m (at + n)) (slot_at (at + n))) (looks_of m at n)

pub round_of : (b : Bool) (m : ℕ) (old new : Collecting) → OfMember m (steps_of b m old new)
round_of true m old new = and_then m (looks_upto m old.at (new.at - old.at)) (Take (member_at m (new.at - 1)) (slot_at (new.at - 1))) (looks_of m old.at (new.at - old.at))
round_of false m old new = looks_of m old.at (new.at - old.at)

pub steps_made : (before after : Option Group) (m : ℕ) (v : View) (xs : List (ℕ × Kind)) → OfMember m xs → MakesAll before xs after m v → Steps before after m v
steps_made before after m v xs is made = (is.0, subst (λ ys. MakesAll before ys after m v) is.1 made)
