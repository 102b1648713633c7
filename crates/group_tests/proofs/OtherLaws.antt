-- Steps of one member leave what the others have.
use Rattle.std.proofs.Common.{◌≡◌, ◌≢◌, ℕ, zero, suc, ◌+◌, ◌-◌, Bool, true, false, List, [], ◌∷◌, ◌++◌, Option, Some, None, refl, ◌∙◌, ap, subst}
use Rattle.std.specs.List.{AllByRecursion}
use Rattle.group_laws.specs.State.{Group}
use Rattle.group_laws.specs.Runs.{Kind, Runs, IsStep}
use Rattle.group_laws.specs.Runs.Kind.{Look, Take}
use Rattle.group_laws.specs.MemberViews.{View, view_of}
use Rattle.group_laws.proofs.Clients.{frame}
use Rattle.group_board.specs.Seats.{SeatAt}
use Rattle.group_board.specs.Told.{Makes}
use Rattle.batch_leader.specs.declared.taken.Taken.{Taken}
use Rattle.batch_leader.specs.declared.states.Collecting.{Collecting}
use Rattle.batch_leader.specs.Rounds.{member_at, slot_at}
use Rattle.batch_leader.specs.Leading.{MakesAll, looks_upto, steps_of}
use Rattle.batch_leader.specs.GivingBack.{marks_of}
use Rattle.group_tests.specs.LeadTrials.{LeavesOthers}

-- the steps are those of m
abbrev AreBy : ℕ → List (ℕ × Kind) → Type 0
AreBy m steps = AllByRecursion (λ (x : ℕ × Kind). x.0 ≡ m) steps

by_both : (m : ℕ) (xs ys : List (ℕ × Kind)) → AreBy m xs → AreBy m ys → AreBy m (xs ++ ys)
by_both m [] ys first next = next
by_both m (x ∷ xs) ys first next = (first.0, by_both m xs ys first.1 next)

looks_by : (m at n : ℕ) → AreBy m (looks_upto m at n)
looks_by m at zero = tt
looks_by m at (suc n) = by_both m (looks_upto m at n) ((m, Look (member_at m (at + n)) (slot_at (at + n))) ∷ []) (looks_by m at n) (refl, tt)

steps_by : (b : Bool) (m : ℕ) (old new : Collecting) → AreBy m (steps_of b m old new)
steps_by true m old new = by_both m (looks_upto m old.at (new.at - old.at)) ((m, Take (member_at m (new.at - 1)) (slot_at (new.at - 1))) ∷ []) (looks_by m old.at (new.at - old.at)) (refl, tt)
steps_by false m old new = looks_by m old.at (new.at - old.at)

marks_by : (m : ℕ) (ts : List Taken) → AreBy m (marks_of m ts)
marks_by m [] = tt
marks_by m (t ∷ ts) = (refl, marks_by m ts)

run_others : (w u : Group) (m : ℕ) (xs : List (ℕ × Kind)) → AreBy m xs → Runs w xs u → (n : ℕ) → n ≢ m → view_of u n ≡ view_of w n
run_others w u m [] by run n ne = ap (λ (g : Group). view_of g n) run
run_others w u m (x ∷ xs) by run n ne = run_others run.0 u m xs by.1 run.2 n ne ∙ frame w m x.1 run.0 n ne (subst (λ (k : ℕ). IsStep w k x.1 run.0) by.0 run.1)

others_all : (before after : Option Group) (m : ℕ) (xs : List (ℕ × Kind)) (v : View) → AreBy m xs → MakesAll before xs after m v → LeavesOthers before after m
others_all None after m xs v by made = tt
others_all (Some w) None m xs v by made = absurd made
others_all (Some w) (Some u) m xs v by made = run_others w u m xs by made.0

pub others_one : (before after : Option Group) (m k : ℕ) (kind : Kind) (v : View) → k ≡ m → Makes before k kind after v → LeavesOthers before after m
others_one None after m k kind v same made = tt
others_one (Some w) None m k kind v same made = absurd made
others_one (Some w) (Some u) m k kind v same made = λ n ne. frame w m kind u n ne (subst (λ (x : ℕ). IsStep w x kind u) same made.0)

pub others_round : (before after : Option Group) (m k : ℕ) (b : Bool) (old new : Collecting) (v : View) → k ≡ m → MakesAll before (steps_of b k old new) after k v → LeavesOthers before after m
others_round before after m k b old new v same made = subst (LeavesOthers before after) same (others_all before after k (steps_of b k old new) v (steps_by b k old new) made)

pub others_marked : (before after : Option Group) (m k : ℕ) (ts : List Taken) (v : View) → k ≡ m → MakesAll before (marks_of k ts) after k v → LeavesOthers before after m
others_marked before after m k ts v same made = subst (LeavesOthers before after) same (others_all before after k (marks_of k ts) v (marks_by k ts) made)

pub others_then : (a b c : Option Group) (m : ℕ) → LeavesOthers a b m → LeavesOthers b c m → LeavesOthers a c m
others_then None b c m first next = tt
others_then (Some w) None c m first next = absurd first
others_then (Some w) (Some x) None m first next = absurd next
others_then (Some w) (Some x) (Some y) m first next = λ n ne. next n ne ∙ first n ne

pub number_of : {a b : SeatAt} → a ≡ b → a.number ≡ b.number
number_of same = ap (λ (x : SeatAt). x.number) same
