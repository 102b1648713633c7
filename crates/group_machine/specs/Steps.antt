-- The steps as data: what each asks and leaves, and what a list of them leads to.
use Rattle.std.specs.Prelude.{◌≡◌, ℕ, ◌<◌, List, [], ◌∷◌, take, Bool, true, false, Some, None, Result, Ok, Err, ◌⊎◌, slice_get}
use Rattle.std.proofs.Common.{inl, inr}
use Rattle.group_laws.specs.Places.{members}
use Rattle.group_laws.specs.State.{Group}
use Rattle.group_laws.specs.Invariant.{Lawful}
use Rattle.group_laws.specs.Crashes.{Distinct}
use Rattle.group_laws.specs.Images.{IsLicensedImage, IsSafe}
use Rattle.group_laws.specs.Runs as runs
use Rattle.group_laws.specs.Runs.{IsStep, Runs}
use Rattle.group_laws.specs.Posts.{offer_of, settled}
use Rattle.group_laws.specs.Finishes.{finishes_in, cell_after}
use Rattle.group_laws.specs.Runs.Kind.{Split as Splits, Join as Joins, Post as Posts, Lock as Locks, Look as Looks, LookMail as Looks_mail, Take as Takes, Unlock as Unlocks, Commit as Commits, Mark as Marks, Finish as Finishes, Fail as Fails, Withdraw as Withdraws, Doom as Dooms, Retire as Retires, Send as Sends, Receive as Receives}
use Rattle.group_machine.specs.declared.kinds.Kind.{Kind}
use Rattle.group_machine.specs.declared.kinds.Kind.TheVariants as kinds
use Rattle.group_machine.specs.declared.kinds.MemberStep.{MemberStep}
use Rattle.group_machine.specs.declared.kinds.StepError.{StepError}
use Rattle.group_machine.specs.declared.kinds.StepError.TheVariants as faults
use Rattle.group_machine.specs.declared.kinds.StepsError.{StepsError}
use Rattle.group_machine.specs.declared.kinds.StepsError.TheVariants as stops
use Rattle.group_machine.specs.declared.state.GroupState.{GroupState}
use Rattle.group_board.specs.Mailing.{notices_of}
use Rattle.group_board.specs.WordNumbers.{slot_word, mail_word}
use Rattle.group_machine.specs.Shows.{group_of}

-- member m's step of this kind is enabled at w, and leaves u
abbrev pub IsMade : Group → ℕ → Kind → Group → Type 0
IsMade w m kinds.Split u = IsStep w m Splits u
IsMade w m kinds.Join u = IsStep w m Joins u
IsMade w m (kinds.Post s change value) u = (change.home ≡ None)
    × IsStep w m (Posts s change.entry value) u
IsMade w m kinds.Lock u = IsStep w m Locks u
IsMade w m (kinds.Look word) u =
    ((a : ℕ) × (s : ℕ) × (word ≡ slot_word (members w.place) a s) × IsStep w m (Looks a s) u)
    ⊎ ((a : ℕ) × (b : ℕ) × (word ≡ mail_word (members w.place) a b) × IsStep w m (Looks_mail a b) u)
IsMade w m (kinds.Take a s) u = IsStep w m (Takes a s) u
IsMade w m kinds.Unlock u = IsStep w m Unlocks u
IsMade w m kinds.Commit u = IsStep w m Commits u
IsMade w m (kinds.Mark a s) u = IsStep w m (Marks a s) u
IsMade w m (kinds.Finish s) u = IsStep w m (Finishes s) u
IsMade w m (kinds.Fail a s) u = IsStep w m (Fails a s) u
IsMade w m (kinds.Withdraw s) u = IsStep w m (Withdraws s) u
IsMade w m (kinds.Doom ns) u = IsStep w m (Dooms ns.names) u
IsMade w m (kinds.Retire ns) u = IsStep w m (Retires ns.names) u
IsMade w m (kinds.Send to n) u = IsStep w m (Sends to (notices_of n)) u
IsMade w m (kinds.Receive from) u = IsStep w m (Receives from) u

-- What a call that tries a step makes of a state: the step, or nothing where it isn't enabled.
abbrev pub MakesStep : Bool → GroupState → MemberStep → GroupState → Type 0
MakesStep true g s h = IsMade (group_of g) s.member s.kind (group_of h)
MakesStep false g s h = (h ≡ g) × ((u : Group) → IsMade (group_of g) s.member s.kind u → ⊥)

abbrev pub IsOutcome : GroupState → MemberStep → Result GroupState StepError → Type 0
IsOutcome g s (Ok h) = MakesStep true g s h
IsOutcome g s (Err (faults.NotEnabled h)) = MakesStep false g s h
IsOutcome g s (Err faults.Memory) = Unit {0}

-- the steps lead from w to u
abbrev pub AreMade : Group → List MemberStep → Group → Type 0
AreMade w [] u = u ≡ w
AreMade w (x ∷ xs) u = (mid : Group) × IsMade w x.member x.kind mid × AreMade mid xs u

-- the kind of a step, as the laws have it: a load is that of a slot or of a mailbox
abbrev pub kind_of : (w : Group) (m : ℕ) (kind : Kind) (u : Group) → IsMade w m kind u → runs.Kind
kind_of w m kinds.Split u s = Splits
kind_of w m kinds.Join u s = Joins
kind_of w m (kinds.Post n change value) u s = Posts n change.entry value
kind_of w m kinds.Lock u s = Locks
kind_of w m (kinds.Look word) u (inl s) = Looks s.0 s.1
kind_of w m (kinds.Look word) u (inr s) = Looks_mail s.0 s.1
kind_of w m (kinds.Take a n) u s = Takes a n
kind_of w m kinds.Unlock u s = Unlocks
kind_of w m kinds.Commit u s = Commits
kind_of w m (kinds.Mark a n) u s = Marks a n
kind_of w m (kinds.Finish n) u s = Finishes n
kind_of w m (kinds.Fail a n) u s = Fails a n
kind_of w m (kinds.Withdraw n) u s = Withdraws n
kind_of w m (kinds.Doom ns) u s = Dooms ns.names
kind_of w m (kinds.Retire ns) u s = Retires ns.names
kind_of w m (kinds.Send to n) u s = Sends to (notices_of n)
kind_of w m (kinds.Receive from) u s = Receives from

-- it is a step of that kind
abbrev pub step_of : (w : Group) (m : ℕ) (kind : Kind) (u : Group) (s : IsMade w m kind u)
    → IsStep w m (kind_of w m kind u s) u
step_of w m kinds.Split u s = s
step_of w m kinds.Join u s = s
step_of w m (kinds.Post n change value) u s = s.1
step_of w m kinds.Lock u s = s
step_of w m (kinds.Look word) u (inl s) = s.3
step_of w m (kinds.Look word) u (inr s) = s.3
step_of w m (kinds.Take a n) u s = s
step_of w m kinds.Unlock u s = s
step_of w m kinds.Commit u s = s
step_of w m (kinds.Mark a n) u s = s
step_of w m (kinds.Finish n) u s = s
step_of w m (kinds.Fail a n) u s = s
step_of w m (kinds.Withdraw n) u s = s
step_of w m (kinds.Doom ns) u s = s
step_of w m (kinds.Retire ns) u s = s
step_of w m (kinds.Send to n) u s = s
step_of w m (kinds.Receive from) u s = s

-- the run of the laws that these steps are
abbrev pub kinds_of : (w : Group) (steps : List MemberStep) (u : Group) → AreMade w steps u
    → List (ℕ × runs.Kind)
kinds_of w [] u r = []
kinds_of w (x ∷ xs) u r = (x.member, kind_of w x.member x.kind r.0 r.1) ∷ kinds_of r.0 xs u r.2

abbrev pub run_of : (w : Group) (steps : List MemberStep) (u : Group) (r : AreMade w steps u)
    → Runs w (kinds_of w steps u r) u
run_of w [] u r = r
run_of w (x ∷ xs) u r = (r.0, step_of w x.member x.kind r.0 r.1, run_of r.0 xs u r.2)

-- The steps lead to h. There each key's cell is what its finished changes left, each of them what its key's last post offered, the invariant holds, whatever a crash leaves is safe, and no block serves two values.
pub record IsReached (g : GroupState) (steps : List MemberStep) (h : GroupState) : Type 0 where
  pub made : AreMade (group_of g) steps (group_of h)
  pub cells : (k : ℕ) → (group_of h).cell k
      ≡ cell_after k (finishes_in (group_of g) (kinds_of (group_of g) steps (group_of h) made)
      (group_of h) (run_of (group_of g) steps (group_of h) made)) ((group_of g).cell k)
  pub posted : (k : ℕ) → (group_of h).cell k ≡ settled k (group_of g)
      (kinds_of (group_of g) steps (group_of h) made) (group_of h)
      (run_of (group_of g) steps (group_of h) made) (offer_of (group_of g) k) ((group_of g).cell k)
  pub lawful : Lawful (group_of h)
  pub safe : (images : ℕ → ℕ → ℕ)
      → ((i : ℕ) → i < h.layout.group → IsLicensedImage (group_of h) i (images i))
      → IsSafe (group_of h) images
  pub distinct : Distinct (group_of h)

-- what a call that makes all steps answers
abbrev pub IsRun : GroupState → List MemberStep → Result GroupState StepsError → Type 0
IsRun g steps (Ok h) = IsReached g steps h
IsRun g steps (Err (stops.NotEnabled at h)) = IsReached g (take at steps) h
    × ((next : MemberStep) × (slice_get steps at ≡ Some next)
    × ((u : Group) → IsMade (group_of h) next.member next.kind u → ⊥))
IsRun g steps (Err stops.Memory) = Unit {0}
