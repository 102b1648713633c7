-- Between the windows of a run on threads: every core rests, and whatever a crash leaves from there on has each change whose reply was handed over.
use Rattle.std.specs.Prelude.{◌≡◌, ◌⊎◌, ℕ, ◌<◌, ◌≤◌, List, [], ◌∷◌, ◌++◌, take, length, Bool}
use Rattle.fs_model.specs.declared.model.Request.{Request}
use Rattle.fs_model.specs.Changes.{finished_changes}
use Rattle.pm_region.specs.State.{IsTelling}
use Rattle.recover.specs.declared.types.Recovered.{Recovered}
use Rattle.group_board.specs.Seats.{SeatAt}
use Rattle.group_board.specs.Trails.{TrailStep}
use Rattle.headline.specs.Headline.{finished_in}
use Rattle.engine_laws.specs.WorkerMoves.{Fixed}
use Rattle.engine_laws.specs.Engine.{Engine}
use Rattle.engine_laws.specs.Reports.{told_of}
use Rattle.engine_laws.specs.Origins.{Origin}
use Rattle.thread_engine.specs.WorkStates.{WorkState, Leads, Works, joined_by}
use Rattle.thread_engine.specs.WindowJobs.{IsAtRest}
use Rattle.thread_engine.specs.CoreRuns.{CoreRun, requests_to, fixed_by}
use Rattle.thread_engine.specs.Cuts.{Spot, IsAtEnd, IsAlong, IsIn, Cut, finished_at}

-- A chain of moves comes by a state, with these requests joined by then.
abbrev pub ComesBy : (seat : SeatAt) (refused : Bool) (joined : List (ℕ × Request)) (at : WorkState)
    (a : WorkState) (path : List WorkState) (b : WorkState) → Leads seat refused a path b → Type 0
ComesBy seat refused joined at a [] b l = (at ≡ a) × (joined ≡ [])
ComesBy seat refused joined at a (y ∷ ys) b l = ((at ≡ a) × (joined ≡ []))
    ⊎ ((more : List (ℕ × Request)) × (joined ≡ joined_by l.0 ++ more)
    × ComesBy seat refused more at y ys b l.2)

-- In a chain the core came to rest: just these requests had joined by then, and each is answered.
pub record RestsWith (seat : SeatAt) (refused : Bool) (joined : List (ℕ × Request))
    (a b : WorkState) (w : Works seat refused a b) : Type 0 where
  pub at : WorkState
  pub there : ComesBy seat refused joined at a w.path b w.leads
  pub rest : IsAtRest seat at

-- It came to rest behind each of the first so many windows, with what had joined by the end of each.
abbrev pub RestsEach : (seat : SeatAt) (refused : Bool) (windows : ℕ)
    (joined : ℕ → List (ℕ × Request)) (a b : WorkState) → Works seat refused a b → Type 0
RestsEach seat refused windows joined a b w = (i : ℕ) → i ≤ windows
    → RestsWith seat refused (joined i) a b w

-- The spot is within one of the moves from a state on by which the chain comes, or behind all.
abbrev pub IsFrom : (seat : SeatAt) (refused : Bool) (x : Spot) (joined : List (ℕ × Request))
    (at : WorkState) (a : WorkState) (path : List WorkState) (b : WorkState)
    → Leads seat refused a path b → Type 0
IsFrom seat refused x joined at a [] b l = (at ≡ a) × (joined ≡ []) × IsAtEnd b x
IsFrom seat refused x joined at a (y ∷ ys) b l = ((at ≡ a) × (joined ≡ [])
    × IsAlong seat refused x a (y ∷ ys) b l)
    ⊎ ((more : List (ℕ × Request)) × (later : List Fixed) × (joined ≡ joined_by l.0 ++ more)
    × (x.fixed ≡ fixed_by l.0 ++ later)
    × IsFrom seat refused (record x { fixed = later }) more at y ys b l.2)

-- it is behind the rest
abbrev pub IsBehind : {seat : SeatAt} {refused : Bool} {joined : List (ℕ × Request)}
    {a b : WorkState} {w : Works seat refused a b} → RestsWith seat refused joined a b w → Spot
    → Type 0
IsBehind {seat} {refused} {joined} {a} {b} {w} y x = IsFrom seat refused x joined y.at a w.path b
    w.leads

-- in a core's run, a rest at which just the requests of its keys among the first m had joined
abbrev pub RestsAt : {o : Origin} {r : Recovered} {refused : Bool} {e : Engine} {c : ℕ}
    → CoreRun o r refused e c → ℕ → Type 0
RestsAt {o} {r} {refused} {e} {c} y m = RestsWith y.seat refused
    (requests_to e.layout c (take m e.given)) y.first y.last y.works

-- how many changes of a key are finished among the first m requests
abbrev pub finished_among : Engine → ℕ → ℕ → ℕ
finished_among e m k = length (finished_changes k (take m e.given) (finished_in (told_of e)))

-- Behind the first m requests of a run every core rested. At each cut behind that the finished changes among them were finished before the cut: so whatever a crash leaves there recovers them.
pub record HoldsBehind (o : Origin) (r : Recovered) (refused : Bool) (e : Engine)
    (cores : (c : ℕ) → c < e.layout.cores → CoreRun o r refused e c) (m : ℕ) : Type 0 where
  pub rests : (c : ℕ) (low : c < e.layout.cores) → RestsAt (cores c low) m
  -- where a piece tells, its core is at a spot behind its rest for each front of its steps with those from before the rest
  pub spots : (c : ℕ) (low : c < e.layout.cores) → IsTelling (cores c low).last.region
      → (late done more : List TrailStep) → (cores c low).last.trail.steps ≡ late ++ done
      → done ≡ more ++ (rests c low).at.trail.steps
      → (x : Spot) × (x.done ≡ done) × IsIn (cores c low) x × IsBehind (rests c low) x
  pub kept : (order : ℕ → List (ℕ × TrailStep)) (cut : Cut o r refused e cores order)
      → ((c : ℕ) (low : c < e.layout.cores) → IsBehind (rests c low) (cut.core c))
      → (k : ℕ) → finished_among e m k ≤ finished_at cut k
