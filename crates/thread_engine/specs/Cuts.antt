-- A crash inside a run on threads: the cuts of a run, and what a crash leaves at one.
use Rattle.std.specs.Prelude.{◌≡◌, ◌⊎◌, ℕ, ◌<◌, ◌≤◌, cond, eqb, List, [], ◌∷◌, ◌++◌, map, length, Bool}
use Rattle.pm_region.specs.State.{State, IsTold, IsTelling, MayLeave}
use Rattle.chunk_map.specs.declared.layout_sizes.TheConstants.{SUPERBLOCK_WORDS}
use Rattle.chunk_map.specs.Layouts.{owner}
use Rattle.recover.specs.declared.types.Recovered.{Recovered}
use Rattle.group_laws.specs.Places.{Place}
use Rattle.group_laws.specs.State.{Group}
use Rattle.group_laws.specs.MemberViews.{view_of}
use Rattle.group_laws.specs.OpeningImages.{opened}
use Rattle.group_laws.specs.Regions.{groups_in, place_at}
use Rattle.group_laws.specs.Runs.{Kind, Runs}
use Rattle.group_board.specs.Seats.{SeatAt}
use Rattle.group_board.specs.Trails.{TrailStep}
use Rattle.headline.specs.Headline.{Recovers}
use Rattle.batch_leader.specs.TurnSteps.{Trail, since}
use Rattle.engine_laws.specs.Parts.{group_of, member_of}
use Rattle.engine_laws.specs.WorkerMoves.{Fixed, replied, fixed_of}
use Rattle.engine_laws.specs.Engine.{Engine}
use Rattle.engine_laws.specs.Keys.{finished}
use Rattle.engine_laws.specs.Reports.{told_of}
use Rattle.engine_laws.specs.Origins.{Origin, start_of}
use Rattle.thread_engine.specs.WorkStates.{WorkState, Leads}
use Rattle.thread_engine.specs.CoreRuns.{HasView, view_after, CoreRun, fixed_by, fixed_at}

-- Steps of a group, each with the member that made it, the newest first: those of one member, and the steps of the machine, the oldest first.
abbrev pub steps_of : List (ℕ × TrailStep) → ℕ → List TrailStep
steps_of [] m = []
steps_of (x ∷ xs) m = cond (eqb m x.0) (x.1 ∷ steps_of xs m) (steps_of xs m)

abbrev pub kinds_in : List (ℕ × TrailStep) → List (ℕ × Kind)
kinds_in [] = []
kinds_in (x ∷ xs) = kinds_in xs ++ (x.0, x.1.kind) ∷ []

-- A group shows this state after these steps: the machine's steps lead there, and each member has what it has after its own.
pub record IsShown (p : Place) (image : ℕ → ℕ) (steps : List (ℕ × TrailStep))
    (w : Group) : Type 0 where
  pub runs : Runs (opened p image) (kinds_in steps) w
  pub views : (m : ℕ) → HasView w m (view_after (view_of (opened p image) m) (steps_of steps m))

-- Where a core is at a cut: the steps that it has made, the newest first, its piece with a stamp of it, and the answers that it has fixed.
pub record Spot : Type 0 where
  pub done : List TrailStep
  pub piece : State
  pub stamp : ℕ
  pub fixed : List Fixed

-- the stamp is none before the newest of a move's steps: one that is no load was made behind the move's calls of its region
abbrev pub IsSince : List TrailStep → State → Trail → ℕ → Type 0
IsSince [] s x i = Unit {0}
IsSince (k ∷ ks) s x i = since k.kind s x ≤ i

-- a move's answers are fixed once all its steps are made
abbrev pub fixed_before : List TrailStep → List Fixed → List Fixed
fixed_before [] fixed = fixed
fixed_before (k ∷ ks) fixed = []

-- In a move from a to b, which fixed these answers: some of its steps are made, the others lie ahead. The stamp is one that the piece told in the move, behind the one step and before the next.
pub record IsWithin (a b : WorkState) (fixed : List Fixed) (x : Spot) : Type 0 where
  pub made : List TrailStep
  pub ahead : List TrailStep
  pub done : x.done ≡ made ++ a.trail.steps
  pub all : b.trail.steps ≡ ahead ++ x.done
  pub piece : x.piece ≡ b.region
  pub told : IsTold x.piece x.stamp
  pub entered : a.region.stamp ≤ x.stamp
  pub behind : ahead ≡ [] → IsSince made a.region b.trail x.stamp
  pub fixed_is : x.fixed ≡ fixed_before ahead fixed

-- behind all moves
pub record IsAtEnd (b : WorkState) (x : Spot) : Type 0 where
  pub done : x.done ≡ b.trail.steps
  pub piece : x.piece ≡ b.region
  pub stamp : x.stamp ≡ b.region.stamp
  pub told : IsTold x.piece x.stamp
  pub fixed : x.fixed ≡ []

-- within one of a chain's moves, or behind them; the answers are those from the chain's first move on
abbrev pub IsAlong : (seat : SeatAt) (refused : Bool) (x : Spot) (a : WorkState)
    (path : List WorkState) (b : WorkState) → Leads seat refused a path b → Type 0
IsAlong seat refused x a [] b l = IsAtEnd b x
IsAlong seat refused x a (y ∷ ys) b l = IsWithin a y (fixed_by l.0) x
    ⊎ ((later : List Fixed) × (x.fixed ≡ fixed_by l.0 ++ later)
    × IsAlong seat refused (record x { fixed = later }) y ys b l.2)

-- in a core's run
abbrev pub IsIn : {o : Origin} {r : Recovered} {refused : Bool} {e : Engine} {c : ℕ}
    → CoreRun o r refused e c → Spot → Type 0
IsIn {o} {r} {refused} y x = IsAlong y.seat refused x y.first y.works.path y.last y.works.leads

-- A cut of a run, by one order of the steps of each group: some of the steps are made and show a state, and each core is where it has made just its own of them.
pub record Cut (o : Origin) (r : Recovered) (refused : Bool) (e : Engine)
    (cores : (c : ℕ) → c < e.layout.cores → CoreRun o r refused e c)
    (order : ℕ → List (ℕ × TrailStep)) : Type 0 where
  pub early : ℕ → List (ℕ × TrailStep)
  pub late : ℕ → List (ℕ × TrailStep)
  pub parts : (g : ℕ) → g < groups_in e.layout → order g ≡ late g ++ early g
  pub group : ℕ → Group
  pub shown : (g : ℕ) → g < groups_in e.layout
      → IsShown (place_at e.layout g) o.found (early g) (group g)
  pub core : ℕ → Spot
  pub at : (c : ℕ) (low : c < e.layout.cores) → IsIn (cores c low) (core c)
  pub steps : (c : ℕ) → c < e.layout.cores
      → (core c).done ≡ steps_of (early (group_of e.layout c)) (member_of e.layout c)

-- how many of a key's changes were finished before the cut: those of which its owner has fixed the answer
abbrev pub finished_at : {o : Origin} {r : Recovered} {refused : Bool} {e : Engine}
    {cores : (c : ℕ) → c < e.layout.cores → CoreRun o r refused e c}
    {order : ℕ → List (ℕ × TrailStep)} → Cut o r refused e cores order → ℕ → ℕ
finished_at {o} {r} {refused} {e} cut k = length (finished (map replied
    (fixed_of k (cut.core (owner e.layout k)).fixed)))

-- A crash at the cut: of each piece what it may leave at its stamp, and the superblock as it was found.
pub record MayLeaveAt {o : Origin} {r : Recovered} {refused : Bool} {e : Engine}
    {cores : (c : ℕ) → c < e.layout.cores → CoreRun o r refused e c}
    {order : ℕ → List (ℕ × TrailStep)} (cut : Cut o r refused e cores order)
    (image : ℕ → ℕ) : Type 0 where
  pub pieces : (c : ℕ) → c < e.layout.cores → MayLeave (cut.core c).piece.frame
      ((cut.core c).piece.cells (cut.core c).stamp) image
  pub superblock : (w : ℕ) → w < SUPERBLOCK_WORDS → image w ≡ o.found w

-- Inside a run on threads. The steps of each group's cores have one order, the newest first; after each of them a state was shown. So each answer has its place in it. Whatever a crash leaves at a cut is sound, and recovers for each key the cell after its changes that were finished before the cut, or after one more.
pub record HoldsInside (o : Origin) (r : Recovered) (refused : Bool) (e : Engine)
    (cores : (c : ℕ) → c < e.layout.cores → CoreRun o r refused e c) : Type 0 where
  pub order : ℕ → List (ℕ × TrailStep)
  pub made : (c : ℕ) (low : c < e.layout.cores)
      → steps_of (order (group_of e.layout c)) (member_of e.layout c)
      ≡ (cores c low).last.trail.steps
  pub shown : (g : ℕ) → g < groups_in e.layout → (late early : List (ℕ × TrailStep))
      → order g ≡ late ++ early
      → (w : Group) × IsShown (place_at e.layout g) o.found early w
  -- where a piece tells, its core is at a spot for each front of its steps, and at the end has fixed all
  pub spots : (c : ℕ) (low : c < e.layout.cores) → IsTelling (cores c low).last.region
      → (late done : List TrailStep) → (cores c low).last.trail.steps ≡ late ++ done
      → (x : Spot) × (x.done ≡ done) × IsIn (cores c low) x
  pub ends : (c : ℕ) (low : c < e.layout.cores) → IsTelling (cores c low).last.region
      → (x : Spot) × IsIn (cores c low) x × (x.stamp ≡ (cores c low).last.region.stamp)
      × (x.fixed ≡ fixed_at (cores c low))
  -- with more steps made, a core has fixed all that it had before
  pub grows : (c : ℕ) (low : c < e.layout.cores) (x z : Spot) → IsIn (cores c low) x
      → IsIn (cores c low) z → (k : TrailStep) (more : List TrailStep)
      → z.done ≡ k ∷ more ++ x.done → (rest : List Fixed) × (z.fixed ≡ x.fixed ++ rest)
  pub crash : (cut : Cut o r refused e cores order) (image : ℕ → ℕ) → MayLeaveAt cut image
      → Recovers o.region.frame.bytes (start_of o) e.given (told_of e) (finished_at cut) image
