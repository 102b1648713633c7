-- Accepting a request: it is held behind those of its key, or begun.
use Rattle.std.specs.Prelude.{◌≡◌, ◌≢◌, ◌⊎◌, ℕ, ◌+◌, ◌≤◌, ◌||◌, Bool, true, false, List, length, Option, if◌then◌else◌}
use Rattle.pm_region.specs.State.{State, IsTelling}
use Rattle.fs_model.specs.declared.model.Request.{Request}
use Rattle.fs_model.specs.Cells.{key_of}
use Rattle.conflict_queue.specs.Waiting.{AddsLast, held_with}
use Rattle.core_index.specs.Index.{all_untold, known_at, room_at}
use Rattle.group_laws.specs.Places.{owner}
use Rattle.group_laws.specs.State.{Group}
use Rattle.group_laws.specs.MemberViews.{View}
use Rattle.core_worker.specs.declared.accepting.TheConstants.{UNANSWERED}
use Rattle.core_worker.specs.declared.worker.Worker.{Worker}
use Rattle.core_worker.specs.OwnPlaces.{is_busy}
use Rattle.core_worker.specs.Refusals.{HasAnswerRoom}
use Rattle.core_worker.specs.Answering.{AddsAnswers}
use Rattle.core_worker.specs.Beginning.{answers_of, OnlyBegins, Begins, UsesRoom}
use Rattle.core_worker.specs.Plans.{may_stage}
use Rattle.core_worker.specs.Ties.{Tie, HoldsBy, StandsBy}
use Rattle.core_worker.specs.Order.{InOrderBy}
use Rattle.core_worker.specs.StandingTies.{SameNames}
use Rattle.core_worker.specs.WorkerMoves.{Fixed, hands_of, WorkerMoves}

-- nothing but the room for records, answers and names is another one
pub record IsAsBefore (old new : Worker) : Type 0 where
  pub rest : new ≡ record old { answers = new.answers; index = new.index; standing = new.standing }
  pub names : SameNames old.standing new.standing
  pub stands : length new.standing.entries ≡ length old.standing.entries
  pub untold : all_untold new.index ≤ all_untold old.index
  pub answers : new.answers.items ≡ old.answers.items
  pub records : (k : ℕ) → known_at new.index k ≡ known_at old.index k
  pub room : (k : ℕ) → room_at old.index k ≤ room_at new.index k
  pub answer_room : (n : ℕ) → HasAnswerRoom n old → HasAnswerRoom n new

-- nothing but the room of one key is another one, and of that there is no less
pub record Admits (old new : Worker) (k : ℕ) : Type 0 where
  pub rest : new ≡ record old { index = new.index }
  pub records : (j : ℕ) → known_at new.index j ≡ known_at old.index j
  pub others : (j : ℕ) → j ≢ k → room_at new.index j ≡ room_at old.index j
  pub room : room_at old.index k ≤ room_at new.index k
  pub untold : all_untold new.index ≤ all_untold old.index

-- whether room is made for a record of the request's key: it waits for its key, or it may become a change at once
abbrev pub wants_room : Worker → Request → Bool
wants_room w r = is_busy w.places.items (key_of r) || may_stage w r

-- there is room for a record of the key more, where it is wanted, and for the answers to all requests that can be unanswered
pub record Prepared (old new : Worker) (k : ℕ) (wanted : Bool) : Type 0 where
  pub record_room : room_at new.index k ≡ room_at old.index k + (if wanted then 1 else 0)
  pub others : (j : ℕ) → j ≢ k → room_at new.index j ≡ room_at old.index j
  pub answers : HasAnswerRoom UNANSWERED new

-- The worker is tied there to its view and to the region, and the key is one of the member's.
pub record IsTied (s : State) (w : Worker) (k : ℕ) (t : Tie) : Type 0 where
  pub holds : HoldsBy t w
  pub stands : StandsBy s t w
  pub own : owner t.place k ≡ t.number
  pub order : InOrderBy t w

-- it is so somewhere
abbrev pub HasTie : State → Worker → ℕ → Type 0
HasTie s w k = (t : Tie) × IsTied s w k t

-- wherever it was tied, it is
abbrev pub StaysTied : State → Worker → Worker → ℕ → Type 0
StaysTied s old new k = (t : Tie) → IsTied s old k t → IsTied s new k t

-- The request is held behind those of its key, or begun, where there was memory for what it will need.
abbrev pub HoldsOrBegins : Type 0 → View → Worker → Worker → ℕ → Request → Type 0
HoldsOrBegins Known v old new n r = (mid : Worker) × IsAsBefore old mid
    × Prepared old mid (key_of r) (wants_room old r)
    × (((is_busy old.places.items (key_of r) ≡ true) × AddsLast mid.queue new.queue (held_with n r)
    × (new ≡ record mid { queue = new.queue }))
    ⊎ ((is_busy old.places.items (key_of r) ≡ false) × OnlyBegins mid new
    × Begins Known mid new (v.cell (key_of r)) n r × UsesRoom mid new (key_of r)))

-- by each view that the worker may be tied to
abbrev pub HoldsOrBeginsByEachView : State → Worker → Worker → ℕ → Request → Type 0
HoldsOrBeginsByEachView s old new n r = (t : Tie) → IsTied s old (key_of r) t
    → HoldsOrBegins (IsTelling s) t.view old new n r

-- It is held or begun, and the worker notes that it accepted a request since it last began a cleaning.
abbrev pub Accepts : Type 0 → View → Worker → Worker → ℕ → Request → Type 0
Accepts Known v old new n r = (done : Worker) × HoldsOrBegins Known v old done n r
    × (new ≡ record done { accepted = true })

abbrev pub AcceptsByEachView : State → Worker → Worker → ℕ → Request → Type 0
AcceptsByEachView s old new n r = (t : Tie) → IsTied s old (key_of r) t
    → Accepts (IsTelling s) t.view old new n r

-- These requests were accepted where the worker is tied so, and what was fixed with them is what it answers besides, whatever the state of its group: a call that makes no step.
pub record AcceptsAs (s : State) (old new : Worker) (t : Tie)
    (accepted : List (ℕ × Request)) : Type 0 where
  pub fixed : List Fixed
  pub answers : AddsAnswers (IsTelling s) (answers_of old) (answers_of new) fixed
  pub moves : (a : Option Group) → WorkerMoves t.place t.number s s a a t.view t.view
      (hands_of t.view old) (hands_of t.view new) accepted fixed

-- wherever it is tied
abbrev pub AcceptMoves : State → Worker → Worker → ℕ → List (ℕ × Request) → Type 0
AcceptMoves s old new k accepted = (t : Tie) → IsTied s old k t → AcceptsAs s old new t accepted
