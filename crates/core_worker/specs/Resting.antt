-- What a core is of which a turn found nothing to do.
use Rattle.std.specs.Prelude.{◌≡◌, ◌⊎◌, ℕ, Bool, true, false, not, ◌&&◌, List, [], ◌++◌, map, Option, Some, None, IfSome, IsSomeAnd, Result, Ok, Err}
use Rattle.std.specs.List.{AllByRecursion}
use Rattle.log_entry.specs.declared.entry.Entry.{Entry}
use Rattle.group_laws.specs.declared.types.Pending.{Pending}
use Rattle.group_laws.specs.declared.types.Seen.{Seen}
use Rattle.group_laws.specs.declared.types.Slot.TheVariants.{Posted, Taken}
use Rattle.group_laws.specs.Places.{Place, owner}
use Rattle.group_laws.specs.State.{Group}
use Rattle.group_laws.specs.MemberViews.{View}
use Rattle.group_laws.specs.Runs.{Kind, Runs}
use Rattle.group_laws.specs.Runs.Kind.{Lock}
use Rattle.fs_model.specs.declared.memory.Memory.{Memory}
use Rattle.group_board.specs.Seats.{SeatAt}
use Rattle.group_board.specs.Told.{Makes}
use Rattle.core_worker.specs.declared.types.Turn.{Turn}
use Rattle.core_worker.specs.declared.types.Turn.TheVariants.{Moved, Idle}
use Rattle.engine_laws.specs.Workers.{IsLoad}
use Rattle.core_worker.specs.declared.worker.Worker.{Worker}
use Rattle.core_worker.specs.Loads.{LooksMade}
use Rattle.core_worker.specs.Status.{has_room, is_leading}
use Rattle.core_worker.specs.WorkerMoves.{Placed, Hands, hands_of}

-- member m made loads alone, where the state is told
pub record LoadsOnly (before after : Option Group) (m : ℕ) : Type 0 where
  pub steps : List Kind
  pub loads : AllByRecursion IsLoad steps
  pub whole : IfSome before (λ a. IsSomeAnd after (λ b. Runs a (map (λ y. (m, y)) steps) b))

-- an own change is in a leader's hands, or waits for the lock that another has
abbrev pub IsWithOthers : Option Group → Option Group → ℕ → ℕ → Type 0
IsWithOthers before after m s = IfSome before (λ a. IfSome after
    (λ b. (b.slot m s ≡ Taken) ⊎ ((e : Entry) × (h : ℕ) × (b.slot m s ≡ Posted e)
    × (b.holder ≡ Some h))))

-- It leads nothing, and each of its posted changes is with others.
pub record IsResting (p : Place) (m : ℕ) (before after : Option Group) (u : View)
    (x : Hands) : Type 0 where
  pub holds : u.holds ≡ false
  pub taken : (a s : ℕ) → u.taken a s ≡ None
  pub posted : (k : ℕ) (y : Placed) → owner p k ≡ m → x.place k ≡ Some y → y.posted ≡ true
      → (d : Pending) (s : ℕ) → u.pending k ≡ Some d → d.slot ≡ Some s
      → IsWithOthers before after m s

-- what it holds is what it held
abbrev pub HoldsSame : Place → ℕ → Hands → Hands → Type 0
HoldsSame p m w x = (k : ℕ) → owner p k ≡ m → (x.place k ≡ w.place k) × (x.waits k ≡ w.waits k)

-- whether it may be handed a request
abbrev pub is_open : Worker → Bool
is_open w = not (is_leading w.leading) && has_room w

-- with no change in a place it could have been handed one
abbrev pub OpenFor : Place → ℕ → Hands → Worker → Type 0
OpenFor p m x w = ((k : ℕ) → owner p k ≡ m → x.place k ≡ None) → is_open w ≡ true

-- It has nothing to begin: each of its changes is posted, requests wait for keys with a change in a place alone, and with none there it could have been handed one.
pub record HasNoMore (p : Place) (m : ℕ) (x : Hands) (w : Worker) : Type 0 where
  pub placed : (k : ℕ) (y : Placed) → owner p k ≡ m → x.place k ≡ Some y → y.posted ≡ true
  pub waits : (k : ℕ) → owner p k ≡ m → x.place k ≡ None → x.waits k ≡ []
  pub open_for : OpenFor p m x w

-- What a turn that found nothing to do leaves, also of a worker that winds down. One that goes on, and isn't held back, has nothing to begin.
pub record AtRest (refused : Bool) (seat : SeatAt) (before after : Option Group) (v u : View)
    (w x : Worker) : Type 0 where
  pub loads : LoadsOnly before after seat.number
  pub same : HoldsSame seat.place seat.number (hands_of v w) (hands_of u x)
  pub rests : IsResting seat.place seat.number before after u (hands_of u x)
  pub no_more : refused ≡ false → w.winds_down ≡ false
      → HasNoMore seat.place seat.number (hands_of u x) w

-- where a turn found nothing to do
abbrev pub IfIdleTurn : Turn → Type 0 → Type 0
IfIdleTurn Moved X = Unit {0}
IfIdleTurn Idle X = X

abbrev pub IfIdle : Result Turn Memory → Type 0 → Type 0
IfIdle (Ok turn) X = IfIdleTurn turn X
IfIdle (Err memory) X = Unit {0}

-- the lock was tried, or no step was made
abbrev pub TriedIf : Bool → ℕ → Option Group → Option Group → View → Type 0
TriedIf true m before after u = Makes before m Lock after u
TriedIf false m before after u = after ≡ before

-- Other members' mail to this core was looked at, and then the lock was tried, or no other step was made.
pub record TriedAfter (posted : Bool) (m : ℕ) (before after : Option Group) (v u : View) : Type 0 where
  pub mid : View
  pub between : Option Group
  pub looks : List Seen
  pub view : mid ≡ record v { looked = v.looked ++ looks }
  pub made : LooksMade before between m mid
  pub tried : TriedIf posted m between after u
