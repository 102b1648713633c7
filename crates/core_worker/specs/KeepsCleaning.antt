-- A cleaning under way, as a worker keeps it between two calls.
use Rattle.std.specs.Prelude.{◌≡◌, ◌≢◌, ◌⊎◌, ℕ, ◌*◌, ◌≤◌, ◌<◌, Bool, true, false, List, Option, Some, None, is_some, length, Vec, vec_capacity}
use Rattle.std.specs.Global.{Global}
use Rattle.chunk_map.specs.Layouts.{payload_lines}
use Rattle.log_entry.specs.declared.entry.EntryName.{EntryName}
use Rattle.core_log.specs.Log.{LogState, tail_of}
use Rattle.lazy_alloc.specs.Sets.{Sets, chunk_is_free, chunk_class, free_chunk_count}
use Rattle.log_standing.specs.NameCounts.{StandingState, count_of, times_in}
use Rattle.log_cleaner.specs.Clearing.{ClearingState, IsFresh, AreNoted}
use Rattle.log_cleaner.specs.declared.types.Victim.{Victim}
use Rattle.group_laws.specs.Updates.{has}
use Rattle.group_laws.specs.Places.{Place}
use Rattle.group_laws.specs.MemberViews.{View}
use Rattle.batch_leader.specs.declared.batch_buffer.BatchBuffer.{BatchBuffer}
use Rattle.core_worker.specs.declared.types.Leading.{Leading}
use Rattle.core_worker.specs.declared.types.Leading.TheVariants as leads
use Rattle.core_worker.specs.declared.types.Cleaning.{Cleaning}
use Rattle.core_worker.specs.declared.types.Cleaning.TheVariants.{Nothing, Copying, Doomed}
use Rattle.core_worker.specs.declared.worker.Worker.{Worker}
use Rattle.core_worker.specs.Supplies.{under_way, rest, IsSmall}
use Rattle.group_board.specs.declared.names.Notices.{Notices}
use Rattle.core_worker.specs.GoneMail.{HasPlacesFor}
use Rattle.core_worker.specs.LogNames.{AreOwnOf}

-- which cleanings a turn goes on with
abbrev pub GoesOn : Cleaning → Type 0
GoesOn Nothing = ⊥
GoesOn (Copying victim first) = Unit {0}
GoesOn (Doomed chunk) = Unit {0}

-- A name that may vanish: it is doomed and dead, stands in one chunk alone, and is among the names noted of that chunk.
pub record MayVanish (doomed dead : ℕ → ℕ → Bool) (st : StandingState) (names : List EntryName)
    (k n : ℕ) : Type 0 where
  pub marked : doomed k n ≡ true
  pub dies : dead k n ≡ true
  pub lone : count_of st k n ≡ 1
  pub noted : 0 < times_in names k n

-- Nothing was noted of the chunk that is copied, which pledges no more than a third of a chunk.
pub record IsBegun (log : LogState) (c : ClearingState) (victim : Victim) (first : Bool) :
    Type 0 where
  pub chunk : c.chunk ≡ victim.chunk
  pub fresh : IsFresh c
  pub small : IsSmall (Copying victim first)
  pub third : 3 * rest (Copying victim first) ≤ payload_lines log.layout

-- How far a cleaning is, by what its clearing has noted: nothing while it copies; and then the names that may vanish, of which the own ones are in hand.
abbrev pub HasPhase : Place → ℕ → (ℕ → ℕ → Bool) → (ℕ → ℕ → Bool) → LogState → StandingState
    → ClearingState → List EntryName → Cleaning → Type 0
HasPhase p m doomed dead log st c own Nothing = ⊥
HasPhase p m doomed dead log st c own (Copying victim first) = IsBegun log c victim first
HasPhase p m doomed dead log st c own (Doomed chunk) = (c.chunk ≡ chunk)
    × ((k n : ℕ) → has c.doomed k n ≡ true → MayVanish doomed dead st c.names k n)
    × AreOwnOf p m c.doomed own × AreNoted c

-- how many names may still be gone with the chunk
abbrev pub may_go : ClearingState → Cleaning → ℕ
may_go c Nothing = 0
may_go c (Copying victim first) = c.room
may_go c (Doomed chunk) = length c.doomed

-- A worker cleans a chunk of its log that isn't the open one, while it runs and leads nothing; at most one chunk is free meanwhile, and there are places for all names that may be gone, whoever owns their keys.
pub record Cleans (p : Place) (m : ℕ) (doomed dead : ℕ → ℕ → Bool) (stopped winds : Bool)
    (leading : Leading) (log : LogState) (a : Sets) (st : StandingState)
    (clearing : Option ClearingState) (own : Vec EntryName Global)
    (boxes : List Notices) (cleaning : Cleaning) : Type 0 where
  pub goes : GoesOn cleaning
  pub runs : stopped ≡ false
  pub works : winds ≡ false
  pub idle : (buffer : BatchBuffer) × (leading ≡ leads.Nothing buffer)
  pub now : ClearingState
  pub is : clearing ≡ Some now
  pub chunk : is_some (tail_of log.chunks now.chunk) ≡ true
  pub closed : log.opened ≢ Some now.chunk
  pub taken : chunk_is_free a now.chunk ≡ false
  pub uncut : chunk_class a now.chunk ≡ None
  pub scarce : free_chunk_count a ≤ 1
  pub phase : HasPhase p m doomed dead log st now own.items cleaning
  pub own_places : may_go now cleaning ≤ vec_capacity own
  pub places : HasPlacesFor (may_go now cleaning) boxes

-- a worker of member m goes on with no cleaning, or with one that its view allows
abbrev pub KeepsCleaning : Place → ℕ → View → Worker → Type 0
KeepsCleaning p m v w = (under_way w ≡ Nothing)
    ⊎ Cleans p m v.doomed v.dead w.stopped w.winds_down w.leading w.log w.allocator
    w.standing w.clearing w.own_gone w.notices.items w.cleaning
