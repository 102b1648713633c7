-- A worker goes on with the copies of a cleaning.
use Rattle.std.specs.Prelude.{◌≡◌, ℕ, ◌≤◌, ◌<◌, ◌&&◌, Bool, true, false, List, length, Option, None}
use Rattle.pm_region.specs.State.{State, IsTelling}
use Rattle.core_log.specs.Log.{room_of}
use Rattle.core_room.specs.CleaningRoom.{needs_fresh}
use Rattle.lazy_alloc.specs.Sets.{AreSets}
use Rattle.log_cleaner.specs.CopyBatch.{KeepsNames}
use Rattle.log_cleaner.specs.declared.types.Victim.{Victim}
use Rattle.batch_leader.specs.Persisting.{opened_for}
use Rattle.core_worker.specs.declared.types.Cleaning.TheVariants.{Nothing, Copying}
use Rattle.core_worker.specs.declared.worker.Worker.{Worker}
use Rattle.core_worker.specs.CopyTurns.{left_of, CopiesBatch}
use Rattle.core_worker.specs.Supplies.{supply_of, rest}
use Rattle.core_worker.specs.TakenChunks.{TakesChunkIf}

-- the first copy goes into a fresh chunk where what is promised doesn't fit in the open one
abbrev pub needs_chunk : Bool → Worker → Bool
needs_chunk first w = first && needs_fresh (supply_of w)

-- The next batch was copied, the first one into the lowest free chunk where it needs one; what is left is less.
pub record CopiesOn (victim : Victim) (first : Bool) (w x : Worker) : Type 0 where
  pub fresh : Option ℕ
  pub takes : TakesChunkIf (needs_chunk first w) w.allocator x.allocator fresh
  pub sets : AreSets x.allocator
  pub fits : fresh ≡ None → rest (Copying victim first) ≤ room_of w.log
  pub count : ℕ
  pub words : List ℕ
  pub batch : CopiesBatch victim (opened_for w.log fresh) x.log w.standing x.standing count words
  pub same : x ≡ record w {
    log = x.log;
    allocator = x.allocator;
    standing = x.standing;
    copies = x.copies;
    cleaning = Copying (left_of victim count (length words)) false;
  }

-- A call of the region failed meanwhile, and the core stopped. Just the names stand that stood.
pub record LosesCopies (first : Bool) (w x : Worker) : Type 0 where
  pub fresh : Option ℕ
  pub takes : TakesChunkIf (needs_chunk first w) w.allocator x.allocator fresh
  pub sets : AreSets x.allocator
  pub layout : x.log.layout ≡ w.log.layout
  pub part : x.log.part ≡ w.log.part
  pub names : KeepsNames w.standing x.standing
  pub same : x ≡ record w {
    log = x.log;
    allocator = x.allocator;
    standing = x.standing;
    copies = x.copies;
    stopped = true;
  }

-- There is no room for what is left, which the room rule excludes: the chunk stays as it is, and is cleaned no more.
pub record LeavesCopies (victim : Victim) (first : Bool) (w x : Worker) : Type 0 where
  pub none : TakesChunkIf (needs_chunk first w) w.allocator w.allocator None
  pub lacks : room_of w.log < rest (Copying victim first)
  pub same : x ≡ record w { cleaning = Nothing; clearing = None }

-- More was found to be copied than the numbers say, which only a region has that reads otherwise than before: nothing is copied, the chunk stays as it is, and is cleaned no more.
pub record MisreadsCopies (t : State) (victim : Victim) (first : Bool) (w x : Worker) : Type 0 where
  pub mid : Worker
  pub copies : CopiesOn victim first w mid
  pub none : copies.count ≡ 0
  pub untold : IsTelling t → ⊥
  pub same : x ≡ record mid { cleaning = Nothing; clearing = None }
