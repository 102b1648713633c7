-- A worker begins a cleaning, or finds why it begins none.
use Rattle.std.specs.Prelude.{◌≡◌, ◌⊎◌, ℕ, ◌≤◌, ◌<◌, Bool, true, false, List, map, length, Some, None, Result, Ok, Err, vec_capacity}
use Rattle.std.specs.List.{AllByRecursion}
use Rattle.pm_region.specs.State.{State, IsTelling}
use Rattle.log_entry.specs.declared.entry.EntryName.{EntryName}
use Rattle.core_log.specs.Walking.{entries_in}
use Rattle.lazy_alloc.specs.Sets.{free_chunk_count}
use Rattle.group_board.specs.declared.names.Notices.{Notices}
use Rattle.fs_model.specs.declared.memory.Memory.{Memory}
use Rattle.log_cleaner.specs.Choosing.{IsChosen, IsVictim}
use Rattle.log_cleaner.specs.Clearing.{ClearingState, IsFresh}
use Rattle.log_cleaner.specs.Floors.{HasFloors, Searches}
use Rattle.log_cleaner.specs.Tallied.{IsTallied}
use Rattle.log_cleaner.specs.declared.types.Victim.{Victim}
use Rattle.core_worker.specs.declared.begin_cleaning.Begun.{Begun}
use Rattle.core_worker.specs.declared.types.Cleaning.TheVariants.{Copying}
use Rattle.core_worker.specs.declared.worker.Worker.{Worker}
use Rattle.core_worker.specs.GoneMail.{HasPlacesFor}
use Rattle.core_worker.specs.Outbox.{HasSpare}
use Rattle.core_worker.specs.Supplies.{room_for}

-- the names that wait for a member: dead ones and gone ones
abbrev pub waiting_of : Notices → List EntryName × List EntryName
waiting_of n = (n.dead.names, n.gone.names)

-- The same waits for each member, with a place for one dead name more, and places for so many gone ones.
pub record MakesPlaces (most : ℕ) (old new : List Notices) : Type 0 where
  pub waits : map waiting_of new ≡ map waiting_of old
  pub spare : AllByRecursion HasSpare new
  pub places : HasPlacesFor most new

-- A chunk to clean was looked for. Nothing is another one but where names were found and what was counted of the chunks.
pub record LooksForOne (s : State) (w x : Worker) : Type 0 where
  pub same : x ≡ record w { standing = x.standing }
  pub names : Searches w.standing x.standing
  pub floors : (IsTelling s → HasFloors s w.log w.standing) → IsTelling s
      → HasFloors s w.log x.standing

-- Why no cleaning begins: the core has stopped or winds down, more than one chunk is free, no request was accepted since the last one began, or no chunk is to be cleaned, where the region tells.
abbrev pub MayNotBegin : State → Worker → Type 0
MayNotBegin s w = (w.stopped ≡ true) ⊎ ((w.winds_down ≡ true)
    ⊎ ((1 < free_chunk_count w.allocator) ⊎ ((w.accepted ≡ false) ⊎ (IsTelling s
    → IsVictim s w.log w.standing w.last_victim (room_for w) None))))

-- none begins
pub record BeginsNone (s : State) (w x : Worker) : Type 0 where
  pub why : MayNotBegin s w
  pub looks : LooksForOne s w x

-- A cleaning of the next victim begins: a request was accepted since the last one began, and no more than one chunk is free. There are places for all names that may be gone with the chunk, and what is left of it is counted from then on.
pub record BeginsOne (s : State) (w x : Worker) : Type 0 where
  pub runs : (w.stopped ≡ false) × (w.winds_down ≡ false)
  pub accepted : w.accepted ≡ true
  pub scarce : free_chunk_count w.allocator ≤ 1
  pub victim : Victim
  pub chosen : IsChosen w.log (room_for w) victim
  pub next : IsTelling s → IsVictim s w.log w.standing w.last_victim (room_for w) (Some victim)
  pub now : ClearingState
  pub is : x.clearing ≡ Some now
  pub chunk : now.chunk ≡ victim.chunk
  pub fresh : IsFresh now
  pub room : IsTelling s → length (entries_in s w.log victim.chunk) ≤ now.room
  pub found : Worker
  pub looks : LooksForOne s w found
  pub standing : x.standing ≡ record found.standing { tally = x.standing.tally }
  pub counts : IsTelling s → IsTallied x.standing (entries_in s w.log victim.chunk)
  pub own_gone : now.room ≤ vec_capacity x.own_gone
  pub waiting : MakesPlaces now.room w.notices.items x.notices.items
  pub same : x ≡ record w {
    standing = x.standing;
    notices = x.notices;
    own_gone = x.own_gone;
    cleaning = Copying victim true;
    clearing = x.clearing;
    last_victim = Some victim.chunk;
    accepted = false;
  }

-- So the cleaning of a chunk begins, by what was taken for it.
pub record BeginsWith (b : Begun) (w x : Worker) : Type 0 where
  pub is : x.clearing ≡ Some b.clearing
  pub standing : x.standing ≡ record w.standing { tally = Some b.tally }
  pub own_gone : b.clearing.room ≤ vec_capacity x.own_gone
  pub waiting : MakesPlaces b.clearing.room w.notices.items x.notices.items
  pub same : x ≡ record w {
    standing = x.standing;
    notices = x.notices;
    own_gone = x.own_gone;
    cleaning = Copying b.victim true;
    clearing = x.clearing;
    last_victim = Some b.victim.chunk;
    accepted = false;
  }

-- What a search for a chunk to clean led to: where there was no memory for the cleaning, the core winds down.
abbrev pub BeginsAtMostOne : Result Bool Memory → State → Worker → Worker → Type 0
BeginsAtMostOne (Ok true) s w x = BeginsOne s w x
BeginsAtMostOne (Ok false) s w x = BeginsNone s w x
BeginsAtMostOne (Err memory) s w x = (w.stopped ≡ false) × (w.winds_down ≡ false)
    × ((found : Worker) × LooksForOne s w found × (x ≡ record found { winds_down = true }))
