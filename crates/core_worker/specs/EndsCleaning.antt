-- The end of a cleaning, of the parts of a worker: the chunk is free again, and what stood there alone is gone.
use Rattle.std.specs.Prelude.{◌≡◌, ◌≢◌, ℕ, ◌+◌, ◌≤◌, true, false, is_some, length, List, None, Some}
use Rattle.pm_region.specs.declared.region_sizes.TheConstants.{LINE_WORDS}
use Rattle.pm_region.specs.State.{State, During, IsTelling, cell_now}
use Rattle.pm_region.specs.Words.{KeepsOutside}
use Rattle.log_entry.specs.declared.entry.EntryName.{EntryName}
use Rattle.core_log.specs.Log.{LogState, tail_of, first_of, without}
use Rattle.core_log.specs.Retiring.{RetiredChunk}
use Rattle.core_index.specs.Slots as slots
use Rattle.lazy_alloc.specs.Sets.{Sets, AreSets, GivesChunk, free_chunk_count}
use Rattle.log_standing.specs.NameCounts.{StandingState}
use Rattle.log_cleaner.specs.Floors.{HasFloors}
use Rattle.log_cleaner.specs.Clearing.{ClearingState, AreNoted}
use Rattle.log_cleaner.specs.Copying.{IsUpToDate}
use Rattle.log_cleaner.specs.Dropping.{lone_in, Drops}
use Rattle.licence.specs.Licence.{Licensed}
use Rattle.group_laws.specs.Updates.{has}
use Rattle.group_laws.specs.Places as groups
use Rattle.group_laws.specs.MemberViews.{View}
use Rattle.group_board.specs.Views.{after_retire, TidiedIn}
use Rattle.core_worker.specs.declared.types.Place.{Place}
use Rattle.core_worker.specs.declared.types.Cleaning.TheVariants.{Nothing, Doomed}
use Rattle.core_worker.specs.declared.worker.Worker.{Worker}
use Rattle.core_worker.specs.GoneMail.{FilesGone}
use Rattle.core_worker.specs.GoneNames.{LosesNames}
use Rattle.core_worker.specs.Hearing.{HearsAll}
use Rattle.core_worker.specs.KeepsCleaning.{MayVanish}
use Rattle.core_worker.specs.LogNames.{AreOwnOf, KnowsBy}
use Rattle.core_worker.specs.StandingTies.{HearsOwn}
use Rattle.core_worker.specs.Supplies.{under_way}
use Rattle.core_worker.specs.Ties.{LeadsNothing}

-- The allocator has the chunk, the log has it no more, each of its names has one copy less, and one that had no other is a name less; of the names that vanish the own ones are gone from the index, and then the own dead names are told.
pub record EndsCleaning (core : ℕ) (c : ClearingState) (own : List EntryName)
    (log log' : LogState) (a b : Sets) (ps qs : List Place) (es ix : List (ℕ × slots.Place))
    (old new : StandingState) : Type 0 where
  pub log_is : log' ≡ record log { chunks = without log.chunks c.chunk }
  pub gone : tail_of log'.chunks c.chunk ≡ None
  pub gives : GivesChunk a b c.chunk
  pub sets : AreSets b
  pub dropped : StandingState
  pub drops : Drops old dropped c.names
  pub mid : List (ℕ × slots.Place)
  pub loses : LosesNames own ps qs es mid
  pub heard : HearsAll core mid ix
  pub tells : HearsOwn core mid dropped new
  pub room : old.room ≤ new.room
  pub names : length new.entries + lone_in old c.names ≤ length old.entries

-- So a worker ends the cleaning of a closed chunk of its log whose doomed names may vanish; those of other members' keys wait to be told to their owners.
pub record EndsIn (p : groups.Place) (m : ℕ) (v u : View) (w x : Worker) (c : ClearingState) :
    Type 0 where
  pub runs : w.stopped ≡ false
  pub way : (j : ℕ) × (under_way w ≡ Doomed j)
  pub scarce : free_chunk_count w.allocator ≤ 1
  pub idle : LeadsNothing w
  pub chunk : is_some (tail_of w.log.chunks c.chunk) ≡ true
  pub closed : w.log.opened ≢ Some c.chunk
  pub may : (k n : ℕ) → has c.doomed k n ≡ true → MayVanish v.doomed v.dead w.standing c.names k n
  pub noted : AreNoted c
  pub own : AreOwnOf p m c.doomed w.own_gone.items
  pub tidied : TidiedIn p m (after_retire p m c.doomed v) u
  pub ends : EndsCleaning w.core c w.own_gone.items w.log x.log w.allocator x.allocator
      w.places.items x.places.items w.index x.index w.standing x.standing
  pub files : FilesGone p m c.doomed w.notices.items x.notices.items
  pub same : x ≡ record w {
    log = x.log;
    allocator = x.allocator;
    places = x.places;
    index = x.index;
    standing = x.standing;
    notices = x.notices;
    cleaning = Nothing;
    clearing = None;
  }

-- The same by its region: the chunk is certainly Free, no word outside its head's line was stored or flushed, the images are licensed by the view, and the names that stand are the log's.
pub record EndsInRegion (s t : State) (p : groups.Place) (m : ℕ) (u : View) (w x : Worker)
    (c : ClearingState) : Type 0 where
  pub retired : RetiredChunk t w.log x.log c.chunk
  pub outside : During s t (KeepsOutside (cell_now s) (first_of w.log c.chunk)
      (first_of w.log c.chunk + LINE_WORDS))
  pub exit : IsTelling t → Licensed p m u (cell_now t)
  pub names : IsTelling s → KnowsBy m u x.standing
  pub counted : IsTelling t → IsUpToDate t x.log x.standing
  pub read : x.standing.settled ≡ None
  pub floors : IsTelling t → HasFloors s w.log w.standing → HasFloors t x.log x.standing
