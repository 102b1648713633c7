-- What a stopped core does with its own changes.
use Rattle.std.specs.Prelude.{◌≡◌, ◌⊎◌, ℕ, Bool, true, false, List, [], Option, Some, None}
use Rattle.group_laws.specs.declared.group_sizes.TheConstants.{SLOTS}
use Rattle.pm_region.specs.State.{State, IsTelling}
use Rattle.fs_model.specs.declared.model.Reply.TheVariants.{Stopped}
use Rattle.log_entry.specs.declared.entry.Entry.{Entry}
use Rattle.core_index.specs.Records.{pointer_of}
use Rattle.group_board.specs.declared.change.Change.{Change}
use Rattle.group_laws.specs.State.{Group}
use Rattle.group_laws.specs.MemberViews.{View}
use Rattle.group_board.specs.Seats.{SeatAt}
use Rattle.group_board.specs.Views.{after_unlock}
use Rattle.batch_leader.specs.Leading.{Collects, FindsNone, SawNonePosted, TakesBack, taken_by}
use Rattle.batch_leader.specs.declared.states.Collecting.{Collecting}
use Rattle.core_worker.specs.declared.types.Leading.TheVariants as leads
use Rattle.lazy_alloc.specs.Sets.{Sets, AreSets}
use Rattle.core_worker.specs.declared.types.Place.{Place}
use Rattle.core_worker.specs.declared.types.Place.TheVariants.{Free, Staged, Posted}
use Rattle.core_worker.specs.declared.worker.Worker.{Worker}
use Rattle.core_worker.specs.OwnPlaces.{place_at, key_in}
use Rattle.core_worker.specs.Ties.{Tie, HoldsAt, HoldsBy, KeepsStanding, LeadsNothing}
use Rattle.core_worker.specs.Order.{InOrderBy}
use Rattle.core_worker.specs.Serving.{OnlyServes}
use Rattle.core_worker.specs.Turns.{InOrderAt, Steps}
use Rattle.core_worker.specs.Finishing.{PutsBackIf, LetsGo, IsFreed, IsServed, Serves, ShortOf}

-- the block that a staged change has
abbrev pub staged_block : Place → Option ℕ
staged_block Free = None
staged_block (Staged number entry value) = pointer_of entry.body
staged_block (Posted number key lines) = None

-- The block is put back, the place is free, and the request is answered Stopped.
pub record PutsAway (old new : Worker) (slot : ℕ) (block : Option ℕ) : Type 0 where
  pub mid : Sets
  pub sets : AreSets mid
  pub puts : PutsBackIf old.allocator mid block
  pub lets : LetsGo (record old { allocator = mid }) new slot Stopped

-- wherever it was tied, it is tied but for what waits of the key
abbrev pub FreesBySight : Worker → Worker → ℕ → Type 0
FreesBySight old new k = (t : Tie) → HoldsBy t old → InOrderBy t old
    → IsFreed t.place t.number t.view t.view old new k

-- Item 5 of a stopped core: the staged change of a place is answered Stopped, its block put back, and then the key's waiting requests are begun; `all` where there was memory for it.
pub record DropsStaged (s : State) (slot : ℕ) (old new : Worker) (all : Bool) : Type 0 where
  pub number : ℕ
  pub entry : Entry
  pub value : List ℕ
  pub place : place_at old.places.items slot ≡ Staged number entry value
  pub freed : Worker
  pub puts : PutsAway old freed slot (pointer_of entry.body)
  pub rest : OnlyServes freed new
  pub begins : all ≡ true → (t : Tie) → IsServed s old t
      → Serves (IsTelling s) freed new (t.view.cell entry.key) entry.key
  pub short : all ≡ false → (t : Tie) → IsServed s old t
      → ShortOf (IsTelling s) freed new (t.view.cell entry.key) entry.key

-- the place of a key's change is put away
abbrev pub PutsAwayKey : Worker → Worker → ℕ → Option ℕ → Type 0
PutsAwayKey old new k block = (slot : ℕ) × (key_in (place_at old.places.items slot) ≡ Some k)
    × PutsAway old new slot block

-- The leader of a stopped core found no own slot Posted, and gave the lock back.
pub record Unlocks (seat : SeatAt) (before after : Option Group) (v u : View)
    (old new : Worker) : Type 0 where
  pub holds : HoldsAt seat u new
  pub stands : KeepsStanding seat v u old new
  pub order : InOrderAt seat u new
  pub mid : View
  pub middle : Option Group
  pub found : FindsNone before middle seat.number v mid
  pub seen : SawNonePosted seat.number v mid SLOTS
  pub view : u ≡ after_unlock mid
  pub made : Steps before after seat.number u
  pub leads_now : LeadsNothing new
  pub same : new ≡ record old { leading = new.leading }

-- It took the lowest own change back that it found Posted, and goes on leading.
pub record Retracts (seat : SeatAt) (before after : Option Group) (v u : View) (old new : Worker)
    (change : Change) : Type 0 where
  pub collecting : Collecting
  pub leads_now : new ≡ record old { leading = leads.Collecting collecting }
  pub collects : Collects seat u collecting
  pub idle : taken_by collecting ≡ []
  pub back : TakesBack before after seat.number v u change

-- Item 1 of a stopped core, the withdrawal: the change is answered Stopped, its block put back, and then the key's waiting requests are begun; `all` where there was memory for it.
pub record Withdraws (s : State) (seat : SeatAt) (before after : Option Group) (v u : View)
    (old new : Worker) (all : Bool) : Type 0 where
  pub stopped : old.stopped ≡ true
  pub change : Change
  pub mid : Worker
  pub retracts : Retracts seat before after v u old mid change
  pub freed : Worker
  pub puts : PutsAwayKey mid freed change.entry.key (pointer_of change.entry.body)
  pub rest : OnlyServes freed new
  pub begins : all ≡ true → Serves (IsTelling s) freed new
      (u.cell change.entry.key) change.entry.key
  pub short : all ≡ false → ShortOf (IsTelling s) freed new
      (u.cell change.entry.key) change.entry.key

-- item 1 of a stopped core
abbrev pub WithdrawsOrUnlocks : State → SeatAt → Option Group → Option Group → View → View → Worker
    → Worker → Bool → Type 0
WithdrawsOrUnlocks s seat before after v u old new all = Withdraws s seat before after v u old new
    all ⊎ ((all ≡ true) × Unlocks seat before after v u old new)
