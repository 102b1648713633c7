-- What ties a worker to its board and to its region, between two calls.
use Rattle.std.specs.Prelude.{◌≡◌, ◌≢◌, ◌⊎◌, ℕ, ◌+◌, ◌*◌, ◌<◌, Bool, true, false, List, [], length, Some, None}
use Rattle.group_laws.specs.declared.group_sizes.TheConstants.{SLOTS}
use Rattle.chunk_map.specs.declared.layout_sizes.TheConstants.{CLASS_FACTOR}
use Rattle.pm_region.specs.State.{State, IsTelling, cell_now}
use Rattle.pm_region.specs.Words.{Surely}
use Rattle.core_log.specs.Log.{StandsIn, tail_of, first_of}
use Rattle.conflict_queue.specs.Waiting.{waiting}
use Rattle.core_index.specs.Index.{known_at, room_at}
use Rattle.core_index.specs.Records.{is_forgettable}
use Rattle.lazy_alloc.specs.Sets.{AreSets, chunk_is_free, chunk_class, chunk_is_due}
use Rattle.lazy_alloc.specs.Written.{PartLies}
use Rattle.log_entry.specs.declared.entry.Entry.{Entry}
use Rattle.recover.specs.Starts.{IsSpelledIndex}
use Rattle.group_laws.specs.Places.{Place, IsPlace, members, core_of, owner}
use Rattle.group_laws.specs.MemberViews.{View}
use Rattle.licence.specs.Licence.{Licensed, grounded}
use Rattle.group_board.specs.Seats.{SeatAt}
use Rattle.batch_leader.specs.declared.batch_buffer.BatchBuffer.{BatchBuffer}
use Rattle.batch_leader.specs.Rounds.{words_taken}
use Rattle.batch_leader.specs.Leading.{Collects, IsBatchOf, IsCertain, IsLost, Suits, HasSpace, taken_by}
use Rattle.batch_leader.specs.TakenChanges.{entries_taken}
use Rattle.core_worker.specs.declared.types.Leading.{Leading}
use Rattle.core_worker.specs.declared.types.Leading.TheVariants as leads
use Rattle.group_laws.specs.declared.types.Pending.{Pending}
use Rattle.core_worker.specs.declared.types.Place.TheVariants.{Posted}
use Rattle.core_worker.specs.declared.worker.Worker.{Worker}
use Rattle.core_worker.specs.OwnPlaces.{place_at, is_busy, AreApart}
use Rattle.core_worker.specs.Supplies.{room_for}
use Rattle.core_worker.specs.KeepsCleaning.{KeepsCleaning}
use Rattle.core_worker.specs.KeyTies.{KnowsKey, IsPlaced, AreBlocks}
use Rattle.core_worker.specs.OwnChunks.{AreChunks}
use Rattle.core_worker.specs.Outbox.{KeepsMail, as_told}
use Rattle.core_worker.specs.LogNames.{NamesStand}

-- What the core leads. Only a collecting one has the lock; who leads nothing gave all back, and has nothing in flight but after a fault.
abbrev pub LeadsAt : SeatAt → View → Leading → Type 0
LeadsAt seat v (leads.Nothing buffer) = (v.holds ≡ false) × ((a s : ℕ) → v.taken a s ≡ None)
    × (v.broken ≡ false → v.flying ≡ [])
LeadsAt seat v (leads.Collecting c) = Collects seat v c
LeadsAt seat v (leads.Batch b) = IsBatchOf seat v b × (v.holds ≡ false)
LeadsAt seat v (leads.Persisted x) = IsCertain seat v x.left.taken.items × (v.holds ≡ false)
    × (v.broken ≡ false → v.flying ≡ []) × (x.left.taken.items ≢ [])
LeadsAt seat v (leads.Failed x) = IsLost seat v x.left.taken.items × (v.holds ≡ false)
    × (x.left.taken.items ≢ [])
LeadsAt seat v leads.Between = ⊥

-- The same of member m, at some seat of it: which board's it is doesn't matter.
pub record Leads (p : Place) (m : ℕ) (v : View) (l : Leading) : Type 0 where
  pub seat : SeatAt
  pub place : seat.place ≡ p
  pub number : seat.number ≡ m
  pub at : LeadsAt seat v l

-- a batch that is collected or held has a chunk with room for it, and leaves the room rule kept
abbrev pub HasSpaceFor : Worker → Leading → Type 0
HasSpaceFor w (leads.Nothing buffer) = Unit {0}
HasSpaceFor w (leads.Collecting c) = Suits (room_for w) c
HasSpaceFor w (leads.Batch b) = HasSpace (room_for w) b.fresh b.own_lines
    (words_taken b.changes.taken.items)
HasSpaceFor w (leads.Persisted x) = Unit {0}
HasSpaceFor w (leads.Failed x) = Unit {0}
HasSpaceFor w leads.Between = Unit {0}

-- the batch could not be written: what was in flight stays so
abbrev pub is_lost : Leading → Bool
is_lost (leads.Nothing buffer) = false
is_lost (leads.Collecting c) = false
is_lost (leads.Batch b) = false
is_lost (leads.Persisted x) = false
is_lost (leads.Failed x) = true
is_lost leads.Between = false

-- what is in flight of what the core leads: what it took and has not written
abbrev pub in_flight : Leading → List Entry
in_flight (leads.Nothing buffer) = []
in_flight (leads.Collecting c) = entries_taken (taken_by c)
in_flight (leads.Batch b) = entries_taken b.changes.taken.items
in_flight (leads.Persisted x) = []
in_flight (leads.Failed x) = []
in_flight leads.Between = []

-- Until a batch of the core's own is lost, just what it leads and has not written is in flight, whatever other leaders fail. A lost batch stops the core; its changes are still to be given back as failed, or one was.
pub record KeepsFlight (flying : List Entry) (broken : Bool) (leading : Leading)
    (lost_batch stopped : Bool) : Type 0 where
  pub led : lost_batch ≡ false → flying ≡ in_flight leading
  pub stops : lost_batch ≡ true → stopped ≡ true
  pub fails : lost_batch ≡ true → (broken ≡ true) ⊎ (is_lost leading ≡ true)

-- The worker is that of member m, and its places, blocks, keys and what it leads are what the view has.
pub record Holds (p : Place) (m : ℕ) (v : View) (w : Worker) : Type 0 where
  pub place : IsPlace p
  pub member : m < members p
  pub core : w.core ≡ core_of p m
  pub layout : w.layout ≡ p.layout
  pub log_layout : w.log.layout ≡ p.layout
  pub log_part : w.log.part ≡ core_of p m
  pub sets : AreSets w.allocator
  pub allocator_layout : w.allocator.layout ≡ p.layout
  pub allocator_part : w.allocator.part ≡ core_of p m
  pub spelled : IsSpelledIndex w.index
  pub eight : length w.places.items ≡ SLOTS
  pub placed : (s : ℕ) → s < SLOTS → IsPlaced p m v s (place_at w.places.items s)
  pub apart : AreApart w.places.items
  -- a change that the view has pending stands in a place, or is in doubt
  pub pending : (k : ℕ) (q : Pending) → v.pending k ≡ Some q
      → ((s number lines : ℕ) × (s < SLOTS) × (place_at w.places.items s ≡ Posted number k lines))
      ⊎ ((q.slot ≡ None) × (is_busy w.places.items k ≡ false) × (w.stopped ≡ true))
  -- each request that may still become a change has room for its record
  pub admitted : (k : ℕ) → is_busy w.places.items k ≡ true
      → length (waiting w.queue k) < room_at w.index k
  -- no record is asked of a stopped core but of keys with a change in a place
  pub keys : (k : ℕ) → owner p k ≡ m → (w.stopped ≡ false) ⊎ (is_busy w.places.items k ≡ true)
      → KnowsKey p (as_told w v) k (known_at w.index k)
  -- what was taken out of the index and not sent yet
  pub mail : KeepsMail p m v w.winds_down w.notices.items
  pub blocks : AreBlocks v w.allocator w.places.items
  -- only requests for busy keys wait, until the core winds down
  pub waits : w.winds_down ≡ false → (k : ℕ) → is_busy w.places.items k ≡ false
      → waiting w.queue k ≡ []
  pub leads : Leads p m v w.leading
  pub space : w.stopped ≡ false → HasSpaceFor w w.leading
  -- a core that failed an entry, took one back as failed or could not write a batch has stopped
  pub broken : v.broken ≡ true → w.stopped ≡ true
  pub lost : is_lost w.leading ≡ true → w.stopped ≡ true
  pub flight : KeepsFlight v.flying v.broken w.leading w.lost_batch w.stopped
  -- no cleaning is under way, or one with which its turns go on
  pub cleaning : KeepsCleaning p m v w
  -- until the core stops, no key has a record that is to be forgotten, but while a change of it is out
  pub remembers : w.stopped ≡ false → (k : ℕ) → owner p k ≡ m → v.pending k ≡ None
      → is_forgettable (known_at w.index k) ≡ false
  -- until the core stops, each chunk of its part is free in the allocator, Data there, or one of the log's
  pub chunks : w.stopped ≡ false → AreChunks p.layout.chunks w.allocator w.log.chunks

-- Each image of the part is licensed; until a batch of the core's own is lost, no image has an entry that isn't certain. Until the core stops, its log stands, and each chunk is certainly what allocator and log have it as.
pub record Stands (s : State) (p : Place) (m : ℕ) (v : View) (w : Worker) : Type 0 where
  pub lies : PartLies s.frame w.allocator
  pub licensed : IsTelling s → Licensed p m v (cell_now s)
  pub landed : w.lost_batch ≡ false → IsTelling s → Licensed p m (grounded v) (cell_now s)
  pub log : w.stopped ≡ false → StandsIn s w.log
  pub free : w.stopped ≡ false → (j : ℕ) → chunk_is_free w.allocator j ≡ true → IsTelling s
      → (tail_of w.log.chunks j ≡ None) × Surely (cell_now s (first_of w.log j)) 0
  pub due : w.stopped ≡ false → (j : ℕ) → chunk_is_due w.allocator j ≡ true → IsTelling s
      → (tail_of w.log.chunks j ≡ None) × Surely (cell_now s (first_of w.log j)) 0
  pub cut : w.stopped ≡ false → (j c : ℕ) → chunk_class w.allocator j ≡ Some c
      → chunk_is_due w.allocator j ≡ false → IsTelling s → (tail_of w.log.chunks j ≡ None)
      × Surely (cell_now s (first_of w.log j)) (2 + CLASS_FACTOR * c)
  -- until it stops or winds down, the names that stand are those of its log
  pub names : w.stopped ≡ false → w.winds_down ≡ false → IsTelling s
      → NamesStand s m v.kept v.present v.told v.dead w.log w.standing w.clearing w.cleaning

-- the same at a seat
abbrev pub HoldsAt : SeatAt → View → Worker → Type 0
HoldsAt seat v w = Holds seat.place seat.number v w

abbrev pub StandsAt : State → SeatAt → View → Worker → Type 0
StandsAt s seat v w = Stands s seat.place seat.number v w

-- whatever the region, what stood stands
abbrev pub KeepsStanding : SeatAt → View → View → Worker → Worker → Type 0
KeepsStanding seat v u w x = (s : State) → StandsAt s seat v w → StandsAt s seat u x

-- it leads nothing: all it has is the room for the next batch
abbrev pub LeadsNothing : Worker → Type 0
LeadsNothing w = (buffer : BatchBuffer) × (w.leading ≡ leads.Nothing buffer)

-- where a worker may be tied: a place among groups, a member there, and that member's view
pub record Tie : Type 0 where
  pub place : Place
  pub number : ℕ
  pub view : View

abbrev pub HoldsBy : Tie → Worker → Type 0
HoldsBy t w = Holds t.place t.number t.view w

abbrev pub StandsBy : State → Tie → Worker → Type 0
StandsBy s t w = Stands s t.place t.number t.view w
