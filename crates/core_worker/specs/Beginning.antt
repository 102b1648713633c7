-- What beginning a request does: it is answered, or a change is staged.
use Rattle.std.specs.Prelude.{◌≡◌, ◌≢◌, ◌⊎◌, ℕ, ◌+◌, ◌-◌, ◌<◌, ◌≤◌, Bool, true, false, List, [], ◌∷◌, ◌++◌, length, Option, Some, None}
use Rattle.group_laws.specs.declared.group_sizes.TheConstants.{SLOTS}
use Rattle.pm_region.specs.State.{State}
use Rattle.fs_model.specs.declared.model.Request.{Request}
use Rattle.fs_model.specs.declared.model.Reply.{Reply}
use Rattle.fs_model.specs.declared.model.Reply.TheVariants.{Stopped}
use Rattle.core_worker.specs.Refusals.{reply_to}
use Rattle.core_worker.specs.Answering.{IsSaid}
use Rattle.fs_model.specs.Cells.{key_of, answer_to, is_change}
use Rattle.log_entry.specs.declared.entry.Entry.{Entry}
use Rattle.log_entry.specs.declared.entry.Body.{Body}
use Rattle.log_entry.specs.declared.entry.Body.TheVariants as bodies
use Rattle.conflict_queue.specs.declared.types.Held.{Held}
use Rattle.conflict_queue.specs.Waiting.{TakesFirst, waiting}
use Rattle.core_index.specs.Index.{all_untold, known_at, room_at}
use Rattle.core_index.specs.Records.{last_of}
use Rattle.lazy_alloc.specs.Sets.{Takes}
use Rattle.group_laws.specs.MemberViews.{View}
use Rattle.group_laws.specs.Places as places
use Rattle.core_worker.specs.Ties.{Holds, Tie, StandsBy, LeadsNothing}
use Rattle.core_worker.specs.declared.types.Answer.{Answer}
use Rattle.core_room.specs.declared.types.Shortage.{Shortage}
use Rattle.core_worker.specs.declared.types.Place.{Place}
use Rattle.core_worker.specs.declared.types.Place.TheVariants.{Free, Staged}
use Rattle.core_worker.specs.declared.worker.Worker.{Worker}
use Rattle.core_worker.specs.OwnPlaces.{place_at, is_free, is_busy, IsLowest, Replaces, request_by}
use Rattle.core_worker.specs.Supplies.{supply_of, why, HasKeptRoom}
use Rattle.core_room.specs.RoomRule.{may_cut}
use Rattle.core_room.specs.Lengths.{class_for, lines_needed}

-- the answers that were fixed, first to last
abbrev pub answers_of : Worker → List Answer
answers_of w = w.answers.items

abbrev pub answer_with : ℕ → Reply → Option Shortage → Answer
answer_with n reply refusal = record { number = n; reply = reply; refusal = refusal }

-- the worker holds as it does with nothing waiting: what is true of it while requests of a key that isn't busy are begun
abbrev pub HoldsAside : places.Place → ℕ → View → Worker → Type 0
HoldsAside p m v w = Holds p m v (record w { queue = [] })

-- The worker is so tied there, and the key is one of the member's.
pub record IsHeldAside (w : Worker) (k : ℕ) (t : Tie) : Type 0 where
  pub holds : HoldsAside t.place t.number t.view w
  pub own : places.owner t.place k ≡ t.number

-- it is so somewhere
abbrev pub IsAside : Worker → ℕ → Type 0
IsAside w k = (t : Tie) × IsHeldAside w k t

-- and the region stands as it is tied there
abbrev pub StandsAside : State → Worker → ℕ → Type 0
StandsAside s w k = (t : Tie) × IsHeldAside w k t × StandsBy s t w

-- what is so tied stays tied, and, whatever the region, what stood stands
pub record KeepsTie (old new : Worker) (t : Tie) : Type 0 where
  pub holds : HoldsAside t.place t.number t.view new
  pub stands : (s : State) → StandsBy s t old → StandsBy s t new

-- wherever it was
abbrev pub KeepsTies : Worker → Worker → ℕ → Type 0
KeepsTies old new k = (t : Tie) → IsHeldAside old k t → KeepsTie old new t

-- what is true by each view that it may be tied to
abbrev pub ByEachView : State → Worker → ℕ → (View → Type 0) → Type 0
ByEachView s w k says = (t : Tie) → IsHeldAside w k t → StandsBy s t w → says t.view

-- one of the places is free
abbrev pub HasFree : List Place → Type 0
HasFree ps = (s : ℕ) × (s < SLOTS) × (place_at ps s ≡ Free)

-- nothing but allocator and places differs
abbrev pub OnlyStages : Worker → Worker → Type 0
OnlyStages old new = new ≡ record old { allocator = new.allocator; places = new.places }

-- nothing but allocator, places, answers and the room for records differs
abbrev pub OnlyBegins : Worker → Worker → Type 0
OnlyBegins old new = new ≡ record old {
  allocator = new.allocator;
  places = new.places;
  answers = new.answers;
  index = new.index;
}

-- nothing but answers and the room for records differs
abbrev pub OnlyAnswers : Worker → Worker → Type 0
OnlyAnswers old new = new ≡ record old { answers = new.answers; index = new.index }

-- A request of the key was begun: the room for its record stays where it was staged, and is given back where it was answered.
pub record UsesRoom (old new : Worker) (k : ℕ) : Type 0 where
  pub staged : is_busy new.places.items k ≡ true → room_at new.index k ≡ room_at old.index k
  pub answered : is_busy new.places.items k ≡ false
      → room_at new.index k ≡ room_at old.index k - 1
  pub others : (j : ℕ) → j ≢ k → room_at new.index j ≡ room_at old.index j
  pub records : (j : ℕ) → known_at new.index j ≡ known_at old.index j
  pub untold : all_untold new.index ≤ all_untold old.index

-- nothing but queue, places, answers, allocator, index and the request in hand differs
pub record SameCore (old new : Worker) : Type 0 where
  pub layout : new.layout ≡ old.layout
  pub core : new.core ≡ old.core
  pub log : new.log ≡ old.log
  pub leading : new.leading ≡ old.leading
  pub cleaning : new.cleaning ≡ old.cleaning
  pub stopped : new.stopped ≡ old.stopped
  pub winds_down : new.winds_down ≡ old.winds_down

-- The request was answered. No place, block or chunk is another one.
pub record IsAnswered (old new : Worker) (a : Answer) : Type 0 where
  pub same : SameCore old new
  pub answers : answers_of new ≡ answers_of old ++ a ∷ []
  pub places : new.places.items ≡ old.places.items
  pub allocator : new.allocator ≡ old.allocator
  pub records : (k : ℕ) → known_at new.index k ≡ known_at old.index k

-- The pointer is that of a block which was taken for the value, where it needs one.
abbrev pub TakesFor : Worker → Worker → ℕ → Body → Type 0
TakesFor old new n (bodies.Pointer q) = Takes old.allocator new.allocator (class_for n)
    (may_cut (supply_of old) (lines_needed n)) (Some q)
TakesFor old new n (bodies.Embedded u) = new.allocator ≡ old.allocator
TakesFor old new n bodies.Tombstone = new.allocator ≡ old.allocator

-- A change was staged in the lowest free place: the next one of its key, by the request.
pub record IsStaged (old new : Worker) (number : ℕ) (r : Request) : Type 0 where
  pub same : SameCore old new
  pub answers : answers_of new ≡ answers_of old
  pub slot : ℕ
  pub lowest : IsLowest is_free old.places.items slot
  pub entry : Entry
  pub value : List ℕ
  pub placed : Replaces old.places.items new.places.items slot (Staged number entry value)
  pub key : entry.key ≡ key_of r
  pub version : entry.version ≡ last_of (known_at old.index (key_of r)) + 1
  pub asks : request_by entry.key value entry.body ≡ r
  pub block : TakesFor old new (length value) entry.body
  pub records : (k : ℕ) → known_at new.index k ≡ known_at old.index k

-- A change of the key may be staged: its member's worker runs and leads nothing, none is under way, and a place is free and the room for a record is there.
pub record TakesChange (w : Worker) (k : ℕ) : Type 0 where
  pub held : IsAside w k
  pub runs : w.stopped ≡ false
  pub nothing : LeadsNothing w
  pub idle : is_busy w.places.items k ≡ false
  pub room : 0 < room_at w.index k
  pub place : HasFree w.places.items

-- The request was staged, and nothing else. What was tied stays tied, and the room rule holds.
pub record StagesChange (old new : Worker) (number : ℕ) (r : Request) : Type 0 where
  pub keeps : KeepsTies old new (key_of r)
  pub staged : IsStaged old new number r
  pub rule : HasKeptRoom new
  pub rest : OnlyStages old new

-- The request was answered by its cell, as far as what the region has is known, or staged where it changes something.
abbrev pub AnswersOrStages : Type 0 → Bool → Worker → Worker → Option (List ℕ) → ℕ → Request → Type 0
AnswersOrStages Known false old new cell n r = (reply : Reply) × IsSaid Known r (answer_to r cell) reply
    × IsAnswered old new (answer_with n reply None)
AnswersOrStages Known true old new cell n r = IsStaged old new n r

-- Where it is refused, that is its answer, with the first cause.
abbrev pub BeginsBy : Type 0 → Option Shortage → Worker → Worker → Option (List ℕ) → ℕ → Request
    → Type 0
BeginsBy Known (Some cause) old new cell n r = IsAnswered old new
    (answer_with n (reply_to cause) (Some cause))
BeginsBy Known None old new cell n r = AnswersOrStages Known (is_change r cell) old new cell n r

-- To begin a request of a key with this cell: a core that has stopped answers so.
abbrev pub BeginsAs : Type 0 → Bool → Worker → Worker → Option (List ℕ) → ℕ → Request → Type 0
BeginsAs Known true old new cell n r = IsAnswered old new (answer_with n Stopped None)
BeginsAs Known false old new cell n r = BeginsBy Known
    (why old.layout (supply_of old) old.allocator (last_of
    (known_at old.index (key_of r))) cell r) old new cell n r

abbrev pub Begins : Type 0 → Worker → Worker → Option (List ℕ) → ℕ → Request → Type 0
Begins Known old new cell n r = BeginsAs Known old.stopped old new cell n r

-- nothing but the queue differs
abbrev pub SameButQueue : Worker → Worker → Type 0
SameButQueue old new = new ≡ record old { queue = new.queue }

-- The waiting requests of a key are begun in order, until one is staged or none waits. Whoever winds down begins none.
abbrev pub BeginsAll : Type 0 → List Held → Worker → Worker → Option (List ℕ) → ℕ → Type 0
BeginsAll Known [] old new cell k = new ≡ old
BeginsAll Known (h ∷ hs) old new cell k =
    (next : Worker) × (mid : Worker)
    × TakesFirst old.queue next.queue k h × SameButQueue old next × OnlyBegins next mid
    × Begins Known next mid cell h.number h.request × UsesRoom next mid k
    × (((is_busy mid.places.items k ≡ true) × (new ≡ mid))
    ⊎ ((is_busy mid.places.items k ≡ false) × BeginsAll Known hs mid new cell k))

-- Some of them are begun. For the next one there was no memory: it is in hand, and the core winds down.
abbrev pub BeginsShort : Type 0 → List Held → Worker → Worker → Option (List ℕ) → ℕ → Type 0
BeginsShort Known [] old new cell k = ⊥
BeginsShort Known (h ∷ hs) old new cell k =
    (next : Worker) × TakesFirst old.queue next.queue k h × SameButQueue old next
    × ((new ≡ record next { in_hand = Some h; winds_down = true })
    ⊎ ((mid : Worker) × OnlyBegins next mid × Begins Known next mid cell h.number h.request
    × UsesRoom next mid k × (is_busy mid.places.items k ≡ false) × BeginsShort Known hs mid new cell k))

abbrev pub BeginsWaiting : Type 0 → Worker → Worker → Option (List ℕ) → ℕ → Type 0
BeginsWaiting Known old new cell k = BeginsAll Known (waiting old.queue k) old new cell k
