-- One turn of a core as a relation of what it was and what it is: which item it did, what it loaded before, and why it passed the items before that one.
use Rattle.std.specs.Prelude.{◌≡◌, ◌≢◌, ◌⊎◌, ℕ, ◌+◌, ◌<◌, ◌≤◌, Bool, true, false, List, [], ◌∷◌, ◌++◌, length, map, Option, Some, None}
use Rattle.pm_region.specs.Words.{lines_for}
use Rattle.group_laws.specs.declared.group_sizes.TheConstants.{SLOTS}
use Rattle.pm_region.specs.State.{State}
use Rattle.log_entry.specs.declared.entry.Entry.{Entry}
use Rattle.store_image.specs.Facts.{In}
use Rattle.group_laws.specs.declared.types.Seen.{Seen}
use Rattle.group_laws.specs.declared.types.Seen.TheVariants.{Slot, Holder, Mail}
use Rattle.group_laws.specs.declared.types.SlotWord.{SlotWord}
use Rattle.group_laws.specs.declared.types.SlotWord.TheVariants as words
use Rattle.group_board.specs.Mailing.{notices_of}
use Rattle.group_laws.specs.Places.{Place}
use Rattle.group_laws.specs.State.{Group}
use Rattle.group_laws.specs.Runs.{Kind}
use Rattle.log_entry.specs.Spelling.{words_of}
use Rattle.core_log.specs.Chunk.{padded}
use Rattle.log_cleaner.specs.Floors.{Searches}
use Rattle.log_cleaner.specs.Clearing.{ClearingState}
use Rattle.log_cleaner.specs.declared.types.Victim.{Victim}
use Rattle.group_laws.specs.MemberViews.{View}
use Rattle.group_board.specs.Views.{after_post, after_lock, after_find, after_unlock, after_commit, after_mark, after_fail, after_send}
use Rattle.group_board.specs.Seats.{SeatAt}
use Rattle.batch_leader.specs.TakenChanges.{entries_taken, spelled, taken_in}
use Rattle.batch_leader.specs.Leading.{MakesAll, Went, IsReleased, IsOver, SawPassed}
use Rattle.batch_leader.specs.Persisting.{opened_for}
use Rattle.batch_leader.specs.declared.states.Collecting.{Collecting}
use Rattle.batch_leader.specs.declared.states.Released.{Released}
use Rattle.batch_leader.specs.declared.states.Released.TheVariants as released
use Rattle.batch_leader.specs.declared.states.Batch.{Batch}
use Rattle.batch_leader.specs.declared.states.Persisted.{Persisted}
use Rattle.batch_leader.specs.declared.states.FailedBatch.{FailedBatch}
use Rattle.batch_leader.specs.declared.batch_buffer.BatchBuffer.{BatchBuffer}
use Rattle.batch_leader.specs.declared.taken.Taken.{Taken}
use Rattle.core_worker.specs.declared.types.Cleaning.TheVariants.{Nothing, Copying, Doomed}
use Rattle.core_worker.specs.declared.types.Leading.{Leading}
use Rattle.core_worker.specs.declared.types.Leading.TheVariants as leads
use Rattle.core_worker.specs.declared.types.Place.{Place as WorkerPlace}
use Rattle.core_worker.specs.declared.types.Place.TheVariants.{Free, Staged, Posted}
use Rattle.core_worker.specs.declared.worker.Worker.{Worker}
use Rattle.core_worker.specs.OwnPlaces.{place_at, is_staged, is_posted, IsLowest, HasNone, Replaces}
use Rattle.core_worker.specs.BeginsCleaning.{BeginsNone, BeginsOne}
use Rattle.core_worker.specs.CopyItems.{CopiesOn, LeavesCopies, LosesCopies, MisreadsCopies}
use Rattle.core_worker.specs.DoomsNames.{DoomsIn}
use Rattle.core_worker.specs.EndsCleaning.{EndsIn}
use Rattle.core_worker.specs.Ties.{LeadsNothing}
use Rattle.core_worker.specs.StandingTies.{AddsNames}
pub use Rattle.core_worker.specs.TakenChunks.{TakesChunkIf, appended_to}
use Rattle.core_worker.specs.Order.{InOrder}
use Rattle.core_worker.specs.Supplies.{room_for, under_way}
use Rattle.core_worker.specs.Finishing.{FinishesSlot}
use Rattle.core_worker.specs.Mails.{Hears, NoneTold, PassesMail}
use Rattle.core_worker.specs.CleaningLeft.{notices_left}
use Rattle.core_worker.specs.Readying.{FindsFull, PassesSending, Readies, TakesDead}
use Rattle.core_worker.specs.Sending.{EmptiesBox}

-- some steps of member m lead from the one told state to the other
abbrev pub Steps : Option Group → Option Group → ℕ → View → Type 0
Steps before after m v = (steps : List Kind) × MakesAll before (map (λ y. (m, y)) steps) after m v

-- some steps, or none after a fault
abbrev pub MadeOrStops : Bool → Option Group → Option Group → ℕ → View → View → Type 0
MadeOrStops true before after m v u = (after ≡ before) × (u ≡ v)
MadeOrStops false before after m v u = Steps before after m u

-- A core at one moment: its worker, and its view.
pub record Moment : Type 0 where
  pub worker : Worker
  pub view : View

-- the same at a seat
abbrev pub InOrderAt : SeatAt → View → Worker → Type 0
InOrderAt seat v w = InOrder seat.place seat.number v w

-- nothing but what it leads differs
abbrev pub SameButLeading : Worker → Worker → Type 0
SameButLeading old new = new ≡ record old { leading = new.leading }

-- what a lead that was given back leaves
abbrev pub led_by : Released → Leading
led_by (released.Batch b) = leads.Batch b
led_by (released.Nothing b) = leads.Nothing b

abbrev pub first_is : List Taken → Taken → List Taken → Type 0
first_is all t rest = all ≡ t ∷ rest

-- what leads on: a state with these changes left, or nothing once the last is given back
abbrev pub persisted_left : List Taken → Leading → Type 0
persisted_left ts new = ((ts ≢ []) × ((x : Persisted) × (x.left.taken.items ≡ ts)
    × (new ≡ leads.Persisted x))) ⊎ ((ts ≡ []) × ((d : BatchBuffer) × (new ≡ leads.Nothing d)))

abbrev pub failed_left : List Taken → Leading → Type 0
failed_left ts new = ((ts ≢ []) × ((x : FailedBatch) × (x.left.taken.items ≡ ts)
    × (new ≡ leads.Failed x))) ⊎ ((ts ≡ []) × ((d : BatchBuffer) × (new ≡ leads.Nothing d)))

-- Item 1, the take: the round goes on to the next slot that fits.
pub record Collects (before : Option Group) (m : ℕ) (a b : Moment) : Type 0 where
  pub old : Collecting
  pub new : Collecting
  pub led : a.worker.leading ≡ leads.Collecting old
  pub leads_now : b.worker.leading ≡ leads.Collecting new
  pub runs : a.worker.stopped ≡ false
  pub went : Went true before (room_for a.worker) m a.view b.view old new
  pub same : SameButLeading a.worker b.worker

-- Item 1, the unlock: no further slot fits up to the round's end.
pub record Releases (before : Option Group) (seat : SeatAt) (a b : Moment) : Type 0 where
  pub old : Collecting
  pub last : Collecting
  pub mid : View
  pub given : Released
  pub led : a.worker.leading ≡ leads.Collecting old
  pub leads_now : b.worker.leading ≡ led_by given
  pub runs : a.worker.stopped ≡ false
  pub went : Went false before (room_for a.worker) seat.number a.view mid old last
  pub over : last.over ≡ true
  pub end : IsOver seat last
  pub seen : SawPassed (room_for a.worker) seat.number a.view mid old last
  pub released : IsReleased seat b.view last given
  pub view : b.view ≡ after_unlock mid
  pub same : SameButLeading a.worker b.worker

-- a place that pledges nothing any more, where it was posted
abbrev pub unpledged : WorkerPlace → WorkerPlace
unpledged Free = Free
unpledged (Staged number entry value) = Staged number entry value
unpledged (Posted number key lines) = Posted number key 0

abbrev pub unpledged_if : Bool → WorkerPlace → WorkerPlace
unpledged_if true x = unpledged x
unpledged_if false x = x

-- The place of an own entry that was committed pledges nothing any more; what was taken pledged its lines until then.
abbrev pub UnpledgedAt : Option Entry → WorkerPlace → WorkerPlace → Type 0
UnpledgedAt None old new = new ≡ old
UnpledgedAt (Some e) old new = (number : ℕ) × (old
    ≡ Posted number e.key (lines_for (length (words_of e)))) × (new ≡ Posted number e.key 0)

-- so it is with each place of m, of which these were committed
abbrev pub Unpledges : ℕ → List Taken → Worker → Worker → Type 0
Unpledges m ts old new = (s : ℕ) → UnpledgedAt (taken_in ts m s) (place_at old.places.items s)
    (place_at new.places.items s)

-- Item 2: the batch is appended, where it was collected for one in a fresh chunk, the lowest free one; and committed.
pub record Persists (m : ℕ) (a b : Moment) : Type 0 where
  pub batch : Batch
  pub done : Persisted
  pub led : a.worker.leading ≡ leads.Batch batch
  pub leads_now : b.worker.leading ≡ leads.Persisted done
  pub gives : done.left.taken.items ≡ batch.changes.taken.items
  pub fresh : Option ℕ
  pub chunk : TakesChunkIf batch.fresh a.worker.allocator b.worker.allocator fresh
  pub log : b.worker.log ≡ appended_to (opened_for a.worker.log fresh)
      (padded (spelled batch.changes.taken.items))
  pub pledged : Unpledges m batch.changes.taken.items a.worker b.worker
  pub view : b.view ≡ after_commit a.view
  -- the names stand in the log now; for the next batch there may be no memory
  pub names : a.worker.winds_down ≡ false → AddsNames a.worker.standing b.worker.standing
      (entries_taken batch.changes.taken.items)
  pub stands : length b.worker.standing.entries
      ≤ length a.worker.standing.entries + length batch.changes.taken.items
  pub winds : a.worker.winds_down ≡ true → b.worker.winds_down ≡ true
  pub same : b.worker ≡ record a.worker {
    log = b.worker.log;
    allocator = b.worker.allocator;
    places = b.worker.places;
    leading = b.worker.leading;
    standing = b.worker.standing;
    winds_down = b.worker.winds_down;
  }

-- Item 2 at a fault: no event is made, and the core stops.
pub record LosesBatch (a b : Moment) : Type 0 where
  pub batch : Batch
  pub lost : FailedBatch
  pub led : a.worker.leading ≡ leads.Batch batch
  pub leads_now : b.worker.leading ≡ leads.Failed lost
  pub gives : lost.left.taken.items ≡ batch.changes.taken.items
  pub stopped : b.worker.stopped ≡ true
  pub noted : b.worker.lost_batch ≡ true
  pub stands : length b.worker.standing.entries
      ≤ length a.worker.standing.entries + length batch.changes.taken.items
  pub view : b.view ≡ a.view
  pub same : b.worker ≡ record a.worker {
    log = b.worker.log;
    allocator = b.worker.allocator;
    leading = b.worker.leading;
    standing = b.worker.standing;
    stopped = true;
    lost_batch = true;
  }

-- Item 3: the next change is given back. With the last one the core leads no more.
pub record Marks (a b : Moment) : Type 0 where
  pub done : Persisted
  pub first : Taken
  pub rest : List Taken
  pub led : a.worker.leading ≡ leads.Persisted done
  pub order : done.left.taken.items ≡ first ∷ rest
  pub leads_now : persisted_left rest b.worker.leading
  pub view : b.view ≡ after_mark first.member first.slot a.view
  pub same : SameButLeading a.worker b.worker

pub record Fails (a b : Moment) : Type 0 where
  pub lost : FailedBatch
  pub first : Taken
  pub rest : List Taken
  pub led : a.worker.leading ≡ leads.Failed lost
  pub order : lost.left.taken.items ≡ first ∷ rest
  pub leads_now : failed_left rest b.worker.leading
  pub view : b.view ≡ after_fail first.member first.slot a.view
  pub same : SameButLeading a.worker b.worker

-- What the loads of this turn found: of its posted places, lowest first, each slot up to a place. Loads of earlier turns don't count.
pub record Looked (m : ℕ) (a : Moment) (upto : ℕ) (v : View) : Type 0 where
  pub found : ℕ → SlotWord
  pub looks : List Seen
  pub view : v ≡ record a.view { looked = a.view.looked ++ looks }
  pub seen : (s : ℕ) → s < upto → is_posted (place_at a.worker.places.items s) ≡ true
      → In (Slot m s (found s)) looks

-- below a place a posted one was found that nobody had taken
abbrev pub FindsPosted : List WorkerPlace → (ℕ → SlotWord) → ℕ → Type 0
FindsPosted ps found upto = (s n : ℕ) × (s < upto) × (is_posted (place_at ps s) ≡ true)
    × (found s ≡ words.Posted n)

abbrev pub IsBack : SlotWord → Type 0
IsBack words.Empty = ⊥
IsBack (words.Posted n) = ⊥
IsBack words.Taken = ⊥
IsBack (words.Done h) = Unit {0}
IsBack words.Failed = Unit {0}

-- it leads nothing, and found none of its posted places given back below a place
pub record PassesItems (m : ℕ) (a : Moment) (upto : ℕ) (v : View) : Type 0 where
  pub free : LeadsNothing a.worker
  pub looked : Looked m a upto v
  pub none : (s : ℕ) → s < upto → is_posted (place_at a.worker.places.items s) ≡ true
      → IsBack (looked.found s) → ⊥

-- some loads found the slot given back
abbrev pub FoundBack : ℕ → ℕ → List Seen → Type 0
FoundBack m slot looks = (word : SlotWord) × IsBack word × In (Slot m slot word) looks

-- Item 4: the lowest posted place that this turn's own load found given back is finished, and then the key's waiting requests are begun; `all` where there was memory for it.
pub record Finishes (s : State) (p : Place) (m : ℕ) (a b : Moment) (all : Bool) : Type 0 where
  pub slot : ℕ
  pub mid : View
  pub before : PassesItems m a slot mid
  pub back : FoundBack m slot before.looked.looks
  pub finishes : FinishesSlot s p m slot mid b.view a.worker b.worker all

-- Item 5: the lowest staged place writes its block, where it has one, and posts.
pub record Posts (m : ℕ) (a b : Moment) : Type 0 where
  pub slot : ℕ
  pub number : ℕ
  pub entry : Entry
  pub value : List ℕ
  pub lines : ℕ
  pub mid : View
  pub before : PassesItems m a SLOTS mid
  pub runs : (a.worker.stopped ≡ false) × (a.worker.winds_down ≡ false)
  pub lowest : IsLowest is_staged a.worker.places.items slot
  pub place : place_at a.worker.places.items slot ≡ Staged number entry value
  pub pledges : lines ≡ lines_for (length (words_of entry))
  pub places : Replaces a.worker.places.items b.worker.places.items slot
      (Posted number entry.key lines)
  pub view : b.view ≡ after_post slot entry value mid
  pub same : b.worker ≡ record a.worker { places = b.worker.places; allocator = b.worker.allocator }

-- Item 5 at a fault: the block of the lowest staged change couldn't be written, or a fault was counted meanwhile. The change stays staged, and the core stops.
pub record LosesBlock (m : ℕ) (a b : Moment) : Type 0 where
  pub slot : ℕ
  pub mid : View
  pub before : PassesItems m a SLOTS mid
  pub runs : (a.worker.stopped ≡ false) × (a.worker.winds_down ≡ false)
  pub lowest : IsLowest is_staged a.worker.places.items slot
  pub view : b.view ≡ mid
  pub same : b.worker ≡ record a.worker { allocator = b.worker.allocator; stopped = true }

-- Why item 5 is passed: nothing is staged, the gate answered false, or the worker winds down.
abbrev pub PassesPost : Bool → Worker → Type 0
PassesPost refused w = HasNone is_staged w.places.items ⊎ ((refused ≡ true) ⊎ (w.winds_down ≡ true))

-- Item 6: what the lowest member with a full mailbox told is received.
pub record Receives (refused : Bool) (p : Place) (m : ℕ) (a b : Moment) : Type 0 where
  pub mid : View
  pub before : PassesItems m a SLOTS mid
  pub post : PassesPost refused a.worker
  pub runs : (a.worker.stopped ≡ false) × (a.worker.winds_down ≡ false)
  pub from : ℕ
  pub empty : (h : ℕ) → h < from → h ≢ m → In (Mail h m false) before.looked.looks
  pub hears : Hears p m from mid b.view a.worker b.worker

-- Item 6: no member told it anything, and all that waits for the lowest other member with an empty mailbox, for which something waits, is sent.
pub record Sends (refused : Bool) (p : Place) (m : ℕ) (a b : Moment) : Type 0 where
  pub mid : View
  pub before : PassesItems m a SLOTS mid
  pub post : PassesPost refused a.worker
  pub runs : (a.worker.stopped ≡ false) × (a.worker.winds_down ≡ false)
  pub empty : NoneTold p m before.looked.looks
  pub to : ℕ
  pub other : to ≢ m
  pub ready : Worker
  pub readies : Readies p m (to + 1) a.worker ready
  pub full : FindsFull m to ready before.looked.looks
  pub box : EmptiesBox to ready b.worker
  pub some : 0 < notices_left (notices_of box.old)
  pub view : b.view ≡ after_send to (notices_of box.old) mid

-- Item 6 without memory for what is to be sent, or for a cleaning: the core winds down. What awaited may wait to be sent now, and a chunk to clean may have been looked for.
pub record WindsDown (refused : Bool) (p : Place) (m : ℕ) (a b : Moment) : Type 0 where
  pub mid : View
  pub before : PassesItems m a SLOTS mid
  pub post : PassesPost refused a.worker
  pub runs : (a.worker.stopped ≡ false) × (a.worker.winds_down ≡ false)
  pub empty : NoneTold p m before.looked.looks
  pub ready : Worker
  pub takes : TakesDead p a.worker ready
  pub winds : ready.winds_down ≡ true
  pub same : b.worker ≡ record ready { standing = b.worker.standing }
  pub names : Searches ready.standing b.worker.standing
  pub view : b.view ≡ mid

-- Item 6, the doom: nothing of the chunk that is cleaned is left to be copied, and the names that vanish with it are doomed.
pub record Dooms (s : State) (refused : Bool) (p : Place) (m : ℕ) (a b : Moment) : Type 0 where
  pub mid : View
  pub before : PassesItems m a SLOTS mid
  pub post : PassesPost refused a.worker
  pub mail : PassesMail p m a.worker before.looked.looks
  pub ready : Worker
  pub sending : PassesSending p m a.worker ready before.looked.looks
  pub dooms : DoomsIn s p m mid b.view ready b.worker

-- Item 6, the end of a cleaning: its chunk is free again, and what stood there alone is gone.
pub record Clears (refused : Bool) (p : Place) (m : ℕ) (a b : Moment) : Type 0 where
  pub mid : View
  pub before : PassesItems m a SLOTS mid
  pub post : PassesPost refused a.worker
  pub mail : PassesMail p m a.worker before.looked.looks
  pub ready : Worker
  pub sending : PassesSending p m a.worker ready before.looked.looks
  pub clearing : ClearingState
  pub is : ready.clearing ≡ Some clearing
  pub ends : EndsIn p m mid b.view ready b.worker clearing

-- Item 6 at a fault: the chunk could not be made free, and the core stops.
pub record LosesClearing (refused : Bool) (p : Place) (m : ℕ) (a b : Moment) : Type 0 where
  pub mid : View
  pub before : PassesItems m a SLOTS mid
  pub post : PassesPost refused a.worker
  pub mail : PassesMail p m a.worker before.looked.looks
  pub ready : Worker
  pub sending : PassesSending p m a.worker ready before.looked.looks
  pub runs : ready.stopped ≡ false
  pub dooms : (j : ℕ) × (under_way ready ≡ Doomed j)
  pub view : b.view ≡ mid
  pub same : b.worker ≡ record ready { clearing = None; stopped = true }

-- Item 6, copies: the next batch of the chunk that is cleaned is copied, as far as there is room and the region reads as before. What it copies stays certain, and the view as it is.
pub record Copies (t : State) (refused : Bool) (p : Place) (m : ℕ) (a b : Moment) : Type 0 where
  pub mid : View
  pub before : PassesItems m a SLOTS mid
  pub post : PassesPost refused a.worker
  pub mail : PassesMail p m a.worker before.looked.looks
  pub ready : Worker
  pub sending : PassesSending p m a.worker ready before.looked.looks
  pub runs : ready.stopped ≡ false
  pub victim : Victim
  pub first : Bool
  pub way : under_way ready ≡ Copying victim first
  pub some : 0 < victim.entries
  pub copies : (CopiesOn victim first ready b.worker × (b.view ≡ after_commit mid))
      ⊎ ((LeavesCopies victim first ready b.worker × (b.view ≡ mid))
      ⊎ (MisreadsCopies t victim first ready b.worker × (b.view ≡ after_commit mid)))

-- Item 6 at a fault: the batch of copies could not be written, and the core stops.
pub record LosesBatchOfCopies (refused : Bool) (p : Place) (m : ℕ) (a b : Moment) : Type 0 where
  pub mid : View
  pub before : PassesItems m a SLOTS mid
  pub post : PassesPost refused a.worker
  pub mail : PassesMail p m a.worker before.looked.looks
  pub ready : Worker
  pub sending : PassesSending p m a.worker ready before.looked.looks
  pub runs : ready.stopped ≡ false
  pub victim : Victim
  pub first : Bool
  pub way : under_way ready ≡ Copying victim first
  pub view : b.view ≡ mid
  pub lost : LosesCopies first ready b.worker

-- Item 6, the beginning: no cleaning is under way, and one of the next victim begins.
pub record BeginsToClean (s : State) (refused : Bool) (p : Place) (m : ℕ) (a b : Moment) :
    Type 0 where
  pub mid : View
  pub before : PassesItems m a SLOTS mid
  pub post : PassesPost refused a.worker
  pub mail : PassesMail p m a.worker before.looked.looks
  pub ready : Worker
  pub sending : PassesSending p m a.worker ready before.looked.looks
  pub clean : under_way ready ≡ Nothing
  pub begins : BeginsOne s ready b.worker
  pub view : b.view ≡ mid

-- Item 7: no cleaning is under way and none begins, an own slot was found Posted, and the lock is tried and had.
pub record Locks (s : State) (refused : Bool) (p : Place) (m : ℕ) (a b : Moment) : Type 0 where
  pub mid : View
  pub before : PassesItems m a SLOTS mid
  pub post : PassesPost refused a.worker
  pub mail : PassesMail p m a.worker before.looked.looks
  pub ready : Worker
  pub sending : PassesSending p m a.worker ready before.looked.looks
  pub clean : under_way ready ≡ Nothing
  pub looked : Worker
  pub begins : BeginsNone s ready looked
  pub posted : FindsPosted a.worker.places.items before.looked.found SLOTS
  pub view : b.view ≡ after_lock mid
  pub leads_now : (c : Collecting) × (b.worker.leading ≡ leads.Collecting c) × (c.at ≡ 0)
  pub same : SameButLeading looked b.worker

-- Item 8: nothing applied. No cleaning is under way and none begins, and no own slot was found Posted, or the try found a holder.
pub record Idles (s : State) (refused : Bool) (p : Place) (m : ℕ) (a b : Moment) : Type 0 where
  pub mid : View
  pub before : PassesItems m a SLOTS mid
  pub post : PassesPost refused a.worker
  pub mail : PassesMail p m a.worker before.looked.looks
  pub ready : Worker
  pub sending : PassesSending p m a.worker ready before.looked.looks
  pub clean : under_way ready ≡ Nothing
  pub looked : Worker
  pub begins : BeginsNone s ready looked
  pub lock : ((FindsPosted a.worker.places.items before.looked.found SLOTS → ⊥) × (b.view ≡ mid))
      ⊎ (FindsPosted a.worker.places.items before.looked.found SLOTS
      × ((h : ℕ) × (h ≢ m) × (b.view ≡ after_find (Holder h) mid)))
  pub free : LeadsNothing b.worker
  pub same : SameButLeading looked b.worker

-- item 2 was done, or failed and stopped the core
abbrev pub PersistsOrLoses : Bool → ℕ → Moment → Moment → Type 0
PersistsOrLoses false m a b = Persists m a b
PersistsOrLoses true m a b = LosesBatch a b

-- a try of the lock: it is had, or a holder was found
abbrev pub TriesLock : Bool → ℕ → View → View → Worker → Worker → Type 0
TriesLock true m v u old new = (u ≡ after_lock v) × ((c : Collecting)
    × (new.leading ≡ leads.Collecting c) × (c.at ≡ 0)) × SameButLeading old new
TriesLock false m v u old new = ((h : ℕ) × (h ≢ m) × (u ≡ after_find (Holder h) v))
    × LeadsNothing new × SameButLeading old new

-- item 1 of a core that hasn't stopped
abbrev pub GoesRound : Option Group → SeatAt → Moment → Moment → Type 0
GoesRound before seat a b = Collects before seat.number a b ⊎ Releases before seat a b
