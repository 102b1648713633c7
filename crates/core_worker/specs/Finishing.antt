-- Finishing a change: its place is freed, its request answered, and what it replaced is put back.
use Rattle.std.specs.Prelude.{◌≡◌, ◌≢◌, ◌⊎◌, ℕ, ◌+◌, ◌≤◌, Bool, true, false, List, ◌∷◌, [], ◌++◌, length, Option, Some, None, IfSome, MatchOption}
use Rattle.pm_region.specs.State.{State, IsTelling}
use Rattle.fs_model.specs.declared.model.Reply.{Reply}
use Rattle.fs_model.specs.declared.model.Reply.TheVariants.{Stored, Deleted, Stopped}
use Rattle.log_entry.specs.declared.entry.Entry.{Entry}
use Rattle.log_entry.specs.declared.entry.Body.{Body}
use Rattle.log_entry.specs.declared.entry.Body.TheVariants as bodies
use Rattle.store_image.specs.Facts.{In}
use Rattle.conflict_queue.specs.Waiting.{waiting}
use Rattle.core_index.specs.Index.{Changes, all_untold, known_at, room_at}
use Rattle.core_index.specs.Records.{settled, block_of}
use Rattle.core_index.specs.Slots as slots
use Rattle.lazy_alloc.specs.Sets.{Sets, AreSets, PutsBack}
use Rattle.group_laws.specs.declared.types.Seen.TheVariants as loads
use Rattle.group_laws.specs.declared.types.SlotWord.TheVariants as words
use Rattle.group_laws.specs.declared.types.Slot.TheVariants.{Failed}
use Rattle.group_laws.specs.State.{Group}
use Rattle.group_laws.specs.Places as groups
use Rattle.group_laws.specs.MemberViews.{View}
use Rattle.group_board.specs.Views.{after_finish, after_give_up, TidiedIn}
use Rattle.core_worker.specs.declared.types.Place.{Place}
use Rattle.core_worker.specs.declared.types.Place.TheVariants.{Free, Staged, Posted}
use Rattle.core_worker.specs.declared.worker.Worker.{Worker}
use Rattle.core_worker.specs.OwnPlaces.{place_at, is_busy, Replaces}
use Rattle.core_worker.specs.Refusals.{HasAnswerRoom}
use Rattle.core_worker.specs.Supplies.{HasKeptRoom}
use Rattle.core_worker.specs.Ties.{Stands, Tie, HoldsBy, StandsBy}
use Rattle.core_worker.specs.Order.{InOrder, InOrderBy}
use Rattle.core_worker.specs.Beginning.{answers_of, answer_with, HasFree, HoldsAside, BeginsShort, BeginsWaiting}
use Rattle.core_worker.specs.Serving.{LeadsNothingYet, OthersWait, OnlyServes}
use Rattle.core_worker.specs.Hearing.{HearsAll}
use Rattle.core_worker.specs.StandingTies.{HearsOwn}

-- the number of the request whose change stands in a place
abbrev pub number_in : Place → Option ℕ
number_in Free = None
number_in (Staged number entry value) = Some number
number_in (Posted number key lines) = Some number

-- The place is free, and the request whose change stood in it has this reply. Nothing else differs.
pub record LetsGo (old new : Worker) (slot : ℕ) (reply : Reply) : Type 0 where
  pub number : ℕ
  pub was : number_in (place_at old.places.items slot) ≡ Some number
  pub places : Replaces old.places.items new.places.items slot Free
  pub answers : answers_of new ≡ answers_of old ++ answer_with number reply None ∷ []
  pub room : (n : ℕ) → HasAnswerRoom (n + 1) old → HasAnswerRoom n new
  pub rest : new ≡ record old { places = new.places; answers = new.answers }

-- a block is put back, where there is one
abbrev pub PutsBackIf : Sets → Sets → Option ℕ → Type 0
PutsBackIf old new None = new ≡ old
PutsBackIf old new (Some q) = PutsBack old new q

-- The index has the change, whose entry stands in the log of this core. Then the own dead names are told, and the block that it replaced is put back.
pub record Settles (old new : Worker) (e : Entry) (home : ℕ) : Type 0 where
  pub mid : List (ℕ × slots.Place)
  pub settled_now : Changes old.index mid e.key (Some (settled
      (known_at old.index e.key) e.version e.body home))
  pub used : room_at mid e.key + 1 ≡ room_at old.index e.key
  pub others : (k : ℕ) → k ≢ e.key → room_at mid k ≡ room_at old.index k
  pub heard : HearsAll old.core mid new.index
  pub told : HearsOwn old.core mid old.standing new.standing
  pub stands : length new.standing.entries ≡ length old.standing.entries
  pub untold : all_untold new.index ≤ all_untold old.index + 1
  pub sets : AreSets new.allocator
  pub block : PutsBackIf old.allocator new.allocator (block_of (known_at old.index e.key))
  pub rest : new ≡ record old {
    index = new.index;
    allocator = new.allocator;
    standing = new.standing;
  }

-- the reply of a change that is done, by what its entry leaves
abbrev pub done_reply : Body → Reply
done_reply (bodies.Pointer q) = Stored
done_reply (bodies.Embedded u) = Stored
done_reply bodies.Tombstone = Deleted

-- of one that is given back: it is done where it has a home
abbrev pub reply_back : Option ℕ → Body → Reply
reply_back None body = Stopped
reply_back (Some home) body = done_reply body

-- A change of a slot that was found given back: it is settled where it is done, and else the core stops. Then its place is free.
pub record TakesBack (p : groups.Place) (m slot : ℕ) (v u : View) (old new : Worker) : Type 0 where
  pub number : ℕ
  pub lines : ℕ
  pub entry : Entry
  pub home : Option ℕ
  pub place : place_at old.places.items slot ≡ Posted number entry.key lines
  pub pending : v.pending entry.key ≡ Some (record { entry = entry; slot = Some slot })
  pub seen : MatchOption home (In (loads.Slot m slot words.Failed) v.looked)
      (λ h. In (loads.Slot m slot (words.Done h)) v.looked)
  pub view : MatchOption home (TidiedIn p m (after_give_up entry v) u)
      (λ h. TidiedIn p m (after_finish entry h v) u)
  pub mid : Worker
  pub settles : MatchOption home (mid ≡ record old { stopped = true })
      (λ h. Settles old mid entry (groups.core_of p h))
  pub lets : LetsGo mid new slot (reply_back home entry.body)

-- the same, of a change of this key
abbrev pub TakesBackKey : groups.Place → ℕ → ℕ → View → View → Worker → Worker → ℕ → Type 0
TakesBackKey p m slot v u old new k = (x : TakesBack p m slot v u old new) × (x.entry.key ≡ k)

-- a load found the own slot Done or Failed
abbrev pub WasFoundBack : ℕ → ℕ → View → Type 0
WasFoundBack m slot v = In (loads.Slot m slot words.Failed) v.looked
    ⊎ ((h : ℕ) × In (loads.Slot m slot (words.Done h)) v.looked)

-- it stops only where an own slot was Failed, where the state is told
abbrev pub StopsByFailed : Option Group → ℕ → Worker → Worker → Type 0
StopsByFailed before m old new = new.stopped ≡ true → (old.stopped ≡ true)
    ⊎ IfSome before (λ a. (n : ℕ) × (d : Entry) × (a.slot m n ≡ Failed d))

-- Nothing of the key stands in a place any more, and what waits of it may be begun.
pub record MayBeginWaiting (w : Worker) (k : ℕ) : Type 0 where
  pub nothing : LeadsNothingYet w
  pub idle : is_busy w.places.items k ≡ false
  pub room : length (waiting w.queue k) ≤ room_at w.index k
  pub place : HasFree w.places.items
  pub answers : HasAnswerRoom (length (waiting w.queue k)) w
  pub others : OthersWait w k

-- the worker is tied there but for what waits of the key, which is one of the member's
pub record IsToServe (s : State) (w : Worker) (k : ℕ) (t : Tie) : Type 0 where
  pub holds : HoldsAside t.place t.number t.view w
  pub stands : StandsBy s t w
  pub order : InOrderBy t w
  pub own : groups.owner t.place k ≡ t.number

-- it is tied there
pub record IsServed (s : State) (w : Worker) (t : Tie) : Type 0 where
  pub holds : HoldsBy t w
  pub stands : StandsBy s t w
  pub order : InOrderBy t w

-- the key's waiting requests are begun, but by a core that winds down
abbrev pub Serves : Type 0 → Worker → Worker → Option (List ℕ) → ℕ → Type 0
Serves Known old new cell k = ((old.winds_down ≡ true) × (new ≡ old))
    ⊎ ((old.winds_down ≡ false) × BeginsWaiting Known old new cell k)

-- by each view that it may be tied to
abbrev pub ServesByEachView : State → Worker → Worker → ℕ → Type 0
ServesByEachView s old new k = (t : Tie) → IsToServe s old k t
    → Serves (IsTelling s) old new (t.view.cell k) k

-- for one of them there was no memory
abbrev pub ShortOf : Type 0 → Worker → Worker → Option (List ℕ) → ℕ → Type 0
ShortOf Known old new cell k = (old.winds_down ≡ false)
    × BeginsShort Known (waiting old.queue k) old new cell k

abbrev pub ServesShort : State → Worker → Worker → ℕ → Type 0
ServesShort s old new k = (t : Tie) → IsToServe s old k t
    → ShortOf (IsTelling s) old new (t.view.cell k) k

-- What a worker with view v that was tied is with view u, once a change of the key is out of its place.
pub record IsFreed (p : groups.Place) (m : ℕ) (v u : View) (old new : Worker) (k : ℕ) : Type 0 where
  pub holds : HoldsAside p m u new
  pub stands : (s : State) → Stands s p m v old → Stands s p m u new
  pub order : InOrder p m u new
  pub own : groups.owner p k ≡ m
  pub ready : MayBeginWaiting new k
  pub rule : HasKeptRoom old → HasKeptRoom new

-- The change is taken back and its place is free, and then the key's waiting requests are begun; `all` where none of them is in hand.
pub record FinishesSlot (s : State) (p : groups.Place) (m slot : ℕ) (v u : View) (old new : Worker)
    (all : Bool) : Type 0 where
  pub freed : Worker
  pub takes : TakesBack p m slot v u old freed
  pub rest : OnlyServes freed new
  pub begins : all ≡ true → Serves (IsTelling s) freed new (u.cell takes.entry.key) takes.entry.key
  pub short : all ≡ false → ShortOf (IsTelling s) freed new (u.cell takes.entry.key) takes.entry.key
