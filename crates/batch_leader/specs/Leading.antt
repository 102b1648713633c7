-- The states of a leader, and what the view has in each of the member m that leads, in a group at the place p. A seat says both; another seat of the same member will do as well.
use Rattle.std.specs.Prelude.{◌≡◌, ◌≢◌, ◌⊎◌, ℕ, zero, suc, ◌+◌, ◌-◌, ◌*◌, ◌<◌, ◌≤◌, ◌==◌, Bool, true, false, List, [], ◌∷◌, ◌++◌, length, Option, Some, None, IfSome, IsSomeAnd}
use Rattle.std.specs.List.{AllByRecursion}
use Rattle.pm_region.specs.Words.{lines_for}
use Rattle.log_entry.specs.declared.entry_limits.TheConstants.{LONGEST_ENTRY, LONGEST_ENTRY_LINES, MOST_ENTRIES}
use Rattle.log_entry.specs.Spelling.{words_of}
use Rattle.store_image.specs.Facts.{In}
use Rattle.core_log.specs.declared.types.Room.{Room}
use Rattle.group_laws.specs.declared.group_sizes.TheConstants.{SLOTS}
use Rattle.group_laws.specs.declared.types.Seen.{Seen}
use Rattle.group_laws.specs.declared.types.Seen.TheVariants.{Slot}
use Rattle.group_laws.specs.declared.types.SlotWord.{SlotWord}
use Rattle.group_laws.specs.Places.{Place, members}
use Rattle.group_laws.specs.State.{Group}
use Rattle.group_laws.specs.MemberViews.{View, view_of}
use Rattle.group_laws.specs.Runs.{Kind, Runs}
use Rattle.group_laws.specs.Runs.Kind.{Look, Take, Withdraw}
use Rattle.group_board.specs.Seats.{SeatAt}
use Rattle.log_entry.specs.declared.entry.Entry.{Entry}
use Rattle.group_board.specs.Assurances.{LacksName}
use Rattle.group_board.specs.Views.{after_take, after_withdraw}
use Rattle.group_board.specs.Told.{state_of}
use Rattle.group_board.specs.declared.board.SlotState.{SlotState}
use Rattle.group_board.specs.declared.board.SlotState.TheVariants as slots
use Rattle.group_board.specs.declared.change.Change.{Change}
use Rattle.batch_leader.specs.declared.taken.Taken.{Taken}
use Rattle.batch_leader.specs.declared.states.Collecting.{Collecting}
use Rattle.batch_leader.specs.declared.states.Batch.{Batch}
use Rattle.batch_leader.specs.declared.states.Collected.{Collected}
use Rattle.batch_leader.specs.declared.states.Collected.TheVariants.{Took, RoundOver}
use Rattle.batch_leader.specs.declared.states.Released.{Released}
use Rattle.batch_leader.specs.declared.states.Released.TheVariants as released
use Rattle.batch_leader.specs.TakenChanges.{entries_taken, HasOut}
use Rattle.batch_leader.specs.Rounds.{member_at, slot_at, round_end, own_lines, words_taken, space, left_free, fits, goes_fresh, Passes, shown_at}

-- what was taken so far
abbrev pub taken_by : Collecting → List Taken
taken_by c = c.changes.taken.items

-- the change is from a slot that the round of m has passed
abbrev pub IsFrom : ℕ → ℕ → Taken → Type 0
IsFrom m at t = (i : ℕ) × (i < at) × (t.member ≡ member_at m i) × (t.slot ≡ slot_at i)

-- No entry of the own log has the name of what was taken out of slot s of member a; an own change is the one pending in that slot.
pub record IsNew (m a s : ℕ) (v : View) (e : Entry) : Type 0 where
  pub new : LacksName v.kept e
  pub own : a ≡ m → v.pending e.key ≡ Some (record { entry = e; slot = Some s })

-- none of these is in the own log yet, and own ones are the changes pending in their slots
abbrev pub AreUnlogged : ℕ → View → List Taken → Type 0
AreUnlogged m v ts = AllByRecursion (λ t. IsNew m t.member t.slot v t.change.entry) ts

-- no two of the entries have one name
abbrev pub AreNamedApart : List Entry → Type 0
AreNamedApart [] = Unit {0}
AreNamedApart (e ∷ es) = LacksName es e × AreNamedApart es

-- The leader has the lock, and all that it took since is in its hands and in flight. Who is broken takes nothing.
pub record CollectsAt (p : Place) (m : ℕ) (v : View) (c : Collecting) : Type 0 where
  pub member : m < members p
  pub holds : v.holds ≡ true
  pub out : HasOut p v (taken_by c)
  pub flying : v.broken ≡ false → v.flying ≡ entries_taken (taken_by c)
  pub broken : v.broken ≡ true → taken_by c ≡ []
  pub passed : AllByRecursion (IsFrom m c.at) (taken_by c)
  pub within : c.at ≤ round_end p
  pub own : c.own_lines ≡ own_lines m (taken_by c)
  pub own_few : c.own_lines ≤ LONGEST_ENTRY_LINES * length (taken_by c)
  pub unlogged : AreUnlogged m v (taken_by c)
  pub named : AreNamedApart (entries_taken (taken_by c))

abbrev pub Collects : SeatAt → View → Collecting → Type 0
Collects seat v c = CollectsAt seat.place seat.number v c

-- The room rule as a leader is told of it: what is pledged fits in the open chunk, or two chunks are free. And it fits in a fresh chunk.
pub record IsKept (room : Room) : Type 0 where
  pub rule : (room.pledged_lines ≤ room.open_lines) ⊎ (2 ≤ room.free_chunks)
  pub fresh : room.pledged_lines ≤ room.payload_lines

-- Once a batch of so many words is written, with own entries of so many lines, what is pledged to others than these fits in its chunk, or two chunks are free.
abbrev pub LeavesRoom : Room → Bool → ℕ → ℕ → Type 0
LeavesRoom room fresh own n = (room.pledged_lines - own ≤ space room fresh - lines_for n)
    ⊎ (2 ≤ left_free room fresh)

-- There is a chunk with room for so many words; and where the room rule is kept, writing them leaves it so.
abbrev pub HasSpace : Room → Bool → ℕ → ℕ → Type 0
HasSpace room fresh own n = (lines_for n ≤ space room fresh) × (fresh ≡ true → 0 < room.free_chunks)
    × (IsKept room → LeavesRoom room fresh own n)

-- The entries have room in the batch's chunk, as this room tells it.
abbrev pub Suits : Room → Collecting → Type 0
Suits room c = taken_by c ≢ [] → HasSpace room c.fresh c.own_lines (words_taken (taken_by c))

-- looks of member m at n slots of its round, from a position on
abbrev pub looks_upto : ℕ → ℕ → ℕ → List (ℕ × Kind)
looks_upto m at zero = []
looks_upto m at (suc n) = looks_upto m at n ++ (
  m,
  Look (member_at m (at + n))
      (slot_at (at + n)),
) ∷ []

-- These steps lead from the one told state to the other, where member m's view is v.
abbrev pub MakesAll : Option Group → List (ℕ × Kind) → Option Group → ℕ → View → Type 0
MakesAll before steps after m v = IfSome before (λ w. IsSomeAnd after
    (λ u. Runs w steps u × (v ≡ view_of u m)))

-- nothing but what was looked at differs
abbrev pub HasLooked : View → View → Type 0
HasLooked old new = (xs : List Seen) × (new ≡ record old { looked = xs })

-- what a look found at a position of m's round, where the state is told
abbrev pub Found : Option Group → ℕ → ℕ → SlotState → Type 0
Found before m i x = IfSome before (λ w. shown_at w m i ≡ x)

-- a load of the slot at a position of m's round is among these, and showed this
abbrev pub IsFoundIn : List Seen → ℕ → ℕ → SlotState → Type 0
IsFoundIn looks m i x = (word : SlotWord) × (state_of word ≡ x)
    × In (Slot (member_at m i) (slot_at i) word) looks

-- What m's view has of its round besides what it had: a load of each slot from one position to before another, and what each showed is as P says.
pub record Saw (old new : View) (m first end : ℕ) (P : ℕ → SlotState → Type 0) : Type 0 where
  pub looks : List Seen
  pub more : new.looked ≡ old.looked ++ looks
  pub found : (i : ℕ) → first ≤ i → i < end → (x : SlotState) × P i x × IsFoundIn looks m i x

-- the entry that a look found fits, and has so many words
pub record Fits (room : Room) (lines : ℕ) (ts : List Taken) (fresh mine : Bool) (x : SlotState)
    (n : ℕ) : Type 0 where
  pub posted : x ≡ slots.Posted n
  pub short : n ≤ LONGEST_ENTRY
  pub fits : fits room lines ts fresh mine n ≡ true

-- The leader took the change of the slot at the position before `new.at`, which fits.
pub record Takes (room : Room) (m : ℕ) (v v' : View) (old new : Collecting) : Type 0 where
  pub change : Taken
  pub taken : taken_by new ≡ taken_by old ++ change ∷ []
  pub on : old.at < new.at
  pub member : change.member ≡ member_at m (new.at - 1)
  pub slot : change.slot ≡ slot_at (new.at - 1)
  pub home : change.change.home ≡ None
  pub fits : fits room (own_lines m (taken_by old)) (taken_by old) old.fresh (change.member == m)
      (length (words_of change.change.entry)) ≡ true
  pub fresh : new.fresh ≡ goes_fresh room (taken_by old) old.fresh
      (length (words_of change.change.entry))
  pub over : new.over ≡ false
  pub view : v' ≡ after_take change.member change.slot change.change.entry v

-- The leader took nothing.
pub record Keeps (v v' : View) (old new : Collecting) : Type 0 where
  pub changes : new.changes ≡ old.changes
  pub fresh : new.fresh ≡ old.fresh
  pub own : new.own_lines ≡ old.own_lines
  pub on : old.at ≤ new.at
  pub view : HasLooked v v'

-- Each slot that it passed it found not Posted, or with an entry that doesn't fit.
abbrev pub Passed : Option Group → Room → ℕ → Collecting → ℕ → Type 0
Passed before room m old end =
    (i : ℕ) → old.at ≤ i → i < end → (x : SlotState)
    × Passes room (own_lines m (taken_by old)) (taken_by old) old.fresh (member_at m i == m) x
    × Found before m i x

-- what a look shows at a position makes this leader pass the slot
abbrev pub PassesAt : Room → ℕ → Collecting → ℕ → SlotState → Type 0
PassesAt room m old i x = Passes room (own_lines m (taken_by old)) (taken_by old) old.fresh
    (member_at m i == m) x

-- what it saw of the slots that it passed, where it took nothing
abbrev pub SawPassed : Room → ℕ → View → View → Collecting → Collecting → Type 0
SawPassed room m v v' old new = Saw v v' m old.at new.at (PassesAt room m old)

-- Of the slots of its round it passed some, and took the change of the next one where `took` says so.
abbrev pub Went : Bool → Option Group → Room → ℕ → View → View → Collecting → Collecting → Type 0
Went true before room m v v' old new = Takes room m v v' old new
    × Passed before room m old (new.at - 1)
Went false before room m v v' old new = Keeps v v' old new × Passed before room m old new.at

-- the steps of this: looks, and one take
abbrev pub steps_of : Bool → ℕ → Collecting → Collecting → List (ℕ × Kind)
steps_of true m old new = looks_upto m old.at (new.at - old.at)
    ++ (m, Take (member_at m (new.at - 1)) (slot_at (new.at - 1))) ∷ []
steps_of false m old new = looks_upto m old.at (new.at - old.at)

abbrev pub took : Collected → Bool
took Took = true
took RoundOver = false

-- the round is over: its last slot is behind, or as many entries as a batch may have are there
abbrev pub IsOver : SeatAt → Collecting → Type 0
IsOver seat c = (c.at ≡ round_end seat.place) ⊎ (length (taken_by c) ≡ MOST_ENTRIES)

-- The own slots are the first ones of the round. Those below a number were found not Posted.
abbrev pub IsNotPosted : SlotState → Type 0
IsNotPosted x = (n : ℕ) → x ≢ slots.Posted n

abbrev pub NonePosted : Option Group → ℕ → ℕ → Type 0
NonePosted before m end = (i : ℕ) → i < end → (x : SlotState) × IsNotPosted x × Found before m i x

-- what it saw of the own slots below a number
abbrev pub SawNonePosted : ℕ → View → View → ℕ → Type 0
SawNonePosted m v v' end = Saw v v' m 0 end (λ i x. IsNotPosted x)

-- The own change of a slot was taken back, which was the lowest one found Posted.
pub record TakesBack (before after : Option Group) (m : ℕ) (v v' : View)
    (change : Change) : Type 0 where
  pub slot : ℕ
  pub within : slot < SLOTS
  pub lower : NonePosted before m slot
  pub home : change.home ≡ None
  pub pending : v.pending change.entry.key ≡ Some (record {
    entry = change.entry;
    slot = Some slot;
  })
  pub view : v' ≡ after_withdraw change.entry v
  pub made : MakesAll before (looks_upto m 0 (slot + 1) ++ (m, Withdraw slot) ∷ []) after m v'

-- No own slot was found Posted.
pub record FindsNone (before after : Option Group) (m : ℕ) (v v' : View) : Type 0 where
  pub none : NonePosted before m SLOTS
  pub view : HasLooked v v'
  pub made : MakesAll before (looks_upto m 0 SLOTS) after m v'

-- A batch that is to be written: its entries are in flight, in this order, and the lock is given back.
pub record IsBatchAt (p : Place) (m : ℕ) (v : View) (b : Batch) : Type 0 where
  pub member : m < members p
  pub out : HasOut p v b.changes.taken.items
  pub flying : v.flying ≡ entries_taken b.changes.taken.items
  pub whole : v.broken ≡ false
  pub own : b.own_lines ≡ own_lines m b.changes.taken.items
  pub unlogged : AreUnlogged m v b.changes.taken.items
  pub named : AreNamedApart (entries_taken b.changes.taken.items)

abbrev pub IsBatchOf : SeatAt → View → Batch → Type 0
IsBatchOf seat v b = IsBatchAt seat.place seat.number v b

-- Changes to be given back as certain, and as failed.
pub record IsCertainAt (p : Place) (m : ℕ) (v : View) (ts : List Taken) : Type 0 where
  pub member : m < members p
  pub out : HasOut p v ts
  pub kept : AllByRecursion (λ t. In t.change.entry v.kept) ts

abbrev pub IsCertain : SeatAt → View → List Taken → Type 0
IsCertain seat v ts = IsCertainAt seat.place seat.number v ts

pub record IsLostAt (p : Place) (m : ℕ) (v : View) (ts : List Taken) : Type 0 where
  pub member : m < members p
  pub out : HasOut p v ts
  pub flying : AllByRecursion (λ t. In t.change.entry v.flying) ts

abbrev pub IsLost : SeatAt → View → List Taken → Type 0
IsLost seat v ts = IsLostAt seat.place seat.number v ts

-- What is left of a leader that gave the lock back: a batch of all that it took, or its room where it took nothing.
abbrev pub IsReleased : SeatAt → View → Collecting → Released → Type 0
IsReleased seat v c (released.Batch b) = IsBatchOf seat v b × (b.changes ≡ c.changes)
    × (b.fresh ≡ c.fresh) × (b.own_lines ≡ c.own_lines)
IsReleased seat v c (released.Nothing b) = (taken_by c ≡ []) × (v.broken ≡ false → v.flying ≡ [])
    × ((a s : ℕ) → v.taken a s ≡ None)
