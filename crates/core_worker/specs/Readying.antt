-- How a core makes ready what it has to tell, sends what waits for the lowest member whose mailbox is empty, and finds that it can send nothing.
use Rattle.std.specs.Prelude.{◌≡◌, ◌≢◌, ◌⊎◌, ℕ, ◌+◌, ◌<◌, ◌≤◌, Bool, true, false, List, ◌++◌, length, Option, Some, slice_get, option_map, Result, Ok, Err}
use Rattle.fs_model.specs.declared.memory.Memory.{Memory}
use Rattle.log_entry.specs.declared.entry.EntryName.{EntryName}
use Rattle.store_image.specs.Facts.{In}
use Rattle.core_index.specs.Index.{known_at, all_untold, SameRoom}
use Rattle.core_index.specs.Records.{Awaits, standing_at, standing_of, standing_with}
use Rattle.core_index.specs.Slots as slots
use Rattle.group_board.specs.declared.names.Notices.{Notices}
use Rattle.group_board.specs.Mailing.{notices_of}
use Rattle.group_laws.specs.declared.types.Seen.{Seen}
use Rattle.group_laws.specs.declared.types.Seen.TheVariants.{Mail}
use Rattle.group_laws.specs.Places.{Place, members, core_of}
use Rattle.group_laws.specs.State.{Group}
use Rattle.group_laws.specs.Runs.{Kind}
use Rattle.group_laws.specs.Updates.{has}
use Rattle.group_laws.specs.MemberViews.{View}
use Rattle.group_board.specs.Seats.{SeatAt}
use Rattle.group_board.specs.Told.{Makes, MakesBoth}
use Rattle.group_board.specs.Trails.{TrailStep}
use Rattle.group_board.specs.Views.{after_find, after_send}
use Rattle.batch_leader.specs.Leading.{MakesAll}
use Rattle.batch_leader.specs.TurnSteps.{OnlyLoads, LoadsThenOne}
use Rattle.core_worker.specs.declared.worker.Worker.{Worker}
use Rattle.core_worker.specs.CleaningLeft.{notices_left, box_left}
use Rattle.core_worker.specs.Hearing.{is_dead_by, last_change}
use Rattle.core_worker.specs.Loads.{Load, looks_at}
use Rattle.core_worker.specs.Order.{InOrder}
use Rattle.core_worker.specs.Outbox.{TellsNothing}
use Rattle.core_worker.specs.Sending.{EmptiesBox, IsReadyFor, NoneAwaits, TakesAt}
use Rattle.core_worker.specs.Ties.{HoldsAt, KeepsStanding}

-- More dead names wait for the member of a home: each awaited to be told there.
pub record AddsDead (home : ℕ) (es : List (ℕ × slots.Place)) (old new : Notices) : Type 0 where
  pub names : List EntryName
  pub dead : new.dead.names ≡ old.dead.names ++ names
  pub gone : new.gone ≡ old.gone
  pub awaited : (k n : ℕ) → has names k n ≡ true → Awaits (known_at es k) home n

-- The index has some names that awaited to be told as told, and nothing else of it differs.
pub record TellsSome (es ix : List (ℕ × slots.Place)) : Type 0 where
  pub changes : (k : ℕ) → option_map last_change (known_at ix k)
      ≡ option_map last_change (known_at es k)
  pub dead : (k n : ℕ) → is_dead_by (known_at ix k) n ≡ is_dead_by (known_at es k) n
  pub each : (k n : ℕ)
      → (standing_at (standing_of (known_at ix k)) n ≡ standing_at (standing_of (known_at es k)) n)
      ⊎ ((home : ℕ) × Awaits (known_at es k) home n
      × (standing_at (standing_of (known_at ix k)) n ≡ Some (standing_with n home true)))
  pub room : SameRoom es ix

-- Names that awaited to be told were taken out of the index, into the notices for the members where they stand; the core may wind down meanwhile. Nothing else differs.
pub record TakesDead (p : Place) (w y : Worker) : Type 0 where
  pub boxes : (h : ℕ) (old new : Notices) → slice_get w.notices.items h ≡ Some old
      → slice_get y.notices.items h ≡ Some new → AddsDead (core_of p h) w.index old new
  pub count : length y.notices.items ≡ length w.notices.items
  pub tells : TellsSome w.index y.index
  pub fewer : all_untold y.index ≤ all_untold w.index
  pub same_names : all_untold y.index + box_left y.notices.items
      ≡ all_untold w.index + box_left w.notices.items
  pub same : y ≡ record w { index = y.index; notices = y.notices; winds_down = y.winds_down }

-- All that awaited for the other members below a number was taken so, and the core goes on as it did.
pub record Readies (p : Place) (m upto : ℕ) (w y : Worker) : Type 0 where
  pub takes : TakesDead p w y
  pub none : (h : ℕ) → h < upto → h ≢ m → NoneAwaits (core_of p h) y.index
  pub works : y.winds_down ≡ w.winds_down

-- Below a number, each other member for whom something waits has a full mailbox.
abbrev pub FindsFull : ℕ → ℕ → Worker → List Seen → Type 0
FindsFull m upto y looks = (h : ℕ) (n : Notices) → h < upto → h ≢ m
    → slice_get y.notices.items h ≡ Some n → TellsNothing n ⊎ In (Mail m h true) looks

-- What was found of mailboxes, by loads alone.
pub record LooksOn (m : ℕ) (before after : Option Group) (v u : View) (looks : List Seen) :
    Type 0 where
  pub view : u ≡ record v { looked = v.looked ++ looks }
  pub loads : List Load
  pub made : MakesAll before (looks_at m loads) after m u

-- what waits for a member is nothing, or its mailbox was loaded, and found full
abbrev pub FindsBox : ℕ → ℕ → Worker → Option Group → Option Group → View → View → Type 0
FindsBox m to w before after v u = (((n : Notices) → slice_get w.notices.items to ≡ Some n
    → TellsNothing n) × (u ≡ v) × (after ≡ before))
    ⊎ ((u ≡ after_find (Mail m to true) v) × Makes before m (Kind.LookMail m to) after u)

-- Something waited for a member, and all of it was sent.
pub record SendsAll (m to : ℕ) (before after : Option Group) (v u : View) (w x : Worker) :
    Type 0 where
  pub box : EmptiesBox to w x
  pub some : 0 < notices_left (notices_of box.old)
  pub view : u ≡ after_send to (notices_of box.old) v
  pub made : MakesBoth before m (Kind.LookMail m to) (Kind.Send to (notices_of box.old)) after u

-- All that awaited for one member is ready to be sent. It was sent; or nothing waits, or its mailbox is full; or there was no memory, and the core winds down.
abbrev pub SendsTo : Result Bool Memory → Place → ℕ → ℕ → Option Group → Option Group → View → View
    → Worker → Worker → Type 0
SendsTo (Ok true) p m to before after v u w x = (y : Worker) × TakesAt (core_of p to) to w y
    × IsReadyFor (core_of p to) to w y × SendsAll m to before after v u y x
SendsTo (Ok false) p m to before after v u w x = TakesAt (core_of p to) to w x
    × IsReadyFor (core_of p to) to w x × FindsBox m to x before after v u
SendsTo (Err memory) p m to before after v u w x = TakesAt (core_of p to) to w x
    × (x.winds_down ≡ true) × (u ≡ v) × (after ≡ before)

-- the same of a member that may be this one, for whom nothing waits
abbrev pub SendsBeside : Result Bool Memory → Place → ℕ → ℕ → Option Group → Option Group → View
    → View → Worker → Worker → Type 0
SendsBeside result p m to before after v u w x = ((to ≢ m)
    × SendsTo result p m to before after v u w x)
    ⊎ ((to ≡ m) × (result ≡ Ok false) × (x ≡ w) × (u ≡ v) × (after ≡ before))

-- What waits for the lowest other member whose mailbox is empty was sent.
pub record SendsLowest (p : Place) (m : ℕ) (before after : Option Group) (v u : View)
    (w x : Worker) : Type 0 where
  pub mid : View
  pub between : Option Group
  pub looks : List Seen
  pub to : ℕ
  pub other : to ≢ m
  pub ready : Worker
  pub readies : Readies p m (to + 1) w ready
  pub full : FindsFull m to ready looks
  pub found : LooksOn m before between v mid looks
  pub sends : SendsAll m to between after mid u ready x

-- Below a number all is ready to be sent, and nothing can be: each mailbox for which something waits is full.
pub record SendsNone (p : Place) (m upto : ℕ) (before after : Option Group) (v u : View)
    (w x : Worker) : Type 0 where
  pub looks : List Seen
  pub readies : Readies p m upto w x
  pub full : FindsFull m upto x looks
  pub found : LooksOn m before after v u looks

-- There was no memory for what waits. The core winds down.
pub record SendsShort (p : Place) (m : ℕ) (before after : Option Group) (v u : View)
    (w x : Worker) : Type 0 where
  pub looks : List Seen
  pub takes : TakesDead p w x
  pub winds : x.winds_down ≡ true
  pub found : LooksOn m before after v u looks

abbrev pub SendsFirst : Result Bool Memory → Place → ℕ → Option Group → Option Group → View → View
    → Worker → Worker → Type 0
SendsFirst (Ok true) p m before after v u w x = SendsLowest p m before after v u w x
SendsFirst (Ok false) p m before after v u w x = SendsNone p m (members p) before after v u w x
SendsFirst (Err memory) p m before after v u w x = SendsShort p m before after v u w x

-- the steps that it made: loads, and then it sent or not
abbrev pub SendSteps : Result Bool Memory → View → View → List TrailStep → List TrailStep → Type 0
SendSteps (Ok true) v u old new = LoadsThenOne v u old new
SendSteps (Ok false) v u old new = OnlyLoads v u old new
SendSteps (Err memory) v u old new = OnlyLoads v u old new

-- a worker that is tied with a view is so with a later one, and by each region what stood stands
pub record StaysTiedFrom (seat : SeatAt) (v u : View) (w x : Worker) : Type 0 where
  pub holds : HoldsAt seat u x
  pub order : InOrder seat.place seat.number u x
  pub stands : KeepsStanding seat v u w x

-- where a call sent, or had no memory, the turn is over
abbrev pub IfOver : Result Bool Memory → Type 0 → Type 0
IfOver (Ok true) X = X
IfOver (Ok false) X = Unit {0}
IfOver (Err memory) X = X

-- and else it goes on
abbrev pub IfNoneSent : Result Bool Memory → Type 0 → Type 0
IfNoneSent (Ok true) X = Unit {0}
IfNoneSent (Ok false) X = X
IfNoneSent (Err memory) X = Unit {0}

-- Why nothing is sent: the core has stopped or winds down, and leaves its names as they are; or each mailbox for which something waits was found full in this turn, once all that awaited was ready.
abbrev pub PassesSending : Place → ℕ → Worker → Worker → List Seen → Type 0
PassesSending p m w y looks = ((y ≡ w) × ((w.stopped ≡ true) ⊎ (w.winds_down ≡ true)))
    ⊎ (Readies p m (members p) w y × FindsFull m (members p) y looks)
