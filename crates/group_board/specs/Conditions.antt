-- What each call asks, in the words of the view of the member m that makes it, in a group at the place p.
use Rattle.std.specs.Prelude.{◌≡◌, ◌≢◌, ℕ, ◌+◌, ◌<◌, true, false, List, length, Some, None, ◌⊎◌}
use Rattle.log_entry.specs.declared.entry.Body.TheVariants.{Pointer, Tombstone}
use Rattle.log_entry.specs.declared.entry.Entry.{Entry}
use Rattle.log_entry.specs.declared.entry.EntryName.{EntryName}
use Rattle.log_entry.specs.Spelling.{HasSpelling}
use Rattle.store_image.specs.Facts.{In}
use Rattle.group_laws.specs.declared.group_sizes.TheConstants.{SLOTS}
use Rattle.group_laws.specs.declared.types.Block.{Block}
use Rattle.group_laws.specs.declared.types.Seen.TheVariants.{Slot as SeenSlot}
use Rattle.group_laws.specs.declared.types.SlotWord.TheVariants.{Posted as ShowsPosted, Done as ShowsDone, Failed as ShowsFailed}
use Rattle.group_laws.specs.Places.{Place, members, owner, units, LiesIn, Apart, GetsBlock}
use Rattle.group_laws.specs.Updates.{has}
use Rattle.group_laws.specs.State.{Notices}
use Rattle.group_board.specs.declared.change.Change.{Change}
use Rattle.group_laws.specs.MemberViews.{View}
use Rattle.group_board.specs.Views.{IsDeadIn}

-- no own change that is out stands in this slot, so it is empty
abbrev pub IsFree : View → ℕ → Type 0
IsFree v s = (k : ℕ) (e : Entry) → v.pending k ≢ Some (record { entry = e; slot = Some s })

-- the units of the value's block lie in m's part and are no other block's
abbrev pub IsClearIn : Place → ℕ → View → ℕ → List ℕ → Type 0
IsClearIn p m v at value = LiesIn p m at (units (length value))
    × ((q : ℕ) (b : Block) → v.blocks q ≡ Some b → Apart at (units (length value)) q
    (units (length b.bytes)))

-- The change is the next one of an own key without one under way, and it has no home yet. A delete needs a live cell. The value is what the entry's block holds, where it points to one.
pub record MayPost (p : Place) (m : ℕ) (v : View) (s : ℕ) (c : Change)
    (value : List ℕ) : Type 0 where
  pub member : m < members p
  pub slot : s < SLOTS
  pub free : IsFree v s
  pub home : c.home ≡ None
  pub spelled : HasSpelling c.entry
  pub own : owner p c.entry.key ≡ m
  pub idle : v.pending c.entry.key ≡ None
  pub whole : v.broken ≡ false
  pub next : c.entry.version ≡ v.last c.entry.key + 1
  pub live : c.entry.body ≡ Tombstone → v.cell c.entry.key ≢ None
  pub block : (at : ℕ) → c.entry.body ≡ Pointer at → GetsBlock (length value)
      × IsClearIn p m v at value

-- m isn't the leader, and gave back all that it took
pub record MayLock (p : Place) (m : ℕ) (v : View) : Type 0 where
  pub member : m < members p
  pub not_held : v.holds ≡ false
  pub gave_back : (a s : ℕ) → v.taken a s ≡ None

-- slot s of member a is one of the group's
pub record MayLook (p : Place) (m a s : ℕ) : Type 0 where
  pub member : m < members p
  pub target : a < members p
  pub slot : s < SLOTS

-- m is the leader, its log is whole, and a look found the slot Posted
pub record MayTake (p : Place) (m : ℕ) (v : View) (a s : ℕ) : Type 0 where
  pub member : m < members p
  pub target : a < members p
  pub slot : s < SLOTS
  pub holds : v.holds ≡ true
  pub whole : v.broken ≡ false
  pub seen : (n : ℕ) × In (SeenSlot a s (ShowsPosted n)) v.looked

pub record MayUnlock (p : Place) (m : ℕ) (v : View) : Type 0 where
  pub member : m < members p
  pub holds : v.holds ≡ true

pub record MayCommit (p : Place) (m : ℕ) (v : View) : Type 0 where
  pub member : m < members p
  pub whole : v.broken ≡ false

-- m took this change, and its entry is certain in m's log
pub record MayMark (p : Place) (m : ℕ) (v : View) (a s : ℕ) (e : Entry) : Type 0 where
  pub member : m < members p
  pub target : a < members p
  pub slot : s < SLOTS
  pub taken : v.taken a s ≡ Some e
  pub kept : In e v.kept

-- m took this change, and did not commit it
pub record MayFail (p : Place) (m : ℕ) (v : View) (a s : ℕ) (e : Entry) : Type 0 where
  pub member : m < members p
  pub target : a < members p
  pub slot : s < SLOTS
  pub taken : v.taken a s ≡ Some e
  pub flying : In e v.flying

-- a look found the own slot Done or Failed
pub record MayFinish (p : Place) (m : ℕ) (v : View) (s : ℕ) : Type 0 where
  pub member : m < members p
  pub slot : s < SLOTS
  pub seen : In (SeenSlot m s ShowsFailed) v.looked
      ⊎ ((h : ℕ) × In (SeenSlot m s (ShowsDone h)) v.looked)

-- m is the leader, and a look found the own slot Posted
pub record MayWithdraw (p : Place) (m : ℕ) (v : View) (s : ℕ) : Type 0 where
  pub member : m < members p
  pub slot : s < SLOTS
  pub holds : v.holds ≡ true
  pub seen : (n : ℕ) × In (SeenSlot m s (ShowsPosted n)) v.looked

-- m was told that these are dead
pub record MayDoom (p : Place) (m : ℕ) (v : View) (ns : List EntryName) : Type 0 where
  pub member : m < members p
  pub dead : (k n : ℕ) → has ns k n ≡ true → v.dead k n ≡ true

pub record MayRetire (p : Place) (m : ℕ) (v : View) (ns : List EntryName) : Type 0 where
  pub member : m < members p
  pub doomed : (k n : ℕ) → has ns k n ≡ true → v.doomed k n ≡ true

-- the dead names are of own keys, dead, in the other's log and not told before; the gone ones are of the other's keys, and to be reported
pub record MaySend (p : Place) (m : ℕ) (v : View) (to : ℕ) (n : Notices) : Type 0 where
  pub member : m < members p
  pub receiver : to < members p
  pub other : to ≢ m
  pub dead : (k i : ℕ) → has n.dead k i ≡ true → (owner p k ≡ m) × IsDeadIn v k i
      × (v.present k i ≡ Some to) × (v.told k i ≡ false)
  pub gone : (k i : ℕ) → has n.gone k i ≡ true → (v.leaving k i ≡ true) × (owner p k ≡ to)

pub record MayReceive (p : Place) (m from : ℕ) : Type 0 where
  pub member : m < members p
  pub sender : from < members p
