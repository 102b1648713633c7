-- Dead names that were taken from the index and are told another member next, in the words of the member's own view.
use Rattle.std.specs.Prelude.{◌≡◌, ◌||◌, ℕ, ◌<◌, Bool, true, false, cond, List, [], ◌∷◌, ◌++◌, length, Some, slice_get}
use Rattle.log_entry.specs.declared.entry.EntryName.{EntryName}
use Rattle.group_board.specs.declared.names.Notices.{Notices}
use Rattle.group_laws.specs.Updates.{has}
use Rattle.group_laws.specs.Places.{Place, members, owner}
use Rattle.group_laws.specs.MemberViews.{View}
use Rattle.group_board.specs.Views.{IsDeadIn}
use Rattle.core_worker.specs.declared.worker.Worker.{Worker}

-- the view once all these names are told: a core's index has them as told already
abbrev pub mailing : List EntryName → View → View
mailing all v = record v { told = λ k n. cond (has all k n) true (v.told k n) }

-- Own keys' dead names that stand at member `to` and that it was not told.
pub record AreToSend (p : Place) (m to : ℕ) (v : View) (ns : List EntryName) : Type 0 where
  pub own : (k n : ℕ) → has ns k n ≡ true → owner p k ≡ m
  pub dead : (k n : ℕ) → has ns k n ≡ true → IsDeadIn v k n
  pub stands : (k n : ℕ) → has ns k n ≡ true → v.present k n ≡ Some to
  pub untold : (k n : ℕ) → has ns k n ≡ true → v.told k n ≡ false

-- of all names these are sent, and the others stay
abbrev pub Parts : List EntryName → List EntryName → List EntryName → Type 0
Parts all ns rest = (k n : ℕ) → has all k n ≡ (has ns k n || has rest k n)

-- no name waits to be told
abbrev pub TellsNothing : Notices → Type 0
TellsNothing n = (n.dead.names ≡ []) × (n.gone.names ≡ [])

-- there is a place for one dead name more
abbrev pub HasSpare : Notices → Type 0
HasSpare n = length n.dead.names < n.dead.room

-- all dead names that wait, whichever member they are told
abbrev pub waiting_dead : List Notices → List EntryName
waiting_dead [] = []
waiting_dead (n ∷ ns) = n.dead.names ++ waiting_dead ns

-- a member's view once all that waits is told: so its index has it
abbrev pub as_told : Worker → View → View
as_told w v = mailing (waiting_dead w.notices.items) v

-- What waits for one member may be sent to it.
pub record MayTell (p : Place) (m to : ℕ) (v : View) (n : Notices) : Type 0 where
  pub dead : AreToSend p m to v n.dead.names
  pub gone : (k i : ℕ) → has n.gone.names k i ≡ true → (v.leaving k i ≡ true)
      × (owner p k ≡ to)

-- What member m has to tell, by the member that it is told: nothing to itself. Until it winds down there is a place for one dead name more of each.
pub record KeepsMail (p : Place) (m : ℕ) (v : View) (winds : Bool) (boxes : List Notices) :
    Type 0 where
  pub count : length boxes ≡ members p
  pub each : (h : ℕ) (n : Notices) → slice_get boxes h ≡ Some n → MayTell p m h v n
  pub own : (n : Notices) → slice_get boxes m ≡ Some n → TellsNothing n
  pub spare : winds ≡ false → (h : ℕ) (n : Notices) → slice_get boxes h ≡ Some n → HasSpare n
