-- Dead names of own keys are taken from the index for the member where they stand, and sent to it.
use Rattle.std.specs.Prelude.{◌≡◌, ◌≢◌, ◌⊎◌, ℕ, ◌+◌, ◌<◌, Bool, true, false, List, [], ◌∷◌, ◌++◌, length, Option, Some, slice_get, vec_capacity}
use Rattle.log_entry.specs.declared.entry.EntryName.{EntryName}
use Rattle.core_index.specs.Index.{known_at, all_untold, Tells}
use Rattle.core_index.specs.Records.{Awaits}
use Rattle.core_index.specs.Slots as slots
use Rattle.group_board.specs.declared.names.Notices.{Notices}
use Rattle.group_board.specs.Mailing.{notices_of}
use Rattle.group_laws.specs.declared.types.Seen.TheVariants.{Mail}
use Rattle.group_laws.specs.Runs.{Kind}
use Rattle.group_laws.specs.Places.{Place}
use Rattle.group_laws.specs.State.{Group}
use Rattle.pm_region.specs.State.{State}
use Rattle.group_laws.specs.MemberViews.{View}
use Rattle.group_board.specs.Views.{after_find, after_send}
use Rattle.group_board.specs.Told.{Makes, MakesBoth}
use Rattle.core_worker.specs.declared.worker.Worker.{Worker}
use Rattle.core_worker.specs.CleaningLeft.{notices_left}
use Rattle.core_worker.specs.Outbox.{HasSpare, TellsNothing}
use Rattle.core_worker.specs.declared.types.Cleaning.TheVariants.{Nothing}
use Rattle.core_worker.specs.Supplies.{under_way}
use Rattle.core_worker.specs.Ties.{Holds, Stands}
use Rattle.core_worker.specs.Order.{InOrder}

-- the index has these as told to a home, one after another, and nothing else changed
abbrev pub TellsAll : ℕ → List (ℕ × slots.Place) → List EntryName → List (ℕ × slots.Place) → Type 0
TellsAll home es [] ix = ix ≡ es
TellsAll home es (n ∷ ns) ix = (mid : List (ℕ × slots.Place)) × Tells es mid home n × TellsAll home mid ns ix

-- Dead names that awaited to be told to this home stand behind those of a list now. Each is one less to be told.
pub record TakesNames (home : ℕ) (es ix : List (ℕ × slots.Place)) (old new : List EntryName) : Type 0 where
  pub names : List EntryName
  pub list : new ≡ old ++ names
  pub tells : TellsAll home es names ix
  pub count : all_untold ix + length names ≡ all_untold es

-- nothing awaits to be told to this home
abbrev pub NoneAwaits : ℕ → List (ℕ × slots.Place) → Type 0
NoneAwaits home es = (n : EntryName) → Awaits (known_at es n.key) home n.version → ⊥

-- What waited for another member was sent, and nothing waits for it; or its mailbox was found full, and all waits as before.
abbrev pub SendsNotices : Bool → ℕ → ℕ → Notices → Notices → Option Group → Option Group → View → View → Type 0
SendsNotices true m to old new before after v u = TellsNothing new × (u ≡ after_send to (notices_of old) v)
    × MakesBoth before m (Kind.LookMail m to) (Kind.Send to (notices_of old)) after u
SendsNotices false m to old new before after v u = (new ≡ old) × (u ≡ after_find (Mail m to true) v)
    × Makes before m (Kind.LookMail m to) after u

-- What awaited to be told at a home was taken out of the index, into the notices for the member of that home; the core may wind down for want of memory. Nothing else differs.
pub record TakesAt (home to : ℕ) (w x : Worker) : Type 0 where
  pub old : Notices
  pub new : Notices
  pub was : slice_get w.notices.items to ≡ Some old
  pub now : slice_get x.notices.items to ≡ Some new
  pub others : (h : ℕ) → h ≢ to → slice_get x.notices.items h ≡ slice_get w.notices.items h
  pub count : length x.notices.items ≡ length w.notices.items
  pub takes : TakesNames home w.index x.index old.dead.names new.dead.names
  pub gone : new.gone ≡ old.gone
  pub same : x ≡ record w { index = x.index; notices = x.notices; winds_down = x.winds_down }

-- nothing awaits there any more, there is a place for one dead name more, and it goes on
pub record IsReadyFor (home to : ℕ) (w x : Worker) : Type 0 where
  pub none : NoneAwaits home x.index
  pub spare : (n : Notices) → slice_get x.notices.items to ≡ Some n → HasSpare n
  pub works : x.winds_down ≡ w.winds_down

-- a worker that is tied and in order there is so still, and by each region what stood stands
pub record KeepsTiesAt (p : Place) (m : ℕ) (v : View) (w x : Worker) : Type 0 where
  pub holds : Holds p m v x
  pub order : InOrder p m v x
  pub stands : (s : State) → Stands s p m v w → Stands s p m v x

-- All that waited for a member was sent: nothing waits for it now, there are places for the names that a cleaning under way may let go, and nothing else differs.
pub record EmptiesBox (to : ℕ) (w x : Worker) : Type 0 where
  pub old : Notices
  pub new : Notices
  pub was : slice_get w.notices.items to ≡ Some old
  pub now : slice_get x.notices.items to ≡ Some new
  pub others : (h : ℕ) → h ≢ to → slice_get x.notices.items h ≡ slice_get w.notices.items h
  pub count : length x.notices.items ≡ length w.notices.items
  pub none : TellsNothing new
  pub spare : HasSpare new
  pub places : (under_way w ≡ Nothing) ⊎ (new.gone.room ≡ vec_capacity w.own_gone)
  pub same : x ≡ record w { notices = x.notices }

-- it was sent, or the mailbox was found full
abbrev pub SendsBox : Bool → ℕ → ℕ → Option Group → Option Group → View → View → Worker → Worker
    → Type 0
SendsBox true m to before after v u w x = (b : EmptiesBox to w x)
    × (u ≡ after_send to (notices_of b.old) v)
    × MakesBoth before m (Kind.LookMail m to) (Kind.Send to (notices_of b.old)) after u
SendsBox false m to before after v u w x = (x ≡ record w { notices = x.notices })
    × (x.notices.items ≡ w.notices.items) × (u ≡ after_find (Mail m to true) v)
    × Makes before m (Kind.LookMail m to) after u

-- the core winds down, and nothing else differs
abbrev pub WindsOnly : Worker → Worker → Type 0
WindsOnly w x = (x ≡ record w { notices = x.notices; winds_down = x.winds_down })
    × (x.notices.items ≡ w.notices.items) × (x.winds_down ≡ true)

-- some name waits for a member
abbrev pub HasNames : ℕ → Worker → Type 0
HasNames to w = (n : Notices) → slice_get w.notices.items to ≡ Some n
    → 0 < notices_left (notices_of n)
