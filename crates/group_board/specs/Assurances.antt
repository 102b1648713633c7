-- What a call says of what it gives to member m, who had v, in a group at the place p.
use Rattle.std.specs.Prelude.{◌≡◌, ◌≢◌, ℕ, ◌<◌, true, false, List, Some}
use Rattle.log_entry.specs.declared.entry.Entry.{Entry}
use Rattle.store_image.specs.Facts.{In}
use Rattle.group_laws.specs.Places.{Place, members, owner}
use Rattle.group_laws.specs.Updates.{has}
use Rattle.group_laws.specs.State.{Notices}
use Rattle.group_laws.specs.MemberViews.{View}

-- no entry of the list has the name of this one
abbrev pub LacksName : List Entry → Entry → Type 0
LacksName es e = (f : Entry) → In f es → f.key ≡ e.key → f.version ≡ e.version → ⊥

-- What m takes out of slot s of member a has a name that is in no log yet: no entry of its own has it, certain or in flight. An own change is the one pending in that slot.
pub record IsUnlogged (m a s : ℕ) (v : View) (e : Entry) : Type 0 where
  pub new : LacksName v.kept e
  pub alone : LacksName v.flying e
  pub own : a ≡ m → v.pending e.key ≡ Some (record { entry = e; slot = Some s })

-- The home of a change that came back is a member. Where it is m itself, the entry is certain in the own log, and may not vanish there.
pub record IsHome (p : Place) (m : ℕ) (v : View) (e : Entry) (home : ℕ) : Type 0 where
  pub member : home < members p
  pub kept : home ≡ m → In e v.kept
  pub spared : home ≡ m → v.doomed e.key e.version ≡ false

-- the name is that of an entry that is certain in the own log
abbrev pub IsOwnEntry : View → ℕ → ℕ → Type 0
IsOwnEntry v k n = (e : Entry) × In e v.kept × (e.key ≡ k) × (e.version ≡ n)

-- Each name that is told dead has its entry in the own log, and is the sender's. Each gone one is an own key's, m told its death, and it stood at the sender as m had it.
pub record IsHeard (p : Place) (m from : ℕ) (v : View) (n : Notices) : Type 0 where
  pub other : from ≢ m
  pub dead : (k i : ℕ) → has n.dead k i ≡ true → IsOwnEntry v k i
  pub theirs : (k i : ℕ) → has n.dead k i ≡ true → owner p k ≡ from
  pub own : (k i : ℕ) → has n.gone k i ≡ true → owner p k ≡ m
  pub told : (k i : ℕ) → has n.gone k i ≡ true → v.told k i ≡ true
  pub stood : (k i : ℕ) → has n.gone k i ≡ true → v.present k i ≡ Some from
