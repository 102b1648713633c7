-- Which names a view lets vanish, and where else entries might stand.
use Rattle.std.specs.Prelude.{◌≡◌, ℕ, ◌<◌, true, List, [], None}
use Rattle.pm_region.specs.State.{State, IsTelling, cell_now}
use Rattle.log_entry.specs.declared.entry.EntryName.{EntryName}
use Rattle.core_log.specs.Log.{LogState, tail_of}
use Rattle.core_log.specs.Opening.{EachInChunk, HasNoEntries}
use Rattle.group_laws.specs.Updates.{has}
use Rattle.group_laws.specs.MemberViews.{View}

-- nothing is in flight, and each of these names is doomed
pub record MayGo (v : View) (names : List EntryName) : Type 0 where
  pub idle : v.flying ≡ []
  pub doomed : (k n : ℕ) → has names k n ≡ true → v.doomed k n ≡ true

-- no chunk of the part besides the log's has an entry
abbrev pub NoneElse : State → LogState → Type 0
NoneElse s log = IsTelling s → (j : ℕ) → j < log.layout.chunks → tail_of log.chunks j ≡ None
    → EachInChunk log j (HasNoEntries log j) (cell_now s)
