use Rattle.std.proofs.Common.{◌≡◌, ℕ, List, None, take}
use Rattle.log_entry.specs.declared.entry.EntryName.{EntryName}
use Rattle.log_standing.specs.NameCounts.{StandingState, copies_at, living, times_in}
use Rattle.log_standing.proofs.standing_names.Standing.open.Given as goal

pub record Entered (now : StandingState) (ns : List EntryName) (i : ℕ) : Type 0 where
  pub copies : (k v : ℕ) → copies_at now k v ≡ living (times_in (take i ns) k v)
  pub settled : now.settled ≡ None

abbrev pub invariant-loop-name : goal.invariant-loop-name
invariant-loop-name l = Entered l.standing l.names l.name-index
