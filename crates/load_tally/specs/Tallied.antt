-- The tally of replies, and of the live pairs that a region has behind them.
use Rattle.std.specs.Prelude.{ℕ, ◌≤◌, List, length, Bool, true, false, count_by, sum_by, min}
use Rattle.fs_model.specs.declared.model.Pair.{Pair}
use Rattle.fs_model.specs.declared.model.Reply.{Reply}
use Rattle.fs_model.specs.declared.model.Reply.TheVariants.{Stored, Value, Absent, Deleted, Full, VersionsSpent, TooLong, Stopped}
use Rattle.fs_text.specs.declared.line.LoadTally.{LoadTally}

abbrev pub is_stored : Reply → Bool
is_stored Stored = true
is_stored r = false

abbrev pub is_value : Reply → Bool
is_value (Value v) = true
is_value r = false

abbrev pub is_absent : Reply → Bool
is_absent Absent = true
is_absent r = false

abbrev pub is_deleted : Reply → Bool
is_deleted Deleted = true
is_deleted r = false

abbrev pub is_refused : Reply → Bool
is_refused Full = true
is_refused VersionsSpent = true
is_refused TooLong = true
is_refused Stopped = true
is_refused r = false

-- in bytes, and at most what 64 bits hold
abbrev pub most_bytes : ℕ
most_bytes = 18446744073709551615

abbrev pub bytes_of : List Pair → ℕ
bytes_of pairs = min (sum_by (λ p. length p.value) pairs) most_bytes

-- none of a tally's kinds has more replies than there are
pub record IsWithin (t : LoadTally) : Type 0 where
  pub stored : t.stored ≤ t.requests
  pub value : t.value ≤ t.requests
  pub absent : t.absent ≤ t.requests
  pub deleted : t.deleted ≤ t.requests
  pub refused : t.refused ≤ t.requests

-- how many replies there are, and of each kind; how many pairs, and how long their values are together
abbrev pub tally_of : List Reply → List Pair → LoadTally
tally_of replies pairs = record {
  requests = length replies;
  stored = count_by is_stored replies;
  value = count_by is_value replies;
  absent = count_by is_absent replies;
  deleted = count_by is_deleted replies;
  refused = count_by is_refused replies;
  live = length pairs;
  bytes = bytes_of pairs;
}
