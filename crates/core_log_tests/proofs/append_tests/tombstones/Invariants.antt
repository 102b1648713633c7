use Rattle.std.proofs.Common.{◌≡◌, ℕ, ◌*◌, List, length}
use Rattle.std.specs.List.{flat_map, AllByRecursion}
use Rattle.log_entry.specs.declared.entry.Entry.{Entry}
use Rattle.log_entry.specs.Spelling.{words_of, HasSpelling}
use Rattle.core_log_tests.proofs.append_tests.tombstones.Given as goal

-- so many entries were written, of two words each
pub record Written (ws : List ℕ) (room n count : ℕ) : Type 0 where
  pub entries : List Entry
  pub words : ws ≡ flat_map words_of entries
  pub many : length entries ≡ n
  pub long : length ws ≡ 2 * n
  pub each : AllByRecursion HasSpelling entries
  pub room_is : room ≡ 2 * count

abbrev pub invariant-loop : goal.invariant-loop
invariant-loop l = Written l.batch.words l.batch.room l.counter l.count
