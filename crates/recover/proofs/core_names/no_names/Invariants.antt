use Rattle.std.proofs.Common.{◌≡◌, ℕ, ◌<◌, List, [], length}
use Rattle.std.specs.Prelude.{slice_index_or}
use Rattle.log_standing.specs.Notes.{Noted}
use Rattle.recover.proofs.core_names.no_names.Given as goal

abbrev pub invariant-loop-count : goal.invariant-loop-count
invariant-loop-count l = record {
  length_so_far : length l.names.items ≡ l.count-index;
  empty : (c : ℕ) (d : List Noted) → c < l.count-index → slice_index_or l.names.items c d ≡ [];
}
