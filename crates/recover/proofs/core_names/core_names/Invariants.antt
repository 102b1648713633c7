use Rattle.std.proofs.Common.{◌≡◌, ◌++◌, List, length}
use Rattle.chunk_map.specs.declared.layouts.Geometry.{Geometry}
use Rattle.log_standing.specs.Notes.{Noted}
use Rattle.recover.specs.declared.found_entries.Found.{Found}
use Rattle.recover.specs.LogNames.{AllFoundIn}
use Rattle.recover.proofs.core_names.core_names.Given as goal

-- the entries that were taken off so far
pub record TakenOff (l : Geometry) (all left : List Found) (names : List (List Noted)) : Type 0 where
  pub off : List Found
  pub split : left ++ off ≡ all
  pub found : AllFoundIn l off names
  pub count : length names ≡ l.cores

abbrev pub invariant-loop-last : goal.invariant-loop-last
invariant-loop-last l = TakenOff l.layout l.fn.sorted.items l.left.items l.names.items

abbrev pub decreases-loop-last : goal.decreases-loop-last
decreases-loop-last l = length l.left.items
