use Rattle.std.proofs.Common.{◌≡◌, ◌<◌, [], drop}
use Rattle.std.specs.Vec.{vec_capacity}
use Rattle.std.specs.List.{AllByRecursion}
use Rattle.core_log.specs.Log.{IsRising, IsChunkOf}
use Rattle.core_log.specs.Fresh.{all_set}
use Rattle.core_log.proofs.tails.sorted.Given as goal

abbrev pub invariant-loop-c : goal.invariant-loop-c
invariant-loop-c l = record {
  same : all_set (drop l.c-index l.chunks) l.kept.items ≡ all_set l.chunks [];
  rising : IsRising 0 l.kept.items;
  each : AllByRecursion (IsChunkOf l.fn.layout) l.kept.items;
  places : l.fn.layout.chunks < vec_capacity l.kept;
}
