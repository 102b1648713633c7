use Rattle.std.proofs.Common.{◌≡◌, ℕ, ◌+◌, ◌<◌, ◌≤◌, length, slice_index}
use Rattle.chunk_map.specs.Layouts.{part_first}
use Rattle.thread_engine.proofs.run_apart.part_cuts.Given as goal

abbrev pub invariant-loop-part : goal.invariant-loop-part
invariant-loop-part l = record {
  cores : l.cores ≡ l.layout.cores;
  count : length l.cuts.items ≡ l.part;
  at : (c : ℕ) → c < l.part → slice_index l.cuts.items c ≡ part_first l.layout c;
  within : l.part ≤ l.layout.cores + 1;
}
