use Rattle.std.proofs.Common.{◌≡◌, ℕ, ◌<◌, length, Ok}
use Rattle.std.specs.Prelude.{slice_index_or}
use Rattle.std.specs.List.{AllByRecursion}
use Rattle.pm_region.specs.State.{IsTelling}
use Rattle.pm_region.specs.Words.{lasts}
use Rattle.chunk_map.specs.Checked.{FitsHead}
use Rattle.chunk_map.specs.Layouts.{chunk_first, head_at}
use Rattle.chunk_map.specs.declared.heads.Head.{Head}
use Rattle.recover.proofs.logs.heads.Given as goal

-- the heads of the chunks so far
abbrev pub invariant-loop-chunk : goal.invariant-loop-chunk
invariant-loop-chunk g l = record {
  count : length l.heads.items ≡ l.chunk;
  fits : AllByRecursion (FitsHead l.layout) l.heads.items;
  told : IsTelling (g.R.Region.state l.region) → (j : ℕ) (d : Head) → j < l.chunk → head_at l.layout (lasts (g.R.Region.state l.region)) (chunk_first l.layout l.part j) ≡ Ok (slice_index_or l.heads.items j d);
}
