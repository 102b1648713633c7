use Rattle.std.proofs.Common.{◌≡◌, ℕ, ◌+◌, ◌<◌, get_or}
use Rattle.pm_region.specs.State.{During, IsTelling, cell_now}
use Rattle.pm_region.specs.Words.{KeepsOutside}
use Rattle.lazy_alloc.specs.Written.{block_words}
use Rattle.lazy_alloc.proofs.written.store_block.Given as goal

abbrev pub invariant-loop-i : goal.invariant-loop-i
invariant-loop-i g l = record {
  run : During (g.R.Region.state l.initial.region) (g.R.Region.state l.region) (KeepsOutside (cell_now (g.R.Region.state l.initial.region)) l.at (l.at + l.count));
  stored : IsTelling (g.R.Region.state l.region) → (j : ℕ) → j < l.i → (cell_now (g.R.Region.state l.region) (l.at + j)).last ≡ get_or (block_words l.value) j 0;
}
