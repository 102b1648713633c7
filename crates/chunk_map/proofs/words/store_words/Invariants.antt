use Rattle.std.proofs.Common.{◌≡◌, ℕ, ◌+◌, ◌<◌, length, get_or}
use Rattle.pm_region.specs.State.{During, IsTelling, cell_now}
use Rattle.pm_region.specs.Words.{KeepsOutside}
use Rattle.chunk_map.proofs.words.store_words.Given as goal

abbrev pub invariant-loop-i : goal.invariant-loop-i
invariant-loop-i g l = record {
  run : During (g.R.Region.state l.initial.region) (g.R.Region.state l.region) (KeepsOutside (cell_now (g.R.Region.state l.initial.region)) l.at (l.at + length l.words));
  stored : IsTelling (g.R.Region.state l.region) → (j : ℕ) → j < l.i → (cell_now (g.R.Region.state l.region) (l.at + j)).last ≡ get_or l.words j 0;
}
