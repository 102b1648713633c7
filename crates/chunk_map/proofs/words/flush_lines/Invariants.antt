use Rattle.std.proofs.Common.{◌≡◌, ℕ, ◌+◌, ◌*◌, ◌≤◌, ◌<◌, []}
use Rattle.pm_region.specs.State.{During, IsTelling, cell_now}
use Rattle.pm_region.specs.Words.{KeepsOutside}
use Rattle.chunk_map.proofs.words.flush_lines.Given as goal

abbrev pub invariant-loop-i : goal.invariant-loop-i
invariant-loop-i g l = record {
  run : During (g.R.Region.state l.initial.region) (g.R.Region.state l.region) (KeepsOutside (cell_now (g.R.Region.state l.initial.region)) (8 * l.line) (8 * (l.line + l.count)));
  lasts : IsTelling (g.R.Region.state l.region) → (w : ℕ) → (cell_now (g.R.Region.state l.region) w).last ≡ (cell_now (g.R.Region.state l.initial.region) w).last;
  marks : IsTelling (g.R.Region.state l.region) → (w : ℕ) → 8 * l.line ≤ w → w < 8 * (l.line + l.i) → (cell_now (g.R.Region.state l.region) w).marked ≡ [];
}
