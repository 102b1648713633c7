use Rattle.std.proofs.Common.{◌≡◌, ℕ, ◌+◌, ◌<◌, length, get_or}
use Rattle.pm_region.specs.State.{IsTelling}
use Rattle.pm_region.specs.Words.{lasts}
use Rattle.chunk_map.proofs.words.load_into.Given as goal

abbrev pub invariant-loop-i : goal.invariant-loop-i
invariant-loop-i g l = record {
  long : length l.words ≡ length l.initial.words;
  words : IsTelling (g.R.Region.state l.region) → (k : ℕ) → k < l.i → get_or l.words k 0 ≡ lasts (g.R.Region.state l.region) (l.first + k);
}
