use Rattle.std.proofs.Common.{◌≡◌, ◌++◌}
use Rattle.pm_region.specs.State.{IsTelling}
use Rattle.pm_region.specs.Words.{lasts}
use Rattle.store_image.specs.Winners.{recovered}
use Rattle.store_image.proofs.Clients.{pairs_of}
use Rattle.recover.proofs.pair_list.pairs.Given as goal

-- the pairs so far, and those of the keys that are left
abbrev pub invariant-loop-key : goal.invariant-loop-key
invariant-loop-key g l = IsTelling (g.R.Region.state l.region)
    → l.pairs.items ++ pairs_of (recovered l.recovered.layout (lasts (g.R.Region.state l.region))) l.key-iterator ≡ pairs_of (recovered l.recovered.layout (lasts (g.R.Region.state l.region))) l.initial.key-iterator
