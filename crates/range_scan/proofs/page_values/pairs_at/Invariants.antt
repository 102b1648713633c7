use Rattle.std.proofs.Common.{◌≡◌, [], take}
use Rattle.std.specs.List.{flat_map}
use Rattle.pm_region.specs.State.{IsTelling}
use Rattle.pm_region.specs.Words.{lasts}
use Rattle.store_image.specs.Listing.{with_pair}
use Rattle.recover.specs.Recovering.{cells_found}
use Rattle.range_scan.proofs.page_values.pairs_at.Given as goal

-- the pairs of the keys so far
abbrev pub invariant-loop-key : goal.invariant-loop-key
invariant-loop-key g l = IsTelling (g.R.Region.state l.region)
    → l.pairs.items ≡ flat_map (λ k. with_pair k (cells_found (lasts (g.R.Region.state l.region)) k) []) (take l.key-index l.keys)
