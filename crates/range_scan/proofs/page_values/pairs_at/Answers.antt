use Rattle.std.proofs.Common.{ℕ, List, [], ◌∙◌, ap}
use Rattle.std.specs.List.{flat_map}
use Rattle.std.proofs.lemmas.List.{take_all}
use Rattle.pm_region.specs.Words.{lasts}
use Rattle.store_image.specs.Listing.{with_pair}
use Rattle.recover.specs.Recovering.{cells_found}
use Rattle.range_scan.proofs.page_values.pairs_at.Goals as goal

pub returns : goal.returns
returns g c = λ telling. c.loop-key.invariant telling ∙ ap (λ (ks : List ℕ). flat_map (λ k. with_pair k (cells_found (lasts (g.R.Region.state c.args.region.now)) k) []) ks) (take_all c.loop-key.key-index c.args.keys.now c.loop-key-test.false)
