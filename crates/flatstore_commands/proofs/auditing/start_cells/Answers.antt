use Rattle.store_image.specs.Listing.{ListsCells}
use Rattle.headline.specs.Headline.{cells_of}
use Rattle.flatstore_commands.proofs.Judging.{covers, found_read}
use Rattle.flatstore_commands.proofs.Viewed.{by_view}
use Rattle.flatstore_commands.proofs.auditing.start_cells.Goals as goal

pub pairs-requires-clause-covers : goal.pairs-requires-clause-covers
pairs-requires-clause-covers g c = covers (g.R.Region.state c.args.region.now) (g.R.ReadRegion.word c.args.region.now) c.args.recovered.now c.requires _ c.of-view.ensures

pub pairs-requires-clause-found : goal.pairs-requires-clause-found
pairs-requires-clause-found g c = found_read (g.R.Region.state c.args.region.now) (g.R.ReadRegion.word c.args.region.now) c.args.recovered.now c.requires _ c.of-view.ensures

pub returns : goal.returns
returns g c =
    by_view (g.R.Region.state c.args.region.now) (g.R.ReadRegion.word c.args.region.now) _ c.of-view.ensures (λ image. ListsCells (cells_of image) c.in_ok-cells.cells.items)
    c.in_ok-cells.ensures
