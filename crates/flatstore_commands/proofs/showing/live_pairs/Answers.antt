-- What recovery lists is of a sound region.
use Rattle.std.proofs.Common.{◌≡◌, inr, refl, Some, subst}
use Rattle.store_image.specs.Facts.{IsStore}
use Rattle.store_image.specs.Soundness.{first_fault}
use Rattle.store_image.specs.Listing.{ListsCells}
use Rattle.store_image.proofs.Clients.{store_sound}
use Rattle.headline.specs.Headline.{cells_of}
use Rattle.flatstore_commands.proofs.Viewed.{by_view}
use Rattle.flatstore_commands.proofs.showing.live_pairs.Goals as goal

pub returns-in-Ok-clause-ok : goal.returns-in-Ok-clause-ok
returns-in-Ok-clause-ok g c =
    let s = g.R.Region.state c.args.region.now in
    let word = g.R.ReadRegion.word c.args.region.now in
    let lists = by_view s word _ c.of-view.ensures (λ image. IsStore c.bytes.result image × ListsCells (cells_of image) c.in-Ok.pairs.items) c.in-Ok.ensures in
    (store_sound s.frame.bytes word (subst (λ n. IsStore n word) c.bytes.ensures lists.0), lists.1)
