-- What recovery lists is of a sound region.
use Rattle.std.proofs.Common.{◌≡◌, subst}
use Rattle.chunk_map.specs.Layouts.{layout_of}
use Rattle.store_image.specs.Facts.{IsStore}
use Rattle.store_image.specs.Parts.{all_entries}
use Rattle.store_image.proofs.Clients.{store_sound}
use Rattle.flatstore_commands.proofs.Viewed.{by_view}
use Rattle.flatstore_commands.proofs.showing.placed_entries.Goals as goal

pub returns-in-Ok-clause-ok : goal.returns-in-Ok-clause-ok
returns-in-Ok-clause-ok g c =
    let s = g.R.Region.state c.args.region.now in
    let word = g.R.ReadRegion.word c.args.region.now in
    let lists = by_view s word _ c.of-view.ensures (λ image. IsStore c.bytes.result image × (c.in-Ok.entries.items ≡ all_entries (layout_of image) image)) c.in-Ok.ensures in
    (store_sound s.frame.bytes word (subst (λ n. IsStore n word) c.bytes.ensures lists.0), lists.1)
