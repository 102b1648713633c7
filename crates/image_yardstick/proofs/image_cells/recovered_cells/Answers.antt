use Rattle.std.proofs.Common.{ℕ, subst, slice_index}
use Rattle.chunk_map.specs.declared.layouts.Geometry.{Geometry}
use Rattle.store_image.specs.Winners.{recovered}
use Rattle.store_image.specs.Listing.{ListsCells}
use Rattle.image_yardstick.proofs.image_cells.recovered_cells.Goals as goal

pub returns-in_ok-pairs-in-Some : goal.returns-in_ok-pairs-in-Some
returns-in_ok-pairs-in-Some c =
    let image : ℕ → ℕ = λ w. slice_index c.args.words.now w in
    let Lists : Geometry → Type 0 = λ l. ListsCells (recovered l image) c.in_ok-pairs-in-Some.pairs.items in
    subst Lists c.in-Some.ensures.0 c.in_ok-pairs-in-Some.ensures
