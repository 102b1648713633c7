use Rattle.std.proofs.Common.{sym, subst, arith}
use Rattle.chunk_map.specs.Layouts.{IsLayout}
use Rattle.store_image.proofs.Clients.{layout_numbers}
use Rattle.recover.proofs.found_entries.chunk_number.Goals as goal

pub nonzero_div-result-2 : goal.nonzero_div-result-2
nonzero_div-result-2 c =
    let is = layout_numbers c.geometry-geometry.result (subst IsLayout (sym c.geometry-geometry.ensures.value) c.geometry-geometry.ensures.rules) in
    let low = is.size in
    omega (arith, low)
