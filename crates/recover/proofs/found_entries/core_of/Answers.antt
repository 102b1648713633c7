use Rattle.std.proofs.Common.{sym, subst, arith}
use Rattle.chunk_map.specs.Layouts.{IsLayout}
use Rattle.store_image.proofs.Clients.{layout_numbers}
use Rattle.recover.proofs.FoundEntryLaws.{first_core}
use Rattle.recover.proofs.found_entries.core_of.Goals as goal

pub nonzero_div-result : goal.nonzero_div-result
nonzero_div-result c =
    let is = layout_numbers c.geometry-geometry.result (subst IsLayout (sym c.geometry-geometry.ensures.value) c.geometry-geometry.ensures.rules) in
    let low = is.chunks in
    omega (arith, low)

pub returns-then-is_in_first : goal.returns-then-is_in_first
returns-then-is_in_first c = sym (first_core c.args.layout.now c.args.at (c.is_in_first.ensures c.if-is_in_first.true))
