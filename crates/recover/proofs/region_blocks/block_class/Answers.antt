use Rattle.std.proofs.Common.{◌≡◌, ◌/◌, true, sym, ◌∙◌, ap}
use Rattle.chunk_map.specs.declared.layouts.Geometry.{Geometry}
use Rattle.store_image.specs.Parts.{is_start, chunk_at, unit_at}
use Rattle.recover.proofs.BlockLaws.{block_lies}
use Rattle.recover.proofs.region_blocks.block_class.Goals as goal

pub returns-then-is_start-clause-within : goal.returns-then-is_start-clause-within
returns-then-is_start-clause-within g c =
    let l = c.args.layout.now in
    let geometry = c.geometry-geometry.ensures.value in
    let part : chunk_at l c.args.pointer / l.chunks ≡ c.args.part = ap (λ (l : Geometry). chunk_at l c.args.pointer / l.chunks) (sym geometry) ∙ c.if-chunk-geometry.false in
    let start : is_start l c.in-Ok-Data.class (unit_at l c.args.pointer) ≡ true = ap (λ (l : Geometry). is_start l c.in-Ok-Data.class (unit_at l c.args.pointer)) (sym geometry) ∙ sym c.is_start.ensures ∙ c.if-is_start.true in
    block_lies (g.R.Region.state c.args.region.now).frame l c.requires.covers c.args.part c.args.pointer c.in-Ok-Data.class c.requires.part c.if-pointer-lt-FIRST_UNIT.false part start
