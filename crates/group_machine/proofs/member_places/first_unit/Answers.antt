use Rattle.std.proofs.Common.{◌+◌, ◌*◌, ◌/◌, arith, ap}
use Rattle.chunk_map.specs.declared.layouts.Geometry.{Geometry}
use Rattle.group_laws.specs.Places.{first_unit}
use Rattle.group_machine.proofs.Bounds.{part_small, core_small, unit_small}
use Rattle.group_machine.proofs.member_places.first_unit.Goals as goal

pub overflow_mul-result-2 : goal.overflow_mul-result-2
overflow_mul-result-2 c =
    let is = rw (← c.geometry-geometry.ensures.value) at c.geometry-geometry.ensures.rules in
    let part = part_small c.geometry-geometry.result is in
    let core = core_small c.args.group c.geometry-geometry.result.group c.args.member (omega arith) (omega arith) (omega arith) in
    let unit = unit_small _ _ core part in
    omega (arith, unit)

pub overflow_add-result : goal.overflow_add-result
overflow_add-result c =
    let is = rw (← c.geometry-geometry.ensures.value) at c.geometry-geometry.ensures.rules in
    let part = part_small c.geometry-geometry.result is in
    let core = core_small c.args.group c.geometry-geometry.result.group c.args.member (omega arith) (omega arith) (omega arith) in
    let unit = unit_small _ _ core part in
    omega (arith, unit)

pub returns : goal.returns
unfolding first_unit
returns c = ap (λ (g : Geometry). 16 + (c.args.group * g.group + c.args.member) * (g.chunks * (g.chunk_bytes / 256))) c.geometry-geometry.ensures.value
