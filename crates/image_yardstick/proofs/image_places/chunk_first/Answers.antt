use Rattle.std.proofs.Common.{◌+◌, ◌*◌, arith}
use Rattle.store_image.proofs.Clients.{layout_numbers, chunk_number, chunk_ends}
use Rattle.image_yardstick.proofs.image_places.chunk_first.Goals as goal

pub overflow_mul-result : goal.overflow_mul-result
overflow_mul-result c =
    let l = c.args.layout.now in
    let is = layout_numbers l c.requires.layout in
    let ends = chunk_ends l is (c.args.part * l.chunks + c.args.chunk) (chunk_number l is c.args.part c.args.chunk c.requires.part c.requires.chunk) in
    omega (arith, ends)

pub overflow_add-result : goal.overflow_add-result
overflow_add-result c =
    let l = c.args.layout.now in
    let is = layout_numbers l c.requires.layout in
    let ends = chunk_ends l is (c.args.part * l.chunks + c.args.chunk) (chunk_number l is c.args.part c.args.chunk c.requires.part c.requires.chunk) in
    omega (arith, ends)

pub returns-clause-within : goal.returns-clause-within
returns-clause-within c =
    let l = c.args.layout.now in
    let is = layout_numbers l c.requires.layout in
    (chunk_ends l is (c.args.part * l.chunks + c.args.chunk) (chunk_number l is c.args.part c.args.chunk c.requires.part c.requires.chunk)).0
