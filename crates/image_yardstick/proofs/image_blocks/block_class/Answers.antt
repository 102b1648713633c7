use Rattle.std.proofs.Common.{arith}
use Rattle.store_image.specs.Parts.{chunk_at}
use Rattle.store_image.proofs.Clients.{layout_numbers, chunk_ends, chunk_within}
use Rattle.image_yardstick.proofs.image_blocks.block_class.Goals as goal

pub overflow_mul-at : goal.overflow_mul-at
overflow_mul-at c =
    let l = c.args.layout.now in
    let is = layout_numbers l c.requires.layout in
    let ends = chunk_ends l is (chunk_at l c.args.pointer) (chunk_within l is c.args.part c.args.pointer c.requires.part c.if-chunk-layout.false) in
    omega (arith, ends)

pub overflow_add-at : goal.overflow_add-at
overflow_add-at c =
    let l = c.args.layout.now in
    let is = layout_numbers l c.requires.layout in
    let ends = chunk_ends l is (chunk_at l c.args.pointer) (chunk_within l is c.args.part c.args.pointer c.requires.part c.if-chunk-layout.false) in
    omega (arith, ends)

pub head_at-requires-clause-within : goal.head_at-requires-clause-within
head_at-requires-clause-within c =
    let l = c.args.layout.now in
    let is = layout_numbers l c.requires.layout in
    let size = is.size in
    let ends = chunk_ends l is (chunk_at l c.args.pointer) (chunk_within l is c.args.part c.args.pointer c.requires.part c.if-chunk-layout.false) in
    omega (arith, ends, size, c.requires.words)
