use Rattle.std.proofs.Common.{◌≡◌, ◌+◌, arith}
use Rattle.chunk_map.specs.Layouts.{part_first}
use Rattle.core_block_tests.proofs.block_tests.store_value.Goals as goal

pub store-requires-clause-lies : goal.store-requires-clause-lies
store-requires-clause-lies c =
    let layout = c.in_ok-a.ensures.layout in
    let part = c.in_ok-a.ensures.part in
    let from : part_first c.in_ok-a.a.layout c.in_ok-a.a.part ≡ 512 = (λ i. part_first (layout i) (part i)) in
    let end : part_first c.in_ok-a.a.layout (c.in_ok-a.a.part + 1) ≡ 2560 = (λ i. part_first (layout i) (part i + 1)) in
    let first = c.requires.blank.first in
    let words = c.requires.blank.words in
    record { low = omega (arith, first); high = omega (arith, first, words, end); fits = omega (arith, words) }

pub store-requires-clause-zero : goal.store-requires-clause-zero
store-requires-clause-zero c = λ telling w here. c.requires.blank.zeros w here telling
