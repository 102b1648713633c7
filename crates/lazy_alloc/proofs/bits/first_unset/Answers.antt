use Rattle.std.proofs.Common.{◌+◌, get_or, refl, ◌∙◌, arith}
use Rattle.lazy_alloc.proofs.BitLaws.{more_set, bit_in}
use Rattle.lazy_alloc.proofs.bits.first_unset.Goals as goal

pub returns-then-found-count : goal.returns-then-found-count
returns-then-found-count c =
    let ws = c.args.words.now in
    let from = c.args.from in
    let i = c.loop-i.i in
    let word = get_or ws (from + i) 0 in
    let is = c.in-Some.ensures in (
      c.if-found-count.true,
      (bit_in ws from i c.in-Some.bit word refl is.small ∙ is.lowest.0, more_set ws from i c.in-Some.bit word refl (let s = is.small in omega arith) is.lowest.1 c.loop-i.invariant),
    )

pub returns-else-found-count : goal.returns-else-found-count
returns-else-found-count c =
    let ws = c.args.words.now in
    let is = c.in-Some.ensures in
    λ k lt. more_set ws c.args.from c.loop-i.i c.in-Some.bit (get_or ws (c.args.from + c.loop-i.i) 0) refl (let s = is.small in omega arith) is.lowest.1 c.loop-i.invariant k (let e = c.if-found-count.false in omega arith)

pub loop-i-preserved : goal.loop-i-preserved
loop-i-preserved c =
    let ws = c.args.words.now in
    let is = c.in_default.ensures in
    λ k lt. more_set ws c.args.from c.loop-i.i 64 (get_or ws (c.args.from + c.loop-i.i) 0) refl (omega arith) is.lowest c.loop-i.invariant k (omega arith)
