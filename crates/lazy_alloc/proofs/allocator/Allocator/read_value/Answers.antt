use Rattle.std.proofs.Common.{sym, arith}
use Rattle.lazy_alloc.proofs.WriteLaws.{lie}
use Rattle.lazy_alloc.proofs.allocator.Allocator.read_value.Goals as goal

pub value_in-requires-clause-low : goal.value_in-requires-clause-low
value_in-requires-clause-low g c =
    let is = lie c.args.self.now c.args.pointer c.in-Some.class c.in-Some.ensures.rules c.in-Some.ensures.sets (sym c.in-Some.ensures.class) in
    omega (arith, is.low, is.first, c.requires.lies.low)

pub value_in-requires-clause-high : goal.value_in-requires-clause-high
value_in-requires-clause-high g c =
    let is = lie c.args.self.now c.args.pointer c.in-Some.class c.in-Some.ensures.rules c.in-Some.ensures.sets (sym c.in-Some.ensures.class) in
    omega (arith, is.high, is.last, c.requires.lies.high)
