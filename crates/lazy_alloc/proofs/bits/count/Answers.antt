use Rattle.std.proofs.Common.{sym, arith}
use Rattle.lazy_alloc.proofs.BitLaws.{ones_counted}
use Rattle.lazy_alloc.proofs.bits.count.Goals as goal

pub returns : goal.returns
returns c = sym (ones_counted 64 c.args.word (omega (arith, c.ranges.word)))
