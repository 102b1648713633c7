use Rattle.std.proofs.Common.{arith}
use Rattle.lazy_alloc.proofs.BitLaws.{has_without}
use Rattle.lazy_alloc.proofs.bits.without.Goals as goal

pub returns : goal.returns
returns c = has_without c.args.word c.args.at (omega (arith, c.ranges.word)) c.requires
