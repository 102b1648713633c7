use Rattle.std.proofs.Common.{arith}
use Rattle.lazy_alloc.proofs.BitLaws.{lowest_zero, lowest_is}
use Rattle.lazy_alloc.proofs.bits.lowest.Goals as goal

pub returns-then-word-eq0-clause-lowest : goal.returns-then-word-eq0-clause-lowest
returns-then-word-eq0-clause-lowest c = lowest_zero c.args.word c.if-word-eq0.true

pub returns-else-word-eq0-clause-lowest : goal.returns-else-word-eq0-clause-lowest
returns-else-word-eq0-clause-lowest c = let is = lowest_is c.args.word (omega (arith, c.ranges.word)) c.if-word-eq0.false in (is.1, is.2)
