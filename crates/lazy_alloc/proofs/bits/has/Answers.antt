use Rattle.lazy_alloc.proofs.BitLaws.{has_shifted}
use Rattle.lazy_alloc.proofs.bits.has.Goals as goal

pub returns : goal.returns
returns c = has_shifted c.args.word c.args.at
