use Rattle.lazy_alloc.proofs.BitLaws.{has_with}
use Rattle.lazy_alloc.proofs.bits.with.Goals as goal

pub returns : goal.returns
returns c = has_with c.args.word c.args.at c.requires
