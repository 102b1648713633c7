use Rattle.std.proofs.Common.{sym, ◌∙◌}
use Rattle.lazy_alloc.proofs.BitLaws.{has_bit_is}
use Rattle.lazy_alloc.proofs.bits.is_set.Goals as goal

pub returns : goal.returns
returns c = c.has.ensures ∙ sym (has_bit_is c.args.words.now c.args.at)
