use Rattle.std.proofs.Common.{◌&&◌, not, true, refl}
use Rattle.lazy_alloc.proofs.BitLaws.{changed_from, and_true}
use Rattle.lazy_alloc.proofs.bits.clear.Goals as goal

pub returns-clause-each : goal.returns-clause-each
returns-clause-each c = changed_from c.args.words.now.items c.args.at c.without.result c.index.result.now (λ a b. b && not a) c.index.ensures c.requires (λ b. and_true b true refl) c.without.ensures
