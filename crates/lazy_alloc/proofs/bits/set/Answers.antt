use Rattle.std.proofs.Common.{◌||◌, refl}
use Rattle.lazy_alloc.proofs.BitLaws.{changed_from}
use Rattle.lazy_alloc.proofs.bits.set.Goals as goal

pub returns-clause-each : goal.returns-clause-each
returns-clause-each c = changed_from c.args.words.now.items c.args.at c.with.result c.index.result.now (λ a b. a || b) c.index.ensures c.requires (λ b. refl) c.with.ensures
