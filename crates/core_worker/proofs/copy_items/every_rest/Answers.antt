use Rattle.core_worker.proofs.RestLaws.{rest_is}
use Rattle.core_worker.proofs.copy_items.every_rest.Goals as goal

pub returns : goal.returns
returns c = λ s p m v w victim first H S tells way. rest_is s p m v w H S tells victim first way
