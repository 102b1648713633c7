use Rattle.core_index.specs.Records.{is_dead_in}
use Rattle.core_index.specs.Index.{known_at}
use Rattle.recover.proofs.starts.own_standing.Goals as goal

pub returns-clause-told : goal.returns-clause-told
returns-clause-told c = c.standing.ensures.told (λ k v. is_dead_in (known_at c.args.index.now k) v) (λ n b says. says.1)
