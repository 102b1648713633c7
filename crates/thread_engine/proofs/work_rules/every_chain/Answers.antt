use Rattle.thread_engine.proofs.WorkChains.{chain_works_off}
use Rattle.thread_engine.proofs.work_rules.every_chain.Goals as goal

pub returns : goal.returns
returns c seat refused a b at doubts works = chain_works_off c.every_key.ensures seat refused a works.path b at doubts works.leads
