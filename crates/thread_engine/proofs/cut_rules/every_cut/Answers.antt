use Rattle.thread_engine.proofs.CutKeys.{recovers}
use Rattle.thread_engine.proofs.cut_rules.every_cut.Goals as goal

pub returns : goal.returns
returns c = λ o r refused e is S ran order cut image may. recovers c.turn_at_a_cut.ensures.after c.every_chain.ensures c.every_opening.ensures.keys c.every_opening.ensures.doubts o r refused e is S ran order cut image may
