use Rattle.thread_engine.proofs.FirstKeys.{first_key, first_doubts}
use Rattle.thread_engine.proofs.opening_rules.every_opening.Goals as goal

pub returns : goal.returns
returns c = record {
  keys = λ o is m k own. first_key o (c.every_move.ensures.opens o is) k m own;
  doubts = λ seat image. first_doubts seat image;
}
