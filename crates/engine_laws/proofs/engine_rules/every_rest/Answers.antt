use Rattle.engine_laws.proofs.Ceasing.{stays_resting, ceased, takes_stands}
use Rattle.engine_laws.proofs.engine_rules.every_rest.Goals as goal

pub returns : goal.returns
returns c = record {
  stays = λ e f c d H J. stays_resting e f c d H J;
  ceased = λ o e S rest. ceased o e S rest;
  takes = λ o e t S. takes_stands o e t S;
}
