use Rattle.engine_laws.proofs.Stands.{stands_on}
use Rattle.engine_laws.proofs.Begins.{opens, gives}
use Rattle.engine_laws.proofs.engine_rules.every_move.Goals as goal

pub returns : goal.returns
returns c = record {
  opens = λ o is. opens o is.sound is.first is.words is.certain;
  given = λ o e q S. gives o e q S;
  moved = λ o e f c accepted fixed S M. stands_on o e f c accepted fixed S M;
}
