use Rattle.engine_laws.proofs.Begins.{opens}
use Rattle.engine_laws.proofs.Kept.{promised, any_delivers}
use Rattle.engine_laws.proofs.Ran.{ran_stands, ran_given}
use Rattle.engine_laws.specs.Promises.{AnyMove}
use Rattle.engine_laws.specs.Stands.{opening}
use Rattle.engine_laws.proofs.engine_rules.every_replay.Goals as goal

pub returns : goal.returns
returns c = record {
  promised = λ o cores lines e is r. promised o e (ran_stands AnyMove any_delivers o cores lines (opening o) e (opens o is.sound is.first is.words is.certain) r);
  given = λ o cores lines e r. ran_given AnyMove any_delivers cores lines (opening o) e r;
}
