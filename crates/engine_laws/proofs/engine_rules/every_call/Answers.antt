use Rattle.engine_laws.proofs.Calls.{call_stands, call_sits, call_others}
use Rattle.engine_laws.proofs.engine_rules.every_call.Goals as goal

pub returns : goal.returns
returns c = record {
  stands = λ o e c t b v u w x takes accepted rest fixed S C. call_stands o e c t b v u w x takes accepted rest fixed S C;
  sits = λ o e c t b v u w x takes accepted rest fixed S C. call_sits o e c t b v u w x takes accepted rest fixed S C;
  others = λ o e c t b v u w x takes accepted rest fixed S C d v' w' ne T. call_others o e c t b v u w x takes accepted rest fixed S C d v' w' ne T;
}
