use Rattle.std.proofs.Common.{Option, sym, subst}
use Rattle.core_index.specs.Records.{KeyRecord, Shows}
use Rattle.core_index.proofs.LoneLaws.{known_live, known_deleted}
use Rattle.core_index.proofs.lone_keys.LoneKeys.look.Goals as goal

pub returns-in-None : goal.returns-in-None
returns-in-None c = subst (λ (o : Option KeyRecord). Shows o c.look.result) (sym (known_deleted c.args.self.now c.args.key c.in-None.ensures.found)) c.look.ensures

pub returns-in-Some : goal.returns-in-Some
returns-in-Some c = subst (λ (o : Option KeyRecord). Shows o c.look-in-Some.result) (sym (known_live c.args.self.now c.args.key c.in-Some.live c.in-Some.ensures.found)) c.look-in-Some.ensures
