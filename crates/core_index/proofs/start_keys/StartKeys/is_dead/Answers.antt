use Rattle.std.proofs.Common.{Option, ℕ, ◌==◌, sym, ◌∙◌, ap}
use Rattle.core_index.specs.Records.{KeyRecord, is_dead_in}
use Rattle.core_index.proofs.StartLaws.{known_lone, twin_dead_in}
use Rattle.core_index.proofs.start_keys.StartKeys.is_dead.Goals as goal

pub returns-in-None : goal.returns-in-None
returns-in-None c = c.is_dead.ensures ∙ sym (ap (λ (o : Option KeyRecord). is_dead_in o c.args.name.version) (known_lone c.args.self.now c.args.name.key c.older_of.ensures.rising c.in-None.ensures.lone))

pub returns-in-Some : goal.returns-in-Some
returns-in-Some c = ap (λ (v : ℕ). v == c.args.name.version) c.version_of.ensures ∙ sym (twin_dead_in c.args.self.now c.args.name c.in-Some.older c.older_of.ensures.rising c.in-Some.ensures.twin)
