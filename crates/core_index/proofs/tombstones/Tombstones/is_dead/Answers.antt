use Rattle.std.proofs.Common.{Option, Some, None, sym, ◌∙◌, ap}
use Rattle.core_index.specs.Records.{KeyRecord, is_dead_in}
use Rattle.core_index.proofs.TombLaws.{known_found}
use Rattle.core_index.proofs.tombstones.Tombstones.is_dead.Goals as goal

pub returns-in-None : goal.returns-in-None
returns-in-None c = sym (ap (λ (o : Option KeyRecord). is_dead_in o c.args.name.version) (known_found c.args.self.now.items c.args.name.key None c.in-None.ensures.found))

pub returns-in-Some : goal.returns-in-Some
returns-in-Some c = c.is_dead.ensures.dead ∙ sym (ap (λ (o : Option KeyRecord). is_dead_in o c.args.name.version) (known_found c.args.self.now.items c.args.name.key (Some c.in-Some.tombstone) c.in-Some.ensures.found))
