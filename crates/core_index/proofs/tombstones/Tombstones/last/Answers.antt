use Rattle.std.proofs.Common.{Some, None, sym, ◌∙◌, ap}
use Rattle.core_index.specs.Records.{last_of}
use Rattle.core_index.proofs.TombLaws.{known_found}
use Rattle.core_index.proofs.tombstones.Tombstones.last.Goals as goal

pub returns-in-None : goal.returns-in-None
returns-in-None c = sym (ap last_of (known_found c.args.self.now.items c.args.key None c.in-None.ensures.found))

pub returns-in-Some : goal.returns-in-Some
returns-in-Some c = c.last_of.ensures ∙ sym (ap last_of (known_found c.args.self.now.items c.args.key (Some c.in-Some.tombstone) c.in-Some.ensures.found))
