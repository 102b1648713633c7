use Rattle.std.proofs.Common.{Option, sym, ◌∙◌, ap}
use Rattle.core_index.specs.Lives.{entry_version, entry_home}
use Rattle.core_index.specs.Records.{KeyRecord}
use Rattle.core_index.specs.Records.{is_dead_in}
use Rattle.core_index.proofs.LoneLaws.{known_live, known_deleted, never_dead, none_dead}
use Rattle.core_index.proofs.lone_keys.LoneKeys.is_dead.Goals as goal

pub returns-then-not-is_dead : goal.returns-then-not-is_dead
returns-then-not-is_dead c = sym (none_dead c.args.self.now c.args.name.key c.args.name.version (sym c.is_dead.ensures ∙ c.if-not-is_dead.true))

pub returns-in-None : goal.returns-in-None
returns-in-None c = sym c.if-not-is_dead.false ∙ c.is_dead.ensures ∙ sym (ap (λ (o : Option KeyRecord). is_dead_in o c.args.name.version) (known_deleted c.args.self.now c.args.name.key c.in-None.ensures.found))

pub returns-in-Some : goal.returns-in-Some
returns-in-Some c =
    let a = c.args.self.now in
    let x = c.in-Some.field-0 in
    sym (ap (λ (o : Option KeyRecord). is_dead_in o c.args.name.version) (known_live a c.args.name.key x c.in-Some.ensures.found) ∙ never_dead a.live.bytes x.held x.fate (entry_version x) (entry_home x) c.args.name.version)
