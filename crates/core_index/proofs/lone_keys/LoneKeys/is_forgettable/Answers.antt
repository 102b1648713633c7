use Rattle.std.proofs.Common.{sym, ◌∙◌, ap}
use Rattle.core_index.specs.Lives.{entry_version, entry_home}
use Rattle.core_index.specs.Records.{is_forgettable}
use Rattle.core_index.proofs.LoneLaws.{known_live, known_deleted, never_forgettable}
use Rattle.core_index.proofs.lone_keys.LoneKeys.is_forgettable.Goals as goal

pub returns-in-None : goal.returns-in-None
returns-in-None c = c.is_forgettable.ensures ∙ sym (ap is_forgettable (known_deleted c.args.self.now c.args.key c.in-None.ensures.found))

pub returns-in-Some : goal.returns-in-Some
returns-in-Some c =
    let a = c.args.self.now in
    let x = c.in-Some.field-0 in
    sym (ap is_forgettable (known_live a c.args.key x c.in-Some.ensures.found) ∙ never_forgettable a.live.bytes x.held x.fate (entry_version x) (entry_home x))
