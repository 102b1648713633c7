use Rattle.std.proofs.Common.{sym, ◌∙◌, ap}
use Rattle.core_index.specs.Records.{is_forgettable}
use Rattle.core_index.proofs.StartLaws.{known_lone, twin_not_forgettable}
use Rattle.core_index.proofs.start_keys.StartKeys.is_forgettable.Goals as goal

pub returns-in-None : goal.returns-in-None
returns-in-None c = c.is_forgettable.ensures ∙ sym (ap is_forgettable (known_lone c.args.self.now c.args.key c.older_of.ensures.rising c.in-None.ensures.lone))

pub returns-in-Some : goal.returns-in-Some
returns-in-Some c = sym (twin_not_forgettable c.args.self.now c.args.key c.in-Some.field-0 c.older_of.ensures.rising c.in-Some.ensures.twin)
