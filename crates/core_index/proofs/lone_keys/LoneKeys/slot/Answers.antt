use Rattle.std.proofs.Common.{Option, Some, None, sym, ◌∙◌, ap}
use Rattle.core_index.specs.Records.{KeyRecord}
use Rattle.core_index.proofs.TombLaws.{known_found}
use Rattle.core_index.proofs.LoneLaws.{known_live, known_deleted}
use Rattle.core_index.proofs.lone_keys.LoneKeys.slot.Goals as goal

pub returns-in-Some-clause-slot : goal.returns-in-Some-clause-slot
returns-in-Some-clause-slot c = c.in_ok-slot.ensures ∙ ap (λ (o : Option KeyRecord). record { known = o; room = 1 }) (sym (known_live c.args.self.now c.args.key c.in-Some.live c.in-Some.ensures.found))

pub returns-in_default-find-clause-none : goal.returns-in_default-find-clause-none
returns-in_default-find-clause-none c =
    let a = c.args.self.now in
    known_deleted a c.args.key c.in_default.ensures.found ∙ known_found a.deleted.items c.args.key None c.in_default-find.ensures.found

pub returns-clause-slot : goal.returns-clause-slot
returns-clause-slot c =
    let a = c.args.self.now in
    c.of_tombstone.ensures ∙ ap (λ (o : Option KeyRecord). record { known = o; room = 1 }) (sym (known_deleted a c.args.key c.in_default.ensures.found ∙ known_found a.deleted.items c.args.key (Some c.in-Some-find.tombstone) c.in-Some-find.ensures.found))
