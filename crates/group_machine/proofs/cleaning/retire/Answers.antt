use Rattle.std.proofs.Common.{refl, subst}
use Rattle.group_laws.specs.State.{Group}
use Rattle.group_laws.specs.Tidying.{Tidied}
use Rattle.group_machine.specs.Shows.{group_of}
use Rattle.group_machine.proofs.cleaning.retire.Goals as goal

pub returns : goal.returns
returns c =
    let can = c.if-not-may_retire.ensures.0 refl in
    (can, subst (λ (b : Group). Tidied b c.args.member (group_of c.tidy.new.state)) c.in_ok-drop_retired.ensures c.in_ok-tidy.ensures)
