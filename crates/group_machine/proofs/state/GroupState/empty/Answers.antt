use Rattle.std.proofs.Common.{refl}
use Rattle.group_laws.specs.Places.{Place, IsPlace}
use Rattle.group_machine.proofs.Empties.{opened, lawful}
use Rattle.group_machine.proofs.Blank.{is_opened}
use Rattle.group_machine.proofs.state.GroupState.empty.Goals as goal

pub returns : goal.returns
returns c =
    let p : Place = record { layout = c.args.layout.now; group = c.args.group } in
    let place : IsPlace p = record { layout = c.geometry-geometry.ensures.rules; group = c.requires } in
    let views = c.in_ok-views.views.items in
    let all = c.in_ok-views.ensures.empty in
    record {
      place = refl;
      opened = opened p place c.new.result c.new-2.result views c.new.ensures.empty c.new-2.ensures.empty all;
      words = λ image blank. is_opened p place image blank c.new.result c.new-2.result views c.new.ensures.empty c.new-2.ensures.empty all;
      lawful = lawful p place c.new.result c.new-2.result views c.new.ensures.empty c.new-2.ensures.empty all;
    }
