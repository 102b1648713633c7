use Rattle.std.proofs.Common.{refl}
use Rattle.group_machine.specs.Shows.{place_of}
use Rattle.group_machine.proofs.Made.{view_at}
use Rattle.group_machine.proofs.Leaders.{unlock_is}
use Rattle.group_machine.proofs.leader_steps.unlock.Goals as goal

pub returns : goal.returns
returns c =
    let g = c.args.state.now in
    let m = c.args.member in
    let v = c.index_mut-view.result.now in
    let can = c.if-not-may_unlock.ensures.0 refl in
    let at = view_at g m v can.member c.index_mut-view.ensures.value in
    (can, unlock_is (place_of g) g.mail g.views.items m v at g.holder g.slots c.clear.new.self c.clear.ensures.items)
