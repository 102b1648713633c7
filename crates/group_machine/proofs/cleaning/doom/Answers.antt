use Rattle.std.proofs.Common.{refl}
use Rattle.group_machine.specs.Shows.{place_of}
use Rattle.group_machine.proofs.Made.{view_at}
use Rattle.group_machine.proofs.Cleaners.{doom_is}
use Rattle.group_machine.proofs.cleaning.doom.Goals as goal

pub returns : goal.returns
returns c =
    let g = c.args.state.now in
    let m = c.args.member in
    let v = c.index_mut-view.result.now in
    let can = c.if-not-may_doom.ensures.0 refl in
    let at = view_at g m v can.member c.index_mut-view.ensures.value in
    (can, doom_is (place_of g) g.holder g.slots g.views.items m v at g.mail c.args.names.now c.extend_from_slice.new.self c.clear.new.self c.in_ok-extend_from_slice.ensures.items c.clear.ensures.items)
