use Rattle.group_machine.specs.Shows.{place_of}
use Rattle.group_machine.proofs.Made.{view_at}
use Rattle.group_machine.proofs.Owners.{doubt_is}
use Rattle.group_machine.proofs.finishing.doubt.Goals as goal

pub returns : goal.returns
returns c =
    let g = c.args.state.now in
    let m = c.args.member in
    let v = c.index_mut-view.result.now in
    let at = view_at g m v c.requires.member c.index_mut-view.ensures.value in
    doubt_is (place_of g) g.holder g.mail g.views.items m v at g.slots c.insert.new.self c.args.slot c.args.entry c.insert-2.new.self c.clear.new.self
    c.requires.own c.in_ok-insert.ensures.updates c.in_ok-insert-2.ensures.updates c.clear.ensures.items
