use Rattle.std.proofs.Common.{◌≡◌, ℕ, Option, List, ap, ◌∙◌}
use Rattle.std.specs.Ordering.{nat_cmp}
use Rattle.std.specs.BTreeMap.{get}
use Rattle.group_laws.specs.Updates.{put}
use Rattle.group_machine.specs.Shows.{place_of}
use Rattle.group_machine.specs.Finds.{left_in}
use Rattle.group_machine.proofs.Made.{view_at}
use Rattle.group_machine.proofs.Owners.{finish_is}
use Rattle.group_machine.proofs.finishing.settle.Goals as goal

pub returns : goal.returns
returns c =
    let g = c.args.state.now in
    let m = c.args.member in
    let e = c.args.entry.now in
    let v = c.index_mut-view.result.now in
    let at = view_at g m v c.requires.member c.index_mut-view.ensures.value in
    let cell_set : (k : ℕ) → get nat_cmp c.set_cell.new.cell k ≡ put (get nat_cmp v.cell) e.key (left_in (get nat_cmp v.blocks) e.body) k = λ k. c.in_ok-set_cell.ensures k ∙ ap (λ (x : Option (List ℕ)). put (get nat_cmp v.cell) e.key x k) c.in_ok-left.ensures in
    finish_is (place_of g) g.holder g.mail g.views.items m v at g.slots c.insert.new.self c.args.slot e c.args.home c.insert-2.new.self c.set_cell.new.cell c.remove.new.self c.insert-3.new.self c.drop_replaced.new.blocks c.clear.new.self
    c.requires.own c.in_ok-insert.ensures.updates c.in_ok-insert-2.ensures.updates cell_set c.remove.ensures.updates c.in_ok-insert-3.ensures.updates c.in_ok-drop_replaced.ensures c.clear.ensures.items
