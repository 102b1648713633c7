use Rattle.std.proofs.Common.{◌≡◌, refl, sym, ◌∙◌}
use Rattle.group_laws.specs.declared.types.Slot.TheVariants.{Posted}
use Rattle.group_machine.specs.Shows.{place_of, group_of}
use Rattle.group_machine.proofs.Made.{view_at}
use Rattle.group_machine.proofs.Found.{posted_is}
use Rattle.group_machine.proofs.Owners.{withdraw_is}
use Rattle.group_machine.proofs.return_steps.withdraw.Goals as goal

pub returns : goal.returns
returns c =
    let g = c.args.state.now in
    let m = c.args.member in
    let e = c.in-Some.entry in
    let v = c.index_mut-view.result.now in
    let slot : (group_of g).slot m c.args.slot ≡ Posted e = posted_is _ e (sym c.in_ok-entry.ensures ∙ c.in-Some.is) in
    let can = (c.if-not-may_withdraw.ensures slot).0 refl in
    let at = view_at g m v can.slot.0 c.index_mut-view.ensures.value in (
      e,
      can,
      withdraw_is (place_of g) g.holder g.mail g.views.items m v at g.slots c.insert.new.self c.args.slot e c.remove.new.self c.drop_block.new.blocks c.clear.new.self
          can.own c.in_ok-insert.ensures.updates c.remove.ensures.updates c.drop_block.ensures c.clear.ensures.items,
    )
