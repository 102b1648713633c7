use Rattle.std.proofs.Common.{◌≡◌, refl, sym, ◌∙◌, ap, ◌∷◌, [], ◌++◌}
use Rattle.log_entry.specs.declared.entry.Entry.{Entry}
use Rattle.group_laws.specs.declared.types.Slot.TheVariants.{Posted}
use Rattle.group_machine.specs.Shows.{place_of, group_of}
use Rattle.group_machine.proofs.Made.{view_at}
use Rattle.group_machine.proofs.Leaders.{take_is}
use Rattle.group_machine.proofs.Found.{posted_is}
use Rattle.group_machine.proofs.leader_steps.take.Goals as goal

pub returns : goal.returns
returns c =
    let g = c.args.state.now in
    let m = c.args.member in
    let e = c.in-Some.entry in
    let v = c.index_mut-view.result.now in
    let slot : (group_of g).slot c.args.owner c.args.slot ≡ Posted e = posted_is _ e (sym c.in_ok-entry.ensures ∙ c.in-Some.is) in
    let can = (c.if-not-may_take_from.ensures slot).0 refl in
    let at = view_at g m v can.member c.index_mut-view.ensures.value in (
      e,
      can,
      take_is (place_of g) g.mail g.views.items m v at g.holder g.slots c.insert.new.self c.args.owner c.args.slot e c.push.new.self c.push-2.new.self c.insert-2.new.self c.clear.new.self
          c.in_ok-insert.ensures.updates c.in_ok-insert-2.ensures.updates
          (c.in_ok-push.ensures.items ∙ ap (λ (x : Entry). v.flying.items ++ x ∷ []) c.in_ok-flying.ensures)
          (c.in_ok-push-2.ensures.items ∙ ap (λ (x : Entry). v.took.items ++ x ∷ []) c.in_ok-took.ensures)
          c.clear.ensures.items,
    )
