use Rattle.std.proofs.Common.{refl, [], sym, ◌∙◌, ap, subst}
use Rattle.store_image.specs.Facts.{In}
use Rattle.group_laws.specs.Steps.{CanFail}
use Rattle.group_machine.specs.Shows.{place_of, group_of, of}
use Rattle.group_machine.specs.declared.state.MemberView.{MemberView}
use Rattle.group_machine.proofs.Made.{view_at}
use Rattle.group_machine.proofs.Leaders.{fail_is}
use Rattle.group_machine.proofs.return_steps.fail.Goals as goal

pub returns : goal.returns
returns c =
    let g = c.args.state.now in
    let m = c.args.member in
    let e = c.in-Some.entry in
    let v = c.index_mut-view.result.now in
    let low = c.if-not-has_member.ensures.0 refl in
    let seen = view_at g m c.index.result.now low c.index.ensures in
    let at = view_at g m v low c.index_mut-view.ensures.value in
    let flying : In e ((group_of g).flying m) = subst (In e) (c.deref.ensures.value ∙ sym (ap (of (λ (v : MemberView). v.flying.items) []) seen)) (c.if-not-contains.ensures.0 refl) in
    let can : CanFail (group_of g) m c.args.owner c.args.slot e = record { member = low; slot = c.if-not-has_slot.ensures.0 refl; taken = sym c.in_ok-entry.ensures ∙ c.in-Some.is; flying = flying } in (
      e,
      can,
      fail_is (place_of g) g.mail g.views.items m v at g.holder g.slots c.insert.new.self c.args.owner c.args.slot e c.remove.new.self c.clear.new.self
          c.in_ok-insert.ensures.updates c.remove.ensures.updates c.clear.ensures.items,
    )
