use Rattle.std.proofs.Common.{refl, inl, inr}
use Rattle.group_laws.specs.declared.types.Seen.TheVariants.{Holder}
use Rattle.group_machine.specs.Shows.{place_of}
use Rattle.group_machine.proofs.Made.{view_at}
use Rattle.group_machine.proofs.Leaders.{find_is, lock_is}
use Rattle.group_machine.proofs.leader_steps.lock.Goals as goal

pub returns-in-Some : goal.returns-in-Some
returns-in-Some c =
    let g = c.args.state.now in
    let m = c.args.member in
    let v = c.index_mut-view.result.now in
    let can = c.if-not-may_lock.ensures.0 refl in
    let at = view_at g m v can.member c.index_mut-view.ensures.value in (
      can,
      inr (
        c.in-Some.holder,
        c.in-Some.is,
        find_is (place_of g) g.mail g.views.items m v at g.holder g.slots c.push.new.self (Holder c.in-Some.holder) c.in_ok-push.ensures.items,
      ),
    )

pub returns : goal.returns
returns c =
    let g = c.args.state.now in
    let m = c.args.member in
    let v = c.index_mut-view-2.result.now in
    let can = c.if-not-may_lock.ensures.0 refl in
    let at = view_at g m v can.member c.index_mut-view-2.ensures.value in (
      can,
      inl (
        c.in_default.is,
        lock_is (place_of g) g.mail g.views.items m v at g.holder g.slots c.clear.new.self c.clear.ensures.items,
      ),
    )
