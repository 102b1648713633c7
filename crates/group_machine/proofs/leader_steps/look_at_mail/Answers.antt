use Rattle.std.proofs.Common.{refl}
use Rattle.group_laws.specs.declared.types.Seen.TheVariants.{Mail as SeenMail}
use Rattle.group_laws.specs.State.{is_full}
use Rattle.group_machine.specs.Shows.{place_of, group_of}
use Rattle.group_machine.proofs.Made.{view_at}
use Rattle.group_machine.proofs.Leaders.{find_is}
use Rattle.group_machine.proofs.leader_steps.look_at_mail.Goals as goal

pub returns : goal.returns
returns c =
    let g = c.args.state.now in
    let m = c.args.member in
    let v = c.index_mut-view.result.now in
    let low = c.if-not-has_member.ensures.0 refl in
    let sender = c.if-not-has_member-2.ensures.0 refl in
    let receiver = c.if-not-has_member-3.ensures.0 refl in
    let at = view_at g m v low c.index_mut-view.ensures.value in (
      low,
      sender,
      receiver,
      find_is (place_of g) g.mail g.views.items m v at g.holder g.slots c.push.new.self (SeenMail c.args.from c.args.to (is_full ((group_of g).mail c.args.from c.args.to))) (rw (← c.mail_at-full.ensures) c.in_ok-push.ensures.items),
    )
