use Rattle.std.proofs.Common.{refl, arith}
use Rattle.group_laws.specs.declared.types.Seen.TheVariants.{Slot as SeenSlot}
use Rattle.group_laws.specs.State.{word_shown}
use Rattle.group_machine.specs.Shows.{place_of, group_of}
use Rattle.group_machine.proofs.Made.{view_at}
use Rattle.group_machine.proofs.Leaders.{find_is}
use Rattle.group_machine.proofs.leader_steps.look_at_slot.Goals as goal

pub returns : goal.returns
returns c =
    let g = c.args.state.now in
    let m = c.args.member in
    let v = c.index_mut-view.result.now in
    let low = c.if-not-has_member.ensures.0 refl in
    let other = c.if-not-has_member-2.ensures.0 refl in
    let at = view_at g m v low c.index_mut-view.ensures.value in (
      low,
      (other, omega arith),
      find_is (place_of g) g.mail g.views.items m v at g.holder g.slots c.push.new.self (SeenSlot c.args.owner c.args.slot (word_shown ((group_of g).slot c.args.owner c.args.slot))) (rw (← c.word_at-word.ensures) c.in_ok-push.ensures.items),
    )
