use Rattle.std.proofs.Common.{ℕ, ◌<◌, length-set, ◌∙◌, ap, subst, refl}
use Rattle.group_laws.specs.Places.{members}
use Rattle.group_laws.specs.declared.types.Slot.TheVariants as slots
use Rattle.group_board.proofs.Facts.{own_empty}
use Rattle.group_board.proofs.Keeping.{slots_at}
use Rattle.group_board.proofs.Calls.{post_step, post_view, post_kept}
use Rattle.group_board.proofs.local_board.LocalBoard.post.Goals as goal
use Rattle.group_board.specs.declared.board_journal.Act.TheVariants as acts
use Rattle.group_board.proofs.Journals as journals

pub invariant_of-self : goal.invariant_of-self
invariant_of-self g c =
    let me = c.args.self.now in
    let step = post_step c.args.self.now.keeper.me.0 c.note.new.seat.me.0 c.args.member c.args.slot c.args.change c.args.value.now (g.R.Region.state c.args.region.now).stamp c.note.ensures.1 (own_empty me.member_count me.holder me.slots.items me.mail.items me.keeper.me.0 me.kept c.args.member c.args.slot c.requires.free) c.requires in
    record {
      sized = (me.sized.0, me.sized.1, length-set me.slots.items c.place_of-place.result _ ∙ me.sized.2, me.sized.3, ap (λ p. members p) step.0 ∙ me.sized.4);
      here = c.note.ensures.0 ∙ me.here;
      kept = slots_at me.member_count me.holder me.slots.items me.mail.items c.note.new.seat.me.0 c.place_of-place.result _ c.place_of-place.ensures (slots.Posted c.args.change.entry) (slots.Posted c.args.change.entry) refl (post_kept c.args.self.now.keeper.me.0 c.note.new.seat.me.0 c.args.member me.member_count me.holder me.slots.items me.mail.items me.kept c.args.slot c.args.change c.args.value.now (g.R.Region.state c.args.region.now).stamp c.note.ensures.1 me.sized.2 (subst (λ (k : ℕ). c.args.member < k) me.sized.4 c.requires.member) c.requires.slot step);
    }

pub returns-clause-step : goal.returns-clause-step
returns-clause-step g c =
    let me = c.args.self.now in
    post_step c.args.self.now.keeper.me.0 c.note.new.seat.me.0 c.args.member c.args.slot c.args.change c.args.value.now (g.R.Region.state c.args.region.now).stamp c.note.ensures.1 (own_empty me.member_count me.holder me.slots.items me.mail.items me.keeper.me.0 me.kept c.args.member c.args.slot c.requires.free) c.requires

pub returns-clause-view : goal.returns-clause-view
returns-clause-view g c =
    let me = c.args.self.now in
    post_view c.args.self.now.keeper.me.0 c.note.new.seat.me.0 c.args.member c.args.slot c.args.change c.args.value.now (g.R.Region.state c.args.region.now).stamp c.note.ensures.1 c.requires.own

pub returns-clause-made : goal.returns-clause-made
returns-clause-made g c = journals.trail_is c.note.new.seat.me.0 c.args.self.now.keeper.me.0 c.args.member (acts.Post c.args.slot c.args.change.entry c.args.value.now (g.R.Region.state c.args.region.now).stamp) c.note.ensures.1

pub returns-clause-at : goal.returns-clause-at
returns-clause-at g c = journals.at_is c.note.new.seat.me.0 c.args.self.now.keeper.me.0 c.args.member (acts.Post c.args.slot c.args.change.entry c.args.value.now (g.R.Region.state c.args.region.now).stamp) c.note.ensures.1
