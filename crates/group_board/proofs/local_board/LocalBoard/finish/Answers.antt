use Rattle.std.proofs.Common.{ℕ, ◌<◌, length-set, ◌∙◌, ap, sym, subst}
use Rattle.group_laws.specs.Places.{members}
use Rattle.group_laws.specs.declared.types.Slot.TheVariants as slots
use Rattle.group_board.specs.Slots.{IsOver}
use Rattle.group_board.proofs.Facts.{covers, is_over, read_slot, seen_as, stood_owner, stood_pends}
use Rattle.group_board.proofs.Keeping.{slots_at}
use Rattle.group_board.proofs.Calls.{over_step, over_view, over_kept}
use Rattle.group_board.proofs.Assured.{stood_home}
use Rattle.group_board.proofs.local_board.LocalBoard.finish.Goals as goal
use Rattle.std.proofs.Common.{◌∷◌}
use Rattle.group_board.proofs.Journals as journals
use Rattle.group_board.specs.Journals.{trail_in, state}
use Rattle.group_board.specs.Trails.{step_with}
use Rattle.group_laws.specs.MemberViews.{view_of}
use Rattle.group_board.specs.Journals.{finish_act}

pub given_back-change-requires : goal.given_back-change-requires
given_back-change-requires c =
    let me = c.args.self.now in
    subst IsOver (read_slot me.member_count me.holder me.slots.items me.mail.items me.keeper.me.0 me.kept c.args.member c.args.slot c.place_of-place.result c.index_mut.result.now me.sized.2 (subst (λ (k : ℕ). c.args.member < k) me.sized.4 c.requires.member) c.requires.slot c.place_of-place.ensures c.index_mut.ensures.value ∙ sym c.replace-stood.ensures.value) (is_over me.member_count me.holder me.slots.items me.mail.items me.keeper.me.0 me.kept c.args.member c.args.slot c.requires.seen)

pub invariant_of-self : goal.invariant_of-self
invariant_of-self c =
    let me = c.args.self.now in
    let x = c.given_back-change.result.entry in
    let home = c.given_back-change.result.home in
    let there = read_slot me.member_count me.holder me.slots.items me.mail.items me.keeper.me.0 me.kept c.args.member c.args.slot c.place_of-place.result c.index_mut.result.now me.sized.2 (subst (λ (k : ℕ). c.args.member < k) me.sized.4 c.requires.member) c.requires.slot c.place_of-place.ensures c.index_mut.ensures.value ∙ (sym c.replace-stood.ensures.value ∙ c.given_back-change.ensures) in
    let own = stood_owner me.member_count me.holder me.slots.items me.mail.items me.keeper.me.0 me.kept c.args.member c.args.slot x home there in
    let step = over_step me.keeper.me.0 c.note.new.seat.me.0 c.args.member c.args.slot x own (covers me.member_count me.holder me.slots.items me.mail.items me.keeper.me.0 me.kept) home c.note.ensures.1 there (seen_as me.member_count me.holder me.slots.items me.mail.items me.keeper.me.0 me.kept c.args.member c.args.slot x home there c.requires.seen) c.requires in
    record {
      sized = (me.sized.0, me.sized.1, length-set me.slots.items c.place_of-place.result _ ∙ me.sized.2, me.sized.3, ap (λ p. members p) step.0 ∙ me.sized.4);
      here = c.note.ensures.0 ∙ me.here;
      kept = slots_at me.member_count me.holder me.slots.items me.mail.items c.note.new.seat.me.0 c.place_of-place.result _ c.place_of-place.ensures c.replace-stood.new.dest slots.Empty c.replace-stood.ensures.after (over_kept me.keeper.me.0 c.note.new.seat.me.0 c.args.member c.args.slot x own (covers me.member_count me.holder me.slots.items me.mail.items me.keeper.me.0 me.kept) me.member_count me.holder me.slots.items me.mail.items me.kept home c.note.ensures.1 me.sized.2 (subst (λ (k : ℕ). c.args.member < k) me.sized.4 c.requires.member) c.requires.slot step);
    }

pub returns-clause-seen : goal.returns-clause-seen
returns-clause-seen c =
    let me = c.args.self.now in
    let x = c.given_back-change.result.entry in
    let home = c.given_back-change.result.home in
    let there = read_slot me.member_count me.holder me.slots.items me.mail.items me.keeper.me.0 me.kept c.args.member c.args.slot c.place_of-place.result c.index_mut.result.now me.sized.2 (subst (λ (k : ℕ). c.args.member < k) me.sized.4 c.requires.member) c.requires.slot c.place_of-place.ensures c.index_mut.ensures.value ∙ (sym c.replace-stood.ensures.value ∙ c.given_back-change.ensures) in
    seen_as me.member_count me.holder me.slots.items me.mail.items me.keeper.me.0 me.kept c.args.member c.args.slot x home there c.requires.seen

pub returns-clause-pending : goal.returns-clause-pending
returns-clause-pending c =
    let me = c.args.self.now in
    let x = c.given_back-change.result.entry in
    let home = c.given_back-change.result.home in
    let there = read_slot me.member_count me.holder me.slots.items me.mail.items me.keeper.me.0 me.kept c.args.member c.args.slot c.place_of-place.result c.index_mut.result.now me.sized.2 (subst (λ (k : ℕ). c.args.member < k) me.sized.4 c.requires.member) c.requires.slot c.place_of-place.ensures c.index_mut.ensures.value ∙ (sym c.replace-stood.ensures.value ∙ c.given_back-change.ensures) in
    stood_pends me.member_count me.holder me.slots.items me.mail.items me.keeper.me.0 me.kept c.args.member c.args.slot x home there

pub returns-clause-stood : goal.returns-clause-stood
returns-clause-stood c =
    let me = c.args.self.now in
    let x = c.given_back-change.result.entry in
    let home = c.given_back-change.result.home in
    let there = read_slot me.member_count me.holder me.slots.items me.mail.items me.keeper.me.0 me.kept c.args.member c.args.slot c.place_of-place.result c.index_mut.result.now me.sized.2 (subst (λ (k : ℕ). c.args.member < k) me.sized.4 c.requires.member) c.requires.slot c.place_of-place.ensures c.index_mut.ensures.value ∙ (sym c.replace-stood.ensures.value ∙ c.given_back-change.ensures) in
    there

pub returns-clause-step : goal.returns-clause-step
returns-clause-step c =
    let me = c.args.self.now in
    let x = c.given_back-change.result.entry in
    let home = c.given_back-change.result.home in
    let there = read_slot me.member_count me.holder me.slots.items me.mail.items me.keeper.me.0 me.kept c.args.member c.args.slot c.place_of-place.result c.index_mut.result.now me.sized.2 (subst (λ (k : ℕ). c.args.member < k) me.sized.4 c.requires.member) c.requires.slot c.place_of-place.ensures c.index_mut.ensures.value ∙ (sym c.replace-stood.ensures.value ∙ c.given_back-change.ensures) in
    let own = stood_owner me.member_count me.holder me.slots.items me.mail.items me.keeper.me.0 me.kept c.args.member c.args.slot x home there in
    over_step me.keeper.me.0 c.note.new.seat.me.0 c.args.member c.args.slot x own (covers me.member_count me.holder me.slots.items me.mail.items me.keeper.me.0 me.kept) home c.note.ensures.1 there (seen_as me.member_count me.holder me.slots.items me.mail.items me.keeper.me.0 me.kept c.args.member c.args.slot x home there c.requires.seen) c.requires

pub returns-clause-view : goal.returns-clause-view
returns-clause-view c =
    let me = c.args.self.now in
    let x = c.given_back-change.result.entry in
    let home = c.given_back-change.result.home in
    let there = read_slot me.member_count me.holder me.slots.items me.mail.items me.keeper.me.0 me.kept c.args.member c.args.slot c.place_of-place.result c.index_mut.result.now me.sized.2 (subst (λ (k : ℕ). c.args.member < k) me.sized.4 c.requires.member) c.requires.slot c.place_of-place.ensures c.index_mut.ensures.value ∙ (sym c.replace-stood.ensures.value ∙ c.given_back-change.ensures) in
    let own = stood_owner me.member_count me.holder me.slots.items me.mail.items me.keeper.me.0 me.kept c.args.member c.args.slot x home there in
    over_view me.keeper.me.0 c.note.new.seat.me.0 c.args.member c.args.slot x own (covers me.member_count me.holder me.slots.items me.mail.items me.keeper.me.0 me.kept) home c.note.ensures.1

pub returns-clause-home : goal.returns-clause-home
returns-clause-home c =
    let me = c.args.self.now in
    let x = c.given_back-change.result.entry in
    let home = c.given_back-change.result.home in
    let there = read_slot me.member_count me.holder me.slots.items me.mail.items me.keeper.me.0 me.kept c.args.member c.args.slot c.place_of-place.result c.index_mut.result.now me.sized.2 (subst (λ (k : ℕ). c.args.member < k) me.sized.4 c.requires.member) c.requires.slot c.place_of-place.ensures c.index_mut.ensures.value ∙ (sym c.replace-stood.ensures.value ∙ c.given_back-change.ensures) in
    stood_home me.member_count me.holder me.slots.items me.mail.items me.keeper.me.0 me.kept c.args.member c.args.slot x home there

pub returns-clause-made : goal.returns-clause-made
returns-clause-made c = let home = c.given_back-change.result.home in let x = c.given_back-change.result.entry in journals.trail_is c.note.new.seat.me.0 c.args.self.now.keeper.me.0 c.args.member (finish_act c.args.slot x home) c.note.ensures.1 ∙ ap (λ k. step_with k (view_of (state c.note.new.seat.me.0) c.args.member) ∷ trail_in c.args.member c.args.self.now.keeper.me.0) (journals.finish_kind c.args.slot x home)
