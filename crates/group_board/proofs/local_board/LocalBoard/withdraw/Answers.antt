use Rattle.std.proofs.Common.{ℕ, ◌<◌, length-set, ◌∙◌, ap, sym, subst}
use Rattle.group_laws.specs.Places.{members}
use Rattle.store_image.specs.Facts.{In}
use Rattle.group_laws.specs.declared.types.Slot.TheVariants as slots
use Rattle.group_laws.specs.declared.types.Seen.TheVariants as loads
use Rattle.group_laws.specs.declared.types.SlotWord.TheVariants as words
use Rattle.group_board.specs.Journals.{state}
use Rattle.group_board.specs.Slots.{IsPosted}
use Rattle.group_board.proofs.Facts.{posted_by, read_slot, posted_still, words_are, posted_owner, posted_pends}
use Rattle.group_board.proofs.Keeping.{slots_at}
use Rattle.group_board.proofs.Calls.{withdraw_step, withdraw_view, withdraw_kept}
use Rattle.group_board.proofs.local_board.LocalBoard.withdraw.Goals as goal
use Rattle.group_board.specs.declared.board_journal.Act.TheVariants as acts
use Rattle.group_board.proofs.Journals as journals

pub offered-change-requires : goal.offered-change-requires
offered-change-requires c =
    let me = c.args.self.now in
    let found = read_slot me.member_count me.holder me.slots.items me.mail.items me.keeper.me.0 me.kept c.args.member c.args.slot c.place_of-place.result c.index_mut.result.now me.sized.2 (subst (λ (k : ℕ). c.args.member < k) me.sized.4 c.requires.member) c.requires.slot c.place_of-place.ensures c.index_mut.ensures.value in
    let posted = posted_by ((state me.keeper.me.0).slot c.args.member c.args.slot) c.requires.seen.0 (posted_still me.member_count me.holder me.slots.items me.mail.items me.keeper.me.0 me.kept c.args.member c.args.member c.args.slot c.requires.seen.0 c.requires.holds c.requires.seen.1) in
    subst IsPosted (sym (c.replace-posted.ensures.value ∙ (sym found ∙ posted.1))) tt

pub invariant_of-self : goal.invariant_of-self
invariant_of-self c =
    let me = c.args.self.now in
    let found = read_slot me.member_count me.holder me.slots.items me.mail.items me.keeper.me.0 me.kept c.args.member c.args.slot c.place_of-place.result c.index_mut.result.now me.sized.2 (subst (λ (k : ℕ). c.args.member < k) me.sized.4 c.requires.member) c.requires.slot c.place_of-place.ensures c.index_mut.ensures.value in
    let there = found ∙ (sym c.replace-posted.ensures.value ∙ c.offered-change.ensures.stood) in
    let x = c.offered-change.result.entry in
    let long = words_are me.member_count me.holder me.slots.items me.mail.items me.keeper.me.0 me.kept c.args.member c.args.slot c.requires.seen.0 x there (posted_still me.member_count me.holder me.slots.items me.mail.items me.keeper.me.0 me.kept c.args.member c.args.member c.args.slot c.requires.seen.0 c.requires.holds c.requires.seen.1) in
    let seen = subst (λ (n : ℕ). In (loads.Slot c.args.member c.args.slot (words.Posted n)) ((state me.keeper.me.0).looked c.args.member)) (sym long) c.requires.seen.1 in
    let step = withdraw_step c.args.self.now.keeper.me.0 c.note.new.seat.me.0 c.args.member c.args.slot x c.note.ensures.1 there (posted_owner me.member_count me.holder me.slots.items me.mail.items me.keeper.me.0 me.kept c.args.member c.args.slot x there) seen c.requires in
    record {
      sized = (me.sized.0, me.sized.1, length-set me.slots.items c.place_of-place.result _ ∙ me.sized.2, me.sized.3, ap (λ p. members p) step.0 ∙ me.sized.4);
      here = c.note.ensures.0 ∙ me.here;
      kept = slots_at me.member_count me.holder me.slots.items me.mail.items c.note.new.seat.me.0 c.place_of-place.result _ c.place_of-place.ensures c.replace-posted.new.dest slots.Empty c.replace-posted.ensures.after (withdraw_kept c.args.self.now.keeper.me.0 c.note.new.seat.me.0 c.args.member me.member_count me.holder me.slots.items me.mail.items me.kept c.args.slot x c.note.ensures.1 me.sized.2 (subst (λ (k : ℕ). c.args.member < k) me.sized.4 c.requires.member) c.requires.slot step);
    }

pub returns-clause-pending : goal.returns-clause-pending
returns-clause-pending c =
    let me = c.args.self.now in
    let found = read_slot me.member_count me.holder me.slots.items me.mail.items me.keeper.me.0 me.kept c.args.member c.args.slot c.place_of-place.result c.index_mut.result.now me.sized.2 (subst (λ (k : ℕ). c.args.member < k) me.sized.4 c.requires.member) c.requires.slot c.place_of-place.ensures c.index_mut.ensures.value in
    let there = found ∙ (sym c.replace-posted.ensures.value ∙ c.offered-change.ensures.stood) in
    posted_pends me.member_count me.holder me.slots.items me.mail.items me.keeper.me.0 me.kept c.args.member c.args.slot c.offered-change.result.entry there

pub returns-clause-stood : goal.returns-clause-stood
returns-clause-stood c =
    let me = c.args.self.now in
    let found = read_slot me.member_count me.holder me.slots.items me.mail.items me.keeper.me.0 me.kept c.args.member c.args.slot c.place_of-place.result c.index_mut.result.now me.sized.2 (subst (λ (k : ℕ). c.args.member < k) me.sized.4 c.requires.member) c.requires.slot c.place_of-place.ensures c.index_mut.ensures.value in
    let there = found ∙ (sym c.replace-posted.ensures.value ∙ c.offered-change.ensures.stood) in
    there

pub returns-clause-step : goal.returns-clause-step
returns-clause-step c =
    let me = c.args.self.now in
    let found = read_slot me.member_count me.holder me.slots.items me.mail.items me.keeper.me.0 me.kept c.args.member c.args.slot c.place_of-place.result c.index_mut.result.now me.sized.2 (subst (λ (k : ℕ). c.args.member < k) me.sized.4 c.requires.member) c.requires.slot c.place_of-place.ensures c.index_mut.ensures.value in
    let there = found ∙ (sym c.replace-posted.ensures.value ∙ c.offered-change.ensures.stood) in
    let x = c.offered-change.result.entry in
    let long = words_are me.member_count me.holder me.slots.items me.mail.items me.keeper.me.0 me.kept c.args.member c.args.slot c.requires.seen.0 x there (posted_still me.member_count me.holder me.slots.items me.mail.items me.keeper.me.0 me.kept c.args.member c.args.member c.args.slot c.requires.seen.0 c.requires.holds c.requires.seen.1) in
    let seen = subst (λ (n : ℕ). In (loads.Slot c.args.member c.args.slot (words.Posted n)) ((state me.keeper.me.0).looked c.args.member)) (sym long) c.requires.seen.1 in
    withdraw_step c.args.self.now.keeper.me.0 c.note.new.seat.me.0 c.args.member c.args.slot x c.note.ensures.1 there (posted_owner me.member_count me.holder me.slots.items me.mail.items me.keeper.me.0 me.kept c.args.member c.args.slot x there) seen c.requires

pub returns-clause-view : goal.returns-clause-view
returns-clause-view c =
    let me = c.args.self.now in
    let found = read_slot me.member_count me.holder me.slots.items me.mail.items me.keeper.me.0 me.kept c.args.member c.args.slot c.place_of-place.result c.index_mut.result.now me.sized.2 (subst (λ (k : ℕ). c.args.member < k) me.sized.4 c.requires.member) c.requires.slot c.place_of-place.ensures c.index_mut.ensures.value in
    let there = found ∙ (sym c.replace-posted.ensures.value ∙ c.offered-change.ensures.stood) in
    withdraw_view c.args.self.now.keeper.me.0 c.note.new.seat.me.0 c.args.member c.args.slot c.offered-change.result.entry c.note.ensures.1 (posted_owner me.member_count me.holder me.slots.items me.mail.items me.keeper.me.0 me.kept c.args.member c.args.slot c.offered-change.result.entry there)

pub returns-clause-made : goal.returns-clause-made
returns-clause-made c = journals.trail_is c.note.new.seat.me.0 c.args.self.now.keeper.me.0 c.args.member (acts.Withdraw c.args.slot c.offered-change.result.entry) c.note.ensures.1
