use Rattle.std.proofs.Common.{ℕ, ◌<◌, ◌∙◌, ap, sym, subst}
use Rattle.group_laws.specs.Places.{members}
use Rattle.group_laws.specs.State.{word_shown}
use Rattle.group_laws.specs.Runs as runs
use Rattle.group_laws.specs.declared.types.Seen.TheVariants as loads
use Rattle.group_board.specs.declared.board_journal.Act.TheVariants.{Found}
use Rattle.group_board.specs.Journals.{note_of, noted, state}
use Rattle.group_board.specs.Told.{state_of}
use Rattle.group_board.proofs.Facts.{read_slot}
use Rattle.group_board.proofs.Calls.{look_step, find_view, find_kept}
use Rattle.group_board.proofs.local_board.LocalBoard.look.Goals as goal
use Rattle.group_board.specs.declared.board_journal.Act.TheVariants as acts
use Rattle.group_board.proofs.Journals as journals

pub invariant_of-self : goal.invariant_of-self
invariant_of-self c =
    let me = c.args.self.now in
    let word = c.word_of-word.result in
    let is = c.word_of-word.ensures ∙ ap (λ x. word_shown x) (sym (read_slot me.member_count me.holder me.slots.items me.mail.items me.keeper.me.0 me.kept c.args.owner c.args.slot c.place_of-place.result c.index.result.now me.sized.2 (subst (λ (k : ℕ). c.args.owner < k) me.sized.4 c.requires.target) c.requires.slot c.place_of-place.ensures c.index.ensures)) in
    let did = c.note.ensures.1 ∙ ap (λ x. noted (note_of c.args.member (Found (loads.Slot c.args.owner c.args.slot x))) me.keeper.me.0) is in
    let step = look_step c.args.self.now.keeper.me.0 c.note.new.seat.me.0 c.args.member c.args.owner c.args.slot did c.requires in
    record {
      sized = (me.sized.0, me.sized.1, me.sized.2, me.sized.3, ap (λ p. members p) step.0 ∙ me.sized.4);
      here = c.note.ensures.0 ∙ me.here;
      kept = find_kept c.args.self.now.keeper.me.0 c.note.new.seat.me.0 c.args.member me.member_count me.holder me.slots.items me.mail.items me.kept (loads.Slot c.args.owner c.args.slot (word_shown ((state me.keeper.me.0).slot c.args.owner c.args.slot))) (runs.Kind.Look c.args.owner c.args.slot) did step.1;
    }

pub returns-clause-stood : goal.returns-clause-stood
returns-clause-stood c =
    let me = c.args.self.now in
    let word = c.word_of-word.result in
    let is = c.word_of-word.ensures ∙ ap (λ x. word_shown x) (sym (read_slot me.member_count me.holder me.slots.items me.mail.items me.keeper.me.0 me.kept c.args.owner c.args.slot c.place_of-place.result c.index.result.now me.sized.2 (subst (λ (k : ℕ). c.args.owner < k) me.sized.4 c.requires.target) c.requires.slot c.place_of-place.ensures c.index.ensures)) in
    let did = c.note.ensures.1 ∙ ap (λ x. noted (note_of c.args.member (Found (loads.Slot c.args.owner c.args.slot x))) me.keeper.me.0) is in
    ap (λ x. state_of x) (sym is) ∙ sym c.answer_at.ensures

pub returns-clause-step : goal.returns-clause-step
returns-clause-step c =
    let me = c.args.self.now in
    let word = c.word_of-word.result in
    let is = c.word_of-word.ensures ∙ ap (λ x. word_shown x) (sym (read_slot me.member_count me.holder me.slots.items me.mail.items me.keeper.me.0 me.kept c.args.owner c.args.slot c.place_of-place.result c.index.result.now me.sized.2 (subst (λ (k : ℕ). c.args.owner < k) me.sized.4 c.requires.target) c.requires.slot c.place_of-place.ensures c.index.ensures)) in
    let did = c.note.ensures.1 ∙ ap (λ x. noted (note_of c.args.member (Found (loads.Slot c.args.owner c.args.slot x))) me.keeper.me.0) is in
    look_step c.args.self.now.keeper.me.0 c.note.new.seat.me.0 c.args.member c.args.owner c.args.slot did c.requires

pub returns-clause-view : goal.returns-clause-view
returns-clause-view c =
    let me = c.args.self.now in
    (c.word_of-word.result, sym c.answer_at.ensures, find_view c.args.self.now.keeper.me.0 c.note.new.seat.me.0 c.args.member (loads.Slot c.args.owner c.args.slot c.word_of-word.result) c.note.ensures.1)

pub returns-clause-made : goal.returns-clause-made
returns-clause-made c = journals.trail_is c.note.new.seat.me.0 c.args.self.now.keeper.me.0 c.args.member (acts.Found (loads.Slot c.args.owner c.args.slot c.word_of-word.result)) c.note.ensures.1
