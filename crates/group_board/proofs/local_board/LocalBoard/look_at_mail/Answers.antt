use Rattle.std.proofs.Common.{ℕ, ◌<◌, ◌∙◌, ap, sym, subst}
use Rattle.group_laws.specs.Places.{members}
use Rattle.group_laws.specs.State.{is_full}
use Rattle.group_laws.specs.Runs as runs
use Rattle.group_laws.specs.declared.types.Seen.TheVariants as loads
use Rattle.group_board.specs.declared.board_journal.Act.TheVariants.{Found}
use Rattle.group_board.specs.Journals.{state}
use Rattle.group_board.proofs.Journals.{state_is}
use Rattle.group_board.proofs.Facts.{full_by, read_mail}
use Rattle.group_board.proofs.Mail.{mail_step}
use Rattle.group_board.proofs.Calls.{find_kept}
use Rattle.group_board.proofs.local_board.LocalBoard.look_at_mail.Goals as goal
use Rattle.group_board.specs.declared.board_journal.Act.TheVariants as acts
use Rattle.group_board.proofs.Journals as journals

pub invariant_of-self : goal.invariant_of-self
invariant_of-self c =
    let me = c.args.self.now in
    let found = c.is_some-full.ensures ∙ (full_by c.index.result.now ∙ sym (ap (λ o. is_full o) (read_mail me.member_count me.holder me.slots.items me.mail.items me.keeper.me.0 me.kept c.args.from c.args.to c.place_of-place.result c.index.result.now me.sized.3 me.sized.1 (subst (λ (k : ℕ). c.args.from < k) me.sized.4 c.requires.1) (subst (λ (k : ℕ). c.args.to < k) me.sized.4 c.requires.2) c.place_of-place.ensures c.index.ensures))) in
    let made = state_is c.note.new.seat.me.0 c.args.self.now.keeper.me.0 c.args.member (Found (loads.Mail c.args.from c.args.to c.is_some-full.result)) c.note.ensures.1 in
    let step = mail_step (state me.keeper.me.0) (state c.note.new.seat.me.0) c.args.member c.args.from c.args.to c.is_some-full.result made c.requires.0 c.requires.1 c.requires.2 found in
    record {
      sized = (me.sized.0, me.sized.1, me.sized.2, me.sized.3, ap (λ p. members p) (ap (λ g. g.place) made) ∙ me.sized.4);
      here = c.note.ensures.0 ∙ me.here;
      kept = find_kept c.args.self.now.keeper.me.0 c.note.new.seat.me.0 c.args.member me.member_count me.holder me.slots.items me.mail.items me.kept (loads.Mail c.args.from c.args.to c.is_some-full.result) (runs.Kind.LookMail c.args.from c.args.to) c.note.ensures.1 step;
    }

pub returns-clause-found : goal.returns-clause-found
returns-clause-found c =
    let me = c.args.self.now in
    let found = c.is_some-full.ensures ∙ (full_by c.index.result.now ∙ sym (ap (λ o. is_full o) (read_mail me.member_count me.holder me.slots.items me.mail.items me.keeper.me.0 me.kept c.args.from c.args.to c.place_of-place.result c.index.result.now me.sized.3 me.sized.1 (subst (λ (k : ℕ). c.args.from < k) me.sized.4 c.requires.1) (subst (λ (k : ℕ). c.args.to < k) me.sized.4 c.requires.2) c.place_of-place.ensures c.index.ensures))) in
    found

pub returns-clause-state : goal.returns-clause-state
returns-clause-state c =
    let me = c.args.self.now in
    state_is c.note.new.seat.me.0 c.args.self.now.keeper.me.0 c.args.member (Found (loads.Mail c.args.from c.args.to c.is_some-full.result)) c.note.ensures.1

pub returns-clause-made : goal.returns-clause-made
returns-clause-made c = journals.trail_is c.note.new.seat.me.0 c.args.self.now.keeper.me.0 c.args.member (acts.Found (loads.Mail c.args.from c.args.to c.is_some-full.result)) c.note.ensures.1
