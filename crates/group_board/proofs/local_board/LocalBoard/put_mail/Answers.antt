use Rattle.std.proofs.Common.{ℕ, ◌<◌, length-set, ◌∙◌, ap, subst, refl}
use Rattle.group_laws.specs.Places.{members}
use Rattle.std.specs.Prelude.{Some}
use Rattle.group_board.specs.declared.board_journal.Act.TheVariants.{Send}
use Rattle.group_board.proofs.Journals.{state_is}
use Rattle.group_board.proofs.Keeping.{mail_at}
use Rattle.group_board.proofs.Calls.{send_kept}
use Rattle.group_board.proofs.local_board.LocalBoard.put_mail.Goals as goal
use Rattle.group_board.specs.declared.board_journal.Act.TheVariants as acts
use Rattle.group_board.proofs.Journals as journals

pub invariant_of-self : goal.invariant_of-self
invariant_of-self c =
    let me = c.args.self.now in
    let step = state_is c.note.new.seat.me.0 c.args.self.now.keeper.me.0 c.args.member (Send c.args.to c.args.notices.dead.names c.args.notices.gone.names) c.note.ensures.1 in
    record {
      sized = (me.sized.0, me.sized.1, me.sized.2, length-set me.mail.items c.place_of-place.result _ ∙ me.sized.3, ap (λ p. members p) (ap (λ g. g.place) step) ∙ me.sized.4);
      here = c.note.ensures.0 ∙ me.here;
      kept = mail_at me.member_count me.holder me.slots.items me.mail.items c.note.new.seat.me.0 c.place_of-place.result _ c.place_of-place.ensures (Some c.args.notices) (Some c.args.notices) refl (send_kept c.args.self.now.keeper.me.0 c.note.new.seat.me.0 c.args.member me.member_count me.holder me.slots.items me.mail.items me.kept c.args.to c.args.notices c.note.ensures.1 me.sized.3 me.sized.1 (subst (λ (k : ℕ). c.args.member < k) me.sized.4 c.requires.member) (subst (λ (k : ℕ). c.args.to < k) me.sized.4 c.requires.receiver) (c.requires, step));
    }

pub returns-clause-state : goal.returns-clause-state
returns-clause-state c = state_is c.note.new.seat.me.0 c.args.self.now.keeper.me.0 c.args.member (Send c.args.to c.args.notices.dead.names c.args.notices.gone.names) c.note.ensures.1

pub returns-clause-made : goal.returns-clause-made
returns-clause-made c = journals.trail_is c.note.new.seat.me.0 c.args.self.now.keeper.me.0 c.args.member (acts.Send c.args.to c.args.notices.dead.names c.args.notices.gone.names) c.note.ensures.1
