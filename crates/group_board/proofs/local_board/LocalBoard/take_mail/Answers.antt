use Rattle.std.proofs.Common.{ℕ, ◌<◌, length-set, ◌∙◌, ap, sym, subst, option_map}
use Rattle.group_laws.specs.Places.{members}
use Rattle.std.specs.Prelude.{None}
use Rattle.group_board.specs.Mailing.{notices_of}
use Rattle.group_board.proofs.Facts.{covers, read_mail, still_there}
use Rattle.group_board.proofs.Keeping.{mail_at}
use Rattle.group_board.proofs.Calls.{receive_tidied, receive_kept}
use Rattle.group_board.proofs.Assured.{heard}
use Rattle.group_board.proofs.local_board.LocalBoard.take_mail.Goals as goal
use Rattle.group_board.specs.declared.board_journal.Act.TheVariants as acts
use Rattle.group_board.proofs.Journals as journals

pub unwrap-notices-requires : goal.unwrap-notices-requires
unwrap-notices-requires c =
    let me = c.args.self.now in
    still_there me.member_count me.holder me.slots.items me.mail.items me.keeper.me.0 me.kept c.args.member c.args.from c.replace-stood.result c.requires.seen (read_mail me.member_count me.holder me.slots.items me.mail.items me.keeper.me.0 me.kept c.args.from c.args.member c.place_of-place.result c.index_mut.result.now me.sized.3 me.sized.1 (subst (λ (k : ℕ). c.args.from < k) me.sized.4 c.requires.members.1) (subst (λ (k : ℕ). c.args.member < k) me.sized.4 c.requires.members.0) c.place_of-place.ensures c.index_mut.ensures.value ∙ ap (option_map notices_of) (sym c.replace-stood.ensures.value))

pub invariant_of-self : goal.invariant_of-self
invariant_of-self c =
    let me = c.args.self.now in
    let there = read_mail me.member_count me.holder me.slots.items me.mail.items me.keeper.me.0 me.kept c.args.from c.args.member c.place_of-place.result c.index_mut.result.now me.sized.3 me.sized.1 (subst (λ (k : ℕ). c.args.from < k) me.sized.4 c.requires.members.1) (subst (λ (k : ℕ). c.args.member < k) me.sized.4 c.requires.members.0) c.place_of-place.ensures c.index_mut.ensures.value ∙ ap (option_map notices_of) (sym c.replace-stood.ensures.value ∙ c.unwrap-notices.ensures) in
    let step = receive_tidied c.args.self.now.keeper.me.0 c.note.new.seat.me.0 c.args.member (covers me.member_count me.holder me.slots.items me.mail.items me.keeper.me.0 me.kept) c.args.from c.unwrap-notices.result c.note.ensures.1 in
    record {
      sized = (me.sized.0, me.sized.1, me.sized.2, length-set me.mail.items c.place_of-place.result _ ∙ me.sized.3, ap (λ p. members p) (ap (λ g. g.place) step.4) ∙ me.sized.4);
      here = c.note.ensures.0 ∙ me.here;
      kept = mail_at me.member_count me.holder me.slots.items me.mail.items c.note.new.seat.me.0 c.place_of-place.result _ c.place_of-place.ensures c.replace-stood.new.dest None c.replace-stood.ensures.after (receive_kept c.args.self.now.keeper.me.0 c.note.new.seat.me.0 c.args.member me.member_count me.holder me.slots.items me.mail.items me.kept c.args.from c.unwrap-notices.result c.note.ensures.1 me.sized.3 me.sized.1 (subst (λ (k : ℕ). c.args.member < k) me.sized.4 c.requires.members.0) (subst (λ (k : ℕ). c.args.from < k) me.sized.4 c.requires.members.1) (notices_of c.unwrap-notices.result, record { member = c.requires.members.0; sender = c.requires.members.1; seen = c.requires.seen; full = there }, step));
    }

pub returns-clause-stood : goal.returns-clause-stood
returns-clause-stood c =
    let me = c.args.self.now in
    let there = read_mail me.member_count me.holder me.slots.items me.mail.items me.keeper.me.0 me.kept c.args.from c.args.member c.place_of-place.result c.index_mut.result.now me.sized.3 me.sized.1 (subst (λ (k : ℕ). c.args.from < k) me.sized.4 c.requires.members.1) (subst (λ (k : ℕ). c.args.member < k) me.sized.4 c.requires.members.0) c.place_of-place.ensures c.index_mut.ensures.value ∙ ap (option_map notices_of) (sym c.replace-stood.ensures.value ∙ c.unwrap-notices.ensures) in
    there

pub returns-clause-state : goal.returns-clause-state
returns-clause-state c =
    let me = c.args.self.now in
    receive_tidied c.args.self.now.keeper.me.0 c.note.new.seat.me.0 c.args.member (covers me.member_count me.holder me.slots.items me.mail.items me.keeper.me.0 me.kept) c.args.from c.unwrap-notices.result c.note.ensures.1

pub returns-clause-heard : goal.returns-clause-heard
returns-clause-heard c =
    let me = c.args.self.now in
    let there = read_mail me.member_count me.holder me.slots.items me.mail.items me.keeper.me.0 me.kept c.args.from c.args.member c.place_of-place.result c.index_mut.result.now me.sized.3 me.sized.1 (subst (λ (k : ℕ). c.args.from < k) me.sized.4 c.requires.members.1) (subst (λ (k : ℕ). c.args.member < k) me.sized.4 c.requires.members.0) c.place_of-place.ensures c.index_mut.ensures.value ∙ ap (option_map notices_of) (sym c.replace-stood.ensures.value ∙ c.unwrap-notices.ensures) in
    heard me.member_count me.holder me.slots.items me.mail.items me.keeper.me.0 me.kept c.args.member c.args.from c.unwrap-notices.result there

pub returns-clause-made : goal.returns-clause-made
returns-clause-made c = journals.trail_is c.note.new.seat.me.0 c.args.self.now.keeper.me.0 c.args.member (acts.Receive c.args.from c.unwrap-notices.result.dead.names c.unwrap-notices.result.gone.names) c.note.ensures.1
