use Rattle.std.proofs.Common.{rules, ℕ, ◌≤◌, ◌∙◌, ap, sym, subst, refl}
use Rattle.std.proofs.lemmas.Grind.{merely}
use Rattle.atomic_table.specs.Table.{keeps}
use Rattle.group_laws.specs.Invariant.{Lawful}
use Rattle.group_laws.specs.Places.{members}
use Rattle.group_board.specs.Journals.{begun, state}
use Rattle.group_board.proofs.Journals.{state_begun}
use Rattle.group_board.proofs.Opens.{opened_few, opened_lawful, opened_kept}
use Rattle.group_board.proofs.local_board.LocalBoard.open.Goals as goal

pub load-requires : goal.load-requires
load-requires g c = (search rules, search rules, λ s free many me fits64. (begun g.O.Opening.group g.O.Opening.words, keeps, tt, tt, refl))

pub empty_slots-requires : goal.empty_slots-requires
empty_slots-requires g c = subst (λ (n : ℕ). n ≤ 8) c.requires.members (opened_few g.O.Opening.bytes g.O.Opening.group g.O.Opening.words c.requires.sound c.requires.group)

pub empty_mail-requires : goal.empty_mail-requires
empty_mail-requires g c = subst (λ (n : ℕ). n ≤ 8) c.requires.members (opened_few g.O.Opening.bytes g.O.Opening.group g.O.Opening.words c.requires.sound c.requires.group)

pub invariant_of-result : goal.invariant_of-result
invariant_of-result g c =
    let begins = ap (λ x. x.0) c.load.ensures.2 in
    let made = ap (λ j. state j) begins ∙ state_begun g.O.Opening.group g.O.Opening.words in
    record {
      sized = (
        search rules,
        subst (λ (n : ℕ). n ≤ 8) c.requires.members (opened_few g.O.Opening.bytes g.O.Opening.group g.O.Opening.words c.requires.sound c.requires.group),
        c.in_ok-slots.ensures.0,
        c.in_ok-mail.ensures.0,
        ap (λ w. members w.place) made ∙ c.requires.members,
      );
      here = search rules;
      kept = merely (opened_kept g.O.Opening.bytes g.O.Opening.group g.O.Opening.words c.requires.sound c.requires.group c.args.members c.in_ok-slots.slots.items c.in_ok-mail.mail.items c.load.new.seat.me.0 c.requires.members begins c.in_ok-slots.ensures.1 c.in_ok-mail.ensures.1);
    }

pub returns : goal.returns
returns g c =
    let begins = ap (λ x. x.0) c.load.ensures.2 in
    let made = ap (λ j. state j) begins ∙ state_begun g.O.Opening.group g.O.Opening.words in
    record {
      members = ap (λ w. members w.place) made ∙ c.requires.members;
      opened = made;
      lawful = subst Lawful (sym made) (opened_lawful g.O.Opening.bytes g.O.Opening.group g.O.Opening.words c.requires.sound c.requires.group);
    }
