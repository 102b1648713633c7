use Rattle.std.proofs.Common.{ℕ, ◌∙◌, ap, Option}
use Rattle.group_laws.specs.Places.{members}
use Rattle.group_laws.specs.Runs as runs
use Rattle.group_laws.specs.declared.types.Seen.TheVariants as loads
use Rattle.group_board.specs.Journals.{note_of, noted, lock_act}
use Rattle.group_board.proofs.Facts.{holder_is, other_holds}
use Rattle.group_board.proofs.Assured.{holder_low}
use Rattle.group_board.proofs.Calls.{lock_step, lock_view, lock_kept, busy_step, find_view, find_kept}
use Rattle.group_board.proofs.local_board.LocalBoard.try_lock.Goals as goal
use Rattle.std.proofs.Common.{◌∷◌}
use Rattle.group_board.proofs.Journals as journals
use Rattle.group_board.specs.Journals.{trail_in, state}
use Rattle.group_board.specs.Trails.{step_with}
use Rattle.group_laws.specs.MemberViews.{view_of}

pub returns-in-Some-clause-other : goal.returns-in-Some-clause-other
returns-in-Some-clause-other c = let me = c.args.self.now in other_holds me.member_count me.holder me.slots.items me.mail.items me.keeper.me.0 me.kept c.args.member c.in-Some.holder c.requires.not_held c.in-Some.is

pub returns-in-Some-clause-holder : goal.returns-in-Some-clause-holder
returns-in-Some-clause-holder c = let me = c.args.self.now in holder_low me.member_count me.holder me.slots.items me.mail.items me.keeper.me.0 me.kept c.in-Some.holder c.in-Some.is

pub invariant_of-self : goal.invariant_of-self
invariant_of-self c =
    let me = c.args.self.now in
    let did = c.note.ensures.1 ∙ ap (λ (o : Option ℕ). noted (note_of c.args.member (lock_act o)) me.keeper.me.0) c.in-Some.is in
    let step = busy_step c.args.self.now.keeper.me.0 c.note.new.seat.me.0 c.args.member c.in-Some.holder did (holder_is me.member_count me.holder me.slots.items me.mail.items me.keeper.me.0 me.kept ∙ c.in-Some.is) c.requires in
    record {
      sized = (me.sized.0, me.sized.1, me.sized.2, me.sized.3, ap (λ p. members p) step.0 ∙ me.sized.4);
      here = c.note.ensures.0 ∙ me.here;
      kept = find_kept c.args.self.now.keeper.me.0 c.note.new.seat.me.0 c.args.member me.member_count me.holder me.slots.items me.mail.items me.kept (loads.Holder c.in-Some.holder) runs.Kind.Lock did step.1;
    }

pub invariant_of-self-in-None : goal.invariant_of-self-in-None
invariant_of-self-in-None c =
    let me = c.args.self.now in
    let did = c.note.ensures.1 ∙ ap (λ (o : Option ℕ). noted (note_of c.args.member (lock_act o)) me.keeper.me.0) c.in-None.is in
    let step = lock_step c.args.self.now.keeper.me.0 c.note.new.seat.me.0 c.args.member did (holder_is me.member_count me.holder me.slots.items me.mail.items me.keeper.me.0 me.kept ∙ c.in-None.is) c.requires in
    record {
      sized = (me.sized.0, me.sized.1, me.sized.2, me.sized.3, ap (λ p. members p) step.0 ∙ me.sized.4);
      here = c.note.ensures.0 ∙ me.here;
      kept = lock_kept c.args.self.now.keeper.me.0 c.note.new.seat.me.0 c.args.member me.member_count me.holder me.slots.items me.mail.items me.kept did step;
    }

pub returns-in-Some-clause-step : goal.returns-in-Some-clause-step
returns-in-Some-clause-step c =
    let me = c.args.self.now in
    let did = c.note.ensures.1 ∙ ap (λ (o : Option ℕ). noted (note_of c.args.member (lock_act o)) me.keeper.me.0) c.in-Some.is in
    busy_step c.args.self.now.keeper.me.0 c.note.new.seat.me.0 c.args.member c.in-Some.holder did (holder_is me.member_count me.holder me.slots.items me.mail.items me.keeper.me.0 me.kept ∙ c.in-Some.is) c.requires

pub returns-in-Some-clause-found : goal.returns-in-Some-clause-found
returns-in-Some-clause-found c = let me = c.args.self.now in holder_is me.member_count me.holder me.slots.items me.mail.items me.keeper.me.0 me.kept ∙ c.in-Some.is

pub returns-in-None-clause-found : goal.returns-in-None-clause-found
returns-in-None-clause-found c = let me = c.args.self.now in holder_is me.member_count me.holder me.slots.items me.mail.items me.keeper.me.0 me.kept ∙ c.in-None.is

pub returns-in-Some-clause-view : goal.returns-in-Some-clause-view
returns-in-Some-clause-view c =
    let me = c.args.self.now in
    find_view c.args.self.now.keeper.me.0 c.note.new.seat.me.0 c.args.member (loads.Holder c.in-Some.holder) (c.note.ensures.1 ∙ ap (λ (o : Option ℕ). noted (note_of c.args.member (lock_act o)) me.keeper.me.0) c.in-Some.is)

pub returns-in-None-clause-step : goal.returns-in-None-clause-step
returns-in-None-clause-step c =
    let me = c.args.self.now in
    let did = c.note.ensures.1 ∙ ap (λ (o : Option ℕ). noted (note_of c.args.member (lock_act o)) me.keeper.me.0) c.in-None.is in
    lock_step c.args.self.now.keeper.me.0 c.note.new.seat.me.0 c.args.member did (holder_is me.member_count me.holder me.slots.items me.mail.items me.keeper.me.0 me.kept ∙ c.in-None.is) c.requires

pub returns-in-None-clause-view : goal.returns-in-None-clause-view
returns-in-None-clause-view c =
    let me = c.args.self.now in
    lock_view c.args.self.now.keeper.me.0 c.note.new.seat.me.0 c.args.member (c.note.ensures.1 ∙ ap (λ (o : Option ℕ). noted (note_of c.args.member (lock_act o)) me.keeper.me.0) c.in-None.is)

pub returns-in-Some-clause-made : goal.returns-in-Some-clause-made
returns-in-Some-clause-made c = journals.trail_is c.note.new.seat.me.0 c.args.self.now.keeper.me.0 c.args.member (lock_act c.args.self.now.holder) c.note.ensures.1 ∙ ap (λ k. step_with k (view_of (state c.note.new.seat.me.0) c.args.member) ∷ trail_in c.args.member c.args.self.now.keeper.me.0) (journals.lock_kind c.args.self.now.holder)

pub returns-in-None-clause-made : goal.returns-in-None-clause-made
returns-in-None-clause-made c = journals.trail_is c.note.new.seat.me.0 c.args.self.now.keeper.me.0 c.args.member (lock_act c.args.self.now.holder) c.note.ensures.1 ∙ ap (λ k. step_with k (view_of (state c.note.new.seat.me.0) c.args.member) ∷ trail_in c.args.member c.args.self.now.keeper.me.0) (journals.lock_kind c.args.self.now.holder)
