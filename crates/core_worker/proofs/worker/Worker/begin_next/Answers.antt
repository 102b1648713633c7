use Rattle.std.proofs.Common.{◌≡◌, ◌≤◌, ℕ, List, Option, Some, true, refl, sym, ◌∙◌, ap, subst, length}
use Rattle.std.specs.Prelude.{IfSome, option_map}
use Rattle.pm_region.specs.State.{IsTelling}
use Rattle.core_log.specs.declared.types.Room.{Room}
use Rattle.log_entry.specs.declared.entry.Entry.{Entry}
use Rattle.core_log.specs.Walking.{entries_in}
use Rattle.log_standing.specs.NameCounts.{StandingState}
use Rattle.log_cleaner.specs.Choosing.{IsChosen, IsVictim}
use Rattle.log_cleaner.specs.Clearing.{IsFresh}
use Rattle.log_cleaner.specs.Copying.{words_sum}
use Rattle.log_cleaner.specs.Tallied.{IsTallied, IsTallyOf}
use Rattle.log_cleaner.proofs.FloorLaws.{left_searched, searches_itself}
use Rattle.core_worker.specs.declared.begin_cleaning.Begun.{Begun}
use Rattle.core_worker.specs.declared.worker.Worker.{Worker}
use Rattle.core_worker.proofs.worker.Worker.begin_next.Goals as goal

pub returns-then-not-may_search : goal.returns-then-not-may_search
returns-then-not-may_search g c = record {
  why = c.may_search.ensures.no c.if-not-may_search.true (g.R.Region.state c.args.region.now);
  looks = record { same = refl; names = searches_itself c.args.self.now.standing; floors = λ had. had };
}

pub returns-in-Ok : goal.returns-in-Ok
returns-in-Ok g c =
    let s = g.R.Region.state c.args.region.now in
    let w = c.args.self.now in
    let yes = c.may_search.ensures.yes c.if-not-may_search.false in
    let is : c.in-Ok-Some.field-0 ≡ Some c.in-Ok-Some.begun = c.in-Ok-Some.field-0-is in
    let E = c.in-Ok-Some.ensures in
    let B = c.in-Ok.ensures.begins in
    let found = c.begin_cleaning.new.standing in
    let t = c.in-Ok-Some.begun.tally in
    let chunk = c.in-Ok-Some.begun.victim.chunk in
    let left = left_searched w.standing found c.begin_cleaning.ensures.names (entries_in s w.log chunk) in
    let chosen = subst (λ (o : Option Begun). IfSome o (λ x. IsChosen w.log c.room-room.result x.victim × (x.clearing.chunk ≡ x.victim.chunk) × IsFresh x.clearing)) is E.chosen in
    record {
      runs = (yes.0, yes.1);
      accepted = yes.2;
      scarce = yes.3;
      victim = c.in-Ok-Some.begun.victim;
      chosen = subst (λ (r : Room). IsChosen w.log r c.in-Ok-Some.begun.victim) c.room-room.ensures chosen.0;
      next = λ telling. subst (λ (r : Room). IsVictim s w.log w.standing w.last_victim r (Some c.in-Ok-Some.begun.victim)) c.room-room.ensures (subst (λ (o : Option Begun). IsVictim s w.log w.standing w.last_victim c.room-room.result (option_map (λ x. x.victim) o)) is (E.tells telling));
      now = c.in-Ok-Some.begun.clearing;
      is = B.is;
      chunk = chosen.1;
      fresh = chosen.2;
      room = subst (λ (o : Option Begun). IfSome o (λ x. IsTelling s → length (entries_in s w.log x.victim.chunk) ≤ x.clearing.room)) is E.room;
      found = record w { standing = found };
      looks = record { same = refl; names = c.begin_cleaning.ensures.names; floors = λ had telling. c.begin_cleaning.ensures.floors telling };
      standing = B.standing ∙ (λ i. record found { tally = sym (ap (λ (st : StandingState). st.tally) B.standing) i });
      counts = λ telling. subst (λ (st : StandingState). IsTallied st (entries_in s w.log chunk)) (sym B.standing) (
          let of = subst (λ (o : Option Begun). IfSome o (λ x. IsTelling s → IsTallyOf x.tally w.standing (entries_in s w.log x.victim.chunk))) is E.counts telling in
          record { tally = t; is = refl; of = record { entries = of.entries ∙ sym (ap (λ (l : List (ℕ × Entry)). length l) left); words = of.words ∙ sym (ap words_sum left); each = of.each } });
      own_gone = B.own_gone;
      waiting = B.waiting;
      same = B.same;
    }

pub returns-in-Err-begin_with : goal.returns-in-Err-begin_with
returns-in-Err-begin_with g c =
    let yes = c.may_search.ensures.yes c.if-not-may_search.false in
    (yes.0, yes.1, (record c.args.self.now { standing = c.begin_cleaning.new.standing }, record { same = refl; names = c.begin_cleaning.ensures.names; floors = λ had telling. c.begin_cleaning.ensures.floors telling }, ap (λ (y : Worker). record y { winds_down = true }) c.in-Err-begin_with.ensures.memory))

pub returns-in-Err : goal.returns-in-Err
returns-in-Err g c =
    let yes = c.may_search.ensures.yes c.if-not-may_search.false in
    (yes.0, yes.1, (record c.args.self.now { standing = c.begin_cleaning.new.standing }, record { same = refl; names = c.begin_cleaning.ensures.names; floors = λ had telling. c.begin_cleaning.ensures.floors telling }, refl))
