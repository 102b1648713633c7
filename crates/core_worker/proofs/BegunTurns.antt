-- The turn in which a cleaning begins, or for which there is no memory.
use Rattle.std.proofs.Common.{◌≡◌, ⊎_elim, ℕ, Bool, true, false, List, [], Option, refl, sym, ◌∙◌, ap, subst}
use Rattle.std.specs.Prelude.{IfSome, Ok}
use Rattle.pm_region.specs.State.{State}
use Rattle.group_laws.specs.declared.types.Seen.{Seen}
use Rattle.group_laws.specs.State.{Group}
use Rattle.group_laws.specs.Places.{Place}
use Rattle.group_laws.specs.MemberViews.{View, view_of}
use Rattle.group_board.specs.Seats.{SeatAt}
use Rattle.core_worker.specs.declared.worker.Worker.{Worker}
use Rattle.log_cleaner.specs.Floors.{Searches}
use Rattle.core_worker.specs.BeginsCleaning.{BeginsAtMostOne, BeginsNone, BeginsOne, LooksForOne}
use Rattle.core_worker.specs.Mails.{NoneTold, PassesMail}
use Rattle.core_worker.specs.Readying.{PassesSending, SendsShort, TakesDead}
use Rattle.core_worker.specs.Ties.{HoldsAt, StandsAt}
use Rattle.core_worker.specs.Turning.{Did, KeepsTurn, at_entry}
use Rattle.core_worker.specs.Turning.Did.{winds}
use Rattle.core_worker.specs.Turns.{InOrderAt, PassesItems, PassesPost}
use Rattle.core_worker.proofs.AcceptedOrder.{wound_order}
use Rattle.core_worker.proofs.SendTurns.{keeps_short, looks_none, none_yet}
use Rattle.core_worker.proofs.SentTurns.{passes_is, passes_takes}
use Rattle.core_worker.proofs.Winding.{wound_holds, wound_stands}

pub was_begun : (b : Bool) (s : State) (w x : Worker) → b ≡ true → BeginsAtMostOne (Ok b) s w x → BeginsOne s w x
was_begun true s w x is B = B
was_begun false s w x is B = absurd (cc is)

pub was_none_begun : (b : Bool) (s : State) (w x : Worker) → b ≡ false → BeginsAtMostOne (Ok b) s w x → BeginsNone s w x
was_none_begun true s w x is B = absurd (cc is)
was_none_begun false s w x is B = B

-- without memory the core winds down
wound_takes : (p : Place) (w y : Worker) → TakesDead p w y → TakesDead p w (record y { winds_down = true })
wound_takes p w y T = record {
  boxes = T.boxes;
  count = T.count;
  tells = T.tells;
  fewer = T.fewer;
  same_names = T.same_names;
  same = ap (λ (z : Worker). record z { winds_down = true }) T.same;
}

pub short_of : (p : Place) (m : ℕ) (before : Option Group) (v : View) (w y : Worker) → IfSome before (λ u. (p ≡ u.place) × (v ≡ view_of u m)) → TakesDead p w y → SendsShort p m before before v v w (record y { winds_down = true })
short_of p m before v w y agrees T = record {
  looks = [];
  takes = wound_takes p w y T;
  winds = refl;
  found = looks_none before m p v agrees;
}

pub short_begun : (p : Place) (m : ℕ) (before : Option Group) (v : View) (w x : Worker) → IfSome before (λ u. (p ≡ u.place) × (v ≡ view_of u m)) → x ≡ record w { winds_down = true } → SendsShort p m before before v v w x
short_begun p m before v w x agrees same = subst (SendsShort p m before before v v w) (sym same) (short_of p m before v w w agrees (none_yet p m before v w agrees).readies.takes)

pub keeps_wound : (seat : SeatAt) (s : State) (before : Option Group) (v : View) (w x : Worker) → IfSome before (λ u. (seat.place ≡ u.place) × (v ≡ view_of u seat.number)) → HoldsAt seat v w → StandsAt s seat v w → InOrderAt seat v w → x ≡ record w { winds_down = true } → KeepsTurn seat s s before before v v w x
keeps_wound seat s before v w x agrees H S O same = subst (λ (y : Worker). KeepsTurn seat s s before before v v w y) (sym same)
    (keeps_short seat s before v w (record w { winds_down = true }) agrees S (wound_takes seat.place w w (none_yet seat.place seat.number before v w agrees).readies.takes) refl
    (record { holds = wound_holds seat.place seat.number v w H; order = wound_order seat.place seat.number v w O; stands = λ t S. wound_stands t seat.place seat.number v w S }))

told_by : (p : Place) (m : ℕ) (w : Worker) (looks : List Seen) → w.stopped ≡ false → w.winds_down ≡ false → PassesMail p m w looks → NoneTold p m looks
told_by p m w looks runs works mail = ⊎_elim
    (λ stopped. absurd (let both : true ≡ false = sym stopped ∙ runs in cc both))
    (λ rest. ⊎_elim (λ winds. absurd (let both : true ≡ false = sym winds ∙ works in cc both)) (λ none. none) rest)
    mail

pub wound_did : (s : State) (refused : Bool) (start before : Option Group) (seat : SeatAt) (v v0 : View) (w y f x : Worker) → y.stopped ≡ false → y.winds_down ≡ false → PassesPost refused w → (P : PassesItems seat.number (at_entry w v) 8 v0) → PassesMail seat.place seat.number w P.looked.looks → PassesSending seat.place seat.number w y P.looked.looks
    → LooksForOne s y f → x ≡ record f { winds_down = true } → Did s s refused start seat (at_entry w v) (at_entry x v0)
wound_did s refused start before seat v v0 w y f x runs works post P mail sending looks same =
    let is = passes_is seat.place seat.number w y P.looked.looks sending in
    let runs_w : w.stopped ≡ false = sym (ap (λ (z : Worker). z.stopped) is) ∙ runs in
    let works_w : w.winds_down ≡ false = sym (ap (λ (z : Worker). z.winds_down) is) ∙ works in
    let T = passes_takes seat.place seat.number w y P.looked.looks sending in
    let standing : x.standing ≡ f.standing = ap (λ (z : Worker). z.standing) same in
    winds refl (record {
      mid = v0;
      before = P;
      post = post;
      runs = (runs_w, works_w);
      empty = told_by seat.place seat.number w P.looked.looks runs_w works_w mail;
      ready = record y { winds_down = true };
      takes = wound_takes seat.place w y T.0;
      winds = refl;
      same = same ∙ ap (λ (z : Worker). record z { winds_down = true }) looks.same ∙ (λ i. record (record y { winds_down = true }) { standing = sym standing i });
      names = subst (Searches y.standing) (sym standing) looks.names;
      view = refl;
    })
