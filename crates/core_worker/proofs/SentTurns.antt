-- A turn that sends, or finds nothing to send and goes on.
use Rattle.std.proofs.Common.{◌≡◌, inl, inr, ⊎_elim, ℕ, ◌<◌, ◌≤◌, Bool, true, false, List, ◌++◌, Option, Some, None, Result, Ok, Err, OnOk, OnErr, refl, sym, ◌∙◌, ap, subst, arith, append_assoc}
use Rattle.fs_model.specs.declared.memory.Memory.{Memory}
use Rattle.pm_region.specs.State.{State}
use Rattle.group_laws.specs.declared.types.Seen.{Seen}
use Rattle.group_laws.specs.declared.types.Seen.TheVariants.{Mail}
use Rattle.group_laws.specs.Places.{Place}
use Rattle.group_laws.specs.State.{Group}
use Rattle.group_laws.specs.MemberViews.{View}
use Rattle.group_laws.proofs.Clients.{In-append_left, In-append_right}
use Rattle.group_board.specs.Seats.{SeatAt}
use Rattle.batch_leader.specs.Leading.{MakesAll}
use Rattle.log_cleaner.proofs.FloorLaws.{searches_itself}
use Rattle.core_worker.specs.declared.types.Turn.{Turn}
use Rattle.core_worker.specs.declared.types.Turn.TheVariants.{Moved, Idle}
use Rattle.core_worker.specs.declared.worker.Worker.{Worker}
use Rattle.core_worker.specs.Left.{left, HasOffer, Lowers, NotMore, Measures, MeasuresTurn, StartsFirst}
use Rattle.core_worker.specs.Loads.{Load, looks_at}
use Rattle.core_worker.specs.Mails.{FoundEmpty, NoneTold}
use Rattle.core_worker.specs.Readying.{FindsFull, LooksOn, PassesSending, SendsLowest, SendsNone, SendsShort, TakesDead}
use Rattle.core_worker.specs.Resting.{IfIdle, TriedAfter, TriedIf}
use Rattle.core_worker.specs.Ties.{LeadsNothing}
use Rattle.core_worker.specs.Turning.{Did, KeepsTurn, at_entry}
use Rattle.core_worker.specs.Turning.Did.{sends, winds}
use Rattle.core_worker.specs.Turns.{PassesItems, PassesPost, SameButLeading}
use Rattle.core_worker.proofs.LeftFair.{starts_nothing}
use Rattle.core_worker.proofs.LeftLocks.{lowers_looked}
use Rattle.core_worker.proofs.MailTurns.{passes_more, looks_join, measures_passed, if_idle}
use Rattle.core_worker.proofs.ReadyLaws.{takes_low, takes_nothing, winds_low}
use Rattle.core_worker.proofs.SendTurns.{keeps_readied}
use Rattle.core_worker.proofs.SentMail.{sent_lowers}
use Rattle.core_worker.proofs.TurnLaws.{keeps_looked}

-- The same after the loads of mailboxes to this core.
pub full_later : (m upto : ℕ) (y : Worker) (first looks : List Seen) → FindsFull m upto y looks → FindsFull m upto y (first ++ looks)
full_later m upto y first looks F h n lt ne is = ⊎_elim (λ none. inl none) (λ full. inr (In-append_right (Mail m h true) first looks full)) (F h n lt ne is)

pub told_later : (p : Place) (m : ℕ) (looks more : List Seen) → NoneTold p m looks → NoneTold p m (looks ++ more)
told_later p m looks more N a lt ne = In-append_left (Mail a m false) looks more (N a lt ne)

pub sends_did : (s : State) (refused : Bool) (start before after : Option Group) (seat : SeatAt) (v v0 u : View) (w x : Worker) → w.stopped ≡ false → w.winds_down ≡ false → PassesPost refused w → (P : PassesItems seat.number (at_entry w v) 8 v0) → NoneTold seat.place seat.number P.looked.looks → SendsLowest seat.place seat.number before after v0 u w x
    → Did s s refused start seat (at_entry w v) (at_entry x u)
sends_did s refused start before after seat v v0 u w x runs works post P told N = sends refl (record {
  mid = N.mid;
  before = passes_more seat.number (at_entry w v) 8 v0 N.mid N.looks N.found.view P;
  post = post;
  runs = (runs, works);
  empty = told_later seat.place seat.number P.looked.looks N.looks told;
  to = N.to;
  other = N.other;
  ready = N.ready;
  readies = N.readies;
  full = full_later seat.number N.to N.ready P.looked.looks N.looks N.full;
  box = N.sends.box;
  some = N.sends.some;
  view = N.sends.view;
})

pub winds_did : (s : State) (refused : Bool) (start before after : Option Group) (seat : SeatAt) (v v0 u : View) (w x : Worker) → w.stopped ≡ false → w.winds_down ≡ false → PassesPost refused w → (P : PassesItems seat.number (at_entry w v) 8 v0) → NoneTold seat.place seat.number P.looked.looks → SendsShort seat.place seat.number before after v0 u w x
    → Did s s refused start seat (at_entry w v) (at_entry x u)
winds_did s refused start before after seat v v0 u w x runs works post P told N = winds refl (record {
  mid = u;
  before = passes_more seat.number (at_entry w v) 8 v0 u N.looks N.found.view P;
  post = post;
  runs = (runs, works);
  empty = told_later seat.place seat.number P.looked.looks N.looks told;
  ready = x;
  takes = N.takes;
  winds = N.winds;
  same = refl;
  names = searches_itself x.standing;
  view = refl;
})

-- There is less to do, also by what was made ready before.
pub lowers_ready : (before after : Option Group) (w y x : Worker) → left y ≤ left w → Lowers before after y x → Lowers before after w x
lowers_ready None after w y x low less = tt
lowers_ready (Some a) None w y x low less = absurd less
lowers_ready (Some a) (Some b) w y x low less = omega (arith, low, less)

pub not_more_ready : (before after : Option Group) (w y x : Worker) → left y ≤ left w → NotMore before after y x → NotMore before after w x
not_more_ready None after w y x low less = tt
not_more_ready (Some a) None w y x low less = absurd less
not_more_ready (Some a) (Some b) w y x low less = omega (arith, low, less)

lowers_still : (before : Option Group) (w x : Worker) → left x < left w → Lowers before before w x
lowers_still None w x less = tt
lowers_still (Some a) w x less = omega (arith, less)

pub measures_ready : (turn : Turn) (before after : Option Group) (w y x : Worker) → left y ≤ left w → MeasuresTurn turn before after y x → MeasuresTurn turn before after w x
measures_ready Moved before after w y x low less = lowers_ready before after w y x low less
measures_ready Idle before after w y x low less = not_more_ready before after w y x low less

pub sends_low : (p : Place) (m : ℕ) (before after : Option Group) (v u : View) (w x : Worker) → SendsLowest p m before after v u w x → Lowers before after w x
sends_low p m before after v u w x N =
    lowers_looked before N.between after m N.found.loads N.mid w x N.found.made
    (lowers_ready N.between after w N.ready x (takes_low p w N.ready N.readies.takes N.readies.works) (sent_lowers N.between after m N.to u N.ready x N.sends.box N.sends.made N.sends.some))

pub short_low : (p : Place) (m : ℕ) (before after : Option Group) (v u : View) (w x : Worker) → w.winds_down ≡ false → SendsShort p m before after v u w x → Lowers before after w x
short_low p m before after v u w x works N = lowers_looked before after after m N.found.loads u w x N.found.made (lowers_still after w x (winds_low p w x N.takes works N.winds))

-- The lock is tried after loads of mailboxes.
pub tried_looked : (posted : Bool) (m : ℕ) (before mid after : Option Group) (v u t : View) (looks : List Seen) → LooksOn m before mid v u looks → TriedIf posted m mid after t → TriedAfter posted m before after v t
tried_looked posted m before mid after v u t looks L tried = record { mid = u; between = mid; looks = looks; view = L.view; made = (L.loads, L.made); tried = tried }

pub tried_later : (posted : Bool) (m upto : ℕ) (before mid after : Option Group) (v u t : View) → FoundEmpty m upto before mid v u → TriedAfter posted m mid after u t → TriedAfter posted m before after v t
tried_later posted m upto before mid after v u t F T = record {
  mid = T.mid;
  between = T.between;
  looks = F.looks ++ T.looks;
  view = T.view ∙ ap (λ (y : View). record y { looked = y.looked ++ T.looks }) F.view ∙ ap (λ (xs : List Seen). record v { looked = xs }) (append_assoc v.looked F.looks T.looks);
  made = looks_join before mid T.between m u T.mid (F.loads, F.made) T.made;
  tried = T.tried;
}

-- whatever is passed of sending, nothing but index and boxes differs
pub passes_takes : (p : Place) (m : ℕ) (w y : Worker) (looks : List Seen) → PassesSending p m w y looks → TakesDead p w y × (y.winds_down ≡ w.winds_down)
passes_takes p m w y looks S = ⊎_elim
    (λ same. (subst (λ (z : Worker). TakesDead p w z) (sym same.0) (takes_nothing p w), ap (λ (z : Worker). z.winds_down) same.0))
    (λ R. (R.0.takes, R.0.works))
    S

pub passes_is : (p : Place) (m : ℕ) (w y : Worker) (looks : List Seen) → PassesSending p m w y looks → y ≡ record w { index = y.index; notices = y.notices }
passes_is p m w y looks S = let T = passes_takes p m w y looks S in T.0.same ∙ (λ i. record w { index = y.index; notices = y.notices; winds_down = T.1 i })

pub passes_led : (p : Place) (m : ℕ) (w y x : Worker) (looks : List Seen) → PassesSending p m w y looks → SameButLeading y x → x ≡ record w { index = y.index; notices = y.notices; leading = x.leading }
passes_led p m w y x looks S same = same ∙ ap (λ (z : Worker). record z { leading = x.leading }) (passes_is p m w y looks S)

-- A core that leads nothing leads nothing after it sent.
pub sends_starts : (p : Place) (m : ℕ) (before after : Option Group) (v u : View) (w x : Worker) → LeadsNothing w → SendsLowest p m before after v u w x → StartsFirst x
sends_starts p m before after v u w x nothing N = starts_nothing x (nothing.0, ap (λ (z : Worker). z.leading) N.sends.box.same ∙ ap (λ (z : Worker). z.leading) N.readies.takes.same ∙ nothing.1)

pub short_starts : (p : Place) (m : ℕ) (before after : Option Group) (v u : View) (w x : Worker) → LeadsNothing w → SendsShort p m before after v u w x → StartsFirst x
short_starts p m before after v u w x nothing N = starts_nothing x (nothing.0, ap (λ (z : Worker). z.leading) N.takes.same ∙ nothing.1)

-- What comes after nothing could be sent is the whole turn's.
pub goes_on : (seat : SeatAt) (s t : State) (upto : ℕ) (before mid after : Option Group) (v u z : View) (w y x : Worker) → SendsNone seat.place seat.number upto before mid v u w y → KeepsTurn seat s t mid after u z y x → KeepsTurn seat s t before after v z w x
goes_on seat s t upto before mid after v u z w y x N K =
    keeps_looked seat s t before mid after v u z w x (v.looked ++ N.looks) N.found.view (N.found.loads, N.found.made) (keeps_readied seat s t mid after u z upto w y x N.readies K)

-- By what a turn answers, where there may be no memory.
pub if_idle_to : (r : Result Turn Memory) (A B : Type 0) → (A → B) → IfIdle r A → IfIdle r B
if_idle_to (Ok turn) A B f x = if_idle turn A B f x
if_idle_to (Err memory) A B f x = tt

pub measures_by : (r : Result Turn Memory) (posted : Bool) (before mid after : Option Group) (m : ℕ) (loads : List Load) (v : View) (w x : Worker) → MakesAll before (looks_at m loads) mid m v → (posted ≡ true → HasOffer before m) → ((posted ≡ true → HasOffer mid m) → Measures r mid after w x) → Measures r before after w x
measures_by (Ok turn) posted before mid after m loads v w x made offer less = measures_passed turn posted before mid after m loads v w x made offer less
measures_by (Err memory) posted before mid after m loads v w x made offer less = measures_passed Moved posted before mid after m loads v w x made offer less

-- What was made ready for a message that isn't sent counts no more.
pub measures_readied : (r : Result Turn Memory) (before after : Option Group) (w y x : Worker) → left y ≤ left w → Measures r before after y x → Measures r before after w x
measures_readied (Ok turn) before after w y x low less = measures_ready turn before after w y x low less
measures_readied (Err memory) before after w y x low less = lowers_ready before after w y x low less

pub none_low : (p : Place) (m upto : ℕ) (r : Result Turn Memory) (posted : Bool) (before mid after : Option Group) (v u : View) (w y x : Worker) → SendsNone p m upto before mid v u w y → (posted ≡ true → HasOffer before m) → ((posted ≡ true → HasOffer mid m) → Measures r mid after y x) → Measures r before after w x
none_low p m upto r posted before mid after v u w y x N offer less =
    measures_by r posted before mid after m N.found.loads u w x N.found.made offer (λ has. measures_readied r mid after w y x (takes_low p w y N.readies.takes N.readies.works) (less has))

pub works_on : {X Y : Type 0} (r : Result X Y) (b c d : Bool) → c ≡ d → OnOk r (b ≡ c) → OnOk r (b ≡ d)
works_on (Ok x) b c d same works = works ∙ same
works_on (Err y) b c d same works = tt

-- who didn't wind down before didn't where there was no memory
pub awake_before : {X Y : Type 0} (r : Result X Y) (b c : Bool) → b ≡ c → OnErr r (b ≡ false) → OnErr r (c ≡ false)
awake_before (Ok x) b c same awake = tt
awake_before (Err y) b c same awake = sym same ∙ awake
