-- What the parts of a turn lower, and that a round begun is at its first slot.
use Rattle.std.proofs.Common.{◌≡◌, ⊎_elim, ℕ, Bool, true, false, List, Option, Some, None, Result, Ok, Err, sym, ◌∙◌, ap, subst}
use Rattle.std.specs.Prelude.{IfSome}
use Rattle.pm_region.specs.State.{State}
use Rattle.fs_model.specs.declared.memory.Memory.{Memory}
use Rattle.group_laws.specs.State.{Group}
use Rattle.group_laws.specs.MemberViews.{View, view_of}
use Rattle.group_laws.specs.Runs.{Kind}
use Rattle.group_board.specs.Seats.{SeatAt}
use Rattle.group_board.specs.Told.{Makes}
use Rattle.batch_leader.specs.declared.states.Collecting.{Collecting}
use Rattle.batch_leader.specs.Leading.{MakesAll}
use Rattle.batch_leader.specs.TakenChanges.{MatchBool}
use Rattle.core_worker.specs.declared.types.Leading.TheVariants as leads
use Rattle.core_worker.specs.declared.types.Turn.{Turn}
use Rattle.core_worker.specs.declared.types.Turn.TheVariants.{Moved, Idle}
use Rattle.core_worker.specs.declared.worker.Worker.{Worker}
use Rattle.core_worker.specs.Posting.{PostsOrStops}
use Rattle.core_worker.specs.Stopping.{DropsStaged, WithdrawsOrUnlocks}
use Rattle.core_worker.specs.Ties.{LeadsNothing, HoldsAt}
use Rattle.core_worker.specs.Turns.{Moment, Looked, FindsPosted, TriesLock}
use Rattle.core_worker.specs.Loads.{Load, looks_at}
use Rattle.core_worker.specs.Left.{taken_left, leading_left, HasOffer, Lowers, NotMore, Measures, StartsFirst}
use Rattle.core_worker.proofs.LeadTies.{led_here}
use Rattle.core_worker.proofs.LeftLocks.{found_offers, lowers_looked, looked_not_more, locks_lower, busy_not_more, first_left}
use Rattle.core_worker.proofs.LeftFair.{starts_still, starts_stopped, starts_nothing}

-- the lock is had
pub had_lower : (seat : SeatAt) (before after : Option Group) (v u : View) (w x : Worker) → HoldsAt seat u x → LeadsNothing w → TriesLock true seat.number v u w x → Makes before seat.number Kind.Lock after u → HasOffer before seat.number → Lowers before after w x
had_lower seat before after v u w x H free had made offer =
    let c = had.1.0 in
    let led = led_here seat u x.leading (leads.Collecting c) H.leads had.1.1 in
    locks_lower before after seat.number u w x made offer (ap (λ (y : View). y.holds) had.0) free (ap leading_left had.1.1 ∙ ap taken_left (first_left seat.place seat.number u c led had.1.2)) had.2

pub had_starts : (m : ℕ) (v u : View) (w x : Worker) → TriesLock true m v u w x → StartsFirst x
had_starts m v u w x had runs c is none =
    let same : leads.Collecting had.1.0 ≡ leads.Collecting c = sym had.1.1 ∙ is in
    let here : had.1.0 ≡ c = cc same in
    ap (λ (y : Collecting). y.at) (sym here) ∙ had.1.2

-- a holder was found
pub found_not_more : (seat : SeatAt) (before after : Option Group) (v u : View) (w x : Worker) → HoldsAt seat v w → LeadsNothing w → TriesLock false seat.number v u w x → Makes before seat.number Kind.Lock after u → NotMore before after w x
found_not_more seat before after v u w x H free had made =
    let led = led_here seat v w.leading (leads.Nothing free.0) H.leads free.1 in
    busy_not_more before after seat.number u w x made (ap (λ (y : View). y.holds) had.0.2 ∙ led.0) free had.1 had.2

-- loads first, and then what is measured
looked_turn : (r : Result Turn Memory) (g h : Group) (after : Option Group) (m : ℕ) (ss : List Load) (v : View) (w x : Worker) → MakesAll (Some g) (looks_at m ss) (Some h) m v → Measures r (Some h) after w x → Measures r (Some g) after w x
looked_turn (Ok Moved) g h after m ss v w x made less = lowers_looked (Some g) (Some h) after m ss v w x made less
looked_turn (Ok Idle) g h after m ss v w x made less = looked_not_more (Some g) (Some h) after m ss v w x made less
looked_turn (Err memory) g h after m ss v w x made less = lowers_looked (Some g) (Some h) after m ss v w x made less

untold : (r : Result Turn Memory) (after : Option Group) (w x : Worker) → Measures r None after w x
untold (Ok Moved) after w x = tt
untold (Ok Idle) after w x = tt
untold (Err memory) after w x = tt

pub measures_looked : (r : Result Turn Memory) (before mid after : Option Group) (m : ℕ) (ss : List Load) (a : Moment) (v : View) (x : Worker) (posted : Bool) → MakesAll before (looks_at m ss) mid m v → IfSome before (λ w. a.view ≡ view_of w m) → (L : Looked m a 8 v)
    → MatchBool posted (FindsPosted a.worker.places.items L.found 8) (FindsPosted a.worker.places.items L.found 8 → ⊥) → ((posted ≡ true → HasOffer mid m) → Measures r mid after a.worker x) → Measures r before after a.worker x
measures_looked r None mid after m ss a v x posted made agrees L found less = untold r after a.worker x
measures_looked r (Some g) None after m ss a v x posted made agrees L found less = absurd made
measures_looked r (Some g) (Some h) after m ss a v x posted made agrees L found less =
    looked_turn r g h after m ss v a.worker x made
    (less (λ yes. found_offers g h m ss a v made agrees L (subst (λ (b : Bool). MatchBool b (FindsPosted a.worker.places.items L.found 8) (FindsPosted a.worker.places.items L.found 8 → ⊥)) yes found)))

-- It leads nothing, and goes on so.
pub dropped_starts : (s : State) (slot : ℕ) (w x : Worker) (all : Bool) → LeadsNothing w → DropsStaged s slot w x all → StartsFirst x
dropped_starts s slot w x all free D = starts_still w x (ap (λ (y : Worker). y.leading) D.rest ∙ ap (λ (y : Worker). y.leading) D.puts.lets.rest) free

pub posted_starts : (m : ℕ) (before after : Option Group) (v u : View) (w x : Worker) (slot : ℕ) → LeadsNothing w → PostsOrStops m before after v u w x slot → StartsFirst x
posted_starts m before after v u w x slot free which = starts_still w x
    (⊎_elim (λ done. ap (λ (y : Worker). y.leading) done.2.rest ∙ ap (λ (y : Worker). y.leading) done.1) (λ stops. ap (λ (y : Worker). y.leading) stops.0) which) free

pub posted_works : (m : ℕ) (before after : Option Group) (v u : View) (w x : Worker) (slot : ℕ) → PostsOrStops m before after v u w x slot → x.winds_down ≡ w.winds_down
posted_works m before after v u w x slot which =
    ⊎_elim (λ done. ap (λ (y : Worker). y.winds_down) done.2.rest ∙ ap (λ (y : Worker). y.winds_down) done.1) (λ stops. ap (λ (y : Worker). y.winds_down) stops.0) which

-- a stopped core goes on as one
pub withdrawn_starts : (s : State) (seat : SeatAt) (before after : Option Group) (v u : View) (w x : Worker) (all : Bool) → w.stopped ≡ true → WithdrawsOrUnlocks s seat before after v u w x all → StartsFirst x
withdrawn_starts s seat before after v u w x all stopped which = ⊎_elim
    (λ W. starts_stopped x (ap (λ (y : Worker). y.stopped) W.rest ∙ ap (λ (y : Worker). y.stopped) W.puts.2.lets.rest ∙ ap (λ (y : Worker). y.stopped) W.retracts.leads_now ∙ stopped))
    (λ U. starts_nothing x U.1.leads_now)
    which

pub view_agrees : (told : Option Group) (seat : SeatAt) (v : View) → IfSome told (λ w. (seat.place ≡ w.place) × (v ≡ view_of w seat.number)) → IfSome told (λ w. v ≡ view_of w seat.number)
view_agrees None seat v agrees = tt
view_agrees (Some w) seat v agrees = agrees.1
