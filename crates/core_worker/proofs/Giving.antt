-- What giving a change back leaves of what a core leads.
use Rattle.std.proofs.Common.{◌≡◌, ◌≢◌, ⊎_elim, ℕ, Bool, true, false, List, [], Option, None, sym, ◌∙◌, ap, subst}
use Rattle.group_laws.specs.State.{Group}
use Rattle.group_laws.specs.Runs.{Kind}
use Rattle.group_laws.specs.Places.{Place}
use Rattle.group_laws.specs.MemberViews.{View}
use Rattle.batch_leader.specs.declared.taken.Taken.{Taken}
use Rattle.batch_leader.specs.TakenChanges.{taken_in, HasOut}
use Rattle.batch_leader.specs.Leading.{IsCertain, IsLost}
use Rattle.batch_leader.specs.GivingBack.{GivesBack, GivesFirst}
use Rattle.core_worker.specs.declared.types.Leading.{Leading}
use Rattle.core_worker.specs.declared.worker.Worker.{Worker}
use Rattle.group_board.specs.Seats.{SeatAt}
use Rattle.core_worker.specs.Ties.{LeadsAt, HasSpaceFor, in_flight, is_lost}
use Rattle.core_worker.specs.Turns.{persisted_left, failed_left}

pub gives_some : (r : Bool) (gives : Taken → View → View) (kind : ℕ → ℕ → Kind) (m : ℕ) (before after : Option Group) (v u : View) (old new : List Taken) → GivesBack r gives kind m before after v u old new → old ≢ [] → GivesFirst gives kind m before after v u old new
gives_some true gives kind m before after v u old new g some = g
gives_some false gives kind m before after v u old new g some = absurd (some g.0)

none_taken : (p : Place) (u : View) (ts : List Taken) → HasOut p u ts → ts ≡ [] → (a s : ℕ) → u.taken a s ≡ None
none_taken p u ts out none a s = out.taken a s ∙ ap (λ (xs : List Taken). taken_in xs a s) none

pub leads_certain : (seat : SeatAt) (u : View) (ts : List Taken) (l : Leading) → persisted_left ts l → IsCertain seat u ts → u.holds ≡ false → (u.broken ≡ false → u.flying ≡ []) → LeadsAt seat u l
leads_certain seat u ts l left certain free landed = ⊎_elim
    (λ more. let x = more.1 in subst (LeadsAt seat u) (sym x.2) (subst (IsCertain seat u) (sym x.1) certain, free, landed, (λ e. more.0 (sym x.1 ∙ e))))
    (λ over. let d = over.1 in subst (LeadsAt seat u) (sym d.1) (free, none_taken seat.place u ts certain.out over.0, landed)) left

pub leads_lost : (seat : SeatAt) (u : View) (ts : List Taken) (l : Leading) → failed_left ts l → IsLost seat u ts → u.holds ≡ false → u.broken ≡ true → LeadsAt seat u l
leads_lost seat u ts l left lost free broken = ⊎_elim
    (λ more. let x = more.1 in subst (LeadsAt seat u) (sym x.2) (subst (IsLost seat u) (sym x.1) lost, free, (λ e. more.0 (sym x.1 ∙ e))))
    (λ over. let d = over.1 in subst (LeadsAt seat u) (sym d.1) (free, none_taken seat.place u ts lost.out over.0, (λ e. absurd (let both : true ≡ false = sym broken ∙ e in cc both)))) left

pub certain_space : (w : Worker) (ts : List Taken) (l : Leading) → persisted_left ts l → HasSpaceFor w l
certain_space w ts l left = ⊎_elim (λ more. subst (HasSpaceFor w) (sym more.1.2) tt) (λ over. subst (HasSpaceFor w) (sym over.1.1) tt) left

pub lost_space : (w : Worker) (ts : List Taken) (l : Leading) → failed_left ts l → HasSpaceFor w l
lost_space w ts l left = ⊎_elim (λ more. subst (HasSpaceFor w) (sym more.1.2) tt) (λ over. subst (HasSpaceFor w) (sym over.1.1) tt) left

pub certain_not_lost : (ts : List Taken) (l : Leading) → persisted_left ts l → is_lost l ≡ false
certain_not_lost ts l left = ⊎_elim (λ more. ap is_lost more.1.2) (λ over. ap is_lost over.1.1) left

-- nothing of a batch that was written, or lost, is in flight by what is led
pub certain_flies : (ts : List Taken) (l : Leading) → persisted_left ts l → in_flight l ≡ []
certain_flies ts l left = ⊎_elim (λ more. ap in_flight more.1.2) (λ over. ap in_flight over.1.1) left

pub lost_flies : (ts : List Taken) (l : Leading) → failed_left ts l → in_flight l ≡ []
lost_flies ts l left = ⊎_elim (λ more. ap in_flight more.1.2) (λ over. ap in_flight over.1.1) left
