-- What is led is the same at each seat of a member.
use Rattle.std.proofs.Common.{◌≡◌, ◌<◌, ◌≤◌, ℕ, refl, subst}
use Rattle.std.specs.List.{AllByRecursion}
use Rattle.group_laws.specs.Places.{Place, members}
use Rattle.group_laws.specs.MemberViews.{View}
use Rattle.group_board.specs.Seats.{SeatAt}
use Rattle.batch_leader.specs.declared.states.Collecting.{Collecting}
use Rattle.batch_leader.specs.declared.states.Batch.{Batch}
use Rattle.batch_leader.specs.declared.taken.Taken.{Taken}
use Rattle.std.specs.Prelude.{List}
use Rattle.batch_leader.specs.TakenChanges.{HasOut}
use Rattle.batch_leader.specs.Rounds.{own_lines, round_end}
use Rattle.batch_leader.specs.Leading.{Collects, IsBatchOf, IsCertain, IsLost, IsFrom, AreUnlogged, taken_by}
use Rattle.core_worker.specs.declared.types.Leading.{Leading}
use Rattle.core_worker.specs.declared.types.Leading.TheVariants as leads
use Rattle.core_worker.specs.Ties.{LeadsAt, Leads}

module _ (seat other : SeatAt) (place : other.place ≡ seat.place) (number : other.number ≡ seat.number) where
  inside : other.number < members other.place → seat.number < members seat.place
  inside lt = subst (λ (p : Place). seat.number < members p) place (subst (λ (n : ℕ). n < members other.place) number lt)

  collects : (v : View) (c : Collecting) → Collects other v c → Collects seat v c
  collects v c C = record {
    member = inside C.member;
    holds = C.holds;
    out = subst (λ (p : Place). HasOut p v (taken_by c)) place C.out;
    flying = C.flying;
    broken = C.broken;
    passed = subst (λ (n : ℕ). AllByRecursion (IsFrom n c.at) (taken_by c)) number C.passed;
    within = subst (λ (p : Place). c.at ≤ round_end p) place C.within;
    own = subst (λ (n : ℕ). c.own_lines ≡ own_lines n (taken_by c)) number C.own;
    own_few = C.own_few;
    unlogged = subst (λ (n : ℕ). AreUnlogged n v (taken_by c)) number C.unlogged;
    named = C.named;
  }

  batch : (v : View) (b : Batch) → IsBatchOf other v b → IsBatchOf seat v b
  batch v b B = record {
    member = inside B.member;
    out = subst (λ (p : Place). HasOut p v b.changes.taken.items) place B.out;
    flying = B.flying;
    whole = B.whole;
    own = subst (λ (n : ℕ). b.own_lines ≡ own_lines n b.changes.taken.items) number B.own;
    unlogged = subst (λ (n : ℕ). AreUnlogged n v b.changes.taken.items) number B.unlogged;
    named = B.named;
  }

  certain : (v : View) (ts : List Taken) → IsCertain other v ts → IsCertain seat v ts
  certain v ts C = record { member = inside C.member; out = subst (λ (p : Place). HasOut p v ts) place C.out; kept = C.kept }

  lost : (v : View) (ts : List Taken) → IsLost other v ts → IsLost seat v ts
  lost v ts L = record { member = inside L.member; out = subst (λ (p : Place). HasOut p v ts) place L.out; flying = L.flying }

  pub at_seat : (v : View) (l : Leading) → LeadsAt other v l → LeadsAt seat v l
  at_seat v (leads.Nothing b) L = L
  at_seat v (leads.Collecting c) L = collects v c L
  at_seat v (leads.Batch b) L = (batch v b L.0, L.1)
  at_seat v (leads.Persisted x) L = (certain v x.left.taken.items L.0, L.1, L.2, L.3)
  at_seat v (leads.Failed x) L = (lost v x.left.taken.items L.0, L.1, L.2)
  at_seat v leads.Between L = L

-- what is led, at the seat at hand
pub led_here : (seat : SeatAt) (v : View) (l now : Leading) → Leads seat.place seat.number v l → l ≡ now → LeadsAt seat v now
led_here seat v l now L e = subst (LeadsAt seat v) e (at_seat seat L.seat L.place L.number v l L.at)

pub leads_of : (seat : SeatAt) (v : View) (l : Leading) → LeadsAt seat v l → Leads seat.place seat.number v l
leads_of seat v l L = record { seat = seat; place = refl; number = refl; at = L }
