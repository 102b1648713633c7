-- What a core's part may have at a cut inside a turn: until the turn's step what the view at entry licenses, and from it on what the view at exit does.
use Rattle.std.proofs.Common.{◌≡◌, ℕ, ◌≤◌, List, ◌∷◌, Bool, true, false, cond, sym, ap, subst, arith}
use Rattle.pm_region.specs.State.{State, IsTold, IsTelling, cell_now}
use Rattle.group_laws.specs.Runs.{Kind}
use Rattle.group_laws.specs.MemberViews.{View}
use Rattle.group_board.specs.Seats.{SeatAt}
use Rattle.group_board.specs.Trails.{TrailStep}
use Rattle.licence.specs.Licence.{Licensed}
use Rattle.batch_leader.specs.Persisting.{StaysLicensed, IsLicensedNow}
use Rattle.batch_leader.specs.TurnSteps.{Trail, is_load, is_handed, StandsAt, StandsAtLast, TurnSteps, since}

pub before_step : (s t : State) (seat : SeatAt) (v : View) → StaysLicensed s t seat v → (i : ℕ) → IsTold t i → s.stamp ≤ i → Licensed seat.place seat.number v (t.cells i)
before_step s t seat v moments i told low = moments.each i told low

-- a told stamp that is none before the last is the last
at_last : (t : State) (seat : SeatAt) (u : View) → IsLicensedNow t seat u → (i : ℕ) → IsTold t i → t.stamp ≤ i → Licensed seat.place seat.number u (t.cells i)
at_last t seat u exit i told low =
    let is : i ≡ t.stamp = (let h = told.seen in omega (arith, h, low)) in subst (λ j. Licensed seat.place seat.number u (t.cells j)) (sym is) (exit (subst (IsTold t) is told))

pub after_step : (s t : State) (seat : SeatAt) (u : View) (k : Kind) (x : Trail) → StandsAt k s t x → is_load k ≡ false → IsLicensedNow t seat u → (i : ℕ) → IsTold t i → since k s x ≤ i → Licensed seat.place seat.number u (t.cells i)
after_step s t seat u k x stands step exit i told low = by (is_handed k) Rattle.std.proofs.Common.refl where
  by : (c : Bool) → is_handed k ≡ c → Licensed seat.place seat.number u (t.cells i)
  by true e = at_last t seat u exit i told (subst (λ y. y ≤ i) (stands.handed e) (subst (λ c. cond c x.at s.stamp ≤ i) e low))
  by false e = at_last t seat u exit i told (subst (λ y. y ≤ i) (ap (λ (z : State). z.stamp) (sym (stands.alone step e))) (subst (λ c. cond c x.at s.stamp ≤ i) e low))

pub after_turn : (s t : State) (seat : SeatAt) (v u : View) (old x : Trail) (passes : Bool) (turn : TurnSteps passes s t v u old x) (k : TrailStep) (ks : List TrailStep) → turn.made ≡ k ∷ ks → is_load k.kind ≡ false → IsLicensedNow t seat u → (i : ℕ) → IsTold t i → since k.kind s x ≤ i → Licensed seat.place seat.number u (t.cells i)
after_turn s t seat v u old x passes turn k ks is step exit i told low = after_step s t seat u k.kind x (subst (λ l. StandsAtLast l s t x) is turn.last) step exit i told low
