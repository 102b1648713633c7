-- A turn that takes in what another member told: what it keeps, and what it leaves to do.
use Rattle.std.proofs.Common.{◌≡◌, inl, ⊎_elim, ℕ, zero, suc, ◌≤◌, Bool, true, false, cond, List, [], ◌∷◌, length, Option, Some, refl, sym, ◌∙◌, ap, subst, arith}
use Rattle.std.specs.Prelude.{Vec}
use Rattle.std.specs.Global.{Global}
use Rattle.pm_region.specs.State.{State}
use Rattle.pm_region.proofs.Clients.{started, all_kept}
use Rattle.core_index.specs.Slots as slots
use Rattle.log_standing.specs.NameCounts.{StandingState}
use Rattle.group_laws.specs.Places.{Place, core_of}
use Rattle.group_laws.specs.State.{Group, Notices}
use Rattle.group_laws.specs.MemberViews.{View}
use Rattle.group_board.specs.Assurances.{IsHeard}
use Rattle.group_board.specs.Seats.{SeatAt}
use Rattle.group_board.specs.Views.{after_receive, IsTidyIn}
use Rattle.licence.specs.Licence.{Licensed, part_at, part_end}
use Rattle.core_worker.specs.declared.types.Place as places
use Rattle.core_worker.specs.declared.types.Place.TheVariants.{Free, Staged, Posted}
use Rattle.core_worker.specs.declared.worker.Worker.{Worker}
use Rattle.core_worker.specs.OwnPlaces.{place_at, is_free, request_by}
use Rattle.core_worker.specs.Ties.{HoldsAt, StandsAt, LeadsNothing}
use Rattle.core_worker.specs.Turns.{InOrderAt, Steps}
use Rattle.core_worker.specs.Turning.{KeepsTurn}
use Rattle.core_worker.specs.GoneNames.{restarted_by, is_forgotten, first_of}
use Rattle.core_worker.specs.LogNames.{HearsNotices}
use Rattle.core_worker.specs.Mails.{Hears}
use Rattle.core_worker.specs.WorkerMoves.{placed_in, stock_of}
use Rattle.core_worker.specs.Left.{place_left, places_left, serves_left, left}
use Rattle.core_worker.specs.CleaningLeft.{clears_left}
use Rattle.log_cleaner.proofs.TallyLaws.{keeps_both}
use Rattle.core_worker.proofs.ClearsLeft as clears
use Rattle.core_worker.proofs.UnderWay.{room_fewer, standing_pledges}
use Rattle.core_worker.proofs.StockFacts.{still_spend, stock_small}
use Rattle.core_worker.proofs.QuietMoves.{quiet_moves_low}
use Rattle.core_worker.proofs.TurnLaws.{SameChange, held_same, nothing_fixed}
use Rattle.core_worker.proofs.EndedKeys.{free_restarted}
use Rattle.core_worker.proofs.HeardMail as mail
use Rattle.core_worker.proofs.HeardStands as stood

-- a first change is another version of the same request
held_restarted : (f : ℕ → Bool) (v : View) (x : places.Place) → placed_in v (restarted_by f x) ≡ placed_in v x
held_restarted f v Free = refl
held_restarted f v (Staged n e u) = by (f e.key) where
  by : (b : Bool) → placed_in v (cond b (Staged n (first_of e) u) (Staged n e u)) ≡ Some (record { number = n; request = request_by e.key u e.body; posted = false })
  by true = refl
  by false = refl
held_restarted f v (Posted n k l) = refl

module _ (seat : SeatAt) (from : ℕ) (v : View) (w : Worker) (H : HoldsAt seat v w) (O : InOrderAt seat v w) (runs : w.stopped ≡ false) (nothing : LeadsNothing w) (n : Notices) (A : IsHeard seat.place seat.number from v n)
    (ps : Vec places.Place Global) (ix : List (ℕ × slots.Place)) (st : StandingState) (X : HearsNotices (core_of seat.place seat.number) n w.places.items ps.items w.index ix w.standing st)
    (last : ℕ → ℕ) (told dead : ℕ → ℕ → Bool) (T : IsTidyIn seat.place seat.number (after_receive seat.place seat.number n v) last told dead) where
  abbrev view : View
  view = record (after_receive seat.place seat.number n v) { last = last; told = told; dead = dead }

  abbrev heard : Worker
  heard = record w { index = ix; standing = st; places = ps }

  last_low : (k : ℕ) → last k ≤ v.last k
  last_low k = ⊎_elim (λ x. let e = x.1 in omega (arith, e)) (λ e. omega (arith, e)) (T.keeps k)

  same : (s : ℕ) → SameChange (place_at w.places.items s) (place_at ps.items s)
  same s =
      let at = X.loses.forgets.places s in
      let test = is_forgotten n.gone w.places.items X.loses.mid in
      record {
        key = mail.key_same seat.place seat.number from v w H O runs nothing n A ps ix st X last told dead T s;
        free = ap is_free at ∙ free_restarted test (place_at w.places.items s);
        held = λ y. ap (placed_in y) at ∙ held_restarted test y (place_at w.places.items s);
      }

  pub heard_keeps : (s : State) (before after : Option Group) → StandsAt s seat v w → Steps before after seat.number view → KeepsTurn seat s s before after v view w heard
  heard_keeps s before after S made =
      let N = mail.heard_holds seat.place seat.number from v w H O runs nothing n A ps ix st X last told dead T in
      let R = stood.heard_stands seat.place seat.number from v w H O runs nothing n A ps ix st X last told dead T s S in
      let own = mail.own_is seat.place seat.number from v w H O runs nothing n A ps ix st X last told dead T in
      record {
        moments = started s (Licensed seat.place seat.number v) S.licensed;
        outside = all_kept s (part_at seat.place seat.number) (part_end seat.place seat.number);
        holds = N;
        stands = R;
        order = stood.heard_order seat.place seat.number from v w H O runs nothing n A ps ix st X last told dead T;
        rule = λ on kept. room_fewer w heard (omega (arith, own)) refl refl (inl (standing_pledges w st (keeps_both w.standing X.killed st X.kills.tally X.tells.tally))) kept;
        moves = nothing_fixed seat s s before after v view w heard refl
            (quiet_moves_low seat.place seat.number s s before after v view w heard N (all_kept s (part_at seat.place seat.number) (part_end seat.place seat.number)) (started s (Licensed seat.place seat.number v) S.licensed) R.licensed made refl refl refl last_low refl
            (λ on. still_spend seat.place.layout v.took v.flying v.took v.flying (stock_of w) (stock_of heard) (record { chunks = omega arith; lines = omega arith; blocks = λ c. omega arith }) (stock_small seat.place seat.number view heard N) (omega arith))
            (held_same v w.places.items ps.items X.loses.forgets.count same) refl refl (λ e. inl e) (λ e. e));
      }

left_restarted : (f : ℕ → Bool) (x : places.Place) → place_left (restarted_by f x) ≡ place_left x
left_restarted f Free = refl
left_restarted f (Staged k e u) = by (f e.key) where
  by : (b : Bool) → place_left (cond b (Staged k (first_of e) u) (Staged k e u)) ≡ place_left (Staged k e u)
  by true = refl
  by false = refl
left_restarted f (Posted k j l) = refl

places_same : (f : ℕ → Bool) (xs ys : List places.Place) → length ys ≡ length xs → ((s : ℕ) → place_at ys s ≡ restarted_by f (place_at xs s)) → places_left ys ≡ places_left xs
places_same f [] [] e at = refl
places_same f [] (y ∷ ys) e at = absurd (omega (arith, e))
places_same f (x ∷ xs) [] e at = absurd (omega (arith, e))
places_same f (x ∷ xs) (y ∷ ys) e at = let rest = places_same f xs ys (omega (arith, e)) (λ s. at (suc s)) in let here = ap place_left (at zero) ∙ left_restarted f x in omega (arith, rest, here)

-- the core itself has no more to do
pub heard_low : (p : Place) (m from : ℕ) (v u : View) (w x : Worker) → Hears p m from v u w x → left x ≤ left w
heard_low p m from v u w x X =
    let same = ap serves_left X.same in
    let kept = ap (λ (y : Worker). clears_left y.accepted y.cleaning x.standing x.index y.notices.items) X.same in
    let places = places_same (is_forgotten X.notices.gone w.places.items X.hears.loses.mid) w.places.items x.places.items X.hears.loses.forgets.count X.hears.loses.forgets.places in
    let count = X.count in
    let less = clears.stays w.accepted w.cleaning w.standing x.standing w.index x.index w.notices.items (omega (arith, count)) X.untold in
    omega (arith, same, kept, places, less)

-- the same of a worker and a view that are so
pub keeps_heard : (seat : SeatAt) (s : State) (before after : Option Group) (from : ℕ) (v u : View) (w x : Worker) → HoldsAt seat v w → StandsAt s seat v w → InOrderAt seat v w → w.stopped ≡ false → LeadsNothing w → Steps before after seat.number u → Hears seat.place seat.number from v u w x → KeepsTurn seat s s before after v u w x
keeps_heard seat s before after from v u w x H S O runs nothing made X =
    let T = X.view in
    let at = T.4 in
    subst (λ (y : Worker). KeepsTurn seat s s before after v u w y) (sym X.same)
    (subst (λ (y : View). KeepsTurn seat s s before after v y w (record w { index = x.index; standing = x.standing; places = x.places })) (sym at)
    (heard_keeps seat from v w H O runs nothing X.notices X.heard x.places x.index x.standing X.hears T.0 T.1 T.2 T.3 s before after S (subst (λ (y : View). Steps before after seat.number y) at made)))
