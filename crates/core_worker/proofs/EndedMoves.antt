-- The end of a cleaning is a whole move to whoever runs several workers, and keeps the room rule.
use Rattle.std.proofs.Common.{◌≡◌, inl, inr, ⊎_elim, ℕ, ◌-◌, ◌/◌, ◌≤◌, ◌==◌, ◌++◌, Bool, true, false, cond, suc, List, [], ◌∷◌, length, map, Option, Some, None, refl, sym, ◌∙◌, ap, subst, arith}
use Rattle.std.specs.Prelude.{option_to_list, unwrap_or}
use Rattle.std.specs.List.{filter}
use Rattle.fs_model.specs.Cells.{key_of}
use Rattle.pm_region.specs.State.{State, During, IsTelling, cell_now}
use Rattle.pm_region.specs.Words.{KeepsOutside}
use Rattle.chunk_map.specs.Layouts.{payload_lines}
use Rattle.conflict_queue.specs.Waiting.{waiting}
use Rattle.core_log.specs.Log.{lines_left, room_of, without}
use Rattle.core_log.proofs.Clients.{without_other}
use Rattle.log_cleaner.specs.Clearing.{ClearingState}
use Rattle.group_laws.specs.State.{Group}
use Rattle.group_laws.specs.Places as groups
use Rattle.group_laws.specs.MemberViews.{View}
use Rattle.group_board.specs.Views.{after_retire}
use Rattle.licence.specs.Licence.{Licensed, part_at, part_end}
use Rattle.engine_laws.proofs.Clients.{quiet_refuses}
use Rattle.core_room.specs.RoomRule.{KeepsRoom}
use Rattle.core_worker.specs.declared.types.Cleaning.{Cleaning}
use Rattle.core_worker.specs.declared.types.Cleaning.TheVariants.{Nothing}
use Rattle.core_worker.specs.declared.types.Place as places
use Rattle.core_worker.specs.declared.types.Place.TheVariants.{Free, Staged, Posted}
use Rattle.core_worker.specs.declared.worker.Worker.{Worker}
use Rattle.core_worker.specs.OwnPlaces.{place_at, key_in, is_of}
use Rattle.core_worker.specs.GoneNames.{first_of, restarted_by, is_forgotten}
use Rattle.core_worker.specs.EndsCleaning.{EndsIn}
use Rattle.core_worker.specs.Order.{InOrder}
use Rattle.core_worker.specs.Outbox.{as_told}
use Rattle.core_worker.specs.Supplies.{supply_of, under_way, rest, KeepsRule, HasKeptRoom}
use Rattle.core_worker.specs.Ties.{Holds}
use Rattle.core_worker.specs.Turns.{Steps}
use Rattle.core_worker.specs.WorkerMoves.{placed_in, placed_for, stock_of, hands_of, asked_by, WorkerMoves}
use Rattle.core_worker.proofs.EndedHolds as ended
use Rattle.core_worker.proofs.EndedKeys.{key_restarted}
use Rattle.core_worker.proofs.GoneKeys.{own_after}
use Rattle.core_worker.proofs.HandKeys.{holds_key}
use Rattle.core_worker.proofs.PostMoves.{kept_key}
use Rattle.core_worker.proofs.QuietMoves.{for_same, runs_in}
use Rattle.core_worker.proofs.StockFacts.{stock_small}
use Rattle.core_worker.proofs.UnderWay.{none_way}

-- a change that begins anew is the same request
in_restarted : (u : View) (test : ℕ → Bool) (y : places.Place) → placed_in u (restarted_by test y) ≡ placed_in u y
in_restarted u test Free = refl
in_restarted u test (Posted number key lines) = refl
in_restarted u test (Staged number entry value) = by (test entry.key) where
  by : (b : Bool) → placed_in u (cond b (Staged number (first_of entry) value) (Staged number entry value)) ≡ placed_in u (Staged number entry value)
  by true = refl
  by false = refl

for_restarted : (u : View) (test : ℕ → Bool) (xs ys : List places.Place) (k : ℕ) → length ys ≡ length xs → ((s : ℕ) → place_at ys s ≡ restarted_by test (place_at xs s)) → placed_for u ys k ≡ placed_for u xs k
for_restarted u test [] [] k e at = refl
for_restarted u test [] (y ∷ ys) k e at = absurd (omega (arith, e))
for_restarted u test (x ∷ xs) [] k e at = absurd (omega (arith, e))
for_restarted u test (x ∷ xs) (y ∷ ys) k e at = (λ i. cond (is_of k ((ap key_in (at 0) ∙ key_restarted test x) i)) ((ap (placed_in u) (at 0) ∙ in_restarted u test x) i) (for_restarted u test xs ys k (omega (arith, e)) (λ s. at (suc s)) i))

module _ (p : groups.Place) (m : ℕ) (v u : View) (w x : Worker) (c : ClearingState) (H : Holds p m v w) (O : InOrder p m v w) (E : EndsIn p m v u w x c) (N : Holds p m u x) where
  view_is : u ≡ record (after_retire p m c.doomed v) { last = E.tidied.0; told = E.tidied.1; dead = E.tidied.2 }
  view_is = E.tidied.4

  place_same : (k : ℕ) → (hands_of u x).place k ≡ (hands_of v w).place k
  place_same k = for_restarted u (is_forgotten w.own_gone.items w.places.items E.ends.loses.mid) w.places.items x.places.items k E.ends.loses.forgets.count E.ends.loses.forgets.places
      ∙ for_same v u w.places.items k (ap (λ (y : View). y.pending) view_is) (ap (λ (y : View). y.blocks) view_is)

  waits_same : (k : ℕ) → (hands_of u x).waits k ≡ (hands_of v w).waits k
  waits_same k = ap (λ (y : Worker). map asked_by (filter (λ h. key_of h.request == k) (option_to_list y.in_hand) ++ waiting y.queue k)) E.same

  last_less : (k : ℕ) → u.last k ≤ v.last k
  last_less k = let is = ap (λ (y : View). y.last k) view_is in ⊎_elim (λ spent. let none = spent.1 in omega (arith, is, none)) (λ same. omega (arith, is, same)) (E.tidied.3.keeps k)

  stopped_is : x.stopped ≡ w.stopped
  stopped_is = ap (λ (y : Worker). y.stopped) E.same

  pub ended_moves : (s t : State) (before after : Option Group) → During s t (KeepsOutside (cell_now s) (part_at p m) (part_end p m)) → During s t (Licensed p m v) → (IsTelling t → Licensed p m u (cell_now t)) → Steps before after m u
      → WorkerMoves p m s t before after v u (hands_of v w) (hands_of u x) [] []
  ended_moves s t before after outside moments exit made = record {
    outside = outside;
    moments = moments;
    exit = exit;
    steps = made.0;
    whole = runs_in m made.0 u before after made.1;
    own = λ y i. absurd i;
    keys = λ k own. kept_key v u (hands_of v w) (hands_of u x) k (ap (λ (y : View). y.cell k) view_is) (ap (λ (y : View). y.pending k) view_is) (place_same k) (waits_same k);
    holds = λ k own. holds_key p m u x N k;
    refuses = λ k own. quiet_refuses p.layout (stock_of w) (v.last k) (u.last k) (last_less k);
    spends = record {
      runs = λ y i full. absurd i;
      stays = λ k y own at none. (y, place_same k ∙ at, refl, λ t. t);
      begun = None;
      begins = λ y is. absurd (cc is);
      posts = inl (ap (λ (y : View). y.posted) view_is);
      spends = λ on. inr (record { scarce = E.scarce; accepts_none = refl; fixes_none = refl; small = stock_small p m u x N });
    };
    stops = λ e. inl (sym stopped_is ∙ e);
    breaks = N.broken;
    stays_stopped = λ e. stopped_is ∙ e;
  }

  -- the free lines of the open chunk are what they were
  room_same : room_of x.log ≡ room_of w.log
  room_same = ap room_of E.ends.log_is ∙ by w.log.opened refl where
    by : (o : Option ℕ) → w.log.opened ≡ o → lines_left (record w.log { chunks = without w.log.chunks c.chunk }) o ≡ lines_left w.log o
    by None e = refl
    by (Some j) e = ap (λ (t : Option ℕ). payload_lines w.log.layout - unwrap_or t 0 / 8) (without_other w.log.chunks c.chunk j (λ here. E.closed (e ∙ ap Some here)))

  pub ended_room : HasKeptRoom w → HasKeptRoom x
  ended_room had =
      let none : under_way x ≡ Nothing = none_way x (ap (λ (y : Worker). y.cleaning) E.same) in
      let kept : KeepsRoom (supply_of w) = subst (λ (d : Cleaning). KeepsRule d (supply_of w)) E.way.1 had in
      let rested : rest (under_way w) ≡ 0 = ap rest E.way.1 in
      let rests : rest (under_way x) ≡ 0 = ap rest none in
      let lines = own_after p m w.own_gone.items (as_told w v) (after_retire p m c.doomed (as_told w v)) (as_told w u) w.places.items x.places.items w.index x.index (ended.before p m v u w x c H O E) (ended.goes p m v u w x c H O E) in
      let room = room_same in
      let chunks = E.ends.gives.chunk_count in
      subst (λ (d : Cleaning). KeepsRule d (supply_of x)) (sym none)
      (⊎_elim (λ fits. inl (omega (arith, fits, rested, rests, lines, room))) (λ two. inr (omega (arith, two, chunks))) kept)
