-- What is shown after a step of a core.
use Rattle.std.proofs.Common.{◌≡◌, ◌≢◌, ◌⊎◌, inl, inr, ℕ, zero, suc, ◌+◌, ◌*◌, ◌/◌, ◌<◌, ◌≤◌, List, [], ◌∷◌, ◌++◌, length, Bool, true, false, not, cond, Option, Some, slice_set, slice_index_or, refl, sym, ◌∙◌, ap, subst, arith, Result, Ok, Err, IfOk, OnOk}
use Rattle.std.specs.List.{slice_get}
use Rattle.std.proofs.lemmas.Bool.{cases_eq, eq-eqb, ne_eqb}
use Rattle.fs_model.specs.declared.memory.Memory.{Memory}
use Rattle.fs_model.specs.declared.model.Request.{Request}
use Rattle.pm_region.specs.State.{State, During, IsTelling, cell_now}
use Rattle.pm_region.specs.Words.{KeepsOutside}
use Rattle.pm_region.proofs.Clients.{told_at_entry}
use Rattle.chunk_map.specs.declared.layouts.Geometry.{Geometry}
use Rattle.chunk_map.specs.Layouts.{IsLayout}
use Rattle.licence.specs.Licence.{part_at, part_end}
use Rattle.group_laws.specs.Places.{Place}
use Rattle.group_laws.specs.Invariant.{Lawful}
use Rattle.group_laws.specs.State.{Group}
use Rattle.group_laws.specs.MemberViews.{View, view_of}
use Rattle.group_laws.specs.Regions.{groups_in, place_at}
use Rattle.group_laws.specs.Runs.{Kind, Runs}
use Rattle.group_board.specs.Journals.{state}
use Rattle.group_board.specs.Seats.{SeatAt}
use Rattle.group_board.specs.declared.local_board.LocalBoard.{LocalBoard}
use Rattle.engine_laws.specs.Parts.{group_of, member_of}
use Rattle.engine_laws.specs.WorkerMoves.{Hands}
use Rattle.engine_laws.specs.Engine.{Engine}
use Rattle.engine_laws.specs.Stands.{Origin, Stands}
use Rattle.engine_laws.specs.Promises.{AnyTurn, next_in}
use Rattle.engine_laws.proofs.Clients.{group_low}
use Rattle.core_worker.specs.declared.types.Answer.{Answer}
use Rattle.core_worker.specs.declared.types.Turn.{Turn}
use Rattle.core_worker.specs.declared.types.Turn.TheVariants.{Moved, Idle}
use Rattle.engine_core.specs.declared.types.Stamped.{Stamped}
use Rattle.engine_core.specs.Answers.{HavePlaces, ShowsAnswer, kept_at, stored}
use Rattle.engine_core.specs.Calls.{AreOwn, KeepsPart, Steps, steps_of, has_moved, is_idle, is_open, next_of, Does}
use Rattle.engine_laws.specs.Ceasing.{Halts}
use Rattle.group_engine.specs.Passes.{Advances}
use Rattle.engine_core.specs.Seated.{Seat}
use Rattle.group_engine.specs.Shows.{Shows, total, left_of}
use Rattle.group_engine.specs.Runs.{RunMoves, run_state}
use Rattle.group_engine.proofs.Ending.{keeps_any}
use Rattle.engine_core.proofs.Clients.{get_there, set_length, set_same, set_other, set_twice, stored_shows, stored_length, shows_less, places_of}
use Rattle.group_engine.proofs.Moving.{layout_of_stands}
use Rattle.group_engine.proofs.Moving as moving

-- a sum over a list with an item set
total_set : {X : Type 0} (f : X → ℕ) (xs : List X) (n : ℕ) (y d : X) → n < length xs → total f (slice_set xs n y) + f (slice_index_or xs n d) ≡ total f xs + f y
total_set f [] n y d low = absurd (omega (arith, low))
total_set f (x ∷ xs) zero y d low = omega arith
total_set f (x ∷ xs) (suc n) y d low = let r = total_set f xs n y d (omega (arith, low)) in omega (arith, r)

module _ {W Q : Type 0} (hands : View → W → Hands) (answers : W → List Answer) (stands : Place → ℕ → State → View → W → Type 0) (fair : Group → ℕ → W → Type 0) (room leads : W → Bool) (queue : Q → List (ℕ × Request))
    (o : Origin) (e : Engine) (S : Stands o e) (s : State) (l : Geometry) (ws : List W) (bs : List LocalBoard) (qs : List Q) (ks : List (Option Stamped)) (H : Shows hands answers stands fair room leads queue s l ws bs qs ks e) (c : ℕ) (low : c < l.cores) where
  pub is_layout : IsLayout l
  is_layout = subst IsLayout H.layout (layout_of_stands o e S)

  pub group_there : c / l.group < groups_in l
  group_there = group_low l is_layout c low

  pub worker_there : (d : W) → Seat hands answers stands fair room leads e c (slice_index_or ws c d)
  worker_there d = H.seats c (slice_index_or ws c d) (get_there ws c d (let n = H.worker_count in omega (arith, low, n)))

  pub board_there : (d : LocalBoard) → e.group (c / l.group) ≡ state (slice_index_or bs (c / l.group) d).keeper.me.0
  board_there d = H.groups (c / l.group) (slice_index_or bs (c / l.group) d) (get_there bs (c / l.group) d (let n = H.board_count in let g = group_there in omega (arith, g, n)))

  pub queue_there : (d : Q) → e.backlog c ≡ queue (slice_index_or qs c d)
  queue_there d = H.waits c (slice_index_or qs c d) (get_there qs c d (let n = H.backlog_count in omega (arith, low, n)))

  low_e : c < e.layout.cores
  low_e = subst (λ (n : Geometry). c < n.cores) (sym H.layout) low

  -- what the step asks of the board, the worker and the backlog
  module _ (b0 : LocalBoard) (w : W) (q : Q) (board : e.group (c / l.group) ≡ state b0.keeper.me.0) (Y : Seat hands answers stands fair room leads e c w) (waits : e.backlog c ≡ queue q) where
    place_is : (state b0.keeper.me.0).place ≡ place_at l (group_of l c)
    place_is = ap (λ (n : Group). n.place) (sym board) ∙ subst (λ (n : Geometry). (e.group (group_of n c)).place ≡ place_at n (group_of n c)) H.layout (S.groups.place (group_of e.layout c) (group_low e.layout (layout_of_stands o e S) c low_e))

    pub asks_stands : stands (state b0.keeper.me.0).place (member_of l c) s (view_of (state b0.keeper.me.0) (member_of l c)) w
    asks_stands =
        let view : Y.view ≡ view_of (state b0.keeper.me.0) (member_of l c) = Y.sits.view ∙ (λ i. view_of (e.group (group_of (H.layout i) c)) (member_of (H.layout i) c)) ∙ ap (λ (n : Group). view_of n (member_of l c)) board in
        subst (λ (p : Place). stands p (member_of l c) s (view_of (state b0.keeper.me.0) (member_of l c)) w) (sym place_is)
        (subst (λ (v : View). stands (place_at l (group_of l c)) (member_of l c) s v w) view
        (subst (λ (r : State). stands (place_at l (group_of l c)) (member_of l c) r Y.view w) H.region
        (subst (λ (n : Geometry). stands (place_at n (group_of n c)) (member_of n c) e.region Y.view w) H.layout Y.tied)))

    pub asks_fair : fair (state b0.keeper.me.0) (member_of l c) w
    asks_fair = subst (λ (n : Group). fair n (member_of l c) w) board (subst (λ (n : Geometry). fair (e.group (group_of n c)) (member_of n c) w) H.layout Y.fairly)

    pub asks_own : AreOwn (state b0.keeper.me.0).place (member_of l c) (queue q)
    asks_own = subst (λ (p : Place). AreOwn p (member_of l c) (queue q)) (sym place_is) (subst (AreOwn (place_at l (group_of l c)) (member_of l c)) waits (H.own c low))

    -- after a step
    module _ (t : State) (b1 : LocalBoard) (x : W) (accepted rest : List (ℕ × Request)) (idle down : Bool)
        (T : Steps hands answers stands fair (state b0.keeper.me.0).place (member_of l c) s t (state b0.keeper.me.0) (state b1.keeper.me.0) (view_of (state b0.keeper.me.0) (member_of l c)) (view_of (state b1.keeper.me.0) (member_of l c)) w x (queue q) accepted rest idle down) where
      own_e : AreOwn (place_at e.layout (group_of e.layout c)) (member_of e.layout c) (e.backlog c)
      own_e = subst (λ (n : Geometry). AreOwn (place_at n (group_of n c)) (member_of n c) (e.backlog c)) (sym H.layout) (H.own c low)

      board_e : e.group (group_of e.layout c) ≡ state b0.keeper.me.0
      board_e = (λ i. e.group (group_of (H.layout i) c)) ∙ board

      abbrev Here : Geometry → Place → State → Group → List (ℕ × Request) → Type 0
      Here n p r a ys = Steps hands answers stands fair p (member_of n c) r t a (state b1.keeper.me.0) (view_of a (member_of n c)) (view_of (state b1.keeper.me.0) (member_of n c)) w x ys accepted rest idle down

      here : Here e.layout (place_at e.layout (group_of e.layout c)) e.region (e.group (group_of e.layout c)) (e.backlog c)
      here =
          subst (λ (n : Geometry). Here n (place_at n (group_of n c)) e.region (e.group (group_of e.layout c)) (e.backlog c)) (sym H.layout)
          (subst (λ (r : State). Here l (place_at l (group_of l c)) r (e.group (group_of e.layout c)) (e.backlog c)) (sym H.region)
          (subst (λ (a : Group). Here l (place_at l (group_of l c)) s a (e.backlog c)) (sym board_e)
          (subst (λ (ys : List (ℕ × Request)). Here l (place_at l (group_of l c)) s (state b0.keeper.me.0) ys) (sym waits)
          (subst (λ (p : Place). Here l p s (state b0.keeper.me.0) (queue q)) place_is T))))

      abbrev after : Engine
      after = moving.after hands answers stands fair room leads o e S c low_e t (state b1.keeper.me.0) w x Y accepted rest idle down own_e here

      stands_after : Stands o after
      stands_after = moving.after_stands hands answers stands fair room leads o e S c low_e t (state b1.keeper.me.0) w x Y accepted rest idle down own_e here

      halted : idle ≡ true → Halts e after c
      halted still = moving.halts hands answers stands fair room leads o e S c low_e t (state b1.keeper.me.0) w x Y accepted rest idle down own_e here still

      -- what was handed out
      abbrev handed : List (ℕ × Request)
      handed = next_of (is_open room leads w) (queue q)

      -- what was done, as the state has it
      did : (begins : State → View → W → W → ℕ → Request → Type 0) (turned : Bool → State → State → Option Group → SeatAt → View → View → W → W → Type 0) (moved : Bool) → Does begins turned (state b0.keeper.me.0).place (member_of l c) s t (state b0.keeper.me.0) (state b1.keeper.me.0) w x (next_of (is_open room leads w) (queue q)) moved
          → Does begins turned (place_at e.layout (group_of e.layout c)) (member_of e.layout c) e.region t (e.group (group_of e.layout c)) (after.group (group_of e.layout c)) w x (next_in e c) moved
      did begins turned moved h =
          subst (λ (ys : List (ℕ × Request)). Does begins turned (place_at e.layout (group_of e.layout c)) (member_of e.layout c) e.region t (e.group (group_of e.layout c)) (after.group (group_of e.layout c)) w x ys moved) (sym (λ i. next_of (Y.takes i) (waits i)))
          (subst (λ (z : Group). Does begins turned (place_at e.layout (group_of e.layout c)) (member_of e.layout c) e.region t (e.group (group_of e.layout c)) z w x handed moved) (sym now) (there e.layout H.layout))
        where
          now : after.group (group_of e.layout c) ≡ state b1.keeper.me.0
          now = moving.group_now hands answers stands fair room leads o e S c low_e t (state b1.keeper.me.0) w x Y accepted rest idle down own_e here

          there : (n : Geometry) → n ≡ l → Does begins turned (place_at n (group_of n c)) (member_of n c) e.region t (e.group (group_of e.layout c)) (state b1.keeper.me.0) w x handed moved
          there n is =
              subst (λ (n : Geometry). Does begins turned (place_at n (group_of n c)) (member_of n c) e.region t (e.group (group_of e.layout c)) (state b1.keeper.me.0) w x handed moved) (sym is)
              (subst (λ (r : State). Does begins turned (place_at l (group_of l c)) (member_of l c) r t (e.group (group_of e.layout c)) (state b1.keeper.me.0) w x handed moved) (sym H.region)
              (subst (λ (z : Group). Does begins turned (place_at l (group_of l c)) (member_of l c) s t z (state b1.keeper.me.0) w x handed moved) (sym board_e)
              (subst (λ (p : Place). Does begins turned p (member_of l c) s t (state b0.keeper.me.0) (state b1.keeper.me.0) w x handed moved) place_is h)))

      turns : (r : Bool) → (r ≡ false → idle ≡ true) → down ≡ false → accepted ≡ next_of (is_open room leads w) (queue q) → AnyTurn e c r after
      turns r still goes chosen = moving.any_turn hands answers stands fair room leads o e S c low_e t (state b1.keeper.me.0) w x Y accepted rest idle down own_e here r still goes (chosen ∙ ap (next_of (is_open room leads w)) (sym waits))

      -- what goes out
      more_is : answers x ≡ here.adds.more
      more_is = here.adds.added ∙ ap (λ ys. ys ++ here.adds.more) Y.given

      pub have_places : HavePlaces (length ks) (answers x)
      have_places = subst (HavePlaces (length ks)) (sym more_is) (subst (λ n. HavePlaces n here.adds.more) (sym H.count) (places_of (IsTelling t) (length e.given) here.fixed here.adds.more here.adds.given
          (λ y i. moving.given hands answers stands fair room leads o e S c low_e t (state b1.keeper.me.0) w x Y accepted rest idle down own_e here y i)))

      told_before : IsTelling t → IsTelling e.region
      told_before told = told_at_entry e.region t (KeepsOutside (cell_now e.region) (part_at (place_at e.layout (group_of e.layout c)) (member_of e.layout c)) (part_end (place_at e.layout (group_of e.layout c)) (member_of e.layout c))) here.moves.outside told

      answers_there : (n : ℕ) → ShowsAnswer (IsTelling t) (slice_get e.given n) (after.answer n) (kept_at (stored (answers x) t.stamp ks) n)
      answers_there n = subst (λ ys. ShowsAnswer (IsTelling t) (slice_get e.given n) (after.answer n) (kept_at (stored ys t.stamp ks) n)) (sym more_is)
          (stored_shows (IsTelling t) (slice_get e.given) t.stamp here.fixed here.adds.more e.answer ks here.adds.given (subst (HavePlaces (length ks)) more_is have_places)
          (moving.once hands answers stands fair room leads o e S c low_e t (state b1.keeper.me.0) w x Y accepted rest idle down own_e here) (moving.asked hands answers stands fair room leads o e S c low_e t (state b1.keeper.me.0) w x Y accepted rest idle down own_e here)
          (λ k. shows_less (IsTelling s) (IsTelling t) (slice_get e.given k) (e.answer k) (kept_at ks k) (λ told. subst IsTelling H.region (told_before told)) (H.answered k)) n)

      -- The lists after it show the state after it.
      module _ (kept : (p : Place) (n : ℕ) (s t : State) (v : View) (w : W) → During s t (KeepsPart p n (cell_now s)) → stands p n s v w → stands p n t v w)
          (beside : (a e : Group) (m n : ℕ) (kinds : List Kind) (w : W) → Lawful a → Runs a (steps_of m kinds) e → n ≢ m → fair a n w → fair e n w)
          (y u : W) (u_is : u ≡ x) (same : (v : View) → hands v y ≡ hands v u) (keeps : (p : Place) (n : ℕ) (s : State) (v : View) → stands p n s v u → stands p n s v y) (even : (a : Group) (n : ℕ) → fair a n u → fair a n y) (ready : is_open room leads y ≡ is_open room leads u) (none : answers y ≡ [])
          (q1 : Q) (left : queue q1 ≡ rest) (ks1 : List (Option Stamped)) (ks_is : ks1 ≡ stored (answers u) t.stamp ks) where
        abbrev ws1 : List W
        ws1 = slice_set (slice_set ws c x) c y

        own_seat : Seat hands answers stands fair room leads after c y
        own_seat = moving.same_seat hands answers stands fair room leads o e S c low_e t (state b1.keeper.me.0) w x Y accepted rest idle down own_e here y
            (λ v. same v ∙ ap (hands v) u_is) (λ p n r v h. keeps p n r v (subst (stands p n r v) (sym u_is) h)) (λ a n h. even a n (subst (fair a n) (sym u_is) h)) (ready ∙ ap (is_open room leads) u_is) none

        seat : (d : ℕ) (z : W) → slice_get (slice_set ws c y) d ≡ Some z → (d ≡ c) ⊎ (d ≢ c) → Seat hands answers stands fair room leads after d z
        seat d z at (inl is) =
            let z_is : z ≡ y = set_same ws c y z (sym (ap (λ n. slice_get (slice_set ws c y) n) is) ∙ at) in
            subst (λ n. Seat hands answers stands fair room leads after n z) (sym is) (subst (λ u. Seat hands answers stands fair room leads after c u) (sym z_is) own_seat)
        seat d z at (inr ne) = moving.other_seat hands answers stands fair room leads o e S c low_e t (state b1.keeper.me.0) w x Y accepted rest idle down own_e here kept beside d z ne (H.seats d z (sym (set_other ws c d y ne) ∙ at))

        group_e : group_of e.layout c ≡ c / l.group
        group_e = ap (λ (n : Geometry). group_of n c) H.layout

        group : (n : ℕ) (z : LocalBoard) → slice_get (slice_set bs (c / l.group) b1) n ≡ Some z → (n ≡ c / l.group) ⊎ (n ≢ c / l.group) → after.group n ≡ state z.keeper.me.0
        group n z at (inl is) =
            let z_is : z ≡ b1 = set_same bs (c / l.group) b1 z (sym (ap (λ k. slice_get (slice_set bs (c / l.group) b1) k) is) ∙ at) in
            ap (λ k. cond k (state b1.keeper.me.0) (e.group n)) (eq-eqb n (group_of e.layout c) (is ∙ sym group_e)) ∙ ap (λ (u : LocalBoard). state u.keeper.me.0) (sym z_is)
        group n z at (inr ne) = ap (λ k. cond k (state b1.keeper.me.0) (e.group n)) (ne_eqb n (group_of e.layout c) (λ k. ne (k ∙ group_e))) ∙ H.groups n z (sym (set_other bs (c / l.group) n b1 ne) ∙ at)

        wait : (d : ℕ) (z : Q) → slice_get (slice_set qs c q1) d ≡ Some z → (d ≡ c) ⊎ (d ≢ c) → after.backlog d ≡ queue z
        wait d z at (inl is) =
            let z_is : z ≡ q1 = set_same qs c q1 z (sym (ap (λ n. slice_get (slice_set qs c q1) n) is) ∙ at) in
            ap (λ k. cond k rest (e.backlog d)) (eq-eqb d c is) ∙ sym left ∙ ap queue (sym z_is)
        wait d z at (inr ne) = ap (λ k. cond k rest (e.backlog d)) (ne_eqb d c ne) ∙ H.waits d z (sym (set_other qs c d q1 ne) ∙ at)

        behind : (p : Place) (m : ℕ) (xs ys : List (ℕ × Request)) → AreOwn p m (xs ++ ys) → AreOwn p m ys
        behind p m [] ys h = h
        behind p m (z ∷ zs) ys h = behind p m zs ys h.1

        keep : (d : ℕ) → d < l.cores → (d ≡ c) ⊎ (d ≢ c) → AreOwn (place_at l (group_of l d)) (member_of l d) (after.backlog d)
        keep d small (inl is) =
            subst (AreOwn (place_at l (group_of l d)) (member_of l d)) (sym (ap (λ k. cond k rest (e.backlog d)) (eq-eqb d c is)))
            (subst (λ n. AreOwn (place_at l (group_of l n)) (member_of l n) rest) (sym is) (behind (place_at l (group_of l c)) (member_of l c) accepted rest (subst (AreOwn (place_at l (group_of l c)) (member_of l c)) here.split (H.own c low))))
        keep d small (inr ne) = subst (AreOwn (place_at l (group_of l d)) (member_of l d)) (sym (ap (λ k. cond k rest (e.backlog d)) (ne_eqb d c ne))) (H.own d small)

        shown : Shows hands answers stands fair room leads queue t l ws1 (slice_set bs (c / l.group) b1) (slice_set qs c q1) ks1 after
        shown = record {
          layout = H.layout;
          region = refl;
          worker_count = set_length (slice_set ws c x) c y ∙ set_length ws c x ∙ H.worker_count;
          board_count = set_length bs (c / l.group) b1 ∙ H.board_count;
          backlog_count = set_length qs c q1 ∙ H.backlog_count;
          seats = λ d z at. seat d z (sym (ap (λ us. slice_get us d) (set_twice ws c x y)) ∙ at) (cases_eq d c);
          groups = λ n z at. group n z at (cases_eq n (c / l.group));
          waits = λ d z at. wait d z at (cases_eq d c);
          own = λ d small. keep d small (cases_eq d c);
          count = ap length ks_is ∙ stored_length (answers u) t.stamp ks ∙ H.count;
          answered = λ n. subst (λ us. ShowsAnswer (IsTelling t) (slice_get e.given n) (after.answer n) (kept_at us n)) (sym (ks_is ∙ ap (λ z. stored (answers z) t.stamp ks) u_is)) (answers_there n);
        }

    -- What the contract of a move says, by its outcome.
    module _ (t : State) (b1 : LocalBoard) (x : W) (kept : (p : Place) (n : ℕ) (s t : State) (v : View) (w : W) → During s t (KeepsPart p n (cell_now s)) → stands p n s v w → stands p n t v w)
        (beside : (a e : Group) (m n : ℕ) (kinds : List Kind) (w : W) → Lawful a → Runs a (steps_of m kinds) e → n ≢ m → fair a n w → fair e n w)
        (y u : W) (u_is : u ≡ x) (same : (v : View) → hands v y ≡ hands v u) (keeps : (p : Place) (n : ℕ) (s : State) (v : View) → stands p n s v u → stands p n s v y) (even : (a : Group) (n : ℕ) → fair a n u → fair a n y) (ready : is_open room leads y ≡ is_open room leads u) (none : answers y ≡ [])
        (q1 : Q) (ks1 : List (Option Stamped)) (ks_is : ks1 ≡ stored (answers u) t.stamp ks)
        (begins : State → View → W → W → ℕ → Request → Type 0) (turned : Bool → State → State → Option Group → SeatAt → View → View → W → W → Type 0) (alike : W → W → Type 0) (w_is : slice_get ws c ≡ Some w) (like : alike u y) where
      abbrev pub Stepped : Bool → Result Turn Memory → Type 0
      Stepped down r =
          (accepted : List (ℕ × Request)) × (rest : List (ℕ × Request))
          × Steps hands answers stands fair (state b0.keeper.me.0).place (member_of l c) s t (state b0.keeper.me.0) (state b1.keeper.me.0) (view_of (state b0.keeper.me.0) (member_of l c)) (view_of (state b1.keeper.me.0) (member_of l c)) w x (queue q) accepted rest (is_idle r) down
          × (queue q1 ≡ rest) × OnOk r (accepted ≡ next_of (is_open room leads w) (queue q))

      abbrev Now : Engine → Type 0
      Now f = (o : Origin) × Stands o f × Shows hands answers stands fair room leads queue t l (slice_set (slice_set ws c x) c y) (slice_set bs (c / l.group) b1) (slice_set qs c q1) ks1 f

      -- and the run's move
      abbrev HasRun : Bool → Result Turn Memory → Engine → Type 0
      HasRun down r f = down ≡ false → IfOk r (λ turn. RunMoves hands answers stands fair room leads begins turned alike (run_state e ws ks) c (has_moved turn) (run_state f (slice_set (slice_set ws c x) c y) ks1))

      pub advanced : (down : Bool) (r : Result Turn Memory) → Stepped down r → IfOk r (λ turn. Does begins turned (state b0.keeper.me.0).place (member_of l c) s t (state b0.keeper.me.0) (state b1.keeper.me.0) w x (next_of (is_open room leads w) (queue q)) (has_moved turn)) → (f : Engine) × Now f × Advances t r c e f × HasRun down r f
      advanced down r T does = (
        after t b1 x T.0 T.1 (is_idle r) down T.2,
        (o, stands_after t b1 x T.0 T.1 (is_idle r) down T.2, shown t b1 x T.0 T.1 (is_idle r) down T.2 kept beside y u u_is same keeps even ready none q1 T.3 ks1 ks_is),
        record {
          ends = record { region = refl; keeps = keeps_any e (after t b1 x T.0 T.1 (is_idle r) down T.2) c true (moving.any_move hands answers stands fair room leads o e S c low_e t (state b1.keeper.me.0) w x Y T.0 T.1 (is_idle r) down (own_e t b1 x T.0 T.1 (is_idle r) down T.2) (here t b1 x T.0 T.1 (is_idle r) down T.2) true) };
          halts = halted_by r refl;
        },
        λ goes. moved r refl goes,
      ) where
        moved : (z : Result Turn Memory) → r ≡ z → down ≡ false → IfOk z (λ turn. RunMoves hands answers stands fair room leads begins turned alike (run_state e ws ks) c (has_moved turn) (run_state (after t b1 x T.0 T.1 (is_idle r) down T.2) (slice_set (slice_set ws c x) c y) ks1))
        moved (Ok n) is goes = record {
          turn = turns t b1 x T.0 T.1 (is_idle r) down T.2 (has_moved n) (λ off. ap is_idle is ∙ ap not off) goes (subst (λ (z : Result Turn Memory). OnOk z (T.0 ≡ next_of (is_open room leads w) (queue q))) is T.4);
          old = w;
          mid = u;
          new = y;
          from = w_is;
          sits = Y;
          does =
              let done = subst (λ (z : Result Turn Memory). IfOk z (λ turn. Does begins turned (state b0.keeper.me.0).place (member_of l c) s t (state b0.keeper.me.0) (state b1.keeper.me.0) w x (next_of (is_open room leads w) (queue q)) (has_moved turn))) is does in
              let here = did t b1 x T.0 T.1 (is_idle r) down T.2 begins turned (has_moved n) done in
              subst (λ z. Does begins turned (place_at e.layout (group_of e.layout c)) (member_of e.layout c) e.region t (e.group (group_of e.layout c)) ((after t b1 x T.0 T.1 (is_idle r) down T.2).group (group_of e.layout c)) w z (next_in e c) (has_moved n)) (sym u_is) here;
          gives = like;
          sits_on = own_seat t b1 x T.0 T.1 (is_idle r) down T.2 kept beside y u u_is same keeps even ready none q1 T.3 ks1 ks_is;
          workers = set_twice ws c x y;
          keeps = ks_is;
        }
        moved (Err z) is goes = tt

        halted_by : (z : Result Turn Memory) → r ≡ z → IfOk z (λ turn. has_moved turn ≡ false → Halts e (after t b1 x T.0 T.1 (is_idle r) down T.2) c)
        halted_by (Ok n) is = λ off. halted t b1 x T.0 T.1 (is_idle r) down T.2 (ap is_idle is ∙ ap not off)
        halted_by (Err z) is = tt

      pub places : (down : Bool) (r : Result Turn Memory) → Stepped down r → HavePlaces (length ks) (answers x)
      places down r T = have_places t b1 x T.0 T.1 (is_idle r) down T.2

module _ {W Q : Type 0} (left : W → ℕ) (under : Group → ℕ) (most : ℕ) (queue : Q → List (ℕ × Request)) (ws : List W) (bs : List LocalBoard) (qs : List Q) (c g : ℕ) (w x y : W) (b0 b1 : LocalBoard) (q0 q1 : Q)
    (cw : c < length ws) (gb : g < length bs) (cq : c < length qs) (w_is : w ≡ slice_index_or ws c w) (b_is : b0 ≡ slice_index_or bs g b0) (q_is : q0 ≡ slice_index_or qs c q0) (same : left y ≡ left x) where
  abbrev old : ℕ
  old = left_of left under most queue ws bs qs

  abbrev new : ℕ
  new = left_of left under most queue (slice_set (slice_set ws c x) c y) (slice_set bs g b1) (slice_set qs c q1)

  sums : new + (left w + under (state b0.keeper.me.0) + (most + 1) * length (queue q0)) ≡ old + (left x + under (state b1.keeper.me.0) + (most + 1) * length (queue q1))
  sums =
      let p : total left (slice_set (slice_set ws c x) c y) + left w ≡ total left ws + left x = ap (λ us. total left us + left w) (set_twice ws c x y) ∙ ap (λ u. total left (slice_set ws c y) + left u) w_is ∙ total_set left ws c y w cw ∙ ap (λ n. total left ws + n) same in
      let q : total (λ (b : LocalBoard). under (state b.keeper.me.0)) (slice_set bs g b1) + under (state b0.keeper.me.0) ≡ total (λ (b : LocalBoard). under (state b.keeper.me.0)) bs + under (state b1.keeper.me.0) = ap (λ (u : LocalBoard). total (λ (b : LocalBoard). under (state b.keeper.me.0)) (slice_set bs g b1) + under (state u.keeper.me.0)) b_is ∙ total_set (λ (b : LocalBoard). under (state b.keeper.me.0)) bs g b1 b0 gb in
      let r : total (λ n. (most + 1) * length (queue n)) (slice_set qs c q1) + (most + 1) * length (queue q0) ≡ total (λ n. (most + 1) * length (queue n)) qs + (most + 1) * length (queue q1) = ap (λ u. total (λ n. (most + 1) * length (queue n)) (slice_set qs c q1) + (most + 1) * length (queue u)) q_is ∙ total_set (λ n. (most + 1) * length (queue n)) qs c q1 q0 cq in
      omega (arith, p, q, r)

  pub falls : (r : Result Turn Memory) → IfOk r (λ b. b ≡ Moved → left x + under (state b1.keeper.me.0) + (most + 1) * length (queue q1) < left w + under (state b0.keeper.me.0) + (most + 1) * length (queue q0)) → IfOk r (λ b. b ≡ Moved → new < old)
  falls (Ok b) h = λ on. (let l = h on in let s = sums in omega (arith, l, s))
  falls (Err n) h = tt

  pub stays : (r : Result Turn Memory) → IfOk r (λ b. b ≡ Idle → left x + under (state b1.keeper.me.0) + (most + 1) * length (queue q1) ≤ left w + under (state b0.keeper.me.0) + (most + 1) * length (queue q0)) → IfOk r (λ b. b ≡ Idle → new ≤ old)
  stays (Ok b) h = λ on. (let l = h on in let s = sums in omega (arith, l, s))
  stays (Err n) h = tt
