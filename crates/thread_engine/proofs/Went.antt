-- What the jobs did, by what they were made of and what they gave back.
use Rattle.std.proofs.Common.{◌≡◌, ℕ, zero, suc, ◌<◌, List, [], ◌∷◌, ◌++◌, length, take, Bool, Option, Some, refl, sym, ◌∙◌, ap, subst, arith, slice_index_or}
use Rattle.std.specs.List.{slice_get, AllByRecursion}
use Rattle.fs_model.specs.declared.model.Request.{Request}
use Rattle.pm_region.specs.State.{State}
use Rattle.group_board.specs.Seats.{SeatAt}
use Rattle.core_worker.specs.declared.types.Answer.{Answer}
use Rattle.core_worker.specs.declared.worker.Worker.{Worker}
use Rattle.core_worker.specs.Beginning.{answers_of}
use Rattle.engine_core.specs.declared.types.Stamped.{Stamped}
use Rattle.atomic_board.specs.declared.member_seat.MemberSeat.{MemberSeat}
use Rattle.atomic_board.specs.declared.token.SeatToken.{SeatToken}
use Rattle.atomic_board.specs.declared.token.CoreSeat.{CoreSeat}
use Rattle.atomic_board.specs.MemberSeats.{seat_of, view_at, trail_at, done_at}
use Rattle.atomic_board.specs.Deeds.{committed_at}
use Rattle.batch_leader.specs.TurnSteps.{trail_with}
use Rattle.thread_engine.specs.declared.core_job.CoreJob.{CoreJob}
use Rattle.thread_engine.specs.declared.crew.Crew.{Crew}
use Rattle.thread_engine.specs.declared.crew.Returned.{Returned}
use Rattle.thread_engine.specs.WorkStates.{WorkState, IsAtWork, WorksOn, HasEnded, stands_at, Sight}
use Rattle.thread_engine.specs.Windows.{dealt_from, dealt_by, OwnsKeys, AreAtRest, WentOn, WorksThrough}
use Rattle.thread_engine.specs.WindowJobs.{IsAtRest}
use Rattle.thread_engine.specs.Between.{RestsEach}
use Rattle.thread_engine.specs.Returns.{AreMade, Gave, AllAtRest, AllWent, Went, core_stands}
use Rattle.thread_engine.proofs.Doubts.{one_of}
use Rattle.thread_engine.proofs.Places.{get_low, get_index, get_there, get_map, map_get, map_long}

-- the front of a list that has so many items
pub take_front : {X : Type 0} (n : ℕ) (xs ys : List X) → n ≡ length xs → take n (xs ++ ys) ≡ xs
take_front zero [] ys e = refl
take_front zero (x ∷ xs) ys e = absurd (omega (arith, e))
take_front (suc n) [] ys e = absurd (omega (arith, e))
take_front (suc n) (x ∷ xs) ys e = ap (λ l. x ∷ l) (take_front n xs ys (omega (arith, e)))

-- what holds of all holds of the one at a place
all_get : {X : Type 0} (Q : X → Type 0) (xs : List X) (n : ℕ) (x : X) → AllByRecursion Q xs → slice_get xs n ≡ Some x → Q x
all_get Q [] n x a e = absurd (cc e)
all_get Q (y ∷ ys) zero x a e = (let same : y ≡ x = cc e in subst Q same a.0)
all_get Q (y ∷ ys) (suc n) x a e = all_get Q ys n x a.1 e

abbrev pub seat_at : CoreSeat → SeatAt
seat_at s = seat_of s.own

abbrev pub sight_there : CoreSeat → Sight
sight_there s = record { view = view_at s.own; trail = trail_with (trail_at s.own) (committed_at (done_at s.own)) }

module _ {P : Type 0} (state : P → State) (pieces : List P) (crew : Crew) (jobs : List (CoreJob CoreSeat P)) (M : AreMade pieces crew jobs) where
  abbrev Job : Type 0
  Job = CoreJob CoreSeat P

  -- of the job at a place
  module _ (c : ℕ) (x : Job) (at : slice_get jobs c ≡ Some x) where
    piece_at : slice_get pieces c ≡ Some x.piece
    piece_at = ap (λ l. slice_get l c) (sym M.pieces_are) ∙ get_map (λ (j : Job). j.piece) jobs c x at

    worker_at : slice_get crew.workers.items c ≡ Some x.worker
    worker_at = ap (λ l. slice_get l c) (sym M.workers) ∙ get_map (λ (j : Job). j.worker) jobs c x at

    none_waits : x.queue.items ≡ []
    none_waits = all_get (λ (j : Job). j.queue.items ≡ []) jobs c x M.fresh at

    token_at : (t : SeatToken) × (slice_get crew.tokens.items c ≡ Some t) × (x.seat.own ≡ t.own)
    token_at = map_get (λ (t : SeatToken). t.own) crew.tokens.items c x.seat.own (ap (λ l. slice_get l c) (sym M.seats) ∙ get_map (λ (j : Job). j.seat.own) jobs c x at)

  pieces_long : length pieces ≡ length jobs
  pieces_long = ap length (sym M.pieces_are) ∙ map_long (λ (j : Job). j.piece) jobs

  -- each job's core is at rest
  pub jobs_rest : AllAtRest state pieces crew → AreAtRest seat_at sight_there state jobs
  jobs_rest A = record {
    owns = λ c d low. (let O = one c d low in subst (λ n. OwnsKeys n c (seat_at (slice_index_or jobs c d).seat)) pieces_long (subst (λ (o : MemberSeat). OwnsKeys (length pieces) c (seat_of o)) (sym O.1) O.2.0));
    rest = λ c d low. (let O = one c d low in let x = slice_index_or jobs c d in
        subst (λ q. IsAtRest (seat_at x.seat) (record (stands_at sight_there state x) { queue = q })) (sym (none_waits c x (get_there jobs c d low)))
        (subst (λ (o : MemberSeat). IsAtRest (seat_of o) (record { region = state x.piece; view = view_at o; trail = trail_with (trail_at o) (committed_at (done_at o)); worker = x.worker; queue = [] })) (sym O.1) O.2.1));
  } where
    one : (c : ℕ) (d : Job) → c < length jobs → (t : SeatToken) × ((slice_index_or jobs c d).seat.own ≡ t.own) × (OwnsKeys (length pieces) c (seat_of t.own) × IsAtRest (seat_of t.own) (core_stands state (slice_index_or jobs c d).piece t (slice_index_or jobs c d).worker []))
    one c d low =
        let x = slice_index_or jobs c d in
        let at = get_there jobs c d low in
        let t = token_at c x at in
        (t.0, t.2, A c x.piece t.0 x.worker (piece_at c x at) t.1 (worker_at c x at))

  module _ (refused : Bool) (given : List Request) (windows : ℕ) (all : Bool) (new : List (CoreJob CoreSeat P)) (kept kept' : List (Option Stamped)) (W : WorksThrough seat_at sight_there state refused given windows all jobs new kept kept') (r : Returned P) (G : Gave new r) where
    -- a chain of core c, which rested behind each of the windows
    abbrev Works : (c n : ℕ) → List Answer → SeatAt → WorkState → WorkState → Type 0
    Works c n outs s a b = (G : WorksOn s refused (dealt_from n c 0 W.dealt) outs a b) × RestsEach s refused windows (dealt_by n c W.dealt) a b G.works

    one_went : (c : ℕ) (p : P) (t : SeatToken) (w : Worker) (q : P) (u : SeatToken) (y : Worker)
        → slice_get pieces c ≡ Some p → slice_get crew.tokens.items c ≡ Some t → slice_get crew.workers.items c ≡ Some w
        → slice_get r.pieces.items c ≡ Some q → slice_get r.tokens.items c ≡ Some u → slice_get r.workers.items c ≡ Some y
        → Went state refused p t w (dealt_from (length pieces) c 0 W.dealt) (slice_index_or W.outs c []) windows (dealt_by (length pieces) c W.dealt) q u y
    one_went c p t w q u y at_p at_t at_w at_q at_u at_y =
        let more = dealt_from (length pieces) c 0 W.dealt in
        let outs = slice_index_or W.outs c [] in
        let X = map_get (λ (j : Job). j.piece) jobs c p (ap (λ l. slice_get l c) M.pieces_are ∙ at_p) in
        let x = X.0 in
        let Z = map_get (λ (j : Job). j.piece) new c q (ap (λ l. slice_get l c) (sym G.pieces) ∙ at_q) in
        let z = Z.0 in
        let T = token_at c x X.1 in
        let own : x.seat.own ≡ t.own = T.2 ∙ ap (λ (s : SeatToken). s.own) (one_of T.0 t (sym T.1 ∙ at_t)) in
        let worker : x.worker ≡ w = one_of x.worker w (sym (worker_at c x X.1) ∙ at_w) in
        let queue : x.queue.items ≡ [] = none_waits c x X.1 in
        let own' : z.seat.own ≡ u.own = one_of z.seat.own u.own (sym (get_map (λ (j : Job). j.seat.own) new c z Z.1) ∙ ap (λ l. slice_get l c) (sym G.seats) ∙ get_map (λ (s : SeatToken). s.own) r.tokens.items c u at_u) in
        let worker' : z.worker ≡ y = one_of z.worker y (sym (get_map (λ (j : Job). j.worker) new c z Z.1) ∙ ap (λ l. slice_get l c) (sym G.workers) ∙ at_y) in
        let low : c < length jobs = get_low jobs c x X.1 in
        let first : slice_index_or jobs c x ≡ x = get_index jobs c x x X.1 in
        let last : slice_index_or new c x ≡ z = get_index new c z x Z.1 in
        let go : WentOn seat_at sight_there state refused more outs x z = subst (λ (n : ℕ). WentOn seat_at sight_there state refused (dealt_from n c 0 W.dealt) outs x z) (sym pieces_long)
        (subst (λ (j : Job). WentOn seat_at sight_there state refused (dealt_from (length jobs) c 0 W.dealt) outs x j) last (subst (λ (j : Job). WentOn seat_at sight_there state refused (dealt_from (length jobs) c 0 W.dealt) outs j (slice_index_or new c x)) first (W.went.each c x low))) in
        let works : Works c (length pieces) outs (seat_at x.seat) (stands_at sight_there state x) (stands_at sight_there state z) = subst (λ (n : ℕ). Works c n outs (seat_at x.seat) (stands_at sight_there state x) (stands_at sight_there state z)) (sym pieces_long)
        (subst (λ (j : Job). Works c (length jobs) outs (seat_at x.seat) (stands_at sight_there state x) (stands_at sight_there state j)) last
        (subst (λ (j : Job). Works c (length jobs) outs (seat_at j.seat) (stands_at sight_there state j) (stands_at sight_there state (slice_index_or new c x))) first ((W.went.each c x low).works, W.rested c x low))) in
        let end : HasEnded (stands_at sight_there state z) = subst (λ (j : Job). HasEnded (stands_at sight_there state j)) last (W.ended c x (get_low new c z Z.1)) in
        let none : answers_of z.worker ≡ [] = subst (λ (j : Job). answers_of j.worker ≡ []) last (W.none c x (get_low new c z Z.1)) in
        let begins : stands_at sight_there state x ≡ core_stands state p t w [] = (λ i. record { region = state (sym X.2 i); view = view_at (own i); trail = trail_with (trail_at (own i)) (committed_at (done_at (own i))); worker = worker i; queue = queue i }) in
        let ends : stands_at sight_there state z ≡ core_stands state q u y z.queue.items = (λ i. record { region = state (sym Z.2 i); view = view_at (own' i); trail = trail_with (trail_at (own' i)) (committed_at (done_at (own' i))); worker = worker' i; queue = z.queue.items }) in
        let there : Works c (length pieces) outs (seat_of t.own) (core_stands state p t w []) (core_stands state q u y z.queue.items) =
        subst (λ b. Works c (length pieces) outs (seat_of t.own) (core_stands state p t w []) b) ends (subst (λ a. Works c (length pieces) outs (seat_of t.own) a (stands_at sight_there state z)) begins (subst (λ (o : MemberSeat). Works c (length pieces) outs (seat_of o) (stands_at sight_there state x) (stands_at sight_there state z)) own works)) in
        record {
          seat = ap seat_of (sym own') ∙ go.seat_is ∙ ap seat_of own;
          left = z.queue.items;
          work = subst (IsAtWork (seat_of t.own)) ends (subst (λ (o : MemberSeat). IsAtWork (seat_of o) (stands_at sight_there state z)) own go.work);
          works = there.0;
          rests = there.1;
          ended = subst HasEnded ends end;
          none = ap answers_of (sym worker') ∙ none;
        }

    pub all_went : AllWent state refused pieces crew given windows all r kept kept'
    all_went =
        let long = W.went.count in
        record {
          dealt = W.dealt;
          rest = W.rest;
          split = W.split;
          whole = W.whole;
          memory = λ is c y at_y.
              let Z = map_get (λ (j : Job). j.worker) new c y (ap (λ l. slice_get l c) (sym G.workers) ∙ at_y) in
              ap (λ (v : Worker). v.winds_down) Z.2 ∙ sym (ap (λ (j : Job). j.worker.winds_down) (get_index new c Z.0 Z.0 Z.1)) ∙ W.memory is c Z.0 (get_low new c Z.0 Z.1);
          wound = λ is c y at_y.
              let Z = map_get (λ (j : Job). j.worker) new c y (ap (λ l. slice_get l c) (sym G.workers) ∙ at_y) in
              ap (λ (v : Worker). v.winds_down) Z.2 ∙ sym (ap (λ (j : Job). j.worker.winds_down) (get_index new c Z.0 Z.0 Z.1)) ∙ W.wound is c Z.0 (get_low new c Z.0 Z.1);
          within = W.within;
          outs = W.outs;
          few = (let few = W.went.few in let n = pieces_long in omega (arith, few, n));
          taken = W.taken;
          pieces_count = ap length G.pieces ∙ map_long (λ (j : Job). j.piece) new ∙ long ∙ sym pieces_long;
          tokens_count = sym (map_long (λ (s : SeatToken). s.own) r.tokens.items) ∙ ap length G.seats ∙ map_long (λ (j : Job). j.seat.own) new ∙ long ∙ sym pieces_long;
          workers_count = ap length G.workers ∙ map_long (λ (j : Job). j.worker) new ∙ long ∙ sym pieces_long;
          each = one_went;
        }
