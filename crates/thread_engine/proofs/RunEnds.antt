-- Each core at the end of a run, by what was supplied, what the split gave, what came back, and the tables as they were closed.
use Rattle.std.proofs.Common.{◌≡◌, ℕ, zero, suc, ◌+◌, ◌*◌, ◌<◌, Bool, false, List, [], ◌∷◌, ◌++◌, length, Some, refl, sym, ◌∙◌, ap, subst, arith}
use Rattle.std.specs.List.{slice_get}
use Rattle.std.proofs.lemmas.Nat.{div-add-mod'}
use Rattle.fs_model.specs.declared.model.Request.{Request}
use Rattle.pm_region.specs.State.{State}
use Rattle.pm_region.specs.Split.{IsPiece, TakesPiece}
use Rattle.chunk_map.specs.declared.layouts.Geometry.{Geometry}
use Rattle.chunk_map.specs.Layouts.{layout_of, part_first, IsLayout}
use Rattle.recover.specs.declared.types.CoreStart.{CoreStart}
use Rattle.recover.specs.declared.types.Recovered.{Recovered}
use Rattle.group_laws.specs.Places.{Place}
use Rattle.group_laws.specs.Places as places
use Rattle.group_laws.specs.State.{Group}
use Rattle.group_laws.specs.Invariant.{Lawful}
use Rattle.group_laws.specs.Runs.{Kind, Runs}
use Rattle.group_laws.specs.MemberViews.{View, view_of}
use Rattle.group_laws.specs.OpeningImages.{opened}
use Rattle.group_laws.specs.Regions.{groups_in, place_at}
use Rattle.atomic_board.specs.declared.group_table.GroupTable.{GroupTable}
use Rattle.atomic_board.specs.declared.token.SeatToken.{SeatToken}
use Rattle.atomic_board.specs.Deeds.{began, place_of, steps_in}
use Rattle.atomic_board.specs.GroupTables.{origin_of, id_of}
use Rattle.atomic_board.specs.ShownState.{state_shown, views_of}
use Rattle.atomic_board.specs.MemberSeats.{seat_of, view_at, trail_at}
use Rattle.atomic_board.specs.Tokens.{member_at}
use Rattle.engine_laws.specs.Parts.{group_of, member_of}
use Rattle.engine_laws.specs.Origins.{Origin}
use Rattle.engine_laws.specs.Stands.{opening}
use Rattle.engine_laws.specs.Workers.{Sits}
use Rattle.engine_laws.proofs.Clients.{of_member, group_low, member_low, core_is}
use Rattle.core_worker.specs.declared.worker.Worker.{Worker}
use Rattle.core_worker.specs.Beginning.{answers_of}
use Rattle.core_worker.specs.Left.{fair}
use Rattle.core_worker.specs.Openings.{IsNew, IsStartAt}
use Rattle.core_worker.specs.WorkerMoves.{hands_of}
use Rattle.engine_core.specs.Seated.{Seat}
use Rattle.engine_core.specs.Working.{IsMember, may_take, leads}
use Rattle.thread_engine.specs.declared.crew.Crew.{Crew}
use Rattle.thread_engine.specs.WorkStates.{IsAtWork}
use Rattle.thread_engine.specs.Windows.{dealt_from, OwnsKeys}
use Rattle.thread_engine.specs.Pieces.{IsPieceOf}
use Rattle.thread_engine.specs.CoreRuns.{HasView, LoadsLook, requests_to}
use Rattle.thread_engine.specs.TableTokens.{HaveTokens, AllEnded}
use Rattle.thread_engine.specs.Returns.{core_stands, Went}
use Rattle.thread_engine.specs.Supplied.{ArePartCuts}
use Rattle.thread_engine.proofs.PieceStands.{piece_member}
use Rattle.thread_engine.proofs.Deals.{dealt-append}
use Rattle.thread_engine.proofs.Places.{get_at, get_front, get_behind, as_elem}
use Rattle.thread_engine.proofs.CutOrders.{idle_trail}
use Rattle.thread_engine.proofs.LastState.{CoreEnd, IsEnd, OpeningDoubts}
use Rattle.thread_engine.specs.WindowJobs.{IsAtRest}
use Rattle.thread_engine.specs.WorkLaws.{KeepsDoubts}
use Rattle.core_worker.specs.declared.types.Answer.{Answer}
use Rattle.thread_engine.proofs.WindowNew.{new_ended}

-- the groups' states as the closed tables show them, and another one behind them
pub shown_groups : (ts : List GroupTable) (tokens : List SeatToken) → AllEnded ts tokens → Group → ℕ → Group
shown_groups [] tokens E d g = d
shown_groups (t ∷ ts) tokens E d zero = state_shown (origin_of t) E.5.table E.5.shows
shown_groups (t ∷ ts) tokens E d (suc g) = shown_groups ts E.1 E.6 d g

module _ (l : Geometry) (image : ℕ → ℕ) where
  -- Each shows a lawful state, to which steps lead from the one that the group opened on.
  pub shown_reached : (ts : List GroupTable) (tokens : List SeatToken) (E : AllEnded ts tokens) (d : Group) (g : ℕ) (t : GroupTable) → slice_get ts g ≡ Some t
      → (b : Group) → began (origin_of t) ≡ b → ((shown_groups ts tokens E d g).place ≡ b.place) × Lawful (shown_groups ts tokens E d g) × ((steps : List (ℕ × Kind)) × Runs b steps (shown_groups ts tokens E d g))
  unfolding shown_groups
  shown_reached [] tokens E d g t at b is = absurd (cc at)
  shown_reached (x ∷ ts) tokens E d zero t at b is =
      let same : x ≡ t = cc at in
      let from : began (origin_of x) ≡ b = ap (λ y. began (origin_of y)) same ∙ is in
      let R = E.5.shows.reached in
      (ap (λ (w : Group). w.place) from, R.lawful, (steps_in R.order, subst (λ (w : Group). Runs w (steps_in R.order) (state_shown (origin_of x) E.5.table E.5.shows)) from R.runs))
  shown_reached (x ∷ ts) tokens E d (suc g) t at b is = shown_reached ts E.1 E.6 d g t at b is

-- Each has of a member what its token has.
pub shown_view : (n : ℕ) (ts : List GroupTable) (tokens : List SeatToken) (E : AllEnded ts tokens) (d : Group) → ((g : ℕ) (t : GroupTable) → slice_get ts g ≡ Some t → t.members ≡ n) → (g m : ℕ) (t : GroupTable) (u : SeatToken) → slice_get ts g ≡ Some t → m < n
    → slice_get tokens (g * n + m) ≡ Some u → HasView (shown_groups ts tokens E d g) m (view_at u.own)
unfolding shown_groups
shown_view n [] tokens E d sizes g m t u at low there = absurd (cc at)
shown_view n (x ∷ ts) tokens E d sizes zero m t u at low there = record {
  kept = ap (λ (v : View). v.kept) view;
  flying = ap (λ (v : View). v.flying) view;
  taken = ap (λ (v : View). v.taken) view;
  looked = ap (λ (v : View). v.looked) view;
  dead = ap (λ (v : View). v.dead) view;
  doomed = ap (λ (v : View). v.doomed) view;
  leaving = ap (λ (v : View). v.leaving) view;
  mailed = ap (λ (v : View). v.mailed) view;
  broken = ap (λ (v : View). v.broken) view;
  holds = ap (λ (v : View). v.holds) view;
  posted = ap (λ (v : View). v.posted) view;
  took = ap (λ (v : View). v.took) view;
  blocks = ap (λ (v : View). v.blocks) view;
  last = λ k own. ap (λ (v : View). v.last k) (own_view k own);
  cell = λ k own. ap (λ (v : View). v.cell k) (own_view k own);
  pending = λ k own. ap (λ (v : View). v.pending k) (own_view k own);
  present = λ k n own. ap (λ (v : View). v.present k n) (own_view k own);
  told = λ k n own. ap (λ (v : View). v.told k n) (own_view k own);
} where
  long : length E.0 ≡ n
  long = E.3 ∙ sizes 0 x refl

  mine : slice_get E.0 m ≡ Some u
  mine = sym (get_front E.0 E.1 m (let many = long in omega (arith, many, low))) ∙ ap (λ xs. slice_get xs m) (sym E.2) ∙ ap (slice_get tokens) (let z : m ≡ 0 * n + m = omega arith in z) ∙ there

  view : views_of (origin_of x) E.5.table.views m ≡ view_at u.own
  view = E.5.views m u (as_elem E.0 m u mine)

  own_view : (k : ℕ) → places.owner (place_of (origin_of x)) k ≡ m → views_of (origin_of x) E.5.table.views (places.owner (place_of (origin_of x)) k) ≡ view_at u.own
  own_view k own = ap (views_of (origin_of x) E.5.table.views) own ∙ view
shown_view n (x ∷ ts) tokens E d sizes (suc g) m t u at low there =
    shown_view n ts E.1 E.6 d (λ h y e. sizes (suc h) y e) g m t u at low
    (sym (get_behind E.0 E.1 (g * n + m)) ∙ ap (λ xs. slice_get xs (length E.0 + (g * n + m))) (sym E.2)
    ∙ ap (slice_get tokens) (let many = E.3 in let size = sizes 0 x refl in let z : length E.0 + (g * n + m) ≡ suc g * n + m = omega (arith, many, size) in z) ∙ there)

module _ {P : Type 0} (state : P → State) (refused : Bool) (o : Origin) (r : Recovered) (is_layout : IsLayout (layout_of o.found)) (given : List Request) (tables : List GroupTable) (crew : Crew) (pieces : List P) (cuts : List ℕ)
    (have_tokens : HaveTokens o.found tables crew.tokens.items) (table_count : length tables ≡ groups_in (layout_of o.found))
    (new : (c : ℕ) (w : Worker) (start : CoreStart) → slice_get crew.workers.items c ≡ Some w → slice_get r.starts.items c ≡ Some start → IsNew start r.layout w)
    (seats : (c : ℕ) (w : Worker) → slice_get crew.workers.items c ≡ Some w → Seat hands_of answers_of IsMember fair may_take leads (opening o) c w)
    (starts : (c : ℕ) → c < (layout_of o.found).cores → (start : CoreStart) × (slice_get r.starts.items c ≡ Some start) × IsStartAt (place_at (layout_of o.found) (group_of (layout_of o.found) c)) (member_of (layout_of o.found) c) o.found start)
    (dealt rest : List Request) (split : given ≡ dealt ++ rest) (count : length pieces ≡ (layout_of o.found).cores)
    (piece : (c : ℕ) (p : P) → slice_get pieces c ≡ Some p → IsPiece o.region cuts c (state p)) (cuts_are : ArePartCuts (layout_of o.found) cuts) where
  abbrev l : Geometry
  l = layout_of o.found

  -- Core c at the beginning.
  module _ (c : ℕ) (low : c < l.cores) (p : P) (t : SeatToken) (w : Worker)
      (p_at : slice_get pieces c ≡ Some p) (t_at : slice_get crew.tokens.items c ≡ Some t) (w_at : slice_get crew.workers.items c ≡ Some w) where
    pub table : (x : GroupTable) × (slice_get tables (group_of l c) ≡ Some x)
    table = get_at tables (group_of l c) (let there = group_low l is_layout c low in let many = table_count in omega (arith, there, many))

    pub t_there : slice_get crew.tokens.items (group_of l c * l.group + member_of l c) ≡ Some t
    t_there = ap (slice_get crew.tokens.items) (div-add-mod' c l.group) ∙ t_at

    seat_is : seat_of t.own ≡ member_at (id_of table.0) (place_at l (group_of l c)) (member_of l c)
    seat_is = have_tokens.seats (group_of l c) (member_of l c) table.0 t table.1 (member_low l is_layout c) t_there

    pub view_is : view_at t.own ≡ view_of (opened (place_at l (group_of l c)) o.found) (member_of l c)
    view_is = have_tokens.views (group_of l c) (member_of l c) table.0 t table.1 (member_low l is_layout c) t_there

    pub place_is : (seat_of t.own).place ≡ place_at l (group_of l c)
    place_is = ap (λ y. y.place) seat_is

    pub number_is : (seat_of t.own).number ≡ member_of l c
    number_is = ap (λ y. y.number) seat_is

    S : Seat hands_of answers_of IsMember fair may_take leads (opening o) c w
    S = seats c w w_at

    same_view : S.view ≡ view_at t.own
    same_view = S.sits.view ∙ sym view_is

    pub first_sits : Sits (opening o) c (view_at t.own) (hands_of (view_at t.own) w)
    first_sits = subst (λ (v : View). Sits (opening o) c v (hands_of v w)) same_view S.sits

    pub piece_is : IsPieceOf (seat_of t.own).place (seat_of t.own).number o.region (state p)
    piece_is = subst (λ (y : Place). IsPieceOf y (seat_of t.own).number o.region (state p)) (sym place_is) (subst (λ (n : ℕ). IsPieceOf (place_at l (group_of l c)) n o.region (state p)) (sym number_is) (record {
      cuts = cuts;
      at = c;
      piece = piece c p p_at;
      low = cuts_are.at c (omega (arith, low)) ∙ ap (part_first l) (sym (core_is l is_layout c));
      high = cuts_are.at (c + 1) (omega (arith, low)) ∙ ap (λ d. part_first l (d + 1)) (sym (core_is l is_layout c));
    }))

    member : IsMember (seat_of t.own).place (seat_of t.own).number o.region (view_at t.own) w
    member = subst (λ (y : Place). IsMember y (seat_of t.own).number o.region (view_at t.own) w) (sym place_is) (subst (λ (n : ℕ). IsMember (place_at l (group_of l c)) n o.region (view_at t.own) w) (sym number_is)
        (subst (λ (v : View). IsMember (place_at l (group_of l c)) (member_of l c) o.region v w) same_view S.tied))

    -- the seat owns the core's keys
    pub owns : OwnsKeys (length pieces) c (seat_of t.own)
    owns = subst (λ n. OwnsKeys n c (seat_of t.own)) (sym count) (λ k is. (λ j. places.owner (place_is j) k) ∙ of_member l is_layout c k is ∙ sym number_is)

    pub first_member : IsMember (seat_of t.own).place (seat_of t.own).number (state p) (view_at t.own) w
    first_member = piece_member o.region (state p) (seat_of t.own).place (seat_of t.own).number (view_at t.own) w member piece_is

    pub first_works : IsAtWork (seat_of t.own) (core_stands state p t w [])
    first_works = record { member = first_member; own = tt }

    -- it has nothing to do yet
    pub first_rest : OpeningDoubts → IsAtRest (seat_of t.own) (core_stands state p t w [])
    first_rest doubts_open =
        let N = new c w (starts c low).0 w_at (starts c low).1 in
        record {
          work = first_works;
          ended = new_ended (core_stands state p t w []) (starts c low).0 r.layout N refl;
          runs = N.works;
          doubts = subst (λ (v : View). KeepsDoubts (seat_of t.own) v) (sym (view_is ∙ (λ i. view_of (opened (sym place_is i) o.found) (sym number_is i)))) (doubts_open (seat_of t.own) o.found);
          none = N.answers.0;
        }

    -- and at the end
    module _ (s : State) (group : ℕ → Group) (b : P) (u : SeatToken) (y : Worker) (outs : List Answer) (windows : ℕ) (due : ℕ → List (ℕ × Request)) (G : Went state refused p t w (dealt_from (length pieces) c 0 dealt) outs windows due b u y) (joined : TakesPiece s (state b)) (shown : HasView (group (group_of l c)) (member_of l c) (view_at u.own))
        (loads : LoadsLook (view_of (opened (place_at l (group_of l c)) o.found) (member_of l c)) (trail_at u.own)) (whole : y.winds_down ≡ false → rest ≡ []) where
      -- the requests of its keys
      pub all_dealt : {joined : List (ℕ × Request)} → joined ≡ dealt_from (length pieces) c 0 dealt → joined ++ dealt_from l.cores c (length dealt) rest ≡ requests_to l c given
      all_dealt e =
          let n : 0 + length dealt ≡ length dealt = omega arith in
          ap (λ xs. xs ++ dealt_from l.cores c (length dealt) rest) (e ∙ ap (λ m. dealt_from m c 0 dealt) count) ∙ ap (λ m. dealt_from l.cores c 0 dealt ++ dealt_from l.cores c m rest) (sym n)
          ∙ sym (dealt-append l.cores c 0 dealt rest) ∙ ap (requests_to l c) (sym split)

      abbrev pub core_end : (x : CoreEnd refused) × IsEnd o r refused s group given c x
      core_end = (
        record {
          seat = seat_of t.own;
          first = core_stands state p t w [];
          last = core_stands state b u y G.left;
          works = G.works.works;
          later = dealt_from l.cores c (length dealt) rest;
          outs = outs;
        },
        record {
          place = place_is;
          number = number_is;
          start = (starts c low).0;
          recovered = (starts c low).1;
          found = subst (λ (z : Place). IsStartAt z (seat_of t.own).number o.found (starts c low).0) (sym place_is) (subst (λ (n : ℕ). IsStartAt (place_at l (group_of l c)) n o.found (starts c low).0) (sym number_is) (starts c low).2);
          new = new c w (starts c low).0 w_at (starts c low).1;
          sits = first_sits;
          piece = piece_is;
          queue = refl;
          dealt = all_dealt G.works.joins;
          whole = λ on. ap (dealt_from l.cores c (length dealt)) (whole on);
          handed = G.works.gives;
          none = G.none;
          at_work = first_works;
          idle = idle_trail t.own.seat.me.0 (have_tokens.idle (group_of l c) (member_of l c) table.0 t table.1 (member_low l is_layout c) t_there);
          loads = subst (λ (v : View). LoadsLook v (trail_at u.own)) (sym view_is) loads;
          work = G.work;
          ended = G.ended;
          joined = joined;
          shown = shown;
        },
      )
