-- A run on threads: from its supplies, the pieces of the split, what the cores gave back and the joined region to what it comes to.
use Rattle.std.proofs.Common.{◌≡◌, ℕ, ◌+◌, ◌-◌, ◌*◌, ◌/◌, ◌<◌, ◌≤◌, Bool, true, false, List, [], ◌++◌, length, take, Option, Some, None, refl, sym, ◌∙◌, ap, subst, arith, append-nil, nat_lt, slice_index_or}
use Rattle.std.specs.List.{slice_get}
use Rattle.std.proofs.lemmas.Bool.{ltb-true, lt-ltb}
use Rattle.std.proofs.lemmas.List.{take-append-le}
use Rattle.std.proofs.lemmas.Nat.{div-add-mod'}
use Rattle.fs_model.specs.declared.model.Request.{Request}
use Rattle.pm_region.specs.State.{State, Frame, IsTold, InRange, cell_now}
use Rattle.pm_region.specs.Split.{IsPiece, Joined, TakesPiece, CameFrom, IsBetween, ComesNext}
use Rattle.chunk_map.specs.declared.layouts.Geometry.{Geometry}
use Rattle.chunk_map.specs.Layouts.{layout_of, IsLayout}
use Rattle.chunk_map.proofs.Clients.{numbers_of}
use Rattle.recover.specs.declared.types.Recovered.{Recovered}
use Rattle.group_laws.specs.State.{Group}
use Rattle.group_laws.specs.Invariant.{Lawful}
use Rattle.group_laws.specs.Runs.{Kind, Runs}
use Rattle.group_laws.specs.Regions.{groups_in, place_at}
use Rattle.group_laws.specs.MemberViews.{view_of}
use Rattle.group_laws.specs.OpeningImages.{opened}
use Rattle.group_board.specs.Seats.{SeatAt}
use Rattle.group_board.specs.Trails.{TrailStep}
use Rattle.atomic_board.specs.declared.group_table.GroupTable.{GroupTable}
use Rattle.atomic_board.specs.declared.token.SeatToken.{SeatToken}
use Rattle.atomic_board.specs.GroupTables.{id_of, group_place}
use Rattle.atomic_board.specs.MemberSeats.{seat_of, view_at, trail_at}
use Rattle.atomic_board.specs.Tokens.{member_at}
use Rattle.core_worker.specs.declared.worker.Worker.{Worker}
use Rattle.engine_laws.specs.Origins.{Origin}
use Rattle.engine_laws.specs.Parts.{Groups, group_of, member_of}
use Rattle.engine_laws.proofs.Clients.{group_low, member_low, member_core}
use Rattle.engine_core.specs.declared.run_outcome.End.{End}
use Rattle.engine_core.specs.declared.types.Stamped.{Stamped}
use Rattle.engine_core.specs.RunStarts.{StandsAsFound, BeginsAt}
use Rattle.thread_engine.specs.declared.crew.Returned.{Returned}
use Rattle.thread_engine.specs.declared.run_apart.Supplies.{Supplies}
use Rattle.thread_engine.specs.CoreRuns.{HasView, LoadsLook, requests_to}
use Rattle.thread_engine.specs.Windows.{dealt_from, dealt_by}
use Rattle.thread_engine.specs.Cuts.{steps_of, IsShown}
use Rattle.thread_engine.specs.Between.{RestsWith, RestsEach, HoldsBehind}
use Rattle.answer_queue.specs.declared.window_sizes.TheConstants.{WINDOW}
use Rattle.thread_engine.specs.Collected.{AreBlank, restamped, any_stopped, end_by}
use Rattle.thread_engine.specs.RanApart.{RanApart}
use Rattle.thread_engine.specs.TableTokens.{AreTokensOf, AllEnded}
use Rattle.thread_engine.specs.Returns.{IsCrew, AllAtRest, AllWent, Went, core_stands}
use Rattle.thread_engine.specs.Supplied.{IsSupplied, ArePartCuts}
use Rattle.thread_engine.proofs.Blocks.{tokens_of}
use Rattle.thread_engine.proofs.CutOrders.{shown_orders, orders_shown, orders_made}
use Rattle.thread_engine.proofs.Doubts.{one_of}
use Rattle.thread_engine.proofs.LastState.{CoreEnd, IsEnd, ChainLaw, OpeningKeys, OpeningDoubts, RefusalLaw, MomentLaw, CutLaw, kept_is, ran_resting}
use Rattle.thread_engine.proofs.Behind.{holds_behind}
use Rattle.thread_engine.proofs.Resting.{windows_low}
use Rattle.thread_engine.proofs.Rejoining.{StillParted, region_rejoined, region_superblock, next_joined}
use Rattle.thread_engine.proofs.Places.{get_low, get_at, get_index}
use Rattle.thread_engine.proofs.RunEnds.{shown_groups, shown_reached, shown_view, owns, first_rest, core_end}
use Rattle.thread_engine.proofs.Stops.{chain_frame, chain_tells}
use Rattle.thread_engine.proofs.Supplying.{start_there, seat_there}

module _ {P : Type 0} (state : P → State) (refused : Bool) (s : State) (word : ℕ → ℕ) (o : Origin) (r : Recovered) (given : List Request) (places : ℕ) (x : Supplies) (F : StandsAsFound s word r) (B : BeginsAt s word o) (S : IsSupplied o r places x) where
  abbrev l : Geometry
  l = layout_of o.found

  pub is_layout : IsLayout l
  is_layout = subst IsLayout S.recovered F.made.layout

  abbrev tables : List GroupTable
  tables = x.tables.items

  table_count : length tables ≡ groups_in l
  table_count = S.tables ∙ ap groups_in S.layout

  pub cuts_are : ArePartCuts l x.cuts.items
  cuts_are = subst (λ (g : Geometry). ArePartCuts g x.cuts.items) S.layout S.cuts

  worker_count : length x.crew.workers.items ≡ l.cores
  worker_count = S.worker_count ∙ ap (λ (g : Geometry). g.cores) S.layout

  whole : groups_in l * l.group ≡ l.cores
  whole = (let split = div-add-mod' l.cores l.group in let none = (numbers_of l is_layout).divides in omega (arith, split, none))

  token_count : length x.crew.tokens.items ≡ l.cores
  token_count = S.have_tokens.count ∙ ap (λ n. n * l.group) table_count ∙ whole

  pub group_is : x.layout.group ≡ l.group
  group_is = ap (λ (g : Geometry). g.group) S.layout

  module _ (pieces : List P) (count : length pieces ≡ length x.cuts.items - 1) (piece_is : (i : ℕ) (p : P) → i < length pieces → IsPiece s x.cuts.items i (state (slice_index_or pieces i p))) where
    pub piece_count : length pieces ≡ l.cores
    piece_count = (let a = count in let b = cuts_are.count in omega (arith, a, b))

    piece_at : (c : ℕ) (p : P) → slice_get pieces c ≡ Some p → IsPiece o.region x.cuts.items c (state p)
    piece_at c p at = subst (λ (y : State). IsPiece y x.cuts.items c (state p)) (sym B.region) (subst (λ (y : P). IsPiece s x.cuts.items c (state y)) (get_index pieces c p p at) (piece_is c p (get_low pieces c p at)))

    core_low : (c : ℕ) (p : P) → slice_get pieces c ≡ Some p → c < l.cores
    core_low c p at = (let low = get_low pieces c p at in let n = piece_count in omega (arith, low, n))

    -- what the cores begin with
    pub crew_is : IsCrew tables x.layout.group (length pieces) x.crew
    crew_is = record {
      tokens = token_count ∙ sym piece_count;
      workers = worker_count ∙ sym piece_count;
      any = (let some = (numbers_of l is_layout).cores_low in let n = piece_count in omega (arith, some, n));
      few = (let most = (numbers_of l is_layout).cores_high in let n = piece_count in omega (arith, most, n));
      some_ = (let some = (numbers_of l is_layout).group_low in let g = group_is in omega (arith, some, g));
      within = λ c low. subst (λ n. c / n < length tables) (sym group_is) (subst (λ n. c / l.group < n) (sym table_count) (group_low l is_layout c (let n = piece_count in omega (arith, low, n))));
      seats = λ c t b at_t at_b. ap (λ (y : SeatAt). y.table) (S.have_tokens.seats (group_of l c) (member_of l c) b t (ap (λ n. slice_get tables (c / n)) (sym group_is) ∙ at_b) (member_low l is_layout c) (ap (slice_get x.crew.tokens.items) (div-add-mod' c l.group) ∙ at_t));
    }

    pub all_rest : OpeningDoubts → AllAtRest state pieces x.crew
    all_rest doubts_open c p t w at_p at_t at_w = (
      owns state refused o r is_layout given tables x.crew pieces x.cuts.items S.have_tokens table_count S.workers.each (seat_there s word r o F B x.crew.workers.items S.seated worker_count) (start_there s word r o F B) given [] (sym (append-nil given)) piece_count piece_at cuts_are
          c (core_low c p at_p) p t w at_p at_t at_w,
      first_rest state refused o r is_layout given tables x.crew pieces x.cuts.items S.have_tokens table_count S.workers.each (seat_there s word r o F B x.crew.workers.items S.seated worker_count) (start_there s word r o F B) given [] (sym (append-nil given)) piece_count piece_at cuts_are
          c (core_low c p at_p) p t w at_p at_t at_w doubts_open,
    )

    -- what they gave back
    module _ (back : Returned P) (windows : ℕ) (in_all : Bool) (blanks first_kept : List (Option Stamped)) (A : AllWent state refused pieces x.crew given windows in_all back blanks first_kept) where
      -- of one core
      abbrev One : ℕ → Type 0
      One c = (p : P) × (t : SeatToken) × (w : Worker) × (q : P) × (u : SeatToken) × (y : Worker)
          × (slice_get pieces c ≡ Some p) × (slice_get x.crew.tokens.items c ≡ Some t) × (slice_get x.crew.workers.items c ≡ Some w)
          × (slice_get back.pieces.items c ≡ Some q) × (slice_get back.tokens.items c ≡ Some u) × (slice_get back.workers.items c ≡ Some y) × Went state refused p t w (dealt_from (length pieces) c 0 A.dealt) (slice_index_or A.outs c []) windows (dealt_by (length pieces) c A.dealt) q u y

      one : (c : ℕ) → c < l.cores → One c
      one c low =
          let n = piece_count in
          let a = get_at pieces c (omega (arith, low, n)) in
          let b = get_at x.crew.tokens.items c (let m = token_count in omega (arith, low, m)) in
          let d = get_at x.crew.workers.items c (let m = worker_count in omega (arith, low, m)) in
          let g = get_at back.pieces.items c (let m = A.pieces_count in omega (arith, low, m, n)) in
          let h = get_at back.tokens.items c (let m = A.tokens_count in omega (arith, low, m, n)) in
          let j = get_at back.workers.items c (let m = A.workers_count in omega (arith, low, m, n)) in
          (a.0, b.0, d.0, g.0, h.0, j.0, a.1, b.1, d.1, g.1, h.1, j.1, A.each c a.0 b.0 d.0 g.0 h.0 j.0 a.1 b.1 d.1 g.1 h.1 j.1)

      -- the tokens, table by table
      pub tokens_back : AreTokensOf x.layout.group tables back.tokens.items
      tokens_back = subst (λ n. AreTokensOf n tables back.tokens.items) (sym group_is) (tokens_of l.group tables back.tokens.items
          (A.tokens_count ∙ piece_count ∙ sym whole ∙ ap (λ n. n * l.group) (sym table_count))
          (λ g b at. S.have_tokens.sizes g b at)
          seats_back)
        where
          seats_back : (g m : ℕ) (b : GroupTable) (u : SeatToken) → slice_get tables g ≡ Some b → m < l.group → slice_get back.tokens.items (g * l.group + m) ≡ Some u → seat_of u.own ≡ member_at (id_of b) (group_place b) m
          seats_back g m b u at low there =
              let c = g * l.group + m in
              let g_low : g < groups_in l = (let lt = get_low tables g b at in let n = table_count in omega (arith, lt, n)) in
              let O = one c (member_core l is_layout g m g_low low) in
              ap (λ (y : SeatToken). seat_of y.own) (one_of u O.4 (sym there ∙ O.10)) ∙ O.12.seat ∙ S.have_tokens.seats g m b O.1 at low O.7
              ∙ ap (λ p. member_at (id_of b) p m) (sym (ap (λ (w : Group). w.place) (S.have_tokens.opened_on g b at)))

      -- the pieces came from the split
      pub pieces_back : (t : State) → StillParted s t x.cuts.items → (i : ℕ) (p : P) → i < length back.pieces.items → CameFrom t i (state (slice_index_or back.pieces.items i p))
      pieces_back t D i p low =
          let n = piece_count in
          let m = A.pieces_count in
          let O = one i (omega (arith, low, m, n)) in
          let W = O.12 in
          let same : slice_index_or back.pieces.items i p ≡ O.3 = get_index back.pieces.items i O.3 p O.9 in
          let Q = piece_at i O.0 O.6 in
          let first = core_stands state O.0 O.1 O.2 [] in
          let last = core_stands state O.3 O.4 O.5 W.left in
          let frame : (state O.3).frame ≡ (state O.0).frame = chain_frame (seat_of O.1.own) refused first W.works.works.path last W.works.works.leads in
          let told = chain_tells (seat_of O.1.own) refused first W.works.works.path last W.works.works.leads in
          let since : (state O.3).frame.since ≡ (state O.0).stamp = ap (λ (f : Frame). f.since) frame ∙ Q.since ∙ sym Q.stamp in
          let since' : (state O.0).frame.since ≡ (state O.0).stamp = Q.since ∙ sym Q.stamp in
          subst (λ (y : P). CameFrom t i (state y)) (sym same) (record {
            between = subst (λ (f : Frame). IsBetween f t.frame.cuts i) (sym frame) (subst (λ cs. IsBetween (state O.0).frame cs i) (sym D.cuts_are) Q.between);
            began = λ is_told w at.
                let here : IsTold (state O.3) (state O.0).stamp = subst (IsTold (state O.3)) since is_told in
                let back_then = told.1 (state O.0).stamp (omega arith) here (omega (arith, since')) in
                ap (λ n. (state O.3).cells n w) since ∙ back_then.1 w ∙ Q.cells w (subst (λ (f : Frame). InRange f w) frame at)
                ∙ ap (λ (y : State). cell_now y w) B.region ∙ sym (ap (λ n. t.cells n w) D.stamp ∙ D.cells s.stamp w);
          })

      -- the groups, and each core's end
      module _ (E : AllEnded tables back.tokens.items) (t : State) (takes : (i : ℕ) (p : P) → i < length back.pieces.items → TakesPiece t (state (slice_index_or back.pieces.items i p))) where
        abbrev pub shown : ℕ → Group
        shown = shown_groups tables back.tokens.items E (opened (place_at l 0) o.found)

        pub at_group : (g : ℕ) → g < groups_in l → ((shown g).place ≡ place_at l g) × Lawful (shown g) × ((steps : List (ℕ × Kind)) × Runs (opened (place_at l g) o.found) steps (shown g))
        at_group g low =
            let b = get_at tables g (let n = table_count in omega (arith, low, n)) in
            shown_reached l o.found tables back.tokens.items E (opened (place_at l 0) o.found) g b.0 b.1 (opened (place_at l g) o.found) (S.have_tokens.opened_on g b.0 b.1)

        pub groups : Groups l shown
        groups = record { place = λ g low. (at_group g low).0; lawful = λ g low. (at_group g low).1 }

        -- the order of the steps of each group's cores
        abbrev pub order : ℕ → List (ℕ × TrailStep)
        order = shown_orders tables back.tokens.items E

        order_shown : (g : ℕ) → g < groups_in l → (late early : List (ℕ × TrailStep)) → order g ≡ late ++ early → (w : Group) × IsShown (place_at l g) o.found early w
        order_shown g low late early e =
            let b = get_at tables g (let n = table_count in omega (arith, low, n)) in
            orders_shown tables back.tokens.items E g b.0 b.1 (place_at l g) o.found (S.have_tokens.opened_on g b.0 b.1) late early e

        -- core c's end, its worker, its piece, and its steps
        abbrev Full : ℕ → CoreEnd refused → Type 0
        Full c y = IsEnd o r refused t shown given c y × (slice_get back.workers.items c ≡ Some y.last.worker) × ((q : P) × (slice_get back.pieces.items c ≡ Some q) × (state q ≡ y.last.region))
            × (steps_of (order (group_of l c)) (member_of l c) ≡ y.last.trail.steps) × (y.outs ≡ slice_index_or A.outs c []) × RestsEach y.seat refused windows (λ i. requests_to l c (take (i * WINDOW) given)) y.first y.last y.works

        -- what had joined behind a window
        joined_by : (c i : ℕ) → i ≤ windows → dealt_by (length pieces) c A.dealt i ≡ requests_to l c (take (i * WINDOW) given)
        joined_by c i less = ap (λ n. dealt_by n c A.dealt i) piece_count ∙ ap (requests_to l c) (sym (ap (take (i * WINDOW)) A.split ∙ take-append-le (i * WINDOW) A.dealt A.rest (windows_low i windows (length A.dealt) less A.within)))

        -- where one doesn't wind down, all were dealt
        all_there : (c : ℕ) (y : Worker) → slice_get back.workers.items c ≡ Some y → y.winds_down ≡ false → A.rest ≡ []
        all_there c y at on = by in_all refl where
          by : (b : Bool) → in_all ≡ b → A.rest ≡ []
          by true e = A.whole e
          by false e = absurd (let both : true ≡ false = sym (A.wound e c y at) ∙ on in cc both)

        ended : (c : ℕ) → c < l.cores → (y : CoreEnd refused) × Full c y
        ended c low =
            let O = one c low in
            let g_low = group_low l is_layout c low in
            let b = get_at tables (group_of l c) (let n = table_count in omega (arith, g_low, n)) in
            let at_u : slice_get back.tokens.items (group_of l c * l.group + member_of l c) ≡ Some O.4 = ap (slice_get back.tokens.items) (div-add-mod' c l.group) ∙ O.10 in
            let view : HasView (shown (group_of l c)) (member_of l c) (view_at O.4.own) = shown_view l.group tables back.tokens.items E (opened (place_at l 0) o.found) (λ g y at. S.have_tokens.sizes g y at) (group_of l c) (member_of l c) b.0 O.4 b.1 (member_low l is_layout c) at_u in
            let made = orders_made l.group tables back.tokens.items E (λ g y at. S.have_tokens.sizes g y at) (group_of l c) (member_of l c) b.0 O.4 b.1 (member_low l is_layout c) at_u in
            let loads = subst (λ (w : Group). LoadsLook (view_of w (member_of l c)) (trail_at O.4.own)) (S.have_tokens.opened_on (group_of l c) b.0 b.1) made.1 in
            let taken : TakesPiece t (state O.3) = subst (λ (y : P). TakesPiece t (state y)) (get_index back.pieces.items c O.3 O.3 O.9) (takes c O.3 (get_low back.pieces.items c O.3 O.9)) in
            let end = core_end state refused o r is_layout given tables x.crew pieces x.cuts.items S.have_tokens table_count S.workers.each (seat_there s word r o F B x.crew.workers.items S.seated worker_count) (start_there s word r o F B) A.dealt A.rest A.split piece_count piece_at cuts_are
            c low O.0 O.1 O.2 O.6 O.7 O.8 t shown O.3 O.4 O.5 (slice_index_or A.outs c []) windows (dealt_by (length pieces) c A.dealt) O.12 taken view loads (all_there c O.5 O.11) in
            let rests = λ (i : ℕ) (less : i ≤ windows). subst (λ j. RestsWith (seat_of O.1.own) refused j (core_stands state O.0 O.1 O.2 []) (core_stands state O.3 O.4 O.5 O.12.left) O.12.works.works) (joined_by c i less) (O.12.rests i less) in
            (end.0, (end.1, O.11, (O.3, O.9, refl), made.0, refl, rests))

        chosen_by : (c : ℕ) (b : Bool) → nat_lt c l.cores ≡ b → Option (CoreEnd refused)
        chosen_by c true e = Some (ended c (ltb-true c l.cores e)).0
        chosen_by c false e = None

        pub ends : ℕ → Option (CoreEnd refused)
        ends c = chosen_by c (nat_lt c l.cores) refl

        pub full : (c : ℕ) → c < l.cores → (y : CoreEnd refused) × (ends c ≡ Some y) × Full c y
        unfolding ends chosen_by
        full c low = by (nat_lt c l.cores) refl (lt-ltb c l.cores low) where
          by : (b : Bool) (e : nat_lt c l.cores ≡ b) → b ≡ true → (y : CoreEnd refused) × (chosen_by c b e ≡ Some y) × Full c y
          by true e yes_ = (let y = ended c (ltb-true c l.cores e) in (y.0, refl, y.1))
          by false e yes_ = absurd (cc yes_)

        abbrev pub all : (c : ℕ) → c < l.cores → (y : CoreEnd refused) × (ends c ≡ Some y) × IsEnd o r refused t shown given c y
        all c low = ((full c low).0, (full c low).1, (full c low).2.0)

        few : (c : ℕ) (w : Worker) → slice_get back.workers.items c ≡ Some w → c < l.cores
        few c w at = (let low = get_low back.workers.items c w at in let n = piece_count in let m = A.workers_count in omega (arith, low, n, m))

        outs_are : (c : ℕ) (low : c < l.cores) → (full c low).0.outs ≡ slice_index_or A.outs c []
        outs_are c low = (full c low).2.4

        outs_few : length A.outs ≤ l.cores
        outs_few = (let less = A.few in let n = piece_count in omega (arith, less, n))

        module _ (chain : ChainLaw) (keys_open : OpeningKeys) (doubts_open : OpeningDoubts) where
          abbrev Ran : End → Type 0
          Ran end = (R : RanApart s word refused r given t end) × ((i : ℕ) → i ≤ windows → HoldsBehind R.origin r refused R.last R.ran.cores (i * WINDOW)) × (in_all ≡ true → HoldsBehind R.origin r refused R.last R.ran.cores (length given)) × (R.kept ≡ restamped t.stamp first_kept)

          -- what it comes to
          pub run_ran : length blanks ≡ length given → AreBlank blanks → (mid : State) → StillParted s mid x.cuts.items → Joined mid t → ComesNext state mid t back.pieces.items → s.frame.parted ≡ false → mid.frame.opens ≡ s.frame.opens → mid.frame.refusals ≡ s.frame.refusals → t.frame.opens ≡ mid.frame.opens
              → RefusalLaw → MomentLaw → CutLaw → (end : End) → end ≡ end_by in_all (any_stopped back.workers.items) → Ran end
          run_ran places_are blank mid D J N whole_is opens refusals opens' refusal moment at_cut end end_is =
              let R = ran_resting chain keys_open doubts_open o B.is is_layout r refused t shown given groups ends all back.workers.items blanks (λ c low. (full c low).2.1) few places_are blank
              A.outs outs_are outs_few first_kept A.taken
              s word end B (region_rejoined s word r o F B x.cuts.items cuts_are mid t D J whole_is opens refusals opens') (λ g low. (at_group g low).2)
              (region_superblock s word r o F B x.cuts.items cuts_are mid t D J) (λ c low. (full c low).2.0.piece.piece.faults)
              (next_joined s mid t x.cuts.items D J state back.pieces.items l.cores (λ c low. (full c low).0.last.region) N (A.pieces_count ∙ piece_count)
              (λ c low q at. (let f = (full c low).2.2 in ap state (one_of q f.0 (sym at ∙ f.1)) ∙ f.2)))
              in_all end_is refusal moment at_cut order (λ c low. (full c low).2.3) order_shown (λ is c low. A.memory is c (full c low).0.last.worker (full c low).2.1) (λ is c low. A.wound is c (full c low).0.last.worker (full c low).2.1)
              windows (λ c low. (full c low).2.5) in (
                R.0,
                (λ i less. holds_behind chain doubts_open R.0.origin r refused R.0.last R.0.begins.is R.0.ran.layout R.0.ran.cores (i * WINDOW) (R.1 i less)),
                (λ is. holds_behind chain doubts_open R.0.origin r refused R.0.last R.0.begins.is R.0.ran.layout R.0.ran.cores (length given) (R.2 is)),
                R.3 ∙ sym (kept_is chain keys_open doubts_open o B.is is_layout r refused t shown given groups ends all back.workers.items blanks (λ c low. (full c low).2.1) few places_are blank A.outs outs_are outs_few first_kept A.taken),
              )
