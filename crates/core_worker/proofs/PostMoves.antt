-- Posting a change is a whole move to whoever runs several workers, and keeps what is kept in order.
use Rattle.std.proofs.Common.{◌/◌, ◌-◌, ◌≡◌, ◌≢◌, ◌⊎◌, inl, inr, ⊎_elim, ℕ, zero, suc, ◌+◌, ◌<◌, ◌≤◌, Bool, true, false, cond, List, [], ◌∷◌, ◌++◌, length, Option, Some, None, refl, sym, ◌∙◌, ap, subst, arith, append-nil}
use Rattle.std.specs.Prelude.{Vec, option_map, is_some}
use Rattle.std.specs.VecDeque.{deque_len, deque_capacity}
use Rattle.std.specs.declared.collections.VecDeque.{VecDeque}
use Rattle.std.specs.Global.{Global}
use Rattle.std.proofs.lemmas.Bool.{cases_eq, eq-eqb, ne_eqb}
use Rattle.fs_model.specs.declared.model.Request.{Request}
use Rattle.fs_model.specs.Cells.{key_of}
use Rattle.pm_region.specs.State.{State, During, IsTelling, cell_now, Rose}
use Rattle.pm_region.specs.Words.{KeepsOutside, lines_for}
use Rattle.pm_region.proofs.Clients.{started, all_kept}
use Rattle.log_entry.specs.declared.entry.Entry.{Entry}
use Rattle.log_entry.specs.declared.entry.Body.{Body}
use Rattle.log_entry.specs.declared.entry.Body.TheVariants as bodies
use Rattle.log_entry.specs.Spelling.{HasSpelling, words_of}
use Rattle.core_index.specs.Index.{known_at}
use Rattle.core_index.specs.Records.{KeyRecord, Awaits, pointer_of, block_of, last_of, standing_of, standing_at, is_forgettable}
use Rattle.lazy_alloc.specs.Sets.{Sets}
use Rattle.group_laws.specs.declared.types.Block.{Block}
use Rattle.group_laws.specs.declared.types.Pending.{Pending}
use Rattle.group_laws.specs.Places.{Place, core_of, owner}
use Rattle.group_laws.specs.State.{Group}
use Rattle.group_laws.specs.Runs as runs
use Rattle.group_laws.specs.Steps.{with_block, bytes_of}
use Rattle.group_laws.specs.MemberViews.{View}
use Rattle.group_board.specs.Conditions.{IsFree}
use Rattle.group_board.specs.Views.{after_post, left_in}
use Rattle.licence.specs.Licence.{Licensed, part_at, part_end}
use Rattle.core_worker.specs.declared.types.Answer.{Answer}
use Rattle.core_worker.specs.declared.types.Place as places
use Rattle.core_worker.specs.declared.types.Place.TheVariants.{Free, Staged, Posted}
use Rattle.core_worker.specs.declared.worker.Worker.{Worker}
use Rattle.core_worker.specs.OwnPlaces.{place_at, key_in, is_free, is_busy, Replaces, request_by, request_pending, bytes_or}
use Rattle.core_worker.specs.KeyTies.{IsPlaced, Offers, Left, LeftIn}
use Rattle.log_standing.specs.NameCounts.{StandingState}
use Rattle.core_worker.specs.StandingTies.{KnowsDead, most_names}
use Rattle.core_worker.specs.Order.{PointsAt, count_changes, unanswered, MayLeadStopped, InOrder}
use Rattle.core_worker.specs.Posting.{PostsPlain}
use Rattle.core_worker.specs.Ties.{Holds, Stands, LeadsNothing}
use Rattle.core_worker.specs.Turns.{Steps}
use Rattle.core_worker.specs.WorkerMoves.{Placed, Hands, request_placed, line_in, placed_in, placed_for, stock_of, hands_of, AnswersKey, WorkerMoves}
use Rattle.core_worker.proofs.HandKeys.{holds_key}
use Rattle.core_worker.proofs.HandPlaces.{held_at, held_beside}
use Rattle.core_worker.proofs.QuietMoves.{runs_in}
use Rattle.engine_laws.specs.FreeStock.{Stock, IsAtLeast}
use Rattle.engine_laws.proofs.Clients.{chunk_big, quiet_refuses, at_least_same}
use Rattle.core_worker.proofs.CauseFacts.{stock_same}
use Rattle.core_worker.proofs.StockFacts.{quiet_in, stages_none, stages_spend, stock_small, entry_needs, class_short}
use Rattle.core_worker.proofs.KeyMoves.{no_steps}
use Rattle.core_worker.proofs.Made.{one_step}
use Rattle.core_worker.proofs.Posts.{same_keys, busy_same}

-- so many places have a change
pub count_same : (xs ys : List places.Place) → length ys ≡ length xs → ((s : ℕ) → is_free (place_at ys s) ≡ is_free (place_at xs s)) → count_changes ys ≡ count_changes xs
count_same [] [] e same = refl
count_same [] (y ∷ ys) e same = absurd (omega (arith, e))
count_same (x ∷ xs) [] e same = absurd (omega (arith, e))
count_same (x ∷ xs) (y ∷ ys) e same = (λ i. cond (same zero i) 0 1 + count_same xs ys (omega (arith, e)) (λ s. same (suc s)) i)

-- a change is posted: it stays in its place
pub posted_key : (v u : View) (w x : Hands) (k n : ℕ) (r : Request) (q : Pending) (s : ℕ) → w.place k ≡ Some (record { number = n; request = r; posted = false }) → x.place k ≡ Some (record { number = n; request = r; posted = true }) → x.waits k ≡ w.waits k → u.cell k ≡ v.cell k → w.stopped ≡ false → u.pending k ≡ Some q → q.slot ≡ Some s
    → AnswersKey v u w x k [] []
posted_key v u w x k n r q s place now waits cell runs pending slot = record {
  order = append-nil (line_in w k) ∙ (λ i. request_placed (place i) ++ sym waits i) ∙ (λ i. request_placed (sym now i) ++ x.waits k);
  lawful = tt;
  cell = sym cell;
  after_stop = λ stopped none. absurd (let both : true ≡ false = sym stopped ∙ runs in cc both);
  stops = λ y i. absurd i;
  posted = λ y e is. absurd (let both : Some (record { number = n; request = r; posted = false }) ≡ Some y = sym place ∙ e in let not : false ≡ true = ap posted_or both ∙ is in cc not);
  doubt = λ d e. absurd (let both : Some s ≡ None = sym slot ∙ ap slot_or (sym pending ∙ e) in cc both);
} where
  posted_or : Option Placed → Bool
  posted_or None = false
  posted_or (Some y) = y.posted

  slot_or : Option Pending → Option ℕ
  slot_or None = None
  slot_or (Some y) = y.slot

-- nothing of the key changes
pub kept_key : (v u : View) (w x : Hands) (k : ℕ) → u.cell k ≡ v.cell k → u.pending k ≡ v.pending k → x.place k ≡ w.place k → x.waits k ≡ w.waits k → AnswersKey v u w x k [] []
kept_key v u w x k cell pending place waits = record {
  order = append-nil (line_in w k) ∙ (λ i. request_placed (sym place i) ++ sym waits i);
  lawful = tt;
  cell = sym cell;
  after_stop = λ stopped none. (tt, place ∙ none);
  stops = λ y i. absurd i;
  posted = λ y e is. inl (refl, place ∙ e);
  doubt = λ d e. inl (sym pending ∙ e);
}

block_beside : (k : ℕ) (value : List ℕ) (b : Body) (blocks : ℕ → Option Block) (q : ℕ) (d : Block) → blocks q ≡ Some d → ((r : ℕ) → b ≡ bodies.Pointer r → blocks r ≡ None) → with_block k value b blocks q ≡ blocks q
block_beside k value (bodies.Pointer r) blocks q d is unused = ap (λ t. cond t (Some (record { key = k; bytes = value })) (blocks q)) (ne_eqb q r (λ same. (let both : Some d ≡ None = sym is ∙ ap blocks same ∙ unused r refl in cc both)))
block_beside k value (bodies.Embedded u) blocks q d is unused = refl
block_beside k value bodies.Tombstone blocks q d is unused = refl

request_made : (k : ℕ) (value : List ℕ) (b : Body) (blocks : ℕ → Option Block) → request_by k (bytes_or (left_in (with_block k value b blocks) b)) b ≡ request_by k value b
request_made k value (bodies.Pointer r) blocks = ap (λ t. request_by k (bytes_or (bytes_of (cond t (Some (record { key = k; bytes = value })) (blocks r)))) (bodies.Pointer r)) (eq-eqb r r refl)
request_made k value (bodies.Embedded u) blocks = refl
request_made k value bodies.Tombstone blocks = refl

module _ (p : Place) (m : ℕ) (v : View) (w : Worker) (H : Holds p m v w) (slot number : ℕ) (e : Entry) (value : List ℕ) (lt : slot < 8) (was : place_at w.places.items slot ≡ Staged number e value) (runs : w.stopped ≡ false) where
  abbrev Facts : Type 0
  Facts = IsFree v slot × (owner p e.key ≡ m) × (v.pending e.key ≡ None) × HasSpelling e × (e.version ≡ v.last e.key + 1) × (e.body ≡ bodies.Tombstone → v.cell e.key ≢ None)

  facts : Facts
  facts = subst (IsPlaced p m v slot) was (H.placed slot lt)

  abbrev u : View
  u = after_post slot e value v

  here : (k : ℕ) → k ≡ e.key → u.pending k ≡ Some (record { entry = e; slot = Some slot })
  here k same = ap (λ b. cond b (Some (record { entry = e; slot = Some slot })) (v.pending k)) (eq-eqb k e.key same)

  other : (k : ℕ) → k ≢ e.key → u.pending k ≡ v.pending k
  other k ne = ap (λ b. cond b (Some (record { entry = e; slot = Some slot })) (v.pending k)) (ne_eqb k e.key ne)

  unused : (r : ℕ) → e.body ≡ bodies.Pointer r → v.blocks r ≡ None
  unused r points = (H.blocks.staged r (record { slot = slot; number = number; entry = e; value = value; place = was; points = points })).1

  asked_same : (k : ℕ) (s : Option ℕ) (d : Entry) → Offers v k d.body → request_pending u k (Some (record { entry = d; slot = s })) ≡ request_pending v k (Some (record { entry = d; slot = s }))
  asked_same k s d offers = ap Some (by d.body offers) where
    by : (b : Body) → Offers v k b → request_by k (bytes_or (left_in u.blocks b)) b ≡ request_by k (bytes_or (left_in v.blocks b)) b
    by (bodies.Pointer q) o = ap (λ d. request_by k (bytes_or (bytes_of d)) (bodies.Pointer q)) (block_beside e.key value e.body v.blocks q (record { key = k; bytes = o.0 }) o.1 unused)
    by (bodies.Embedded z) o = refl
    by bodies.Tombstone o = refl

  in_beside : (k s : ℕ) (y : places.Place) → IsPlaced p m v s y → key_in y ≡ Some k → k ≢ e.key → placed_in u y ≡ placed_in v y
  in_beside k s Free is has ne = refl
  in_beside k s (Staged n d z) is has ne = refl
  in_beside k s (Posted n j l) is has ne =
      let at : j ≡ k = cc has in
      let old : request_pending v j (v.pending j) ≡ request_pending v j (Some (record { entry = is.0; slot = Some s })) = ap (request_pending v j) is.1 in
      let new : request_pending u j (u.pending j) ≡ request_pending u j (Some (record { entry = is.0; slot = Some s })) = ap (request_pending u j) (other j (λ same. ne (sym at ∙ same)) ∙ is.1) in
      ap (option_map (λ r. record { number = n; request = r; posted = true })) (new ∙ asked_same j (Some s) is.0 is.4 ∙ sym old)

  module _ (x : Worker) (N : Holds p m u x) (lines : ℕ) (R : Replaces w.places.items x.places.items slot (Posted number e.key lines)) (queue : x.queue ≡ w.queue) (hand : x.in_hand ≡ w.in_hand) where
    abbrev asks : Request
    asks = request_by e.key value e.body

    place_before : placed_for v w.places.items e.key ≡ Some (record { number = number; request = asks; posted = false })
    place_before = held_at v w.places.items slot e.key H.apart (ap key_in was) ∙ ap (placed_in v) was

    place_after : placed_for u x.places.items e.key ≡ Some (record { number = number; request = asks; posted = true })
    place_after = held_at u x.places.items slot e.key N.apart (ap key_in R.here) ∙ ap (placed_in u) R.here
        ∙ ap (λ o. option_map (λ r. record { number = number; request = r; posted = true }) (request_pending u e.key o)) (here e.key refl)
        ∙ ap (λ r. Some (record { number = number; request = r; posted = true })) (request_made e.key value e.body v.blocks)

    beside : (k : ℕ) → k ≢ e.key → placed_for u x.places.items k ≡ placed_for v w.places.items k
    beside k ne = held_beside v u w.places.items x.places.items slot (Posted number e.key lines) R H.apart N.apart k
        (λ has. ne (let at : Some e.key ≡ Some k = sym (ap key_in was) ∙ has in let is : e.key ≡ k = cc at in sym is))
        (λ has. ne (let at : Some e.key ≡ Some k = has in let is : e.key ≡ k = cc at in sym is))
        (λ s low has. in_beside k s (place_at w.places.items s) (H.placed s (let n = H.eight in omega (arith, low, n))) has ne)

    waits : (k : ℕ) → (hands_of u x).waits k ≡ (hands_of v w).waits k
    waits k = ap (λ (y : Worker). (hands_of v (record w { queue = y.queue; in_hand = y.in_hand })).waits k) same where
      same : record w { queue = x.queue; in_hand = x.in_hand } ≡ w
      same = (λ i. record w { queue = queue i; in_hand = hand i })

    pub post_keys : (k : ℕ) → AnswersKey v u (hands_of v w) (hands_of u x) k [] []
    post_keys k = ⊎_elim
        (λ same. subst (λ j. AnswersKey v u (hands_of v w) (hands_of u x) j [] []) (sym same) (posted_key v u (hands_of v w) (hands_of u x) e.key number asks (record { entry = e; slot = Some slot }) slot place_before place_after (waits e.key) refl runs (here e.key refl) refl))
        (λ ne. kept_key v u (hands_of v w) (hands_of u x) k refl (other k ne) (beside k ne) (waits k))
        (cases_eq k e.key)

    -- the change is posted, by one step
    pub post_moves : (s t : State) (before after : Option Group) → During s t (KeepsOutside (cell_now s) (part_at p m) (part_end p m)) → During s t (Licensed p m v) → (IsTelling t → Licensed p m u (cell_now t)) → Steps before after m u → x.stopped ≡ false → IsAtLeast (stock_of w) (stock_of x)
        → WorkerMoves p m s t before after v u (hands_of v w) (hands_of u x) [] []
    post_moves s t before after outside moments exit made on stock = record {
      outside = outside;
      moments = moments;
      exit = exit;
      steps = made.0;
      whole = runs_in m made.0 u before after made.1;
      own = λ y i. absurd i;
      keys = λ k own. post_keys k;
      holds = λ k own. holds_key p m u x N k;
      refuses = λ k own. quiet_refuses p.layout (stock_of w) (v.last k) (v.last k) (omega arith);
      spends = record {
        runs = λ y i full. absurd i;
        stays = λ k y own at none. ⊎_elim
            (λ same. let was_is : Some (record { number = number; request = asks; posted = false }) ≡ Some y = sym place_before ∙ ap (placed_for v w.places.items) (sym same) ∙ at in (record { number = number; request = asks; posted = true }, ap (placed_for u x.places.items) same ∙ place_after, ap (number_or number) was_is, λ t. refl))
            (λ ne. (y, beside k ne ∙ at, refl, λ t. t))
            (cases_eq k e.key);
        begun = None;
        begins = λ y is. absurd (cc is);
        posts = inr (record {
          change = record { number = number; request = asks; posted = false };
          own = ap (owner p) asks_own ∙ facts.1;
          was = ap (placed_for v w.places.items) asks_own ∙ place_before;
          staged = refl;
          now = ap (placed_for u x.places.items) asks_own ∙ place_after;
          entry = e;
          more = refl;
          few = entry_needs p.layout e value (chunk_big p.layout H.place.layout) facts.3 points_well;
        });
        spends = λ runs. inl (stages_spend p.layout v.took v.flying v.took v.flying (stock_of w) (stock_of x) (stock_of x) None stock (stages_none p.layout (stock_of x) (stock_of x) None (at_least_same (stock_of x))) (stock_small p m u x N) refl refl);
      };
      stops = λ is. absurd (let both : true ≡ false = sym is ∙ on in cc both);
      breaks = N.broken;
      stays_stopped = λ is. absurd (let both : true ≡ false = sym is ∙ runs in cc both);
    } where
      number_or : ℕ → Option Placed → ℕ
      number_or n None = n
      number_or n (Some y) = y.number

      asks_own : key_of asks ≡ e.key
      asks_own = by e.body where
        by : (b : Body) → key_of (request_by e.key value b) ≡ e.key
        by (bodies.Pointer q) = refl
        by (bodies.Embedded z) = refl
        by bodies.Tombstone = refl

      -- the value of a block is of a class of the layout
      points_well : (q : ℕ) → e.body ≡ bodies.Pointer q → (256 ≤ length value) × (length value ≤ p.layout.chunk_bytes / 4 - 8)
      points_well q points = let B = (H.blocks.staged q (record { slot = slot; number = number; entry = e; value = value; place = was; points = points })).0 in class_short p.layout w.allocator q (length value) B.class H.sets H.allocator_layout B.class_is B.fits

    -- what is kept in order
    pub post_order : x.index ≡ w.index → x.answers ≡ w.answers → x.winds_down ≡ w.winds_down → x.standing ≡ w.standing → x.stopped ≡ false → InOrder p m v w → InOrder p m u x
    post_order index answers winds standing on O = record {
      owned = λ q b is. owned_by q b (cases_block q b is);
      single = λ q b is. single_by q b (cases_block q b is);
      distinct = λ k q points is. distinct_by k q (ap (λ i. block_of (known_at i k)) (sym index) ∙ is) points (cases_eq k e.key);
      heard = λ k n waits. O.heard k n (subst (λ i. Awaits (known_at i k) (core_of p m) n) index waits);
      told = O.told;
      versions = λ k n s is. subst (λ i. n ≤ last_of (known_at i k)) (sym index) (O.versions k n s (ap (λ i. standing_at (standing_of (known_at i k)) n) (sym index) ∙ is));
      mine = λ k n s is. O.mine k n s (ap (λ i. standing_at (standing_of (known_at i k)) n) (sym index) ∙ is);
      next = λ k q is. ⊎_elim (λ same. next_here k q same (sym (here k same) ∙ is)) (λ ne. O.next k q (sym (other k ne) ∙ is)) (cases_eq k e.key);
      spelled = λ k q is. ⊎_elim (λ same. spelled_here q (sym (here k same) ∙ is)) (λ ne. O.spelled k q (sym (other k ne) ∙ is)) (cases_eq k e.key);
      recalls = λ k own busy none. ap (λ i. is_forgettable (known_at i k)) index ∙ ⊎_elim
          (λ same. absurd (let both : Some (record { entry = e; slot = Some slot }) ≡ None = sym (here k same) ∙ none in cc both))
          (λ ne. O.recalls k own (sym (busy_is k) ∙ busy) (sym (other k ne) ∙ none)) (cases_eq k e.key);
      answers = subst (λ (a : VecDeque Answer Global). deque_len a + unanswered x ≤ deque_capacity a) (sym answers) (let room = O.answers in let n = unanswered_same in omega (arith, room, n));
      hand = λ working. hand ∙ O.hand (sym winds ∙ working);
      stops = λ is. absurd (let both : true ≡ false = sym is ∙ on in cc both);
      agrees = O.agrees;
      log = λ r working. subst (KnowsDead m v.kept v.present v.told v.dead) (sym standing) (O.log runs (sym winds ∙ working));
      names = λ r working. subst (λ (st : StandingState). most_names ≤ st.room) (sym standing) (O.names runs (sym winds ∙ working));
    } where
      keys_same : (s : ℕ) → key_in (place_at x.places.items s) ≡ key_in (place_at w.places.items s)
      keys_same = same_keys w.places.items x.places.items slot (Posted number e.key lines) R (ap key_in (sym was))

      busy_is : (k : ℕ) → is_busy x.places.items k ≡ is_busy w.places.items k
      busy_is = busy_same w.places.items x.places.items keys_same

      unanswered_same : unanswered x ≡ unanswered w
      unanswered_same = (λ i. count_same w.places.items x.places.items R.count (λ s. ⊎_elim (λ same. ap (λ n. is_free (place_at x.places.items n)) same ∙ ap is_free R.here ∙ sym (ap (λ n. is_free (place_at w.places.items n)) same ∙ ap is_free was)) (λ ne. ap is_free (R.others s ne)) (cases_eq s slot)) i + (length (queue i) + cond (is_some (hand i)) 1 0))

      -- a block of the view is the change's own, or was there
      cases_block : (q : ℕ) (b : Block) → u.blocks q ≡ Some b → ((e.body ≡ bodies.Pointer q) × (b.key ≡ e.key)) ⊎ (v.blocks q ≡ Some b)
      cases_block q b is = by e.body refl is where
        key_or : Option Block → ℕ
        key_or None = e.key
        key_or (Some d) = d.key

        by : (body : Body) → e.body ≡ body → with_block e.key value body v.blocks q ≡ Some b → ((e.body ≡ bodies.Pointer q) × (b.key ≡ e.key)) ⊎ (v.blocks q ≡ Some b)
        by (bodies.Pointer r) at is = ⊎_elim
            (λ same. inl (at ∙ ap bodies.Pointer (sym same), sym (ap key_or (sym (ap (λ t. cond t (Some (record { key = e.key; bytes = value })) (v.blocks q)) (eq-eqb q r same)) ∙ is))))
            (λ ne. inr (sym (ap (λ t. cond t (Some (record { key = e.key; bytes = value })) (v.blocks q)) (ne_eqb q r ne)) ∙ is))
            (cases_eq q r)
        by (bodies.Embedded z) at is = inr is
        by bodies.Tombstone at is = inr is

      owned_by : (q : ℕ) (b : Block) → ((e.body ≡ bodies.Pointer q) × (b.key ≡ e.key)) ⊎ (v.blocks q ≡ Some b) → owner p b.key ≡ m
      owned_by q b (inl mine) = ap (owner p) mine.1 ∙ facts.1
      owned_by q b (inr old) = O.owned q b old

      points_here : (k q : ℕ) → k ≡ e.key → e.body ≡ bodies.Pointer q → PointsAt (u.pending k) q
      points_here k q same points = subst (λ (o : Option Pending). PointsAt o q) (sym (here k same)) points

      single_by : (q : ℕ) (b : Block) → ((e.body ≡ bodies.Pointer q) × (b.key ≡ e.key)) ⊎ (v.blocks q ≡ Some b) → (block_of (known_at x.index b.key) ≡ Some q) ⊎ PointsAt (u.pending b.key) q
      single_by q b (inl mine) = inr (points_here b.key q mine.1 mine.0)
      single_by q b (inr old) = ⊎_elim (λ value. inl (ap (λ i. block_of (known_at i b.key)) index ∙ value))
          (λ points. ⊎_elim
          (λ same. absurd (subst (λ (o : Option Pending). PointsAt o q) (ap v.pending same ∙ facts.2) points))
          (λ ne. inr (subst (λ (o : Option Pending). PointsAt o q) (sym (other b.key ne)) points)) (cases_eq b.key e.key))
          (O.single q b old)

      lives : (k q : ℕ) (o : Option KeyRecord) → block_of o ≡ Some q → LeftIn v k o (v.cell k) → (b : Block) × (v.blocks q ≡ Some b)
      lives k q None is left = absurd (cc is)
      lives k q (Some r) is left = by r.body is left where
        by : (b : Body) → pointer_of b ≡ Some q → Left v k b (v.cell k) → (b : Block) × (v.blocks q ≡ Some b)
        by (bodies.Pointer r) is left = (record { key = k; bytes = left.0 }, (let at : r ≡ q = cc is in ap v.blocks (sym at)) ∙ left.2)
        by (bodies.Embedded z) is left = absurd (cc is)
        by bodies.Tombstone is left = absurd (cc is)

      distinct_by : (k q : ℕ) → block_of (known_at w.index k) ≡ Some q → PointsAt (u.pending k) q → (k ≡ e.key) ⊎ (k ≢ e.key) → ⊥
      distinct_by k q is points (inl same) =
          let mine : e.body ≡ bodies.Pointer q = subst (λ (o : Option Pending). PointsAt o q) (here k same) points in
          let own = ap (owner p) same ∙ facts.1 in
          let at = lives k q (known_at w.index k) is (H.keys k own (inl runs)).cell in
          (let both : Some at.0 ≡ None = sym at.1 ∙ unused q mine in cc both)
      distinct_by k q is points (inr ne) = O.distinct k q (subst (λ (o : Option Pending). PointsAt o q) (other k ne) points) is

      entry_or : Option Pending → Entry
      entry_or None = e
      entry_or (Some q) = q.entry

      next_here : (k : ℕ) (q : Pending) → k ≡ e.key → Some (record { entry = e; slot = Some slot }) ≡ Some q → q.entry.version ≡ v.last k + 1
      next_here k q same is = ap (λ (d : Entry). d.version) (sym (ap entry_or is)) ∙ facts.4 ∙ ap (λ n. v.last n + 1) (sym same)

      spelled_here : (q : Pending) → Some (record { entry = e; slot = Some slot }) ≡ Some q → HasSpelling q.entry
      spelled_here q is = subst HasSpelling (ap entry_or is) facts.3

-- what a post did, of the worker as it was before the block was written
pub record PostFacts (m : ℕ) (before after : Option Group) (v u : View) (w x : Worker) (slot : ℕ) : Type 0 where
  pub number : ℕ
  pub entry : Entry
  pub value : List ℕ
  pub lines : ℕ
  pub pledges : lines ≡ lines_for (length (words_of entry))
  pub was : place_at w.places.items slot ≡ Staged number entry value
  pub places : Replaces w.places.items x.places.items slot (Posted number entry.key lines)
  pub same : x ≡ record w { places = x.places; allocator = x.allocator }
  pub view : u ≡ after_post slot entry value v
  pub made : Steps before after m u

-- as much is free as once the block was written
pub posted_least : (m : ℕ) (before after : Option Group) (v u : View) (w mid x : Worker) (slot : ℕ) → PostsPlain m before after v u mid x slot → IsAtLeast (stock_of w) (stock_of mid) → IsAtLeast (stock_of w) (stock_of x)
posted_least m before after v u w mid x slot P stock = subst (λ (t : Stock). IsAtLeast (stock_of w) t) (sym (stock_same mid x (ap (λ (y : Worker). y.log) P.rest) (ap (λ (y : Worker). y.allocator) P.rest) (ap (λ (y : Worker). y.leading) P.rest))) stock

pub facts_of : (m : ℕ) (before after : Option Group) (v u : View) (w mid x : Worker) (slot : ℕ) → mid ≡ record w { allocator = mid.allocator } → PostsPlain m before after v u mid x slot → PostFacts m before after v u w x slot
facts_of m before after v u w mid x slot same P = record {
  number = P.number;
  entry = P.entry;
  value = P.value;
  lines = lines_for (length (words_of P.entry));
  pledges = refl;
  was = sym (ap (λ (y : Worker). place_at y.places.items slot) same) ∙ P.was;
  places = subst (λ (y : Worker). Replaces y.places.items x.places.items slot (Posted P.number P.entry.key (lines_for (length (words_of P.entry))))) same P.places;
  same = by x.places x.allocator (P.rest ∙ ap (λ (y : Worker). record y { places = x.places }) same);
  view = P.view;
  made = (runs.Kind.Post slot P.entry P.value ∷ [], one_step before after m (runs.Kind.Post slot P.entry P.value) u P.whole);
} where
  by : (ps : Vec places.Place Global) (a : Sets) → x ≡ record w { places = ps; allocator = mid.allocator } → x ≡ record w { places = ps; allocator = x.allocator }
  by ps a e = e ∙ ap (λ (b : Sets). record w { places = ps; allocator = b }) (sym (ap (λ (y : Worker). y.allocator) e))

module _ (p : Place) (m : ℕ) (before after : Option Group) (v u : View) (w x : Worker) (slot : ℕ) (lt : slot < 8) (H : Holds p m v w) (N : Holds p m u x) (runs : w.stopped ≡ false) (F : PostFacts m before after v u w x slot) where
  made_here : Holds p m (after_post slot F.entry F.value v) x
  made_here = subst (λ (y : View). Holds p m y x) F.view N

  on : x.stopped ≡ false
  on = ap (λ (y : Worker). y.stopped) F.same ∙ runs

  pub posted_moves : IsAtLeast (stock_of w) (stock_of x) → (s t : State) → During s t (KeepsOutside (cell_now s) (part_at p m) (part_end p m)) → During s t (Licensed p m v) → (IsTelling t → Licensed p m u (cell_now t)) → WorkerMoves p m s t before after v u (hands_of v w) (hands_of u x) [] []
  posted_moves stock s t outside moments exit =
      subst (λ (y : View). WorkerMoves p m s t before after v y (hands_of v w) (hands_of y x) [] []) (sym F.view)
      (post_moves p m v w H slot F.number F.entry F.value lt F.was runs x made_here F.lines F.places (ap (λ (y : Worker). y.queue) F.same) (ap (λ (y : Worker). y.in_hand) F.same) s t before after outside moments
      (λ telling. subst (λ (y : View). Licensed p m y (cell_now t)) F.view (exit telling)) (subst (λ (y : View). Steps before after m y) F.view F.made) on stock)

  -- nothing is written
  pub here_moves : IsAtLeast (stock_of w) (stock_of x) → (s : State) → Stands s p m v w → Stands s p m u x → WorkerMoves p m s s before after v u (hands_of v w) (hands_of u x) [] []
  here_moves stock s S T = posted_moves stock s s (all_kept s (part_at p m) (part_end p m)) (started s (Licensed p m v) S.licensed) T.licensed

  pub posted_order : InOrder p m v w → InOrder p m u x
  posted_order O =
      subst (λ (y : View). InOrder p m y x) (sym F.view)
      (post_order p m v w H slot F.number F.entry F.value lt F.was runs x made_here F.lines F.places (ap (λ (y : Worker). y.queue) F.same) (ap (λ (y : Worker). y.in_hand) F.same)
      (ap (λ (y : Worker). y.index) F.same) (ap (λ (y : Worker). y.answers) F.same) (ap (λ (y : Worker). y.winds_down) F.same) (ap (λ (y : Worker). y.standing) F.same) on O)

-- what was to be written could not be: the core stops, and no step is made
pub fault_moves : (p : Place) (m : ℕ) (s t : State) (a : Option Group) (v : View) (w x : Worker) → Holds p m v x → ((k : ℕ) → placed_for v x.places.items k ≡ placed_for v w.places.items k) → ((k : ℕ) → (hands_of v x).waits k ≡ (hands_of v w).waits k) → x.stopped ≡ true → During s t (KeepsOutside (cell_now s) (part_at p m) (part_end p m)) → During s t (Licensed p m v) → (IsTelling t → Licensed p m v (cell_now t)) → Rose s.faults t.faults
    → WorkerMoves p m s t a a v v (hands_of v w) (hands_of v x) [] []
fault_moves p m s t a v w x N place waits stopped outside moments exit rose = record {
  outside = outside;
  moments = moments;
  exit = exit;
  steps = [];
  whole = no_steps a m;
  own = λ y i. absurd i;
  keys = λ k own. kept_key v v (hands_of v w) (hands_of v x) k refl refl (place k) (waits k);
  holds = λ k own. holds_key p m v x N k;
  refuses = λ k own. quiet_refuses p.layout (stock_of w) (v.last k) (v.last k) (omega arith);
  spends = quiet_in p m v v (hands_of v w) (hands_of v x) [] place refl (λ runs. absurd (let both : true ≡ false = sym stopped ∙ runs in cc both));
  stops = λ is. inr (inl rose);
  breaks = N.broken;
  stays_stopped = λ is. stopped;
}

pub fault_order : (p : Place) (m : ℕ) (v : View) (w x : Worker) → x ≡ record w { allocator = x.allocator; stopped = true } → LeadsNothing w → InOrder p m v w → InOrder p m v x
fault_order p m v w x same nothing O = subst (λ (y : Worker). InOrder p m v y) (sym same) (record {
  owned = O.owned;
  single = O.single;
  distinct = O.distinct;
  heard = O.heard;
  told = O.told;
  versions = O.versions;
  mine = O.mine;
  next = O.next;
  spelled = O.spelled;
  recalls = O.recalls;
  answers = O.answers;
  hand = O.hand;
  stops = λ is. subst MayLeadStopped (sym nothing.1) tt;
  agrees = O.agrees;
  log = λ r. absurd (cc r);
  names = λ r. absurd (cc r);
})
