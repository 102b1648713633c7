-- A change that was given back is finished: a whole move to whoever runs several workers.
use Rattle.std.proofs.Common.{◌≡◌, ◌≢◌, ◌⊎◌, inl, inr, ⊎_elim, ℕ, ◌+◌, ◌<◌, ◌≤◌, ◌==◌, Bool, true, false, cond, ◌&&◌, not, List, [], ◌∷◌, ◌++◌, Option, Some, None, refl, sym, ◌∙◌, ap, subst, arith}
use Rattle.std.specs.Prelude.{MatchOption, option_map}
use Rattle.std.proofs.lemmas.Bool.{eq-eqb, ne_eqb}
use Rattle.fs_model.specs.declared.model.Reply.{Reply}
use Rattle.fs_model.specs.declared.model.Reply.TheVariants as replies
use Rattle.fs_model.specs.Cells.{key_of, cell_after}
use Rattle.fs_model.specs.Lawful.{MayReply, cell_left, is_finish}
use Rattle.pm_region.specs.State.{State, IsTelling}
use Rattle.log_entry.specs.declared.entry.Entry.{Entry}
use Rattle.log_entry.specs.declared.entry.Body.{Body}
use Rattle.log_entry.specs.declared.entry.Body.TheVariants as bodies
use Rattle.group_laws.specs.declared.types.Block.{Block}
use Rattle.group_laws.specs.declared.types.Pending.{Pending}
use Rattle.group_laws.specs.Places.{core_of, owner}
use Rattle.group_laws.specs.State.{Group}
use Rattle.group_laws.specs.Runs as runs
use Rattle.group_laws.specs.Steps.{points_at, is_of, only_own}
use Rattle.group_laws.specs.MemberViews.{View}
use Rattle.group_board.specs.Seats.{SeatAt}
use Rattle.group_board.specs.Told.{Makes}
use Rattle.group_board.specs.Views.{after_finish, after_give_up, left_in, TidiedIn}
use Rattle.core_worker.specs.declared.types.Place.TheVariants.{Free, Posted}
use Rattle.core_worker.specs.declared.worker.Worker.{Worker}
use Rattle.core_worker.specs.OwnPlaces.{place_at, key_in, Replaces, request_by, request_pending, bytes_or}
use Rattle.core_worker.specs.KeyTies.{IsPlaced, Offers}
use Rattle.core_worker.specs.Ties.{HoldsAt, StandsAt}
use Rattle.core_worker.specs.Turns.{InOrderAt, Steps}
use Rattle.core_worker.specs.Beginning.{answers_of, answer_with}
use Rattle.core_worker.specs.Finishing.{number_in, PutsBackIf, LetsGo, Settles, done_reply, reply_back, Serves, ShortOf, FinishesSlot, StopsByFailed}
use Rattle.core_worker.specs.Turning.{TurnMoves}
use Rattle.core_worker.specs.WorkerMoves.{Placed, placed_in, awaits_chunk}
use Rattle.core_index.specs.Index.{known_at}
use Rattle.core_index.specs.Records.{last_of, block_of}
use Rattle.lazy_alloc.specs.Sets.{Sets, AreSets}
use Rattle.core_worker.proofs.PuttingBack.{put_chunks}
use Rattle.engine_laws.specs.RefusalCauses.{raised}
use Rattle.core_worker.proofs.CauseFacts.{stock_put, lines_same}
use Rattle.core_worker.proofs.Tidied.{change_last}
use Rattle.core_worker.proofs.HandKeys.{asks, body_holds}
use Rattle.core_worker.proofs.LetGoMoves.{let_go_turn}
use Rattle.core_worker.proofs.Made.{one_step}

pub asks_key : (k : ℕ) (value : List ℕ) (b : Body) → key_of (request_by k value b) ≡ k
asks_key k value (bodies.Pointer q) = refl
asks_key k value (bodies.Embedded u) = refl
asks_key k value bodies.Tombstone = refl

done_may : (k : ℕ) (value : List ℕ) (b : Body) (c : Option (List ℕ)) → (b ≡ bodies.Tombstone → c ≢ None) → MayReply (request_by k value b) c false (done_reply b)
done_may k value (bodies.Pointer q) c live = inl refl
done_may k value (bodies.Embedded u) c live = inl refl
done_may k value bodies.Tombstone None live = absurd (live refl refl)
done_may k value bodies.Tombstone (Some u) live = inl refl

done_left : (k : ℕ) (value : List ℕ) (b : Body) (c : Option (List ℕ)) → cell_left (request_by k value b) (done_reply b) c ≡ cell_after (request_by k value b) c
done_left k value (bodies.Pointer q) c = refl
done_left k value (bodies.Embedded u) c = refl
done_left k value bodies.Tombstone c = refl

done_runs : (b : Body) → done_reply b ≢ replies.Stopped
done_runs (bodies.Pointer q) e = absurd (cc e)
done_runs (bodies.Embedded u) e = absurd (cc e)
done_runs bodies.Tombstone e = absurd (cc e)

done_ends : (b : Body) → is_finish (done_reply b) ≡ true
done_ends (bodies.Pointer q) = refl
done_ends (bodies.Embedded u) = refl
done_ends bodies.Tombstone = refl

live_of : (v : View) (k : ℕ) (b : Body) → Offers v k b → b ≡ bodies.Tombstone → v.cell k ≢ None
live_of v k (bodies.Pointer q) o e = absurd (cc e)
live_of v k (bodies.Embedded u) o e = absurd (cc e)
live_of v k bodies.Tombstone o e = o

abbrev pub number_or : ℕ → Option ℕ → ℕ
number_or d None = d
number_or d (Some n) = n

abbrev pub entry_or : Entry → Option Pending → Entry
entry_or d None = d
entry_or d (Some q) = q.entry

module _ (seat : SeatAt) (s : State) (before after : Option Group) (v u : View) (w f x : Worker) (slot : ℕ) (lt : slot < 8) (H : HoldsAt seat v w) (N : HoldsAt seat u x) (S : StandsAt s seat v w) (T : StandsAt s seat u x) (O : InOrderAt seat v w) (number lines : ℕ) (e : Entry) (place : place_at w.places.items slot ≡ Posted number e.key lines) (pending : v.pending e.key ≡ Some (record { entry = e; slot = Some slot })) (mid : Worker) (made : Steps before after seat.number u) (serves : Serves (IsTelling s) f x (u.cell e.key) e.key ⊎ ShortOf (IsTelling s) f x (u.cell e.key) e.key) (stopped : x.stopped ≡ f.stopped) (cause : StopsByFailed before seat.number w x) where
  abbrev pl : Placed
  pl = record { number = number; request = asks v e.key e.body; posted = true }

  posted_here : IsPlaced seat.place seat.number v slot (Posted number e.key lines)
  posted_here = subst (IsPlaced seat.place seat.number v slot) place (H.placed slot lt)

  own : owner seat.place e.key ≡ seat.number
  own = posted_here.3

  offers : Offers v e.key e.body
  offers = subst (λ (d : Entry). Offers v e.key d.body) (ap (entry_or e) (sym posted_here.1 ∙ pending)) posted_here.4

  held : placed_in v (place_at w.places.items slot) ≡ Some pl
  held = ap (placed_in v) place ∙ ap (λ o. option_map (λ r. record { number = number; request = r; posted = true }) (request_pending v e.key o)) pending

  same_number : (n : ℕ) → mid.places ≡ w.places → number_in (place_at mid.places.items slot) ≡ Some n → n ≡ number
  same_number n same was = ap (number_or n) (sym was ∙ ap (λ ps. number_in (place_at ps.items slot)) same ∙ ap number_in place)

  answered : (reply : Reply) → (G : LetsGo mid f slot reply) → mid.places ≡ w.places → mid.answers ≡ w.answers → answers_of f ≡ answers_of w ++ answer_with number reply None ∷ []
  answered reply G same also = G.answers ∙ (λ i. (also i).items ++ answer_with (same_number G.number same G.was i) reply None ∷ [])

  freed : (reply : Reply) → (G : LetsGo mid f slot reply) → mid.places ≡ w.places → Replaces w.places.items f.places.items slot Free
  freed reply G same = subst (λ ps. Replaces ps.items f.places.items slot Free) same G.places

  -- it was not written: it is in doubt, and the core stops
  failed : TidiedIn seat.place seat.number (after_give_up e v) u → mid ≡ record w { stopped = true } → LetsGo mid f slot replies.Stopped → TurnMoves seat s s before after v u w x
  failed view same G =
      let is = view.4 in
      let_go_turn seat s before after v u w f x e.key slot pl replies.Stopped (record {
        H = H;
        N = N;
        hand_of = O.hand;
        own = own;
        key = ap key_in place;
        held = held;
        of_key = asks_key e.key (bytes_or (left_in v.blocks e.body)) e.body;
        R = freed replies.Stopped G (ap (λ (y : Worker). y.places) same);
        queue = ap (λ (y : Worker). y.queue) G.rest ∙ ap (λ (y : Worker). y.queue) same;
        hand = ap (λ (y : Worker). y.in_hand) G.rest ∙ ap (λ (y : Worker). y.in_hand) same;
        winds = ap (λ (y : Worker). y.winds_down) G.rest ∙ ap (λ (y : Worker). y.winds_down) same;
        answers = answered replies.Stopped G (ap (λ (y : Worker). y.places) same) (ap (λ (y : Worker). y.answers) same);
        may = inr refl;
        left = sym (ap (λ (y : View). y.cell e.key) is);
        halts = λ r. ap (λ (y : Worker). y.stopped) G.rest ∙ ap (λ (y : Worker). y.stopped) same;
        stays = λ r. ap (λ (y : Worker). y.stopped) G.rest ∙ ap (λ (y : Worker). y.stopped) same;
        ends = inr refl;
        doubt = λ d now. inr (slot, refl, refl, in_doubt d (ap (entry_or d) (sym (here is) ∙ now)), ap (λ (y : View). left_in y.blocks d.body) is);
        cells = λ j ne. ap (λ (y : View). y.cell j) is;
        pendings = λ j ne. ap (λ (y : View). y.pending j) is ∙ ap (λ b. cond b (Some (record { entry = e; slot = None })) (v.pending j)) (ne_eqb j e.key ne);
        blocks = λ q b has ne. ap (λ (y : View). y.blocks q) is;
        last_here = kept_last e.key;
        lasts = λ j ne. kept_last j;
        known = λ runs. absurd (let both : true ≡ false = sym (ap (λ (y : Worker). y.stopped) G.rest ∙ ap (λ (y : Worker). y.stopped) same) ∙ runs in cc both);
        layout = ap (λ (y : Worker). y.layout) G.rest ∙ ap (λ (y : Worker). y.layout) same ∙ H.layout;
        stock = stock_put w f None (let e = lines_same w f (ap (λ (y : Worker). y.log) G.rest ∙ ap (λ (y : Worker). y.log) same) (ap (λ (y : Worker). awaits_chunk y.leading) G.rest ∙ ap (λ (y : Worker). awaits_chunk y.leading) same) in omega (arith, e)) (ap (λ (y : Worker). y.allocator) G.rest ∙ ap (λ (y : Worker). y.allocator) same);
        lists = (ap (λ (y : View). y.posted) is, ap (λ (y : View). y.took) is, ap (λ (y : View). y.flying) is);
        sets = subst AreSets (sym (ap (λ (y : Worker). y.allocator) G.rest ∙ ap (λ (y : Worker). y.allocator) same)) H.sets;
        sets_layout = ap (λ (y : Worker). y.allocator.layout) G.rest ∙ ap (λ (y : Worker). y.allocator.layout) same ∙ H.allocator_layout;
        serves = serves;
      }) S T made (λ is. ⊎_elim (λ was. inl was) (λ found. inr ((e.key, e, own, here view.4), found)) (cause (stopped ∙ is)))
    where
      kept_last : (j : ℕ) → u.last j ≤ v.last j
      kept_last j = let now = ap (λ (y : View). y.last j) view.4 in ⊎_elim (λ gone. let zero = gone.1 in omega (arith, now, zero)) (λ same. omega (arith, now, same)) (view.3.keeps j)

      here : {last : ℕ → ℕ} {told dead : ℕ → ℕ → Bool} → u ≡ record (after_give_up e v) { last = last; told = told; dead = dead } → u.pending e.key ≡ Some (record { entry = e; slot = None })
      here is = ap (λ (y : View). y.pending e.key) is ∙ ap (λ b. cond b (Some (record { entry = e; slot = None })) (v.pending e.key)) (eq-eqb e.key e.key refl)

      in_doubt : (d : Entry) → e ≡ d → v.pending e.key ≡ Some (record { entry = d; slot = Some slot })
      in_doubt d same = pending ∙ ap (λ (y : Entry). Some (record { entry = y; slot = Some slot })) same

  -- it is certain in the log of its home
  done : (home core : ℕ) → TidiedIn seat.place seat.number (after_finish e home v) u → Settles w mid e core → LetsGo mid f slot (done_reply e.body) → TurnMoves seat s s before after v u w x
  done home core view Z G =
      let is = view.4 in
      let same = Z.rest in
      let_go_turn seat s before after v u w f x e.key slot pl (done_reply e.body) (record {
        H = H;
        N = N;
        hand_of = O.hand;
        own = own;
        key = ap key_in place;
        held = held;
        of_key = asks_key e.key (bytes_or (left_in v.blocks e.body)) e.body;
        R = freed (done_reply e.body) G (ap (λ (y : Worker). y.places) same);
        queue = ap (λ (y : Worker). y.queue) G.rest ∙ ap (λ (y : Worker). y.queue) same;
        hand = ap (λ (y : Worker). y.in_hand) G.rest ∙ ap (λ (y : Worker). y.in_hand) same;
        winds = ap (λ (y : Worker). y.winds_down) G.rest ∙ ap (λ (y : Worker). y.winds_down) same;
        answers = answered (done_reply e.body) G (ap (λ (y : Worker). y.places) same) (ap (λ (y : Worker). y.answers) same);
        may = done_may e.key (bytes_or (left_in v.blocks e.body)) e.body (v.cell e.key) (live_of v e.key e.body offers);
        left = done_left e.key (bytes_or (left_in v.blocks e.body)) e.body (v.cell e.key) ∙ sym (body_holds v e.key e.body offers).1 ∙ sym (ap (λ (y : View). y.cell e.key) is ∙ ap (λ b. cond b (left_in v.blocks e.body) (v.cell e.key)) (eq-eqb e.key e.key refl));
        halts = λ r. absurd (done_runs e.body r);
        stays = λ r. ap (λ (y : Worker). y.stopped) G.rest ∙ ap (λ (y : Worker). y.stopped) same ∙ r;
        ends = inl (done_ends e.body);
        doubt = λ d now. absurd (let both : None ≡ Some (record { entry = d; slot = None }) = sym (ap (λ (y : View). y.pending e.key) is ∙ ap (λ b. cond b None (v.pending e.key)) (eq-eqb e.key e.key refl)) ∙ now in cc both);
        cells = λ j ne. ap (λ (y : View). y.cell j) is ∙ ap (λ b. cond b (left_in v.blocks e.body) (v.cell j)) (ne_eqb j e.key ne);
        pendings = λ j ne. ap (λ (y : View). y.pending j) is ∙ ap (λ b. cond b None (v.pending j)) (ne_eqb j e.key ne);
        blocks = λ q b has ne. ap (λ (y : View). y.blocks q) is ∙ kept q b has ne;
        last_here = (let at = last_at e.key in let new = ap (λ b. cond b e.version (v.last e.key)) (eq-eqb e.key e.key refl) in let up = finished_up in omega (arith, at, new, up));
        lasts = λ j ne. (let at = last_at j in let old = ap (λ b. cond b e.version (v.last j)) (ne_eqb j e.key ne) in omega (arith, at, old));
        known = λ runs. (let at = known_now in let up = finished_up in omega (arith, at, up));
        layout = ap (λ (y : Worker). y.layout) G.rest ∙ ap (λ (y : Worker). y.layout) same ∙ H.layout;
        stock = stock_put w f (block_of (known_at w.index e.key)) (let g = lines_same w f (ap (λ (y : Worker). y.log) G.rest ∙ ap (λ (y : Worker). y.log) same) (ap (λ (y : Worker). awaits_chunk y.leading) G.rest ∙ ap (λ (y : Worker). awaits_chunk y.leading) same) in omega (arith, g)) (subst (λ (a : Sets). PutsBackIf w.allocator a (block_of (known_at w.index e.key))) (sym (ap (λ (y : Worker). y.allocator) G.rest)) Z.block);
        lists = (ap (λ (y : View). y.posted) is, ap (λ (y : View). y.took) is, ap (λ (y : View). y.flying) is);
        sets = subst AreSets (sym (ap (λ (y : Worker). y.allocator) G.rest)) Z.sets;
        sets_layout = ap (λ (y : Worker). y.allocator.layout) G.rest ∙ (put_chunks w.allocator mid.allocator (block_of (known_at w.index e.key)) Z.block).layout_is ∙ H.allocator_layout;
        serves = serves;
      }) S T made (λ is. inl (sym (ap (λ (y : Worker). y.stopped) G.rest ∙ ap (λ (y : Worker). y.stopped) same) ∙ is))
    where
      last_at : (j : ℕ) → u.last j ≤ cond (j == e.key) e.version (v.last j)
      last_at j = let now = ap (λ (y : View). y.last j) view.4 in ⊎_elim (λ gone. let zero = gone.1 in omega (arith, now, zero)) (λ same. omega (arith, now, same)) (view.3.keeps j)

      -- the next version is the one that the finish takes
      finished_up : raised (v.last e.key) (done_reply e.body) ≡ e.version
      finished_up = ap (λ b. cond b (v.last e.key + 1) (v.last e.key)) (done_ends e.body) ∙ sym (O.next e.key (record { entry = e; slot = Some slot }) pending)

      known_now : last_of (known_at f.index e.key) ≡ e.version
      known_now = ap (λ (y : Worker). last_of (known_at y.index e.key)) G.rest ∙ change_last (known_at Z.mid e.key) (known_at mid.index e.key) (Z.heard.changes e.key) ∙ ap last_of Z.settled_now.here

      kept : (q : ℕ) (b : Block) → v.blocks q ≡ Some b → b.key ≢ e.key → only_own e.key e.body v.blocks q ≡ v.blocks q
      kept q b has ne = ap (λ o. cond (is_of e.key o && not (points_at e.body q)) None (v.blocks q)) has ∙ ap (λ t. cond (t && not (points_at e.body q)) None (v.blocks q)) (ne_eqb b.key e.key ne)

  pub by_home : (home : Option ℕ) → MatchOption home (TidiedIn seat.place seat.number (after_give_up e v) u) (λ h. TidiedIn seat.place seat.number (after_finish e h v) u) → MatchOption home (mid ≡ record w { stopped = true }) (λ h. Settles w mid e (core_of seat.place h)) → LetsGo mid f slot (reply_back home e.body)
      → TurnMoves seat s s before after v u w x
  by_home None view same G = failed view same G
  by_home (Some h) view Z G = done h (core_of seat.place h) view Z G

-- whether or not there was memory for what waited
pub finish_moves : (seat : SeatAt) (s : State) (before after : Option Group) (v u : View) (w x : Worker) (slot : ℕ) (all : Bool) → slot < 8 → HoldsAt seat v w → HoldsAt seat u x → StandsAt s seat v w → StandsAt s seat u x → InOrderAt seat v w → Makes before seat.number (runs.Kind.Finish slot) after u → StopsByFailed before seat.number w x
    → FinishesSlot s seat.place seat.number slot v u w x all → TurnMoves seat s s before after v u w x
finish_moves seat s before after v u w x slot all lt H N S T O made cause F =
    let t = F.takes in
    by_home seat s before after v u w F.freed x slot lt H N S T O t.number t.lines t.entry t.place t.pending t.mid (runs.Kind.Finish slot ∷ [], one_step before after seat.number (runs.Kind.Finish slot) u made) (by all refl) (ap (λ (y : Worker). y.stopped) F.rest) cause t.home t.view t.settles t.lets
  where
    by : (b : Bool) → all ≡ b → Serves (IsTelling s) F.freed x (u.cell F.takes.entry.key) F.takes.entry.key ⊎ ShortOf (IsTelling s) F.freed x (u.cell F.takes.entry.key) F.takes.entry.key
    by true e = inl (F.begins e)
    by false e = inr (F.short e)
