-- What a stopped core does with its own changes is a whole move to whoever runs several workers.
use Rattle.std.proofs.Common.{not, ◌&&◌, List, ◌≡◌, ◌≢◌, ◌⊎◌, inl, inr, ℕ, ◌<◌, Bool, true, false, cond, [], ◌∷◌, ◌++◌, Option, Some, None, refl, sym, ◌∙◌, ap, subst, arith}
use Rattle.std.specs.Prelude.{option_map}
use Rattle.fs_model.specs.declared.model.Reply.TheVariants as replies
use Rattle.pm_region.specs.State.{State, IsTelling}
use Rattle.log_entry.specs.declared.entry.Entry.{Entry}
use Rattle.log_entry.specs.declared.entry.Body.{Body}
use Rattle.log_entry.specs.declared.entry.Body.TheVariants as bodies
use Rattle.group_laws.specs.declared.types.Block.{Block}
use Rattle.group_laws.specs.State.{Group}
use Rattle.group_laws.specs.MemberViews.{View}
use Rattle.group_board.specs.Seats.{SeatAt}
use Rattle.group_board.specs.Views.{after_withdraw, left_in}
use Rattle.group_laws.specs.Steps.{points_at}
use Rattle.std.proofs.lemmas.Bool.{eq-eqb, ne_eqb}
use Rattle.core_worker.specs.declared.types.Leading.TheVariants as leads
use Rattle.core_worker.specs.declared.types.Place.TheVariants.{Free}
use Rattle.core_worker.specs.declared.worker.Worker.{Worker}
use Rattle.core_worker.specs.OwnPlaces.{place_at, key_in, Replaces, request_by, request_pending, bytes_or}
use Rattle.core_worker.specs.KeyTies.{IsPlaced, Offers}
use Rattle.core_worker.specs.Ties.{HoldsAt, StandsAt}
use Rattle.core_worker.specs.Turns.{InOrderAt, Steps}
use Rattle.core_worker.specs.Beginning.{answers_of, answer_with}
use Rattle.core_worker.specs.Finishing.{number_in, PutsBackIf, Serves, ShortOf, IsServed}
use Rattle.core_worker.specs.Stopping.{DropsStaged, Withdraws}
use Rattle.core_worker.specs.Turning.{TurnMoves}
use Rattle.core_worker.specs.WorkerMoves.{placed_in, awaits_chunk}
use Rattle.core_index.specs.Records.{pointer_of}
use Rattle.lazy_alloc.specs.Sets.{Sets, AreSets}
use Rattle.core_log.specs.Log.{room_of}
use Rattle.batch_leader.specs.declared.taken.Taken.{Taken}
use Rattle.batch_leader.specs.Rounds.{is_first}
use Rattle.core_worker.proofs.PuttingBack.{put_chunks}
use Rattle.core_worker.proofs.CauseFacts.{stock_put, lines_same, lines_low, lines_open}
use Rattle.core_worker.proofs.HandKeys.{asks}
use Rattle.core_worker.proofs.TakingBack.{Stood, stood}
use Rattle.core_worker.proofs.FinishMoves.{asks_key, number_or}
use Rattle.core_worker.proofs.LetGoMoves.{let_go_turn}

abbrev key_or : ℕ → Option Block → ℕ
key_or d None = d
key_or d (Some b) = b.key

-- a staged change is answered Stopped
pub drop_moves : (seat : SeatAt) (s : State) (a : Option Group) (v : View) (w x : Worker) (slot : ℕ) (all : Bool) → slot < 8 → w.stopped ≡ true → HoldsAt seat v w → HoldsAt seat v x → StandsAt s seat v w → StandsAt s seat v x → InOrderAt seat v w → Steps a a seat.number v → DropsStaged s slot w x all → TurnMoves seat s s a a v v w x
drop_moves seat s a v w x slot all lt stopped H N S T O made D =
    let G = D.puts.lets in
    let facts = subst (IsPlaced seat.place seat.number v slot) D.place (H.placed slot lt) in
    let halted : D.freed.stopped ≡ true = ap (λ (y : Worker). y.stopped) G.rest ∙ stopped in
    let_go_turn seat s a a v v w D.freed x D.entry.key slot (record { number = D.number; request = request_by D.entry.key D.value D.entry.body; posted = false }) replies.Stopped (record {
      H = H;
      N = N;
      hand_of = O.hand;
      own = facts.1;
      key = ap key_in D.place;
      held = ap (placed_in v) D.place;
      of_key = asks_key D.entry.key D.value D.entry.body;
      R = G.places;
      queue = ap (λ (y : Worker). y.queue) G.rest;
      hand = ap (λ (y : Worker). y.in_hand) G.rest;
      winds = ap (λ (y : Worker). y.winds_down) G.rest;
      answers = G.answers ∙ ap (λ n. answers_of w ++ answer_with n replies.Stopped None ∷ []) (ap (number_or G.number) (sym G.was ∙ ap number_in D.place));
      may = inr refl;
      left = refl;
      halts = λ r. halted;
      stays = λ r. halted;
      ends = inr refl;
      doubt = λ d now. inl now;
      cells = λ j ne. refl;
      pendings = λ j ne. refl;
      blocks = λ q b has ne. refl;
      last_here = omega arith;
      lasts = λ j ne. omega arith;
      known = λ runs. absurd (let both : true ≡ false = sym halted ∙ runs in cc both);
      layout = ap (λ (y : Worker). y.layout) G.rest ∙ H.layout;
      stock = stock_put w D.freed (pointer_of D.entry.body) (let g = lines_same w D.freed (ap (λ (y : Worker). y.log) G.rest) (ap (λ (y : Worker). awaits_chunk y.leading) G.rest) in omega (arith, g)) (subst (λ (a : Sets). PutsBackIf w.allocator a (pointer_of D.entry.body)) (sym (ap (λ (y : Worker). y.allocator) G.rest)) D.puts.puts);
      lists = (refl, refl, refl);
      sets = subst AreSets (sym (ap (λ (y : Worker). y.allocator) G.rest)) D.puts.sets;
      sets_layout = ap (λ (y : Worker). y.allocator.layout) G.rest ∙ (put_chunks w.allocator D.puts.mid (pointer_of D.entry.body) D.puts.puts).layout_is ∙ H.allocator_layout;
      serves = by all refl;
    }) S T made (λ is. inl stopped)
  where
    served : IsServed s w (record { place = seat.place; number = seat.number; view = v })
    served = record { holds = H; stands = S; order = O }

    by : (b : Bool) → all ≡ b → Serves (IsTelling s) D.freed x (v.cell D.entry.key) D.entry.key ⊎ ShortOf (IsTelling s) D.freed x (v.cell D.entry.key) D.entry.key
    by true e = inl (D.begins e (record { place = seat.place; number = seat.number; view = v }) served)
    by false e = inr (D.short e (record { place = seat.place; number = seat.number; view = v }) served)

module _ (seat : SeatAt) (s : State) (before after : Option Group) (v u : View) (w x : Worker) (all : Bool) (stopped : w.stopped ≡ true) (H : HoldsAt seat v w) (N : HoldsAt seat u x) (S : StandsAt s seat v w) (T : StandsAt s seat u x) (O : InOrderAt seat v w) (made : Steps before after seat.number u) (W : Withdraws s seat before after v u w x all) where
  abbrev e : Entry
  e = W.change.entry

  abbrev k : ℕ
  k = W.change.entry.key

  here : Stood seat.place seat.number v w W.retracts.back.slot e
  here = stood seat.place seat.number v w H W.retracts.back.slot e W.retracts.back.pending

  led : W.mid ≡ record w { leading = leads.Collecting W.retracts.collecting }
  led = W.retracts.leads_now

  key_there : key_in (place_at w.places.items W.puts.0) ≡ Some k
  key_there = ap (λ (y : Worker). key_in (place_at y.places.items W.puts.0)) (sym led) ∙ W.puts.1

  same : W.puts.0 ≡ W.retracts.back.slot
  same = H.apart W.puts.0 W.retracts.back.slot k key_there (ap key_in here.place)

  number_is : W.puts.2.lets.number ≡ here.number
  number_is = ap (number_or W.puts.2.lets.number) (sym W.puts.2.lets.was ∙ ap (λ (y : Worker). number_in (place_at y.places.items W.puts.0)) led ∙ ap (λ n. number_in (place_at w.places.items n)) same ∙ ap number_in here.place)

  halted : W.freed.stopped ≡ true
  halted = ap (λ (y : Worker). y.stopped) W.puts.2.lets.rest ∙ ap (λ (y : Worker). y.stopped) led ∙ stopped

  view : u ≡ after_withdraw e v
  view = W.retracts.back.view

  kept : (b : Body) → Offers v k b → (q : ℕ) (d : Block) → v.blocks q ≡ Some d → d.key ≢ k → cond (points_at b q) None (v.blocks q) ≡ v.blocks q
  kept (bodies.Pointer r) o q d has ne = ap (λ t. cond t None (v.blocks q)) (ne_eqb q r (λ at. ne (let both : Some d ≡ Some (record { key = k; bytes = o.0 }) = sym has ∙ ap v.blocks at ∙ o.1 in ap (key_or k) both)))
  kept (bodies.Embedded z) o q d has ne = refl
  kept bodies.Tombstone o q d has ne = refl

  by : (b : Bool) → all ≡ b → Serves (IsTelling s) W.freed x (u.cell k) k ⊎ ShortOf (IsTelling s) W.freed x (u.cell k) k
  by true is = inl (W.begins is)
  by false is = inr (W.short is)

  puts_there : PutsBackIf w.allocator W.puts.2.mid (pointer_of e.body)
  puts_there = subst (λ (y : Worker). PutsBackIf y.allocator W.puts.2.mid (pointer_of e.body)) led W.puts.2.puts

  -- a posted change that nobody had taken is answered Stopped
  pub withdraw_moves : TurnMoves seat s s before after v u w x
  withdraw_moves =
      let G = W.puts.2.lets in
      let_go_turn seat s before after v u w W.freed x k W.puts.0 (record { number = here.number; request = asks v k e.body; posted = true }) replies.Stopped (record {
        H = H;
        N = N;
        hand_of = O.hand;
        own = here.own;
        key = key_there;
        held = ap (λ n. placed_in v (place_at w.places.items n)) same ∙ ap (placed_in v) here.place ∙ ap (λ o. option_map (λ r. record { number = here.number; request = r; posted = true }) (request_pending v k o)) W.retracts.back.pending;
        of_key = asks_key k (bytes_or (left_in v.blocks e.body)) e.body;
        R = subst (λ (y : Worker). Replaces y.places.items W.freed.places.items W.puts.0 Free) led G.places;
        queue = ap (λ (y : Worker). y.queue) G.rest ∙ ap (λ (y : Worker). y.queue) led;
        hand = ap (λ (y : Worker). y.in_hand) G.rest ∙ ap (λ (y : Worker). y.in_hand) led;
        winds = ap (λ (y : Worker). y.winds_down) G.rest ∙ ap (λ (y : Worker). y.winds_down) led;
        answers = G.answers ∙ (λ i. answers_of (led i) ++ answer_with (number_is i) replies.Stopped None ∷ []);
        may = inr refl;
        left = sym (ap (λ (y : View). y.cell k) view);
        halts = λ r. halted;
        stays = λ r. halted;
        ends = inr refl;
        doubt = λ d now. absurd (let both : None ≡ Some (record { entry = d; slot = None }) = sym (ap (λ (y : View). y.pending k) view ∙ ap (λ b. cond b None (v.pending k)) (eq-eqb k k refl)) ∙ now in cc both);
        cells = λ j ne. ap (λ (y : View). y.cell j) view;
        pendings = λ j ne. ap (λ (y : View). y.pending j) view ∙ ap (λ b. cond b None (v.pending j)) (ne_eqb j k ne);
        blocks = λ q b has ne. ap (λ (y : View). y.blocks q) view ∙ kept e.body here.offers q b has ne;
        last_here = (let same = ap (λ (y : View). y.last k) view in omega (arith, same));
        lasts = λ j ne. (let same = ap (λ (y : View). y.last j) view in omega (arith, same));
        known = λ runs. absurd (let both : true ≡ false = sym halted ∙ runs in cc both);
        layout = ap (λ (y : Worker). y.layout) G.rest ∙ ap (λ (y : Worker). y.layout) led ∙ H.layout;
        stock = stock_put w W.freed (pointer_of e.body) (let low = lines_low w in let room = ap (λ (y : Worker). room_of y.log) G.rest ∙ ap (λ (y : Worker). room_of y.log) led in let now = lines_open W.freed (ap (λ (y : Worker). awaits_chunk y.leading) G.rest ∙ ap (λ (y : Worker). awaits_chunk y.leading) led ∙ ap (λ (ts : List Taken). not (is_first ts) && W.retracts.collecting.fresh) W.retracts.idle) in omega (arith, low, room, now))
            (subst (λ (a : Sets). PutsBackIf w.allocator a (pointer_of e.body)) (sym (ap (λ (y : Worker). y.allocator) G.rest)) puts_there);
        lists = (ap (λ (y : View). y.posted) view, ap (λ (y : View). y.took) view, ap (λ (y : View). y.flying) view);
        sets = subst AreSets (sym (ap (λ (y : Worker). y.allocator) G.rest)) W.puts.2.sets;
        sets_layout = ap (λ (y : Worker). y.allocator.layout) G.rest ∙ (put_chunks w.allocator W.puts.2.mid (pointer_of e.body) puts_there).layout_is ∙ H.allocator_layout;
        serves = by all refl;
      }) S T made (λ is. inl stopped)
