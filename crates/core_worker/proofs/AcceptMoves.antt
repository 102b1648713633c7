-- Accepting a request is a whole move to whoever runs several workers.
use Rattle.std.proofs.Common.{◌≡◌, ◌≢◌, inl, inr, ⊎_elim, ℕ, ◌==◌, Bool, true, false, cond, List, [], ◌∷◌, ◌++◌, map, Option, Some, None, refl, sym, ◌∙◌, ap, subst, arith}
use Rattle.std.specs.Prelude.{Vec, option_to_list}
use Rattle.std.specs.Global.{Global}
use Rattle.std.specs.List.{filter}
use Rattle.std.proofs.lemmas.Bool.{cases_eq}
use Rattle.std.proofs.lemmas.List.{map-append}
use Rattle.fs_model.specs.declared.model.Request.{Request}
use Rattle.fs_model.specs.declared.model.Request.TheVariants.{Put, Get, Delete}
use Rattle.fs_model.specs.declared.model.Reply.{Reply}
use Rattle.fs_model.specs.declared.model.Reply.TheVariants as replies
use Rattle.fs_model.specs.Cells.{key_of, answer_to, is_change}
use Rattle.fs_model.specs.Lawful.{MayReply, cell_left}
use Rattle.pm_region.specs.State.{State, IsTelling}
use Rattle.chunk_map.specs.declared.layouts.Geometry.{Geometry}
use Rattle.lazy_alloc.specs.Sets.{Sets, AreSets}
use Rattle.core_room.specs.declared.supply.Supply.{Supply}
use Rattle.core_room.specs.declared.types.Shortage.{Shortage}
use Rattle.core_room.specs.declared.types.Shortage.TheVariants as causes
use Rattle.core_room.specs.declared.types.Counts.{Counts}
use Rattle.core_room.specs.RoomRule.{lacks_room, lacks_block, counts_at}
use Rattle.conflict_queue.specs.declared.types.Held.{Held}
use Rattle.conflict_queue.specs.Waiting.{waiting, AddsLast, held_with}
use Rattle.core_index.specs.Index.{known_at}
use Rattle.core_index.specs.Records.{last_of}
use Rattle.group_laws.specs.Places.{owner}
use Rattle.store_image.specs.Facts.{In}
use Rattle.core_worker.specs.declared.types.Answer.{Answer}
use Rattle.core_worker.specs.declared.types.Place as places
use Rattle.core_worker.specs.declared.worker.Worker.{Worker}
use Rattle.core_worker.specs.declared.types.Place.TheVariants.{Free, Staged}
use Rattle.core_worker.specs.OwnPlaces.{place_at, key_in, is_busy, Replaces}
use Rattle.core_worker.specs.Supplies.{supply_of, lacks, why, free_blocks}
use Rattle.core_worker.specs.Refusals.{reply_to}
use Rattle.core_worker.specs.Answering.{IsCause, IsSaid, AddsAnswers, ShowsCause}
use Rattle.core_worker.proofs.Given.{said_same, given_by, adds_none, adds_one, answer_untold}
use Rattle.core_worker.specs.Beginning.{answers_of, answer_with, OnlyBegins, IsAnswered, IsStaged, AnswersOrStages, BeginsBy, BeginsAs, Begins}
use Rattle.core_worker.specs.Ties.{Tie}
use Rattle.core_worker.specs.Accepting.{IsAsBefore, IsTied, StaysTied, HoldsOrBegins, HoldsOrBeginsByEachView, AcceptsAs, AcceptMoves}
use Rattle.core_worker.specs.WorkerMoves.{asked, BeginsIn, SpendsIn, Fixed, replied, placed_in, placed_for, asked_by, stock_of, hands_of, requests_for, fixed_of, AnswersKey}
use Rattle.engine_laws.specs.FreeStock.{Stock, LacksRoom}
use Rattle.engine_laws.specs.RefusalCauses.{HasCause, Refuses}
use Rattle.engine_laws.specs.RefusalCauses.{is_too_long}
use Rattle.engine_laws.proofs.Clients.{raised_low, quiet_refuses, at_least_same}
use Rattle.store_image.proofs.Clients.{in_back}
use Rattle.core_worker.proofs.StockFacts.{Stages, still_in, still_stock, stages_spend, staged_stock, stock_small, why_short}
use Rattle.core_worker.proofs.CauseFacts.{lacks_as_stock, stopped_causeless, answer_causeless, answer_not_full, why_cause, why_full, why_shows, stock_same}
use Rattle.core_worker.proofs.HandKeys.{none_for}
use Rattle.core_worker.proofs.HandPlaces.{held_at, held_beside}
use Rattle.core_worker.proofs.Pointers.{free_is}
use Rattle.core_worker.proofs.KeyMoves.{still_key, held_key, answered_key, staged_key, one_request, no_request, one_fixed, no_fixed, key_by, moves_here}

pub not_stopped : (c : Shortage) → reply_to c ≢ replies.Stopped
not_stopped (causes.Room x) e = absurd (cc e)
not_stopped (causes.Block x) e = absurd (cc e)
not_stopped (causes.Versions n) e = absurd (cc e)
not_stopped (causes.Length n) e = absurd (cc e)

-- a refusal leaves the cell
pub left_by_refusal : (r : Request) (cell : Option (List ℕ)) (c : Shortage) → cell_left r (reply_to c) cell ≡ cell
left_by_refusal r cell (causes.Room x) = refl
left_by_refusal r cell (causes.Block x) = refl
left_by_refusal r cell (causes.Versions n) = refl
left_by_refusal r cell (causes.Length n) = refl

put_refused : (k : ℕ) (u : List ℕ) (cell : Option (List ℕ)) (c : Shortage) → MayReply (Put k u) cell false (reply_to c)
put_refused k u cell (causes.Room x) = inr refl
put_refused k u cell (causes.Block x) = inr refl
put_refused k u cell (causes.Versions n) = inr refl
put_refused k u cell (causes.Length n) = inr refl

abbrev IsForRoom : Option Shortage → Type 0
IsForRoom None = Unit {0}
IsForRoom (Some c) = reply_to c ≡ replies.Full

by_room : (b d : Bool) (x y : Counts) → IsForRoom (cond b (Some (causes.Room x)) (cond d (Some (causes.Block y)) None))
by_room true d x y = refl
by_room false true x y = refl
by_room false false x y = tt

room_alone : (s : Supply) (a : Sets) (need class : ℕ) → IsForRoom (lacks s a need class)
room_alone s a need class = by_room (lacks_room s need) (lacks_block s need class (free_blocks a class)) (counts_at s need class (free_blocks a class)) (counts_at s need class (free_blocks a class))

-- a refusal for the cause that counts is one that the request may get
pub may_refuse_for : (l : Geometry) (s : Supply) (a : Sets) (last : ℕ) (cell : Option (List ℕ)) (r : Request) (c : Shortage) → why l s a last cell r ≡ Some c → MayReply r cell false (reply_to c)
may_refuse_for l s a last cell (Put k u) c e = put_refused k u cell c
may_refuse_for l s a last cell (Get k) c e = absurd (cc e)
may_refuse_for l s a last None (Delete k) c e = absurd (cc e)
may_refuse_for l s a last (Some u) (Delete k) c e =
    let full : reply_to c ≡ replies.Full = subst IsForRoom e (room_alone s a 1 0) in
    subst (MayReply (Delete k) (Some u) false) (sym full) (inr refl)

-- what is no change is answered by the cell, and leaves it
pub still_left : (r : Request) (cell : Option (List ℕ)) → is_change r cell ≡ false → cell_left r (answer_to r cell) cell ≡ cell
still_left (Put k u) cell e = absurd (cc e)
still_left (Get k) None e = refl
still_left (Get k) (Some u) e = refl
still_left (Delete k) None e = refl
still_left (Delete k) (Some u) e = absurd (cc e)

pub still_runs : (r : Request) (cell : Option (List ℕ)) → answer_to r cell ≢ replies.Stopped
still_runs (Put k u) cell e = absurd (cc e)
still_runs (Get k) None e = absurd (cc e)
still_runs (Get k) (Some u) e = absurd (cc e)
still_runs (Delete k) None e = absurd (cc e)
still_runs (Delete k) (Some u) e = absurd (cc e)

abbrev fixed_to : ℕ → Request → Reply → Option Shortage → Fixed
fixed_to n r a cause = record { number = n; request = r; reply = a; refusal = cause }

in_none : (s : Option Held) (k : ℕ) (hs : List Held) → s ≡ None → map asked_by (filter (λ h. key_of h.request == k) (option_to_list s) ++ hs) ≡ map asked_by hs
in_none s k hs e = ap (λ (o : Option Held). map asked_by (filter (λ h. key_of h.request == k) (option_to_list o) ++ hs)) e

module _ (s : State) (w b : Worker) (n : ℕ) (r : Request) (works : w.winds_down ≡ false) (x : Tie) (T : IsTied s w (key_of r) x) (N : IsTied s b (key_of r) x) where
  -- what is fixed is these answers, and each key's line goes on so
  record Fixes (fs : List Fixed) : Type 0 where
    answers : AddsAnswers (IsTelling s) (answers_of w) (answers_of b) fs
    stopped : b.stopped ≡ w.stopped
    keys : (k : ℕ) → owner x.place k ≡ x.number → AnswersKey x.view x.view (hands_of x.view w) (hands_of x.view b) k (requests_for k ((n, r) ∷ [])) (fixed_of k fs)
    own : (y : Fixed) → In y fs → owner x.place (key_of y.request) ≡ x.number
    refuses : (k : ℕ) → owner x.place k ≡ x.number → Refuses x.place.layout (stock_of w) (x.view.last k) (x.view.last k) (map replied (fixed_of k fs))
    spends : SpendsIn x.place x.number x.view x.view (hands_of x.view w) (hands_of x.view b) ((n, r) ∷ []) fs

  hand_then : b.in_hand ≡ w.in_hand → b.in_hand ≡ None
  hand_then e = e ∙ T.order.hand works

  waits_before : (k : ℕ) → (hands_of x.view w).waits k ≡ map asked_by (waiting w.queue k)
  waits_before k = in_none w.in_hand k (waiting w.queue k) (T.order.hand works)

  waits_after : b.in_hand ≡ w.in_hand → (k : ℕ) → (hands_of x.view b).waits k ≡ map asked_by (waiting b.queue k)
  waits_after e k = in_none b.in_hand k (waiting b.queue k) (hand_then e)

  waits_same : b.in_hand ≡ w.in_hand → b.queue ≡ w.queue → (k : ℕ) → (hands_of x.view b).waits k ≡ (hands_of x.view w).waits k
  waits_same hand queue k = waits_after hand k ∙ ap (λ (q : List Held). map asked_by (waiting q k)) queue ∙ sym (waits_before k)

  -- it is held behind those of its key
  fixes_held : answers_of b ≡ answers_of w → b.stopped ≡ w.stopped → b.places ≡ w.places → b.in_hand ≡ w.in_hand → AddsLast w.queue b.queue (held_with n r) → stock_of b ≡ stock_of w → Fixes []
  fixes_held answers stopped places hand adds stock = record {
    answers = adds_none (IsTelling s) (answers_of w) (answers_of b) answers;
    stopped = stopped;
    keys = λ k own. ⊎_elim
        (λ same. key_by x.view x.view (hands_of x.view w) (hands_of x.view b) k ((n, r) ∷ []) (requests_for k ((n, r) ∷ [])) [] [] (one_request n r k (sym same)) refl
        (held_key x.view (hands_of x.view w) (hands_of x.view b) k n r (place_same k)
        (waits_after hand k ∙ ap (λ j. map asked_by (waiting b.queue j)) same ∙ ap (map asked_by) adds.key ∙ map-append asked_by (waiting w.queue (key_of r)) (held_with n r ∷ []) ∙ ap (λ j. map asked_by (waiting w.queue j) ++ (n, r) ∷ []) (sym same) ∙ ap (λ (ys : List (ℕ × Request)). ys ++ (n, r) ∷ []) (sym (waits_before k)))))
        (λ ne. key_by x.view x.view (hands_of x.view w) (hands_of x.view b) k [] (requests_for k ((n, r) ∷ [])) [] [] (no_request n r k (λ e. ne (sym e))) refl
        (still_key x.view (hands_of x.view w) (hands_of x.view b) k (place_same k) (waits_after hand k ∙ ap (map asked_by) (adds.others k ne) ∙ sym (waits_before k))))
        (cases_eq k (key_of r));
    own = λ y i. absurd i;
    refuses = λ k own. quiet_refuses x.place.layout (stock_of w) (x.view.last k) (x.view.last k) (omega arith);
    spends = still_in x.place x.number x.view w b ((n, r) ∷ []) N.holds (λ k. ap (λ ps. placed_for x.view ps.items k) places) stock;
  } where
    place_same : (k : ℕ) → placed_for x.view b.places.items k ≡ placed_for x.view w.places.items k
    place_same k = ap (λ ps. placed_for x.view ps.items k) places

  module _ (idle : is_busy w.places.items (key_of r) ≡ false) (hand : b.in_hand ≡ w.in_hand) (queue : b.queue ≡ w.queue) where
    none_before : placed_for x.view w.places.items (key_of r) ≡ None
    none_before = none_for x.view (key_of r) w.places.items idle

    none_waits : (hands_of x.view w).waits (key_of r) ≡ []
    none_waits = waits_before (key_of r) ∙ ap (map asked_by) (T.holds.waits works (key_of r) idle)

    -- it is answered
    fixes_answered : (a given : Reply) (cause : Option Shortage) → IsSaid (IsTelling s) r a given → IsCause a cause → ShowsCause r cause → answers_of b ≡ answers_of w ++ answer_with n given cause ∷ [] → b.stopped ≡ w.stopped → b.places.items ≡ w.places.items → MayReply r (x.view.cell (key_of r)) false a → cell_left r a (x.view.cell (key_of r)) ≡ x.view.cell (key_of r)
        → (w.stopped ≡ true → a ≡ replies.Stopped) → (a ≡ replies.Stopped → w.stopped ≡ true)
        → HasCause x.place.layout (x.view.last (key_of r)) r a → (a ≡ replies.Full → LacksRoom x.place.layout (stock_of w) r) → stock_of b ≡ stock_of w → Fixes (record { number = n; request = r; reply = a; refusal = cause } ∷ [])
    fixes_answered a given cause said because shows answers stopped places may left by_stop stops has full stock = record {
      answers = adds_one (IsTelling s) (answers_of w) (answers_of b) (fixed_to n r a cause) (answer_with n given cause) answers (given_by (IsTelling s) n r a given cause said because shows);
      stopped = stopped;
      keys = λ k own. ⊎_elim
          (λ same. subst (λ j. AnswersKey x.view x.view (hands_of x.view w) (hands_of x.view b) j (requests_for j ((n, r) ∷ [])) (fixed_of j (fixed_to n r a cause ∷ []))) (sym same)
          (key_by x.view x.view (hands_of x.view w) (hands_of x.view b) (key_of r) ((n, r) ∷ []) (requests_for (key_of r) ((n, r) ∷ [])) (fixed_to n r a cause ∷ []) (fixed_of (key_of r) (fixed_to n r a cause ∷ [])) (one_request n r (key_of r) refl) (one_fixed (fixed_to n r a cause) (key_of r) refl)
          (answered_key x.view (hands_of x.view w) (hands_of x.view b) (key_of r) n r a cause none_before none_waits (place_same (key_of r) ∙ none_before) (waits_same hand queue (key_of r) ∙ none_waits) may left by_stop (λ e. stopped ∙ stops e))))
          (λ ne. key_by x.view x.view (hands_of x.view w) (hands_of x.view b) k [] (requests_for k ((n, r) ∷ [])) [] (fixed_of k (fixed_to n r a cause ∷ [])) (no_request n r k (λ e. ne (sym e))) (no_fixed (fixed_to n r a cause) k (λ e. ne (sym e)))
          (still_key x.view (hands_of x.view w) (hands_of x.view b) k (place_same k) (waits_same hand queue k)))
          (cases_eq k (key_of r));
      own = own_by;
      spends = record {
        runs = λ y i is. ⊎_elim (λ same. (running w.stopped refl (sym (ap (λ (z : Fixed). z.reply) same) ∙ is), subst (λ (z : Fixed). In (asked z) ((hands_of x.view w).waits (key_of z.request) ++ requests_for (key_of z.request) ((n, r) ∷ []))) (sym same) (last_in ((hands_of x.view w).waits (key_of r))))) (λ none. absurd none) i;
        stays = λ k y own at none. (y, place_same k ∙ at, refl, λ t. t);
        begun = None;
        begins = λ y is. absurd (cc is);
        posts = inl refl;
        spends = λ on. inl (still_stock x.place x.number x.view w b N.holds stock);
      };
      refuses = λ k own. ⊎_elim
          (λ same. subst (λ j. Refuses x.place.layout (stock_of w) (x.view.last j) (x.view.last j) (map replied (fixed_of j (fixed_to n r a cause ∷ [])))) (sym same)
          (subst (λ (fs : List Fixed). Refuses x.place.layout (stock_of w) (x.view.last (key_of r)) (x.view.last (key_of r)) (map replied fs)) (sym (one_fixed (fixed_to n r a cause) (key_of r) refl))
          (record { causes = (has, tt); full = (full, tt); last_now = raised_low a (x.view.last (key_of r)) })))
          (λ ne. subst (λ (fs : List Fixed). Refuses x.place.layout (stock_of w) (x.view.last k) (x.view.last k) (map replied fs)) (sym (no_fixed (fixed_to n r a cause) k (λ e. ne (sym e)))) (quiet_refuses x.place.layout (stock_of w) (x.view.last k) (x.view.last k) (omega arith)))
          (cases_eq k (key_of r));
    } where
      place_same : (k : ℕ) → placed_for x.view b.places.items k ≡ placed_for x.view w.places.items k
      place_same k = ap (λ ps. placed_for x.view ps k) places

      running : (d : Bool) → w.stopped ≡ d → a ≡ replies.Full → w.stopped ≡ false
      running false e is = e
      running true e is = absurd (let both = sym is ∙ by_stop e in cc both)

      last_in : (ws : List (ℕ × Request)) → In (n, r) (ws ++ requests_for (key_of r) ((n, r) ∷ []))
      last_in ws = in_back (n, r) ws (requests_for (key_of r) ((n, r) ∷ [])) (subst (λ (ys : List (ℕ × Request)). In (n, r) ys) (sym (one_request n r (key_of r) refl)) (inl refl))

      own_by : (y : Fixed) → In y (record { number = n; request = r; reply = a; refusal = cause } ∷ []) → owner x.place (key_of y.request) ≡ x.number
      own_by y (inl same) = ap (λ (z : Fixed). owner x.place (key_of z.request)) same ∙ T.own
      own_by y (inr none) = absurd none

    -- it is staged
    fixes_staged : answers_of b ≡ answers_of w → b.stopped ≡ w.stopped → w.stopped ≡ false → (mid : Worker) → mid.places ≡ w.places → IsStaged mid b n r → Stages x.place.layout (stock_of w) (stock_of b) (Some (n, r)) → Fixes []
    fixes_staged answers stopped runs mid same_places S took = record {
      answers = adds_none (IsTelling s) (answers_of w) (answers_of b) answers;
      stopped = stopped;
      keys = λ k own. ⊎_elim
          (λ same. subst (λ j. AnswersKey x.view x.view (hands_of x.view w) (hands_of x.view b) j (requests_for j ((n, r) ∷ [])) []) (sym same)
          (key_by x.view x.view (hands_of x.view w) (hands_of x.view b) (key_of r) ((n, r) ∷ []) (requests_for (key_of r) ((n, r) ∷ [])) [] [] (one_request n r (key_of r) refl) refl
          (staged_key x.view (hands_of x.view w) (hands_of x.view b) (key_of r) n r none_before none_waits
          (held_at x.view b.places.items S.slot (key_of r) N.holds.apart (ap key_in S.placed.here ∙ ap Some S.key) ∙ ap (placed_in x.view) S.placed.here ∙ ap (λ q. Some (record { number = n; request = q; posted = false })) S.asks)
          (waits_same hand queue (key_of r) ∙ none_waits) runs)))
          (λ ne. key_by x.view x.view (hands_of x.view w) (hands_of x.view b) k [] (requests_for k ((n, r) ∷ [])) [] [] (no_request n r k (λ e. ne (sym e))) refl
          (still_key x.view (hands_of x.view w) (hands_of x.view b) k
          (held_beside x.view x.view w.places.items b.places.items S.slot (Staged n S.entry S.value) here T.holds.apart N.holds.apart k
          (λ e. (let both : None ≡ Some k = sym (ap key_in was) ∙ e in cc both)) (λ e. ne (let both : Some S.entry.key ≡ Some k = e in let at : S.entry.key ≡ k = cc both in sym at ∙ S.key)) (λ t low e. refl))
          (waits_same hand queue k)))
          (cases_eq k (key_of r));
      own = λ y i. absurd i;
      refuses = λ k own. quiet_refuses x.place.layout (stock_of w) (x.view.last k) (x.view.last k) (omega arith);
      spends = record {
        runs = λ y i is. absurd i;
        stays = λ k y own at none. ⊎_elim
            (λ same. absurd (let both : Some y ≡ None = sym at ∙ ap (placed_for x.view w.places.items) same ∙ none_before in cc both))
            (λ ne. (y, kept_at k ne ∙ at, refl, λ t. t)) (cases_eq k (key_of r));
        begun = Some (n, r);
        begins = λ y is. subst (λ (z : ℕ × Request). BeginsIn x.place x.number (hands_of x.view w) (hands_of x.view b) ((n, r) ∷ []) z) (let same : (n, r) ≡ y = cc is in same) (record { own = T.own; waits = last_in ((hands_of x.view w).waits (key_of r)); place = stands_there });
        posts = inl refl;
        spends = λ on. inl (stages_spend x.place.layout x.view.took x.view.flying x.view.took x.view.flying (stock_of w) (stock_of w) (stock_of b) (Some (n, r)) (at_least_same (stock_of w)) took (stock_small x.place x.number x.view b N.holds) refl refl);
      };
    } where
      last_in : (ws : List (ℕ × Request)) → In (n, r) (ws ++ requests_for (key_of r) ((n, r) ∷ []))
      last_in ws = in_back (n, r) ws (requests_for (key_of r) ((n, r) ∷ [])) (subst (λ (ys : List (ℕ × Request)). In (n, r) ys) (sym (one_request n r (key_of r) refl)) (inl refl))

      here : Replaces w.places.items b.places.items S.slot (Staged n S.entry S.value)
      here = subst (λ (ps : Vec places.Place Global). Replaces ps.items b.places.items S.slot (Staged n S.entry S.value)) same_places S.placed

      was : place_at w.places.items S.slot ≡ Free
      was = ap (λ (ps : Vec places.Place Global). place_at ps.items S.slot) (sym same_places) ∙ free_is (place_at mid.places.items S.slot) S.lowest.0

      stands_there : placed_for x.view b.places.items (key_of r) ≡ Some (record { number = n; request = r; posted = false })
      stands_there = held_at x.view b.places.items S.slot (key_of r) N.holds.apart (ap key_in S.placed.here ∙ ap Some S.key) ∙ ap (placed_in x.view) S.placed.here ∙ ap (λ q. Some (record { number = n; request = q; posted = false })) S.asks

      kept_at : (k : ℕ) → k ≢ key_of r → placed_for x.view b.places.items k ≡ placed_for x.view w.places.items k
      kept_at k ne = held_beside x.view x.view w.places.items b.places.items S.slot (Staged n S.entry S.value) here T.holds.apart N.holds.apart k
          (λ e. (let both : None ≡ Some k = sym (ap key_in was) ∙ e in cc both)) (λ e. ne (let both : Some S.entry.key ≡ Some k = e in let at : S.entry.key ≡ k = cc both in sym at ∙ S.key)) (λ t low e. refl)

  abbrev cell : Option (List ℕ)
  cell = x.view.cell (key_of r)

  fixes_begun : (u : Worker) → IsAsBefore w u → is_busy w.places.items (key_of r) ≡ false → OnlyBegins u b → Begins (IsTelling s) u b (x.view.cell (key_of r)) n r → (fs : List Fixed) × Fixes fs
  fixes_begun u B idle only begins = by_stop u.stopped refl begins where
    in_hand : b.in_hand ≡ w.in_hand
    in_hand = ap (λ (y : Worker). y.in_hand) only ∙ ap (λ (y : Worker). y.in_hand) B.rest

    queue : b.queue ≡ w.queue
    queue = ap (λ (y : Worker). y.queue) only ∙ ap (λ (y : Worker). y.queue) B.rest

    halted : b.stopped ≡ w.stopped
    halted = ap (λ (y : Worker). y.stopped) only ∙ ap (λ (y : Worker). y.stopped) B.rest

    stopped_before : w.stopped ≡ u.stopped
    stopped_before = sym (ap (λ (y : Worker). y.stopped) B.rest)

    -- as much is free, and the record of the key has its last version
    stock_is : stock_of u ≡ stock_of w
    stock_is = stock_same w u (ap (λ (y : Worker). y.log) B.rest) (ap (λ (y : Worker). y.allocator) B.rest) (ap (λ (y : Worker). y.leading) B.rest)

    layout_is : u.layout ≡ x.place.layout
    layout_is = ap (λ (y : Worker). y.layout) B.rest ∙ T.holds.layout

    last_is : u.stopped ≡ false → last_of (known_at u.index (key_of r)) ≡ x.view.last (key_of r)
    last_is runs = ap last_of (B.records (key_of r)) ∙ sym (T.holds.keys (key_of r) T.own (inl (stopped_before ∙ runs))).last

    answered : (a given : Reply) (cause : Option Shortage) → IsSaid (IsTelling s) r a given → IsCause a cause → ShowsCause r cause → IsAnswered u b (answer_with n given cause) → MayReply r cell false a → cell_left r a cell ≡ cell → (w.stopped ≡ true → a ≡ replies.Stopped) → (a ≡ replies.Stopped → w.stopped ≡ true)
        → HasCause x.place.layout (x.view.last (key_of r)) r a → (a ≡ replies.Full → LacksRoom x.place.layout (stock_of w) r) → (fs : List Fixed) × Fixes fs
    answered a given cause said because shows is may left by_stop stops has full = (
      record { number = n; request = r; reply = a; refusal = cause } ∷ [],
      fixes_answered idle in_hand queue a given cause said because shows (is.answers ∙ ap (λ (xs : List Answer). xs ++ answer_with n given cause ∷ []) B.answers) halted (is.places ∙ ap (λ (y : Worker). y.places.items) B.rest) may left by_stop stops has full (stock_same u b is.same.log is.allocator is.same.leading ∙ stock_is),
    )

    runs_false : (d : Bool) → u.stopped ≡ d → d ≡ false → (a : Reply) → w.stopped ≡ true → a ≡ replies.Stopped
    runs_false d e f a stopped = absurd (let both : true ≡ false = sym stopped ∙ stopped_before ∙ e ∙ f in cc both)

    goes_on : (c : Bool) → is_too_long u.layout r ≡ false → u.stopped ≡ false → is_change r cell ≡ c → AnswersOrStages (IsTelling s) c u b cell n r → (fs : List Fixed) × Fixes fs
    goes_on false short runs e is = answered (answer_to r cell) is.0 None is.1 (answer_untold r cell e) tt is.2 (inl refl) (still_left r cell e) (runs_false false runs refl (answer_to r cell)) (λ same. absurd (still_runs r cell same)) (answer_causeless x.place.layout (x.view.last (key_of r)) r cell e) (λ full. absurd (answer_not_full r cell e full))
    goes_on true short runs e is = (
      [],
      fixes_staged idle in_hand queue (is.answers ∙ B.answers) halted (stopped_before ∙ runs) u (ap (λ (y : Worker). y.places) B.rest) is
          (subst (λ (t : Stock). Stages x.place.layout t (stock_of b) (Some (n, r))) stock_is
          (staged_stock x.place.layout u b n r is (subst AreSets (sym (ap (λ (y : Worker). y.allocator) B.rest)) T.holds.sets) N.holds.sets (ap (λ (y : Worker). y.allocator.layout) B.rest ∙ T.holds.allocator_layout) (subst (λ (l : Geometry). is_too_long l r ≡ false) layout_is short))),
    )

    by_cause : (o : Option Shortage) → u.stopped ≡ false → why u.layout (supply_of u) u.allocator (last_of (known_at u.index (key_of r))) cell r ≡ o → BeginsBy (IsTelling s) o u b cell n r → (fs : List Fixed) × Fixes fs
    by_cause None runs e is = goes_on (is_change r cell) (why_short u.layout (supply_of u) u.allocator (last_of (known_at u.index (key_of r))) cell r e) runs refl is
    by_cause (Some c) runs e is = answered (reply_to c) (reply_to c) (Some c) (said_same (IsTelling s) r (reply_to c)) refl (why_shows u.layout (supply_of u) u.allocator (last_of (known_at u.index (key_of r))) cell r c e) is (may_refuse_for u.layout (supply_of u) u.allocator (last_of (known_at u.index (key_of r))) cell r c e) (left_by_refusal r cell c) (runs_false false runs refl (reply_to c)) (λ same. absurd (not_stopped c same))
        (subst (λ (l : Geometry). HasCause l (x.view.last (key_of r)) r (reply_to c)) layout_is (subst (λ n. HasCause u.layout n r (reply_to c)) (last_is runs) (why_cause u.layout (supply_of u) u.allocator (last_of (known_at u.index (key_of r))) cell r c e)))
        (λ full. subst (λ (t : Stock). LacksRoom x.place.layout t r) stock_is (subst (λ (l : Geometry). LacksRoom l (stock_of u) r) layout_is (lacks_as_stock u.layout u r (why_full u.layout (supply_of u) u.allocator (last_of (known_at u.index (key_of r))) cell r c e full))))

    by_stop : (d : Bool) → u.stopped ≡ d → BeginsAs (IsTelling s) d u b cell n r → (fs : List Fixed) × Fixes fs
    by_stop true e is = answered replies.Stopped replies.Stopped None (said_same (IsTelling s) r replies.Stopped) refl tt is (inr refl) refl (λ s. refl) (λ s. stopped_before ∙ e) (stopped_causeless x.place.layout (x.view.last (key_of r)) r replies.Stopped refl) (λ full. absurd (cc full))
    by_stop false e is = by_cause (why u.layout (supply_of u) u.allocator (last_of (known_at u.index (key_of r))) cell r) e refl is

  fixes : HoldsOrBegins (IsTelling s) x.view w b n r → (fs : List Fixed) × Fixes fs
  fixes A = ⊎_elim
      (λ held. let e = held.2 in (
        [],
        fixes_held (ap (λ (y : Worker). answers_of y) e ∙ A.1.answers) (ap (λ (y : Worker). y.stopped) e ∙ ap (λ (y : Worker). y.stopped) A.1.rest) (ap (λ (y : Worker). y.places) e ∙ ap (λ (y : Worker). y.places) A.1.rest) (ap (λ (y : Worker). y.in_hand) e ∙ ap (λ (y : Worker). y.in_hand) A.1.rest)
            (subst (λ (q : List Held). AddsLast q b.queue (held_with n r)) (ap (λ (y : Worker). y.queue) A.1.rest) held.1)
            (stock_same w b (ap (λ (y : Worker). y.log) e ∙ ap (λ (y : Worker). y.log) A.1.rest) (ap (λ (y : Worker). y.allocator) e ∙ ap (λ (y : Worker). y.allocator) A.1.rest) (ap (λ (y : Worker). y.leading) e ∙ ap (λ (y : Worker). y.leading) A.1.rest)),
      ))
      (λ begun. fixes_begun A.0 A.1 begun.0 begun.1 begun.2)
      A.3

  pub accepts_as : HoldsOrBegins (IsTelling s) x.view w b n r → AcceptsAs s w b x ((n, r) ∷ [])
  accepts_as A = let F = fixes A in record {
    fixed = F.0;
    answers = F.1.answers;
    moves = λ a. moves_here x.place x.number s a x.view w b ((n, r) ∷ []) F.0 N.holds N.stands.licensed F.1.stopped F.1.own F.1.keys F.1.refuses F.1.spends;
  }

-- a request was accepted
pub accept_moves : (s : State) (w b : Worker) (n : ℕ) (r : Request) → w.winds_down ≡ false → StaysTied s w b (key_of r) → HoldsOrBeginsByEachView s w b n r → AcceptMoves s w b (key_of r) ((n, r) ∷ [])
accept_moves s w b n r works stays accepts = λ x T. accepts_as s w b n r works x T (stays x T) (accepts x T)

-- it was given back
pub back_moves : (s : State) (w b : Worker) (k : ℕ) → IsAsBefore w b → StaysTied s w b k → AcceptMoves s w b k []
back_moves s w b k B stays = λ x T. record {
  fixed = [];
  answers = adds_none (IsTelling s) (answers_of w) (answers_of b) B.answers;
  moves = λ a. let N = stays x T in
      moves_here x.place x.number s a x.view w b [] [] N.holds N.stands.licensed (ap (λ (y : Worker). y.stopped) B.rest) (λ y i. absurd i)
      (λ j own. still_key x.view (hands_of x.view w) (hands_of x.view b) j (ap (λ (y : Worker). placed_for x.view y.places.items j) B.rest)
      (ap (λ (y : Worker). map asked_by (filter (λ h. key_of h.request == j) (option_to_list y.in_hand) ++ waiting y.queue j)) B.rest))
      (λ j own. quiet_refuses x.place.layout (stock_of w) (x.view.last j) (x.view.last j) (omega arith))
      (still_in x.place x.number x.view w b [] N.holds (λ j. ap (λ (y : Worker). placed_for x.view y.places.items j) B.rest) (stock_same w b (ap (λ (y : Worker). y.log) B.rest) (ap (λ (y : Worker). y.allocator) B.rest) (ap (λ (y : Worker). y.leading) B.rest)));
}
