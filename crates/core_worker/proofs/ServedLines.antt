-- What beginning the waiting requests of a key does to its line.
use Rattle.std.proofs.Common.{◌≡◌, ◌≢◌, ◌⊎◌, inl, inr, ⊎_elim, ℕ, ◌==◌, ◌||◌, Bool, true, false, cond, List, [], ◌∷◌, ◌++◌, map, Option, Some, None, refl, sym, ◌∙◌, ap, subst, arith}
use Rattle.std.specs.Prelude.{option_to_list}
use Rattle.std.specs.List.{AllByRecursion, filter}
use Rattle.std.proofs.lemmas.Bool.{cases_eq, eq-eqb, ne_eqb}
use Rattle.fs_model.specs.declared.model.Request.{Request}
use Rattle.fs_model.specs.declared.model.Reply.{Reply}
use Rattle.fs_model.specs.declared.model.Reply.TheVariants as replies
use Rattle.fs_model.specs.Cells.{key_of, answer_to, is_change}
use Rattle.fs_model.specs.Lawful.{MayReply, IsLawfulFor, cell_left, cell_of, is_stopped}
use Rattle.store_image.specs.Facts.{In}
use Rattle.core_room.specs.declared.types.Shortage.{Shortage}
use Rattle.conflict_queue.specs.declared.types.Held.{Held}
use Rattle.conflict_queue.specs.Waiting.{waiting, TakesFirst}
use Rattle.core_index.specs.Index.{known_at}
use Rattle.core_index.specs.Records.{last_of}
use Rattle.group_laws.specs.MemberViews.{View}
use Rattle.core_worker.specs.declared.types.Place as places
use Rattle.core_worker.specs.declared.types.Place.TheVariants.{Free, Staged}
use Rattle.core_worker.specs.declared.worker.Worker.{Worker}
use Rattle.core_worker.specs.OwnPlaces.{place_at, key_in, is_busy, AreApart, Replaces}
use Rattle.core_worker.specs.Supplies.{supply_of, why}
use Rattle.core_worker.specs.Refusals.{reply_to}
use Rattle.core_worker.specs.Answering.{IsCause, IsSaid, AddsAnswers, ShowsCause}
use Rattle.core_worker.proofs.Given.{said_same, given_by, adds_none, adds_then, answer_untold}
use Rattle.core_worker.specs.Beginning.{answers_of, answer_with, OnlyBegins, IsAnswered, IsStaged, AnswersOrStages, BeginsBy, BeginsAs, Begins, BeginsAll, BeginsShort}
use Rattle.core_worker.specs.WorkerMoves.{Placed, Fixed, asked, replied, request_placed, placed_in, placed_for, asked_by, stock_of}
use Rattle.chunk_map.specs.declared.layouts.Geometry.{Geometry}
use Rattle.engine_laws.specs.FreeStock.{Stock, LacksRoom}
use Rattle.engine_laws.specs.RefusalCauses.{raised, HasCause, HaveCauses}
use Rattle.lazy_alloc.specs.Sets.{Sets, AreSets}
use Rattle.engine_laws.specs.RefusalCauses.{is_too_long}
use Rattle.engine_laws.proofs.Clients.{raised_low, causes_up, at_least_same}
use Rattle.core_worker.proofs.StockFacts.{Stages, stages_none, staged_stock, why_short}
use Rattle.core_worker.proofs.CauseFacts.{lacks_as_stock, stopped_causeless, answer_causeless, answer_not_full, why_cause, why_full, why_shows, stock_same}
use Rattle.core_worker.proofs.AcceptMoves.{not_stopped, left_by_refusal, may_refuse_for, still_left, still_runs}
use Rattle.core_worker.proofs.HandKeys.{none_for}
use Rattle.core_worker.proofs.HandPlaces.{held_at, held_beside}
use Rattle.core_worker.proofs.Pointers.{free_is}
use Rattle.core_worker.proofs.Posts.{busy_by}
use Rattle.core_worker.proofs.Waiters.{first_key}

-- after a stop all replies are Stopped, and so they would be lawful before
pub lawful_before : (c : Option (List ℕ)) (xs : List (Request × Reply)) → IsLawfulFor c true xs → IsLawfulFor c false xs
lawful_before c [] h = tt
lawful_before c (x ∷ xs) h =
    let is : x.1 ≡ replies.Stopped = h.0 in (
      subst (MayReply x.0 c false) (sym is) (inr refl),
      subst (λ b. IsLawfulFor (cell_left x.0 x.1 c) b xs) (sym (ap is_stopped is)) h.1,
    )

-- a request is begun: it is answered, or a core that runs stages it
pub record Answers (Known : Type 0) (w u : Worker) (cell : Option (List ℕ)) (n : ℕ) (r : Request) : Type 0 where
  pub reply : Reply
  pub given : Reply
  pub cause : Option Shortage
  pub said : IsSaid Known r reply given
  pub by_cause : IsCause reply cause
  pub shows : ShowsCause r cause
  pub is : IsAnswered w u (answer_with n given cause)
  pub may : MayReply r cell w.stopped reply
  pub left : cell_left r reply cell ≡ cell
  pub halts : w.stopped ≡ true → reply ≡ replies.Stopped
  pub halted : reply ≡ replies.Stopped → w.stopped ≡ true
  pub has_cause : HasCause w.layout (last_of (known_at w.index (key_of r))) r reply
  pub full : reply ≡ replies.Full → LacksRoom w.layout (stock_of w) r

module _ (Known : Type 0) (w u : Worker) (cell : Option (List ℕ)) (n : ℕ) (r : Request) where
  running : (a given : Reply) (why : Option Shortage) → w.stopped ≡ false → IsSaid Known r a given → IsCause a why → ShowsCause r why → IsAnswered w u (answer_with n given why) → MayReply r cell false a → cell_left r a cell ≡ cell → (a ≢ replies.Stopped) → HasCause w.layout (last_of (known_at w.index (key_of r))) r a → (a ≡ replies.Full → LacksRoom w.layout (stock_of w) r) → Answers Known w u cell n r
  running a given why runs said because shows is may left other has full = record {
    reply = a;
    given = given;
    said = said;
    by_cause = because;
    shows = shows;
    cause = why;
    is = is;
    may = subst (λ b. MayReply r cell b a) (sym runs) may;
    left = left;
    halts = λ stopped. absurd (let both : true ≡ false = sym stopped ∙ runs in cc both);
    halted = λ same. absurd (other same);
    has_cause = has;
    full = full;
  }

  goes_on : (c : Bool) → is_too_long w.layout r ≡ false → w.stopped ≡ false → is_change r cell ≡ c → AnswersOrStages Known c w u cell n r → Answers Known w u cell n r ⊎ ((w.stopped ≡ false) × IsStaged w u n r × (is_too_long w.layout r ≡ false))
  goes_on false short runs e is = inl (running (answer_to r cell) is.0 None runs is.1 (answer_untold r cell e) tt is.2 (inl refl) (still_left r cell e) (still_runs r cell) (answer_causeless w.layout (last_of (known_at w.index (key_of r))) r cell e) (λ full. absurd (answer_not_full r cell e full)))
  goes_on true short runs e is = inr (runs, is, short)

  by_cause : (o : Option Shortage) → w.stopped ≡ false → why w.layout (supply_of w) w.allocator (last_of (known_at w.index (key_of r))) cell r ≡ o → BeginsBy Known o w u cell n r → Answers Known w u cell n r ⊎ ((w.stopped ≡ false) × IsStaged w u n r × (is_too_long w.layout r ≡ false))
  by_cause None runs e is = goes_on (is_change r cell) (why_short w.layout (supply_of w) w.allocator (last_of (known_at w.index (key_of r))) cell r e) runs refl is
  by_cause (Some c) runs e is = inl (running (reply_to c) (reply_to c) (Some c) runs (said_same Known r (reply_to c)) refl (why_shows w.layout (supply_of w) w.allocator (last_of (known_at w.index (key_of r))) cell r c e) is (may_refuse_for w.layout (supply_of w) w.allocator (last_of (known_at w.index (key_of r))) cell r c e) (left_by_refusal r cell c) (not_stopped c) (why_cause w.layout (supply_of w) w.allocator (last_of (known_at w.index (key_of r))) cell r c e) (λ full. lacks_as_stock w.layout w r (why_full w.layout (supply_of w) w.allocator (last_of (known_at w.index (key_of r))) cell r c e full)))

  by_stop : (d : Bool) → w.stopped ≡ d → BeginsAs Known d w u cell n r → Answers Known w u cell n r ⊎ ((w.stopped ≡ false) × IsStaged w u n r × (is_too_long w.layout r ≡ false))
  by_stop true e is = inl (record { reply = replies.Stopped; given = replies.Stopped; cause = None; said = said_same Known r replies.Stopped; by_cause = refl; shows = tt; is = is; may = subst (λ b. MayReply r cell b replies.Stopped) (sym e) refl; left = refl; halts = λ s. refl; halted = λ s. e; has_cause = stopped_causeless w.layout (last_of (known_at w.index (key_of r))) r replies.Stopped refl; full = λ full. absurd (cc full) })
  by_stop false e is = by_cause (why w.layout (supply_of w) w.allocator (last_of (known_at w.index (key_of r))) cell r) e refl is

  pub begins_one : Begins Known w u cell n r → Answers Known w u cell n r ⊎ ((w.stopped ≡ false) × IsStaged w u n r × (is_too_long w.layout r ≡ false))
  begins_one is = by_stop w.stopped refl is

-- what is held of the key of a worker that has none in a place, and of the others
pub record Line (Known : Type 0) (v : View) (w x : Worker) (k : ℕ) (cell : Option (List ℕ)) (hs : List Held) (fs : List Fixed) : Type 0 where
  pub answers : AddsAnswers Known (answers_of w) (answers_of x) fs
  pub keys : (y : Fixed) → In y fs → key_of y.request ≡ k
  pub line : map asked_by hs ≡ map asked fs ++ (request_placed (placed_for v x.places.items k) ++ map asked_by (filter (λ h. key_of h.request == k) (option_to_list x.in_hand) ++ waiting x.queue k))
  pub lawful : IsLawfulFor cell w.stopped (map replied fs)
  pub cell_now : cell_of cell (map replied fs) ≡ cell
  pub halts : w.stopped ≡ true → AllByRecursion (λ y. y.reply ≡ replies.Stopped) fs × (placed_for v x.places.items k ≡ None)
  pub halted : (y : Fixed) → In y fs → y.reply ≡ replies.Stopped → (x.stopped ≡ true) × (placed_for v x.places.items k ≡ None)
  pub stopped : x.stopped ≡ w.stopped
  pub causes : HaveCauses w.layout (last_of (known_at w.index k)) (map replied fs)
  pub full : AllByRecursion (λ (y : Request × Reply). y.1 ≡ replies.Full → LacksRoom w.layout (stock_of w) y.0) (map replied fs)
  -- the change that was begun, and what it took
  pub begun : Option (ℕ × Request)
  pub begins : (y : ℕ × Request) → begun ≡ Some y → (key_of y.1 ≡ k) × In y (map asked_by hs) × (placed_for v x.places.items k ≡ Some (record { number = y.0; request = y.1; posted = false }))
  pub stages : (l : Geometry) → w.layout ≡ l → w.allocator.layout ≡ l → AreSets w.allocator → AreSets x.allocator → Stages l (stock_of w) (stock_of x) begun
  pub other_places : (j : ℕ) → j ≢ k → placed_for v x.places.items j ≡ placed_for v w.places.items j
  pub other_waits : (j : ℕ) → j ≢ k → filter (λ h. key_of h.request == j) (option_to_list x.in_hand) ++ waiting x.queue j ≡ filter (λ h. key_of h.request == j) (option_to_list w.in_hand) ++ waiting w.queue j

stop_same : (b : Bool) (a : Reply) → (a ≡ replies.Stopped → b ≡ true) → (b || is_stopped a) ≡ b
stop_same true a only = refl
stop_same false a only = by (is_stopped a) refl where
  stopped_is : (r : Reply) → is_stopped r ≡ true → r ≡ replies.Stopped
  stopped_is replies.Stored e = absurd (cc e)
  stopped_is (replies.Value v) e = absurd (cc e)
  stopped_is replies.Absent e = absurd (cc e)
  stopped_is replies.Deleted e = absurd (cc e)
  stopped_is replies.Full e = absurd (cc e)
  stopped_is replies.VersionsSpent e = absurd (cc e)
  stopped_is replies.TooLong e = absurd (cc e)
  stopped_is replies.Stopped e = refl

  by : (c : Bool) → is_stopped a ≡ c → is_stopped a ≡ false
  by false e = e
  by true e = absurd (let both : false ≡ true = only (stopped_is a e) in cc both)

-- a change that is staged for an idle key stands alone
apart_staged : (old new : List places.Place) (slot k : ℕ) (x : places.Place) → Replaces old new slot x → AreApart old → key_in x ≡ Some k → is_busy old k ≡ false → AreApart new
apart_staged old new slot k x R apart key idle = λ s t j a b. ⊎_elim
    (λ sa. ⊎_elim (λ ta. sa ∙ sym ta)
    (λ tn. absurd (clash t j tn b (sym (at s j sa a)))) (cases_eq t slot))
    (λ sn. ⊎_elim (λ ta. absurd (clash s j sn a (sym (at t j ta b))))
    (λ tn. apart s t j (ap key_in (sym (R.others s sn)) ∙ a) (ap key_in (sym (R.others t tn)) ∙ b)) (cases_eq t slot))
    (cases_eq s slot)
  where
    at : (s j : ℕ) → s ≡ slot → key_in (place_at new s) ≡ Some j → k ≡ j
    at s j same is = let both : Some k ≡ Some j = sym key ∙ ap key_in (sym R.here) ∙ ap (λ n. key_in (place_at new n)) (sym same) ∙ is in cc both

    clash : (t j : ℕ) → t ≢ slot → key_in (place_at new t) ≡ Some j → j ≡ k → ⊥
    clash t j ne is same = let both : true ≡ false = sym (busy_by old k t (ap key_in (sym (R.others t ne)) ∙ is ∙ ap Some same)) ∙ idle in cc both

hand_none : (o : Option Held) (k : ℕ) (hs : List Held) → o ≡ None → filter (λ h. key_of h.request == k) (option_to_list o) ++ hs ≡ hs
hand_none o k hs e = ap (λ (y : Option Held). filter (λ h. key_of h.request == k) (option_to_list y) ++ hs) e

abbrev next_of : Worker → List Held → Worker
next_of w q = record w { queue = q }

module _ (Known : Type 0) (v : View) (k : ℕ) (cell : Option (List ℕ)) where
  -- none waits
  line_none : (w x : Worker) → x ≡ w → w.in_hand ≡ None → is_busy w.places.items k ≡ false → waiting w.queue k ≡ [] → Line Known v w x k cell [] []
  line_none w x same hand idle none = record {
    answers = adds_none Known (answers_of w) (answers_of x) (ap (λ (y : Worker). answers_of y) same);
    keys = λ y i. absurd i;
    line = sym (ap (λ (y : Worker). request_placed (placed_for v y.places.items k) ++ map asked_by (filter (λ h. key_of h.request == k) (option_to_list y.in_hand) ++ waiting y.queue k)) same
        ∙ (λ i. request_placed (none_for v k w.places.items idle i) ++ map asked_by (hand_none w.in_hand k (waiting w.queue k) hand i)) ∙ ap (map asked_by) none);
    lawful = tt;
    cell_now = refl;
    halts = λ stopped. (tt, ap (λ (y : Worker). placed_for v y.places.items k) same ∙ none_for v k w.places.items idle);
    halted = λ y i. absurd i;
    stopped = ap (λ (y : Worker). y.stopped) same;
    causes = tt;
    full = tt;
    begun = None;
    begins = λ y is. absurd (cc is);
    stages = λ l a b c d. subst (λ (t : Stock). Stages l (stock_of w) t None) (sym (ap (λ (y : Worker). stock_of y) same)) (stages_none l (stock_of w) (stock_of w) None (at_least_same (stock_of w)));
    other_places = λ j ne. ap (λ (y : Worker). placed_for v y.places.items j) same;
    other_waits = λ j ne. ap (λ (y : Worker). filter (λ h. key_of h.request == j) (option_to_list y.in_hand) ++ waiting y.queue j) same;
  }

  module _ (w next mid x : Worker) (h : Held) (hs : List Held) (T : TakesFirst w.queue next.queue k h) (same : next ≡ record w { queue = next.queue }) (only : OnlyBegins next mid) where
    stopped_next : mid.stopped ≡ w.stopped
    stopped_next = ap (λ (y : Worker). y.stopped) only ∙ ap (λ (y : Worker). y.stopped) same

    queue_mid : mid.queue ≡ next.queue
    queue_mid = ap (λ (y : Worker). y.queue) only

    waits_mid : (j : ℕ) → j ≢ k → waiting mid.queue j ≡ waiting w.queue j
    waits_mid j ne = ap (λ (q : List Held). waiting q j) queue_mid ∙ T.others j ne

    hand_mid : mid.in_hand ≡ w.in_hand
    hand_mid = ap (λ (y : Worker). y.in_hand) only ∙ ap (λ (y : Worker). y.in_hand) same

    rest_is : waiting w.queue k ≡ h ∷ hs → waiting mid.queue k ≡ hs
    rest_is e = ap (λ (q : List Held). waiting q k) queue_mid ∙ (let both : h ∷ waiting next.queue k ≡ h ∷ hs = sym T.key ∙ e in ap rest_of both) where
      rest_of : List Held → List Held
      rest_of [] = []
      rest_of (y ∷ ys) = ys

    -- one is answered, and then the others
    line_answered : (fs : List Fixed) → (A : Answers Known next mid cell h.number h.request) → Line Known v mid x k cell hs fs → Line Known v w x k cell (h ∷ hs) (record { number = h.number; request = h.request; reply = A.reply; refusal = A.cause } ∷ fs)
    line_answered fs A L = record {
      answers = adds_then Known (answers_of w) (answers_of mid) (answers_of x) (record { number = h.number; request = h.request; reply = A.reply; refusal = A.cause }) (answer_with h.number A.given A.cause) fs (A.is.answers ∙ ap (λ (y : Worker). answers_of y ++ answer_with h.number A.given A.cause ∷ []) same) (given_by Known h.number h.request A.reply A.given A.cause A.said A.by_cause A.shows) L.answers;
      keys = λ y i. ⊎_elim (λ at. ap (λ (z : Fixed). key_of z.request) at ∙ first_key w.queue next.queue k h T) (λ more. L.keys y more) i;
      line = ap (λ (xs : List (ℕ × Request)). (h.number, h.request) ∷ xs) L.line;
      lawful = (
        subst (λ b. MayReply h.request cell b A.reply) next_stops A.may,
        subst (λ (c : Option (List ℕ)). IsLawfulFor c (w.stopped || is_stopped A.reply) (map replied fs)) (sym A.left) (subst (λ b. IsLawfulFor cell b (map replied fs)) (stopped_next ∙ sym (stop_same w.stopped A.reply (λ e. sym next_stops ∙ A.halted e))) L.lawful),
      );
      cell_now = ap (λ (c : Option (List ℕ)). cell_of c (map replied fs)) A.left ∙ L.cell_now;
      halts = λ stopped. let r = L.halts (stopped_next ∙ stopped) in ((A.halts (next_stops ∙ stopped), r.0), r.1);
      halted = λ y i e. ⊎_elim
          (λ at. let s = sym next_stops ∙ A.halted (ap (λ (z : Fixed). z.reply) (sym at) ∙ e) in (L.stopped ∙ stopped_next ∙ s, (L.halts (stopped_next ∙ s)).1))
          (λ more. L.halted y more e) i;
      stopped = L.stopped ∙ stopped_next;
      causes = (
        subst (λ (l : Geometry). HasCause l (last_of (known_at w.index k)) h.request A.reply) layout_next (subst (λ (i : ℕ). HasCause next.layout i h.request A.reply) last_next A.has_cause),
        subst (λ (l : Geometry). HaveCauses l (raised (last_of (known_at w.index k)) A.reply) (map replied fs)) (A.is.same.layout ∙ layout_next)
            (causes_up mid.layout (last_of (known_at mid.index k)) (raised (last_of (known_at w.index k)) A.reply) (map replied fs) (let low = raised_low A.reply (last_of (known_at w.index k)) in let at = last_mid in omega (arith, low, at)) L.causes),
      );
      begun = L.begun;
      begins = λ y is. (let b = L.begins y is in (b.0, inr b.1, b.2));
      stages = λ l layout sets_layout sets after.
          subst (λ (t : Stock). Stages l t (stock_of x) L.begun) stock_mid
          (L.stages l (A.is.same.layout ∙ layout_next ∙ layout) (ap (λ (a : Sets). a.layout) (A.is.allocator ∙ allocator_next) ∙ sets_layout) (subst AreSets (sym (A.is.allocator ∙ allocator_next)) sets) after);
      full = (
        λ is. subst (λ (t : Stock). LacksRoom w.layout t h.request) stock_next (subst (λ (l : Geometry). LacksRoom l (stock_of next) h.request) layout_next (A.full is)),
        subst (λ (t : Stock). AllByRecursion (λ (y : Request × Reply). y.1 ≡ replies.Full → LacksRoom w.layout t y.0) (map replied fs)) stock_mid
            (subst (λ (l : Geometry). AllByRecursion (λ (y : Request × Reply). y.1 ≡ replies.Full → LacksRoom l (stock_of mid) y.0) (map replied fs)) (A.is.same.layout ∙ layout_next) L.full),
      );
      other_places = λ j ne. L.other_places j ne ∙ ap (λ (ps : List places.Place). placed_for v ps j) (A.is.places ∙ ap (λ (y : Worker). y.places.items) same);
      other_waits = λ j ne. L.other_waits j ne ∙ (λ i. filter (λ h. key_of h.request == j) (option_to_list (hand_mid i)) ++ waits_mid j ne i);
    } where
      next_stops : next.stopped ≡ w.stopped
      next_stops = ap (λ (y : Worker). y.stopped) same

      layout_next : next.layout ≡ w.layout
      layout_next = ap (λ (y : Worker). y.layout) same

      stock_next : stock_of next ≡ stock_of w
      stock_next = stock_same w next (ap (λ (y : Worker). y.log) same) (ap (λ (y : Worker). y.allocator) same) (ap (λ (y : Worker). y.leading) same)

      allocator_next : next.allocator ≡ w.allocator
      allocator_next = ap (λ (y : Worker). y.allocator) same

      stock_mid : stock_of mid ≡ stock_of w
      stock_mid = stock_same next mid A.is.same.log A.is.allocator A.is.same.leading ∙ stock_next

      last_next : last_of (known_at next.index (key_of h.request)) ≡ last_of (known_at w.index k)
      last_next = ap (λ (y : Worker). last_of (known_at y.index (key_of h.request))) same ∙ ap (λ j. last_of (known_at w.index j)) (first_key w.queue next.queue k h T)

      last_mid : last_of (known_at mid.index k) ≡ last_of (known_at w.index k)
      last_mid = ap last_of (A.is.records k) ∙ ap (λ (y : Worker). last_of (known_at y.index k)) same

    -- one is staged
    line_staged : (S : IsStaged next mid h.number h.request) → is_too_long next.layout h.request ≡ false → next.stopped ≡ false → x ≡ mid → w.in_hand ≡ None → is_busy w.places.items k ≡ false → AreApart w.places.items → waiting w.queue k ≡ h ∷ hs → Line Known v w x k cell (h ∷ hs) []
    line_staged S short runs is hand idle apart waits = record {
      answers = adds_none Known (answers_of w) (answers_of x) (ap (λ (y : Worker). answers_of y) is ∙ S.answers ∙ ap (λ (y : Worker). answers_of y) same);
      keys = λ y i. absurd i;
      line = sym (ap (λ (y : Worker). request_placed (placed_for v y.places.items k) ++ map asked_by (filter (λ h. key_of h.request == k) (option_to_list y.in_hand) ++ waiting y.queue k)) is
          ∙ (λ i. request_placed (has i) ++ map asked_by (hand_none mid.in_hand k (waiting mid.queue k) (hand_mid ∙ hand) i)) ∙ ap (λ (ys : List Held). (h.number, h.request) ∷ map asked_by ys) (rest_is waits));
      lawful = tt;
      cell_now = refl;
      halts = λ stopped. absurd (let both : true ≡ false = sym stopped ∙ sym (ap (λ (y : Worker). y.stopped) same) ∙ runs in cc both);
      halted = λ y i. absurd i;
      stopped = ap (λ (y : Worker). y.stopped) is ∙ stopped_next;
      causes = tt;
      full = tt;
      begun = Some (h.number, h.request);
      begins = λ y at. subst (λ (z : ℕ × Request). (key_of z.1 ≡ k) × In z (map asked_by (h ∷ hs)) × (placed_for v x.places.items k ≡ Some (record { number = z.0; request = z.1; posted = false }))) (let same_y : (h.number, h.request) ≡ y = cc at in same_y)
          (first_key w.queue next.queue k h T, inl refl, ap (λ (y : Worker). placed_for v y.places.items k) is ∙ has);
      stages = λ l layout sets_layout sets after.
          subst (λ (t : Stock). Stages l t (stock_of x) (Some (h.number, h.request))) stock_next
          (subst (λ (y : Worker). Stages l (stock_of next) (stock_of y) (Some (h.number, h.request))) (sym is)
          (staged_stock l next mid h.number h.request S (subst AreSets (sym allocator_next) sets) (subst (λ (y : Worker). AreSets y.allocator) is after) (ap (λ (a : Sets). a.layout) allocator_next ∙ sets_layout) (subst (λ (m : Geometry). is_too_long m h.request ≡ false) (ap (λ (y : Worker). y.layout) same ∙ layout) short)));
      other_places = λ j ne. ap (λ (y : Worker). placed_for v y.places.items j) is ∙ held_beside v v w.places.items mid.places.items S.slot (Staged h.number S.entry S.value) here apart apart_now j
          (λ e. (let both : None ≡ Some j = sym (ap key_in was) ∙ e in cc both)) (λ e. ne (let both : Some S.entry.key ≡ Some j = e in let at : S.entry.key ≡ j = cc both in sym at ∙ key)) (λ t low e. refl);
      other_waits = λ j ne. ap (λ (y : Worker). filter (λ h. key_of h.request == j) (option_to_list y.in_hand) ++ waiting y.queue j) is ∙ (λ i. filter (λ h. key_of h.request == j) (option_to_list (hand_mid i)) ++ waits_mid j ne i);
    } where
      stock_next : stock_of next ≡ stock_of w
      stock_next = stock_same w next (ap (λ (y : Worker). y.log) same) (ap (λ (y : Worker). y.allocator) same) (ap (λ (y : Worker). y.leading) same)

      allocator_next : next.allocator ≡ w.allocator
      allocator_next = ap (λ (y : Worker). y.allocator) same

      key : S.entry.key ≡ k
      key = S.key ∙ first_key w.queue next.queue k h T

      here : Replaces w.places.items mid.places.items S.slot (Staged h.number S.entry S.value)
      here = subst (λ (y : Worker). Replaces y.places.items mid.places.items S.slot (Staged h.number S.entry S.value)) same S.placed

      was : place_at w.places.items S.slot ≡ Free
      was = ap (λ (y : Worker). place_at y.places.items S.slot) (sym same) ∙ free_is (place_at next.places.items S.slot) S.lowest.0

      apart_now : AreApart mid.places.items
      apart_now = apart_staged w.places.items mid.places.items S.slot k (Staged h.number S.entry S.value) here apart (ap Some key) idle

      has : placed_for v mid.places.items k ≡ Some (record { number = h.number; request = h.request; posted = false })
      has = held_at v mid.places.items S.slot k apart_now (ap key_in here.here ∙ ap Some key) ∙ ap (placed_in v) here.here ∙ ap (λ q. Some (record { number = h.number; request = q; posted = false })) S.asks

    staged_then : IsStaged next mid h.number h.request → is_busy mid.places.items k ≡ true
    staged_then S = busy_by mid.places.items k S.slot (ap key_in S.placed.here ∙ ap Some (S.key ∙ first_key w.queue next.queue k h T))

    answered_then : (A : Answers Known next mid cell h.number h.request) → is_busy w.places.items k ≡ false → is_busy mid.places.items k ≡ false
    answered_then A idle = ap (λ (ps : List places.Place). is_busy ps k) (A.is.places ∙ ap (λ (y : Worker). y.places.items) same) ∙ idle

    apart_then : (A : Answers Known next mid cell h.number h.request) → AreApart w.places.items → AreApart mid.places.items
    apart_then A apart = subst AreApart (sym (A.is.places ∙ ap (λ (y : Worker). y.places.items) same)) apart

  pub lines_all : (hs : List Held) (w x : Worker) → BeginsAll Known hs w x cell k → w.in_hand ≡ None → is_busy w.places.items k ≡ false → AreApart w.places.items → waiting w.queue k ≡ hs → (fs : List Fixed) × Line Known v w x k cell hs fs
  lines_all [] w x begins hand idle apart waits = ([], line_none w x begins hand idle waits)
  lines_all (h ∷ hs) w x begins hand idle apart waits =
      let next = begins.0 in
      let mid = begins.1 in
      let T = begins.2 in
      let same = begins.3 in
      let only = begins.4 in
      ⊎_elim
      (λ A. ⊎_elim
      (λ over. absurd (let both : true ≡ false = sym over.0 ∙ answered_then w next mid x h hs T same only A idle in cc both))
      (λ more. let L = lines_all hs mid x more.1 (hand_mid w next mid x h hs T same only ∙ hand) (answered_then w next mid x h hs T same only A idle) (apart_then w next mid x h hs T same only A apart) (rest_is w next mid x h hs T same only waits) in
      (record { number = h.number; request = h.request; reply = A.reply; refusal = A.cause } ∷ L.0, line_answered w next mid x h hs T same only L.0 A L.1))
      begins.7)
      (λ S. ⊎_elim
      (λ over. ([], line_staged w next mid x h hs T same only S.1 S.2 S.0 over.1 hand idle apart waits))
      (λ more. absurd (let both : true ≡ false = sym (staged_then w next mid x h hs T same only S.1) ∙ more.0 in cc both))
      begins.7)
      (begins_one Known next mid cell h.number h.request begins.5)

  -- for one there was no memory, and it is in hand
  line_short : (w next x : Worker) (h : Held) (hs : List Held) → TakesFirst w.queue next.queue k h → next ≡ record w { queue = next.queue } → x ≡ record next { in_hand = Some h; winds_down = true } → w.in_hand ≡ None → is_busy w.places.items k ≡ false → waiting w.queue k ≡ h ∷ hs → Line Known v w x k cell (h ∷ hs) []
  line_short w next x h hs T same is hand idle waits = record {
    answers = adds_none Known (answers_of w) (answers_of x) (ap (λ (y : Worker). answers_of y) whole);
    keys = λ y i. absurd i;
    line = ap (map asked_by) (sym waits ∙ T.key) ∙ sym (ap (λ (y : Worker). request_placed (placed_for v y.places.items k) ++ map asked_by (filter (λ h. key_of h.request == k) (option_to_list y.in_hand) ++ waiting y.queue k)) is
        ∙ (λ i. request_placed (none i) ++ map asked_by (cond (eq-eqb (key_of h.request) k (first_key w.queue next.queue k h T) i) (h ∷ []) [] ++ waiting next.queue k)));
    lawful = tt;
    cell_now = refl;
    halts = λ stopped. (tt, ap (λ (y : Worker). placed_for v y.places.items k) is ∙ none);
    halted = λ y i. absurd i;
    stopped = ap (λ (y : Worker). y.stopped) is ∙ ap (λ (y : Worker). y.stopped) same;
    causes = tt;
    full = tt;
    begun = None;
    begins = λ y is. absurd (cc is);
    stages = λ l a b c d. subst (λ (t : Stock). Stages l (stock_of w) t None) (sym (ap (λ (y : Worker). stock_of y) whole)) (stages_none l (stock_of w) (stock_of w) None (at_least_same (stock_of w)));
    other_places = λ j ne. ap (λ (y : Worker). placed_for v y.places.items j) is ∙ ap (λ (y : Worker). placed_for v y.places.items j) same;
    other_waits = λ j ne. ap (λ (y : Worker). filter (λ h. key_of h.request == j) (option_to_list y.in_hand) ++ waiting y.queue j) is
        ∙ (λ i. cond (ne_eqb (key_of h.request) j (λ e. ne (sym e ∙ first_key w.queue next.queue k h T)) i) (h ∷ []) [] ++ waiting next.queue j) ∙ T.others j ne ∙ sym (hand_none w.in_hand j (waiting w.queue j) hand);
  } where
    whole : x ≡ record w { queue = next.queue; in_hand = Some h; winds_down = true }
    whole = is ∙ ap (λ (y : Worker). record y { in_hand = Some h; winds_down = true }) same

    none : placed_for v next.places.items k ≡ None
    none = ap (λ (y : Worker). placed_for v y.places.items k) same ∙ none_for v k w.places.items idle

  pub lines_short : (hs : List Held) (w x : Worker) → BeginsShort Known hs w x cell k → w.in_hand ≡ None → is_busy w.places.items k ≡ false → AreApart w.places.items → waiting w.queue k ≡ hs → (fs : List Fixed) × Line Known v w x k cell hs fs
  lines_short [] w x begins hand idle apart waits = absurd begins
  lines_short (h ∷ hs) w x begins hand idle apart waits =
      let next = begins.0 in
      let T = begins.1 in
      let same = begins.2 in
      ⊎_elim
      (λ is. ([], line_short w next x h hs T same is hand idle waits))
      (λ more.
      let mid = more.0 in
      let only = more.1 in
      ⊎_elim
      (λ A. let L = lines_short hs mid x more.5 (hand_mid w next mid x h hs T same only ∙ hand) (answered_then w next mid x h hs T same only A idle) (apart_then w next mid x h hs T same only A apart) (rest_is w next mid x h hs T same only waits) in
      (record { number = h.number; request = h.request; reply = A.reply; refusal = A.cause } ∷ L.0, line_answered w next mid x h hs T same only L.0 A L.1))
      (λ S. absurd (let both : true ≡ false = sym (staged_then w next mid x h hs T same only S.1) ∙ more.4 in cc both))
      (begins_one Known next mid cell h.number h.request more.2))
      begins.3

  -- a core that winds down begins none
  pub line_kept : (w : Worker) → is_busy w.places.items k ≡ false → Line Known v w w k cell (filter (λ h. key_of h.request == k) (option_to_list w.in_hand) ++ waiting w.queue k) []
  line_kept w idle = record {
    answers = adds_none Known (answers_of w) (answers_of w) refl;
    keys = λ y i. absurd i;
    line = sym (ap (λ (o : Option Placed). request_placed o ++ map asked_by (filter (λ h. key_of h.request == k) (option_to_list w.in_hand) ++ waiting w.queue k)) (none_for v k w.places.items idle));
    lawful = tt;
    cell_now = refl;
    halts = λ stopped. (tt, none_for v k w.places.items idle);
    halted = λ y i. absurd i;
    stopped = refl;
    causes = tt;
    full = tt;
    begun = None;
    begins = λ y is. absurd (cc is);
    stages = λ l a b c d. subst (λ (t : Stock). Stages l (stock_of w) t None) (sym (λ i. stock_of w)) (stages_none l (stock_of w) (stock_of w) None (at_least_same (stock_of w)));
    other_places = λ j ne. refl;
    other_waits = λ j ne. refl;
  }
