-- What is shown after a request was given.
use Rattle.std.proofs.Common.{◌≡◌, ◌≢◌, ◌⊎◌, inl, inr, ℕ, zero, suc, ◌+◌, ◌<◌, ◌≤◌, List, [], ◌∷◌, ◌++◌, length, Bool, cond, Option, Some, None, slice_set, slice_index_or, refl, sym, ◌∙◌, ap, subst, arith}
use Rattle.std.specs.List.{slice_get}
use Rattle.std.proofs.lemmas.Bool.{cases_eq, eq-eqb, ne_eqb, cases_lt}
use Rattle.fs_model.specs.declared.model.Request.{Request}
use Rattle.fs_model.specs.Cells.{key_of}
use Rattle.pm_region.specs.State.{State, IsTelling}
use Rattle.chunk_map.specs.declared.layouts.Geometry.{Geometry}
use Rattle.chunk_map.specs.Layouts.{owner, IsLayout}
use Rattle.group_laws.specs.Places.{Place}
use Rattle.group_laws.specs.Places as places
use Rattle.group_laws.specs.State.{Group}
use Rattle.group_laws.specs.MemberViews.{View}
use Rattle.group_laws.specs.Regions.{place_at}
use Rattle.group_board.specs.declared.local_board.LocalBoard.{LocalBoard}
use Rattle.engine_laws.specs.Parts.{group_of, member_of}
use Rattle.engine_laws.specs.WorkerMoves.{Hands}
use Rattle.engine_laws.specs.Engine.{Engine}
use Rattle.engine_laws.specs.Stands.{Origin, Stands, given_to}
use Rattle.engine_laws.proofs.Clients.{of_member, gives}
use Rattle.core_worker.specs.declared.types.Answer.{Answer}
use Rattle.engine_core.specs.declared.types.Stamped.{Stamped}
use Rattle.engine_core.specs.Answers.{ShowsAnswer, kept_at}
use Rattle.engine_core.specs.Calls.{AreOwn}
use Rattle.engine_core.specs.Seated.{Seat}
use Rattle.group_engine.specs.Shows.{Shows}
use Rattle.engine_core.proofs.Clients.{get_there, set_length, set_same, set_other, one_more}
use Rattle.group_engine.proofs.Moving.{layout_of_stands}

kept_more : (ys : List (Option Stamped)) (n : ℕ) → kept_at (ys ++ None ∷ []) n ≡ kept_at ys n
kept_more [] zero = refl
kept_more [] (suc n) = refl
kept_more (y ∷ ys) zero = refl
kept_more (y ∷ ys) (suc n) = kept_more ys n

get_front : {X : Type 0} (xs : List X) (x : X) (n : ℕ) → n < length xs → slice_get (xs ++ x ∷ []) n ≡ slice_get xs n
get_front [] x n low = absurd (omega (arith, low))
get_front (y ∷ ys) x zero low = refl
get_front (y ∷ ys) x (suc n) low = get_front ys x n (omega (arith, low))

-- of a number past the end nothing is kept, so whatever is asked there
shows_none : (K : Type 0) (q r : Option Request) (x : Option Stamped) → ShowsAnswer K q None x → ShowsAnswer K r None x
shows_none K q r None h = tt
shows_none K q r (Some x) h = h

own_more : (p : Place) (m : ℕ) (xs : List (ℕ × Request)) (x : ℕ × Request) → places.owner p (key_of x.1) ≡ m → AreOwn p m xs → AreOwn p m (xs ++ x ∷ [])
own_more p m [] x is h = (is, tt)
own_more p m (y ∷ ys) x is h = (h.0, own_more p m ys x is h.1)

module _ {W Q : Type 0} (hands : View → W → Hands) (answers : W → List Answer) (stands : Place → ℕ → State → View → W → Type 0) (fair : Group → ℕ → W → Type 0) (room leads : W → Bool) (queue : Q → List (ℕ × Request))
    (o : Origin) (e : Engine) (S : Stands o e) (s : State) (l : Geometry) (ws : List W) (bs : List LocalBoard) (qs : List Q) (ks : List (Option Stamped)) (H : Shows hands answers stands fair room leads queue s l ws bs qs ks e) where
  pub layout_is : IsLayout l
  layout_is = subst IsLayout H.layout (layout_of_stands o e S)

  module _ (r : Request) (q0 q1 : Q) (number : ℕ) (low : owner l (key_of r) < length qs) (number_is : number ≡ length ks) (q_is : q0 ≡ slice_index_or qs (owner l (key_of r)) q0) (back : queue q1 ≡ queue q0 ++ (number, r) ∷ []) where
    abbrev c : ℕ
    c = owner l (key_of r)

    own_e : owner e.layout (key_of r) ≡ c
    own_e = ap (λ (n : Geometry). owner n (key_of r)) H.layout

    seat_on : (d : ℕ) (w : W) → Seat hands answers stands fair room leads e d w → Seat hands answers stands fair room leads (given_to e r) d w
    seat_on d w Y = record {
      view = Y.view;
      sits = record { view = Y.sits.view; place = Y.sits.place; waits = Y.sits.waits; stopped = Y.sits.stopped; stock = Y.sits.stock };
      tied = Y.tied;
      fairly = Y.fairly;
      takes = Y.takes;
      given = Y.given;
    }

    queue_now : e.backlog c ++ (length e.given, r) ∷ [] ≡ queue q1
    queue_now =
        let was : e.backlog c ≡ queue q0 = H.waits c q0 (get_there qs c q0 low ∙ ap Some (sym q_is)) in
        let n : length e.given ≡ number = sym H.count ∙ sym number_is in
        (λ i. was i ++ (n i, r) ∷ []) ∙ sym back

    changed : (d : ℕ) → d ≡ c → (given_to e r).backlog d ≡ e.backlog d ++ (length e.given, r) ∷ []
    changed d is = ap (λ b. cond b (e.backlog d ++ (length e.given, r) ∷ []) (e.backlog d)) (eq-eqb d (owner e.layout (key_of r)) (is ∙ sym own_e))

    same : (d : ℕ) → d ≢ c → (given_to e r).backlog d ≡ e.backlog d
    same d ne = ap (λ b. cond b (e.backlog d ++ (length e.given, r) ∷ []) (e.backlog d)) (ne_eqb d (owner e.layout (key_of r)) (λ q. ne (q ∙ own_e)))

    wait : (d : ℕ) (z : Q) → slice_get (slice_set qs c q1) d ≡ Some z → (d ≡ c) ⊎ (d ≢ c) → (given_to e r).backlog d ≡ queue z
    wait d z at (inl is) =
        let z_is : z ≡ q1 = set_same qs c q1 z (sym (ap (λ n. slice_get (slice_set qs c q1) n) is) ∙ at) in
        changed d is ∙ ap (λ n. e.backlog n ++ (length e.given, r) ∷ []) is ∙ queue_now ∙ ap queue (sym z_is)
    wait d z at (inr ne) = same d ne ∙ H.waits d z (sym (set_other qs c d q1 ne) ∙ at)

    keep : (d : ℕ) → d < l.cores → (d ≡ c) ⊎ (d ≢ c) → AreOwn (place_at l (group_of l d)) (member_of l d) ((given_to e r).backlog d)
    keep d small (inl is) = subst (AreOwn (place_at l (group_of l d)) (member_of l d)) (sym (changed d is)) (own_more (place_at l (group_of l d)) (member_of l d) (e.backlog d) (length e.given, r) (of_member l layout_is d (key_of r) (sym is)) (H.own d small))
    keep d small (inr ne) = subst (AreOwn (place_at l (group_of l d)) (member_of l d)) (sym (same d ne)) (H.own d small)

    answer_on : (n : ℕ) → ShowsAnswer (IsTelling s) (slice_get (e.given ++ r ∷ []) n) (e.answer n) (kept_at (ks ++ None ∷ []) n)
    answer_on n = subst (λ x. ShowsAnswer (IsTelling s) (slice_get (e.given ++ r ∷ []) n) (e.answer n) x) (sym (kept_more ks n)) (by (cases_lt n (length e.given))) where
      by : (n < length e.given) ⊎ (length e.given ≤ n) → ShowsAnswer (IsTelling s) (slice_get (e.given ++ r ∷ []) n) (e.answer n) (kept_at ks n)
      by (inl lt) = subst (λ q. ShowsAnswer (IsTelling s) q (e.answer n) (kept_at ks n)) (sym (get_front e.given r n lt)) (H.answered n)
      by (inr ge) =
          let none : e.answer n ≡ None = S.unasked n ge in
          subst (λ a. ShowsAnswer (IsTelling s) (slice_get (e.given ++ r ∷ []) n) a (kept_at ks n)) (sym none) (shows_none (IsTelling s) (slice_get e.given n) (slice_get (e.given ++ r ∷ []) n) (kept_at ks n) (subst (λ a. ShowsAnswer (IsTelling s) (slice_get e.given n) a (kept_at ks n)) none (H.answered n)))

    gave : Shows hands answers stands fair room leads queue s l ws bs (slice_set qs c q1) (ks ++ None ∷ []) (given_to e r)
    gave = record {
      layout = H.layout;
      region = H.region;
      worker_count = H.worker_count;
      board_count = H.board_count;
      backlog_count = set_length qs c q1 ∙ H.backlog_count;
      seats = λ d w at. seat_on d w (H.seats d w at);
      groups = H.groups;
      waits = λ d z at. wait d z at (cases_eq d c);
      own = λ d small. keep d small (cases_eq d c);
      count = one_more ks None ∙ ap (λ n. n + 1) H.count ∙ sym (one_more e.given r);
      answered = answer_on;
    }

  pub gave_at : (r : Request) (q0 q1 : Q) (number at : ℕ) → at ≡ owner l (key_of r) → at < length qs → number ≡ length ks → q0 ≡ slice_index_or qs at q0 → queue q1 ≡ queue q0 ++ (number, r) ∷ [] → (ks1 : List (Option Stamped)) → ks1 ≡ ks ++ None ∷ []
      → (o : Origin) × Stands o (given_to e r) × Shows hands answers stands fair room leads queue s l ws bs (slice_set qs at q1) ks1 (given_to e r)
  gave_at r q0 q1 number at at_is low number_is q_is back ks1 ks_is = (
    o,
    gives o e r S,
    subst (λ us. Shows hands answers stands fair room leads queue s l ws bs (slice_set qs at q1) us (given_to e r)) (sym ks_is)
        (subst (λ n. Shows hands answers stands fair room leads queue s l ws bs (slice_set qs n q1) (ks ++ None ∷ []) (given_to e r)) (sym at_is)
        (gave r q0 q1 number (subst (λ n. n < length qs) at_is low) number_is (subst (λ n. q0 ≡ slice_index_or qs n q0) at_is q_is) back)),
  )

  -- and where it could not be given
  pub still_at : (q0 q1 : Q) (at : ℕ) → q0 ≡ slice_index_or qs at q0 → queue q1 ≡ queue q0 → at < length qs → Shows hands answers stands fair room leads queue s l ws bs (slice_set qs at q1) ks e
  still_at q0 q1 at q_is same low = record {
    layout = H.layout;
    region = H.region;
    worker_count = H.worker_count;
    board_count = H.board_count;
    backlog_count = set_length qs at q1 ∙ H.backlog_count;
    seats = H.seats;
    groups = H.groups;
    waits = λ d z here. wait d z here (cases_eq d at);
    own = H.own;
    count = H.count;
    answered = H.answered;
  } where
    wait : (d : ℕ) (z : Q) → slice_get (slice_set qs at q1) d ≡ Some z → (d ≡ at) ⊎ (d ≢ at) → e.backlog d ≡ queue z
    wait d z here (inl is) =
        let z_is : z ≡ q1 = set_same qs at q1 z (sym (ap (λ n. slice_get (slice_set qs at q1) n) is) ∙ here) in
        ap e.backlog is ∙ H.waits at q0 (get_there qs at q0 low ∙ ap Some (sym q_is)) ∙ sym same ∙ ap queue (sym z_is)
    wait d z here (inr ne) = H.waits d z (sym (set_other qs at d q1 ne) ∙ here)
