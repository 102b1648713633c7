-- Which workers wind down, and what that leaves of the state that is shown.
use Rattle.std.proofs.Common.{◌≡◌, inl, inr, ℕ, zero, suc, ◌+◌, ◌<◌, List, Option, [], ◌∷◌, length, Bool, true, false, Some, slice_set, slice_index_or, refl, sym, ◌∙◌, ap, subst, arith, Result, Ok, Err, OnOk, OnErr}
use Rattle.std.specs.List.{slice_get}
use Rattle.std.proofs.lemmas.Bool.{cases_eq}
use Rattle.fs_model.specs.declared.memory.Memory.{Memory}
use Rattle.fs_model.specs.declared.model.Request.{Request}
use Rattle.pm_region.specs.State.{State}
use Rattle.chunk_map.specs.declared.layouts.Geometry.{Geometry}
use Rattle.group_laws.specs.Places.{Place}
use Rattle.group_laws.specs.State.{Group}
use Rattle.group_laws.specs.MemberViews.{View}
use Rattle.group_board.specs.declared.local_board.LocalBoard.{LocalBoard}
use Rattle.engine_laws.specs.WorkerMoves.{Hands}
use Rattle.engine_laws.specs.Engine.{Engine}
use Rattle.engine_laws.specs.Workers.{Sits}
use Rattle.engine_laws.specs.Stands.{Origin, Stands}
use Rattle.engine_laws.proofs.Clients.{takes_stands}
use Rattle.core_worker.specs.declared.types.Answer.{Answer}
use Rattle.core_worker.specs.declared.types.Turn.{Turn}
use Rattle.engine_core.specs.declared.types.Stamped.{Stamped}
use Rattle.engine_core.specs.Calls.{AllWind, NoneWinds, EachWinds, WindsDown}
use Rattle.group_engine.specs.Passes.{Ends}
use Rattle.engine_core.specs.Seated.{Seat}
use Rattle.group_engine.specs.Shows.{Shows}
use Rattle.engine_core.proofs.Clients.{at_is, get_there, set_same, set_other, set_twice}

module _ {W : Type 0} (winds : W → Bool) where
  -- the worker in one place is another one
  all_set : (b : Bool) (ws : List W) (c : ℕ) (x y : W) → ((d : ℕ) (w : W) → slice_get ws d ≡ Some w → winds w ≡ b) → winds y ≡ b → (d : ℕ) (w : W) → slice_get (slice_set (slice_set ws c x) c y) d ≡ Some w → winds w ≡ b
  all_set b ws c x y all is d w at = elim (cases_eq d c) [
    | inl same ↦ (let w_is : w ≡ y = set_same ws c y w (sym (ap (λ n. slice_get (slice_set ws c y) n) same) ∙ plain) in ap winds w_is ∙ is)
    | inr other ↦ all d w (sym (set_other ws c d y other) ∙ plain)
  ] where
    plain : slice_get (slice_set ws c y) d ≡ Some w
    plain = sym (ap (λ us. slice_get us d) (set_twice ws c x y)) ∙ at

  module _ (ws : List W) (c : ℕ) (low : c < length ws) (w x y : W) (w_is : w ≡ slice_index_or ws c w) where
    there : slice_get ws c ≡ Some w
    there = get_there ws c w low ∙ ap Some (sym w_is)

    pub goes_on : (r : Result Turn Memory) → OnOk r (winds x ≡ winds w) → winds y ≡ winds x → NoneWinds winds ws → OnOk r (NoneWinds winds (slice_set (slice_set ws c x) c y))
    goes_on (Ok b) same last none = all_set false ws c x y none (last ∙ same ∙ none c w there)
    goes_on (Err e) same last none = tt

    pub winds_on : (r : Result Turn Memory) → OnOk r (winds x ≡ winds w) → OnErr r (winds w ≡ false) → winds y ≡ winds x → AllWind winds ws → AllWind winds (slice_set (slice_set ws c x) c y)
    winds_on (Ok b) same awake last all = all_set true ws c x y all (last ∙ same ∙ all c w there)
    winds_on (Err e) same awake last all = absurd (let on = all c w there in let both : true ≡ false = sym on ∙ awake in cc both)

  pub sure_of : (ws : List W) (c : ℕ) (w : W) → w ≡ slice_index_or ws c w → (r : Result Turn Memory) → OnErr r (winds w ≡ false) → OnErr r ((u : W) → slice_get ws c ≡ Some u → winds u ≡ false)
  sure_of ws c w w_is (Ok b) awake = tt
  sure_of ws c w w_is (Err e) awake = λ u at. ap winds (sym (at_is ws c w u at w_is)) ∙ awake

module _ {W : Type 0} (hands : View → W → Hands) (answers : W → List Answer) (stands : Place → ℕ → State → View → W → Type 0) (fair : Group → ℕ → W → Type 0) (room leads winds : W → Bool) where
  -- all workers wind down
  pub all_wind : (old new : List W) → length new ≡ length old → EachWinds hands answers stands fair room leads winds (length old) old new → AllWind winds new
  all_wind old new count E c x at = (E.below c x (there new c x at count) at).2.is where
    within : {X : Type 0} (xs : List X) (n : ℕ) (z : X) → slice_get xs n ≡ Some z → n < length xs
    within [] n z e = absurd (cc e)
    within (y ∷ ys) zero z e = omega arith
    within (y ∷ ys) (suc n) z e = (let r = within ys n z e in omega (arith, r))

    there : (new : List W) (c : ℕ) (x : W) → slice_get new c ≡ Some x → length new ≡ length old → c < length old
    there new c x at count = (let r = within new c x at in omega (arith, r, count))

  -- and they show the state in which none accepts a request
  module _ {Q : Type 0} (queue : Q → List (ℕ × Request)) (o : Origin) (e : Engine) (S : Stands o e) (s : State) (l : Geometry) (old new : List W) (bs : List LocalBoard) (qs : List Q) (ks : List (Option Stamped)) (H : Shows hands answers stands fair room leads queue s l old bs qs ks e)
      (count : length new ≡ length old) (E : EachWinds hands answers stands fair room leads winds (length old) old new) where
    abbrev f : Engine
    f = record e { takes = λ c. false }

    seat : (c : ℕ) (w x : W) → Seat hands answers stands fair room leads e c w → WindsDown hands answers stands fair room leads winds w x → Seat hands answers stands fair room leads f c x
    seat c w x Y D = record {
      view = Y.view;
      sits = (let sits : Sits e c Y.view (hands Y.view x) = subst (λ (h : Hands). Sits e c Y.view h) (sym (D.held Y.view)) Y.sits in record { view = sits.view; place = sits.place; waits = sits.waits; stopped = sits.stopped; stock = sits.stock });
      tied = D.tied _ _ e.region Y.view Y.tied;
      fairly = D.fairly _ _ Y.fairly;
      takes = sym D.closed;
      given = D.given ∙ Y.given;
    }

    pub wound_shows : (g : Engine) × ((p : Origin) × Stands p g × Shows hands answers stands fair room leads queue s l new bs qs ks g) × Ends s e g
    wound_shows = (
      f,
      (
        o,
        takes_stands o e (λ c. false) S,
        record {
          layout = H.layout;
          region = H.region;
          worker_count = count ∙ H.worker_count;
          board_count = H.board_count;
          backlog_count = H.backlog_count;
          seats = λ c x at. (let b = E.below c x (low c x at) at in seat c b.0 x (H.seats c b.0 b.1) b.2);
          groups = H.groups;
          waits = H.waits;
          own = H.own;
          count = H.count;
          answered = H.answered;
        },
      ),
      record { region = H.region; keeps = record { given = refl; stands = λ p T. takes_stands p e (λ c. false) T } },
    ) where
      within : {X : Type 0} (xs : List X) (n : ℕ) (z : X) → slice_get xs n ≡ Some z → n < length xs
      within [] n z q = absurd (cc q)
      within (y ∷ ys) zero z q = omega arith
      within (y ∷ ys) (suc n) z q = (let r = within ys n z q in omega (arith, r))

      low : (c : ℕ) (x : W) → slice_get new c ≡ Some x → c < length old
      low c x at = (let r = within new c x at in omega (arith, r, count))

  -- so far
  pub none_yet : (ws : List W) → EachWinds hands answers stands fair room leads winds 0 ws ws
  none_yet ws = record { below = λ c x low. absurd (omega (arith, low)); above = λ c high. refl }

  pub one_more : (c : ℕ) (old now : List W) (w x : W) → c < length now → EachWinds hands answers stands fair room leads winds c old now → w ≡ slice_index_or now c w → WindsDown hands answers stands fair room leads winds w x → EachWinds hands answers stands fair room leads winds (c + 1) old (slice_set now c x)
  one_more c old now w x within E w_is D = record {
    below = λ d z low at. elim (cases_eq d c) [
      | inl same ↦
          let z_is : z ≡ x = set_same now c x z (sym (ap (λ n. slice_get (slice_set now c x) n) same) ∙ at) in
          let was : slice_get old d ≡ Some w = ap (slice_get old) same ∙ sym (E.above c (omega arith)) ∙ get_there now c w within ∙ ap Some (sym w_is) in
          (w, was, subst (WindsDown hands answers stands fair room leads winds w) (sym z_is) D)
      | inr other ↦ E.below d z (omega (arith, low, other)) (sym (set_other now c d x other) ∙ at)
    ];
    above = λ d high. set_other now c d x (λ same. omega (arith, same, high)) ∙ E.above d (omega (arith, high));
  }
