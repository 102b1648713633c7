-- What an idle core holds, by its places.
use Rattle.std.proofs.Common.{◌≡◌, ℕ, ◌<◌, ◌==◌, nat_lt, Bool, true, false, cond, List, [], ◌∷◌, ◌++◌, map, length, Option, Some, None, refl, sym, ◌∙◌, ap, subst, arith, option_map}
use Rattle.std.specs.Prelude.{option_to_list}
use Rattle.std.specs.List.{filter}
use Rattle.std.proofs.lemmas.Bool.{eq-eqb, and_from}
use Rattle.fs_model.specs.declared.model.Request.{Request}
use Rattle.fs_model.specs.Cells.{key_of}
use Rattle.conflict_queue.specs.declared.types.Held.{Held}
use Rattle.conflict_queue.specs.Waiting.{waiting}
use Rattle.log_entry.specs.declared.entry.Entry.{Entry}
use Rattle.group_laws.specs.Places.{Place, owner}
use Rattle.group_laws.specs.MemberViews.{View}
use Rattle.core_worker.specs.declared.types.Place as places
use Rattle.core_worker.specs.declared.types.Place.TheVariants.{Free, Staged, Posted}
use Rattle.core_worker.specs.declared.worker.Worker.{Worker}
use Rattle.core_worker.specs.OwnPlaces.{place_at, key_in, is_free, is_staged, is_posted, is_busy, HasNone, request_pending}
use Rattle.core_worker.specs.KeyTies.{IsPlaced}
use Rattle.core_worker.specs.Status.{any_free, has_room}
use Rattle.core_worker.specs.Ties.{Holds}
use Rattle.core_worker.specs.WorkerMoves.{Placed, placed_in, placed_for, asked_by, hands_of}
use Rattle.core_worker.proofs.HandKeys.{none_for}
use Rattle.core_worker.proofs.HandPlaces.{held_at}
use Rattle.core_worker.proofs.Posts.{busy_by, busy_has}

abbrev asked_as : ℕ → Request → Placed
asked_as n r = record { number = n; request = r; posted = true }

asked_is : (o : Option Request) (n : ℕ) (y : Placed) → option_map (λ r. record { number = n; request = r; posted = true }) o ≡ Some y → y.posted ≡ true
asked_is None n y e = absurd (cc e)
asked_is (Some r) n y e = (let same : record { number = n; request = r; posted = true } ≡ y = cc e in ap (λ (x : Placed). x.posted) (sym same))

-- the place of a change that is no longer staged
abbrev PostedAt : List places.Place → ℕ → ℕ → Type 0
PostedAt ps k t = (number : ℕ) × (lines : ℕ) × (place_at ps t ≡ Posted number k lines)

posted_place : (ps : List places.Place) (k t : ℕ) → HasNone is_staged ps → key_in (place_at ps t) ≡ Some k → PostedAt ps k t
posted_place ps k t none is = by (place_at ps t) refl is where
  by : (x : places.Place) → place_at ps t ≡ x → key_in x ≡ Some k → PostedAt ps k t
  by Free e i = absurd (cc i)
  by (Staged number entry value) e i = absurd (let both : true ≡ false = sym (ap is_staged e) ∙ none t in cc both)
  by (Posted number key lines) e i = (number, lines, e ∙ (let same : key ≡ k = cc i in ap (λ n. Posted number n lines) same))

-- A posted change that it holds stands in the slot of its place.
pub slot_of : (p : Place) (m : ℕ) (u : View) (w : Worker) → Holds p m u w → (k : ℕ) (y : Placed) → placed_for u w.places.items k ≡ Some y → y.posted ≡ true
    → (t : ℕ) × (t < 8) × (is_posted (place_at w.places.items t) ≡ true) × ((e : Entry) × (u.pending k ≡ Some (record { entry = e; slot = Some t })))
slot_of p m u w H k y is posted = by (is_busy w.places.items k) refl where
  by : (b : Bool) → is_busy w.places.items k ≡ b → (t : ℕ) × (t < 8) × (is_posted (place_at w.places.items t) ≡ true) × ((e : Entry) × (u.pending k ≡ Some (record { entry = e; slot = Some t })))
  by false free = absurd (let gone : Some y ≡ None = sym is ∙ none_for u k w.places.items free in cc gone)
  by true busy = at (busy_has w.places.items k busy) where
    at : (b : (t : ℕ) × (t < length w.places.items) × (key_in (place_at w.places.items t) ≡ Some k)) → (t : ℕ) × (t < 8) × (is_posted (place_at w.places.items t) ≡ true) × ((e : Entry) × (u.pending k ≡ Some (record { entry = e; slot = Some t })))
    at b = here (place_at w.places.items b.0) refl where
      lt : b.0 < 8
      lt = (let low = b.1 in let eight = H.eight in omega (arith, low, eight))

      held : placed_in u (place_at w.places.items b.0) ≡ Some y
      held = sym (held_at u w.places.items b.0 k H.apart b.2) ∙ is

      here : (x : places.Place) → place_at w.places.items b.0 ≡ x → (t : ℕ) × (t < 8) × (is_posted (place_at w.places.items t) ≡ true) × ((e : Entry) × (u.pending k ≡ Some (record { entry = e; slot = Some t })))
      here Free e = absurd (let gone : None ≡ Some y = sym (ap (placed_in u) e) ∙ held in cc gone)
      here (Staged number entry value) e = absurd (let some = sym (ap (placed_in u) e) ∙ held in let off : false ≡ true = not_posted some ∙ posted in cc off) where
        not_posted : placed_in u (Staged number entry value) ≡ Some y → false ≡ y.posted
        not_posted q = cc q
      here (Posted number key lines) e =
          let own : key ≡ k = key_is (sym (ap key_in e) ∙ b.2) in
          let placed : IsPlaced p m u b.0 (Posted number key lines) = subst (IsPlaced p m u b.0) e (H.placed b.0 lt) in
          (b.0, lt, ap is_posted e, (placed.0, subst (λ n. u.pending n ≡ Some (record { entry = placed.0; slot = Some b.0 })) own placed.1)) where
            key_is : Some key ≡ Some k → key ≡ k
            key_is q = cc q

module _ (p : Place) (m : ℕ) (u : View) (w : Worker) (H : Holds p m u w) (none : HasNone is_staged w.places.items) where
  -- the change of a key that it holds is posted, in the slot of its place
  pub posted_of : (k : ℕ) (y : Placed) → placed_for u w.places.items k ≡ Some y → (y.posted ≡ true) × ((t : ℕ) × (t < 8) × (is_posted (place_at w.places.items t) ≡ true) × ((e : Entry) × (u.pending k ≡ Some (record { entry = e; slot = Some t }))))
  posted_of k y is = by (is_busy w.places.items k) refl where
    by : (b : Bool) → is_busy w.places.items k ≡ b → (y.posted ≡ true) × ((t : ℕ) × (t < 8) × (is_posted (place_at w.places.items t) ≡ true) × ((e : Entry) × (u.pending k ≡ Some (record { entry = e; slot = Some t }))))
    by false free = absurd (let gone : Some y ≡ None = sym is ∙ none_for u k w.places.items free in cc gone)
    by true busy =
        let at = busy_has w.places.items k busy in
        let here = posted_place w.places.items k at.0 none at.2 in
        let lt : at.0 < 8 = (let low = at.1 in let eight = H.eight in omega (arith, low, eight)) in
        let placed : IsPlaced p m u at.0 (Posted here.0 k here.1) = subst (IsPlaced p m u at.0) here.2 (H.placed at.0 lt) in
        let held : placed_in u (Posted here.0 k here.1) ≡ Some y = ap (placed_in u) (sym here.2) ∙ sym (held_at u w.places.items at.0 k H.apart at.2) ∙ is in
        (asked_is (request_pending u k (u.pending k)) here.0 y held, (at.0, lt, ap is_posted here.2, (placed.0, placed.1)))

  -- a key whose change is in a place has it held
  some_of : (k : ℕ) → is_busy w.places.items k ≡ true → placed_for u w.places.items k ≡ None → ⊥
  some_of k busy is =
      let at = busy_has w.places.items k busy in
      let here = posted_place w.places.items k at.0 none at.2 in
      let lt : at.0 < 8 = (let low = at.1 in let eight = H.eight in omega (arith, low, eight)) in
      let placed : IsPlaced p m u at.0 (Posted here.0 k here.1) = subst (IsPlaced p m u at.0) here.2 (H.placed at.0 lt) in
      let held : placed_in u (Posted here.0 k here.1) ≡ None = ap (placed_in u) (sym here.2) ∙ sym (held_at u w.places.items at.0 k H.apart at.2) ∙ is in
      let asked : option_map (asked_as here.0) (request_pending u k (Some (record { entry = placed.0; slot = Some at.0 }))) ≡ None = ap (λ o. option_map (asked_as here.0) (request_pending u k o)) (sym placed.1) ∙ held in
      cc asked

  pub idle_key : (k : ℕ) → placed_for u w.places.items k ≡ None → is_busy w.places.items k ≡ false
  idle_key k is = by (is_busy w.places.items k) refl where
    by : (b : Bool) → is_busy w.places.items k ≡ b → is_busy w.places.items k ≡ false
    by false e = e
    by true e = absurd (some_of k e is)

  -- nothing waits for a key without a change in a place
  pub none_waits : w.winds_down ≡ false → w.in_hand ≡ None → (k : ℕ) → (hands_of u w).place k ≡ None → (hands_of u w).waits k ≡ []
  none_waits works hand k is =
      ap (λ o. map asked_by (filter (λ h. key_of h.request == k) (option_to_list o) ++ waiting w.queue k)) hand
      ∙ ap (λ hs. map asked_by hs) (H.waits works k (idle_key k is))

  -- With no own change in a place, all places are free, and nothing waits.
  module _ (works : w.winds_down ≡ false) (all : (k : ℕ) → owner p k ≡ m → (hands_of u w).place k ≡ None) where
    free_first : (x : places.Place) → place_at w.places.items 0 ≡ x → is_free x ≡ true
    free_first Free e = refl
    free_first (Staged number entry value) e = absurd (let both : true ≡ false = sym (ap is_staged e) ∙ none 0 in cc both)
    free_first (Posted number key lines) e =
        let placed : IsPlaced p m u 0 (Posted number key lines) = subst (IsPlaced p m u 0) e (H.placed 0 (omega arith)) in
        let busy = busy_by w.places.items key 0 (ap key_in e) in
        absurd (some_of key busy (all key placed.3))

    waits_none : (k : ℕ) → waiting w.queue k ≡ []
    waits_none k = H.waits works k (by (is_busy w.places.items k) refl) where
      by : (b : Bool) → is_busy w.places.items k ≡ b → is_busy w.places.items k ≡ false
      by false e = e
      by true e =
          let at = busy_has w.places.items k e in
          let here = posted_place w.places.items k at.0 none at.2 in
          let lt : at.0 < 8 = (let low = at.1 in let eight = H.eight in omega (arith, low, eight)) in
          let placed : IsPlaced p m u at.0 (Posted here.0 k here.1) = subst (IsPlaced p m u at.0) here.2 (H.placed at.0 lt) in
          absurd (some_of k e (all k placed.3))

    first_free : (ps : List places.Place) → length ps ≡ 8 → is_free (place_at ps 0) ≡ true → any_free ps ≡ true
    first_free [] eight is = absurd (omega (arith, eight))
    first_free (x ∷ xs) eight is = ap (λ b. cond b true (any_free xs)) is

    no_queue : (hs : List Held) → ((k : ℕ) → waiting hs k ≡ []) → length hs ≡ 0
    no_queue [] none = refl
    no_queue (h ∷ hs) none = absurd (
        let first = none (key_of h.request) in
        let here : h ∷ waiting hs (key_of h.request) ≡ [] = sym (ap (λ b. cond b (h ∷ waiting hs (key_of h.request)) (waiting hs (key_of h.request))) (eq-eqb (key_of h.request) (key_of h.request) refl)) ∙ first in
        cc here
        )

    pub room_for_one : has_room w ≡ true
    room_for_one =
        let empty = no_queue w.queue waits_none in
        and_from (any_free w.places.items) (nat_lt (length w.queue) 64) (first_free w.places.items H.eight (free_first (place_at w.places.items 0) refl)) (ap (λ n. nat_lt n 64) empty)
