-- What a worker holds of an own key, by its ties alone.
use Rattle.std.proofs.Common.{◌≡◌, ◌≢◌, inl, inr, ⊎_elim, ℕ, zero, suc, ◌<◌, Bool, true, false, cond, List, [], ◌∷◌, Option, Some, None, refl, sym, ◌∙◌, ap, subst}
use Rattle.std.specs.Prelude.{option_map}
use Rattle.std.proofs.lemmas.Bool.{eqb-true, eq-eqb}
use Rattle.fs_model.specs.declared.model.Request.{Request}
use Rattle.fs_model.specs.declared.model.Request.TheVariants.{Delete}
use Rattle.fs_model.specs.Cells.{cell_after, is_change}
use Rattle.log_entry.specs.declared.entry.Body.{Body}
use Rattle.log_entry.specs.declared.entry.Body.TheVariants as bodies
use Rattle.group_laws.specs.declared.types.Pending.{Pending}
use Rattle.group_laws.specs.Places as places
use Rattle.group_laws.specs.Steps.{bytes_of}
use Rattle.group_laws.specs.MemberViews.{View}
use Rattle.group_board.specs.Views.{left_in}
use Rattle.core_worker.specs.declared.types.Place.{Place}
use Rattle.core_worker.specs.declared.types.Place.TheVariants as kinds
use Rattle.core_worker.specs.declared.worker.Worker.{Worker}
use Rattle.core_worker.specs.OwnPlaces.{place_at, key_in, is_of, is_busy, request_by, request_pending, bytes_or}
use Rattle.core_worker.specs.KeyTies.{IsPlaced, Offers}
use Rattle.core_worker.specs.Ties.{Holds}
use Rattle.core_worker.specs.WorkerMoves.{Placed, placed_in, placed_for, hands_of, HoldsKey}
use Rattle.core_worker.proofs.Quiet.{found_at}

abbrev pub asks : View → ℕ → Body → Request
asks v k b = request_by k (bytes_or (left_in v.blocks b)) b

-- the request of a posted change is one that changes the cell to what the entry leaves
pub body_holds : (v : View) (k : ℕ) (b : Body) → Offers v k b → (is_change (asks v k b) (v.cell k) ≡ true) × (left_in v.blocks b ≡ cell_after (asks v k b) (v.cell k))
body_holds v k (bodies.Pointer q) o = (refl, (let left : left_in v.blocks (bodies.Pointer q) ≡ Some o.0 = ap bytes_of o.1 in left ∙ ap (λ c. Some (bytes_or c)) (sym left)))
body_holds v k (bodies.Embedded u) o = (refl, refl)
body_holds v k bodies.Tombstone o = (by_cell (v.cell k) o, refl) where
  by_cell : (c : Option (List ℕ)) → c ≢ None → is_change (Delete k) c ≡ true
  by_cell None ne = absurd (ne refl)
  by_cell (Some x) ne = refl

or_none : Option Placed → Bool
or_none None = false
or_none (Some x) = x.posted

request_or : Request → Option Placed → Request
request_or r None = r
request_or r (Some x) = x.request

posted_of : (p : places.Place) (m : ℕ) (v : View) (k s : ℕ) (x : Placed) (y : Place) → IsPlaced p m v s y → key_in y ≡ Some k → placed_in v y ≡ Some x → x.posted ≡ true
    → (is_change x.request (v.cell k) ≡ true) × ((q : Pending) × (n : ℕ) × (v.pending k ≡ Some q) × (q.slot ≡ Some n) × (left_in v.blocks q.entry.body ≡ cell_after x.request (v.cell k)))
unfolding or_none request_or
posted_of p m v k s x kinds.Free is key placed posted = absurd (cc placed)
posted_of p m v k s x (kinds.Staged n e value) is key placed posted = absurd (let both : false ≡ true = ap or_none placed ∙ posted in cc both)
posted_of p m v k s x (kinds.Posted n j lines) is key placed posted =
    let at : j ≡ k = cc key in
    let offers : Offers v k is.0.body = subst (λ (i : ℕ). Offers v i is.0.body) at is.4 in
    let pend : v.pending k ≡ Some (record { entry = is.0; slot = Some s }) = ap v.pending (sym at) ∙ is.1 in
    let asked : asks v k is.0.body ≡ x.request = ap (λ i. asks v i is.0.body) (sym at) ∙ ap (request_or x.request) (sym (ap (λ o. option_map (λ r. record { number = n; request = r; posted = true }) (request_pending v j o)) is.1) ∙ placed) in
    let h = body_holds v k is.0.body offers in
    (subst (λ r. is_change r (v.cell k) ≡ true) asked h.0, (record { entry = is.0; slot = Some s }, s, pend, refl, subst (λ r. left_in v.blocks is.0.body ≡ cell_after r (v.cell k)) asked h.1))

pub first_has : (v : View) (k : ℕ) (ps : List Place) (s : ℕ) → key_in (place_at ps s) ≡ Some k → (t : ℕ) × (key_in (place_at ps t) ≡ Some k) × (placed_for v ps k ≡ placed_in v (place_at ps t))
first_has v k [] s e = absurd (cc e)
first_has v k (y ∷ ys) s e = by_first (λ n h. first_has v k ys n h) (is_of k (key_in y)) refl s e where
  has : (o : Option ℕ) → is_of k o ≡ true → o ≡ Some k
  has None t = absurd (cc t)
  has (Some j) t = ap Some (sym (eqb-true k j t))

  by_first : ((n : ℕ) → key_in (place_at ys n) ≡ Some k → (t : ℕ) × (key_in (place_at ys t) ≡ Some k) × (placed_for v ys k ≡ placed_in v (place_at ys t))) → (b : Bool) → is_of k (key_in y) ≡ b → (s : ℕ) → key_in (place_at (y ∷ ys) s) ≡ Some k → (t : ℕ) × (key_in (place_at (y ∷ ys) t) ≡ Some k) × (placed_for v (y ∷ ys) k ≡ placed_in v (place_at (y ∷ ys) t))
  by_first rest true is s e = (zero, has (key_in y) is, ap (λ b. cond b (placed_in v y) (placed_for v ys k)) is)
  by_first rest false is zero e = absurd (let both : true ≡ false = sym (ap (is_of k) e ∙ eq-eqb k k refl) ∙ is in cc both)
  by_first rest false is (suc s) e = let r = rest s e in (suc r.0, r.1, ap (λ b. cond b (placed_in v y) (placed_for v ys k)) is ∙ r.2)

pub none_for : (v : View) (k : ℕ) (ps : List Place) → is_busy ps k ≡ false → placed_for v ps k ≡ None
none_for v k [] e = refl
none_for v k (y ∷ ys) e = by_first (λ h. none_for v k ys h) (is_of k (key_in y)) refl e where
  by_first : (is_busy ys k ≡ false → placed_for v ys k ≡ None) → (b : Bool) → is_of k (key_in y) ≡ b → cond b true (is_busy ys k) ≡ false → placed_for v (y ∷ ys) k ≡ None
  by_first rest true is e = absurd (cc e)
  by_first rest false is e = ap (λ b. cond b (placed_in v y) (placed_for v ys k)) is ∙ rest e

pub holds_key : (p : places.Place) (m : ℕ) (v : View) (w : Worker) → Holds p m v w → (k : ℕ) → HoldsKey v (hands_of v w) k
holds_key p m v w H k = record {
  posted = λ x e posted. let at = found_at v w.places.items k x e in posted_of p m v k at.0 x (place_at w.places.items at.0) (H.placed at.0 (subst (λ (n : ℕ). at.0 < n) H.eight at.1)) at.2 at.3 posted;
  pending = λ q has. ⊎_elim
      (λ h.
      let f = first_has v k w.places.items h.0 (ap key_in h.4) in
      let same = H.apart f.0 h.0 k f.1 (ap key_in h.4) in
      inl (
        record { number = h.1; request = asks v k q.entry.body; posted = true },
        f.2 ∙ ap (λ t. placed_in v (place_at w.places.items t)) same ∙ ap (placed_in v) h.4 ∙ ap (λ o. option_map (λ r. record { number = h.1; request = r; posted = true }) (request_pending v k o)) has,
        refl,
      ))
      (λ d. inr (d.0, none_for v k w.places.items d.1, d.2))
      (H.pending k q has);
}
