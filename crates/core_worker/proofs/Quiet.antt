-- A worker whose ties hold keeps what is promised of its keys, and a leader's steps answer nothing.
use Rattle.std.proofs.Common.{◌≡◌, inl, ℕ, zero, suc, ◌<◌, Bool, true, false, cond, List, [], ◌∷◌, length, Option, Some, None, refl, sym, ◌∙◌, ap, arith, append-nil}
use Rattle.std.proofs.lemmas.Bool.{eqb-true}
use Rattle.group_laws.specs.MemberViews.{View}
use Rattle.core_worker.specs.declared.types.Place.{Place}
use Rattle.core_worker.specs.OwnPlaces.{place_at, key_in, is_of}
use Rattle.core_worker.specs.WorkerMoves.{Placed, Hands, placed_in, placed_for, line_in, AnswersKey}

-- a call that answers nothing of a key, and leaves what stands of it
pub quiet_key : (v u : View) (w : Hands) (k : ℕ) → u.cell k ≡ v.cell k → u.pending k ≡ v.pending k → AnswersKey v u w w k [] []
quiet_key v u w k cell pending = record {
  order = append-nil (line_in w k);
  lawful = tt;
  cell = sym cell;
  after_stop = λ stopped none. (tt, none);
  stops = λ y i. absurd i;
  posted = λ y e posted. inl (refl, e);
  doubt = λ d e. inl (sym pending ∙ e);
}

-- where the key's change stands
pub found_at : (v : View) (ps : List Place) (k : ℕ) (x : Placed) → placed_for v ps k ≡ Some x → (s : ℕ) × (s < length ps) × (key_in (place_at ps s) ≡ Some k) × (placed_in v (place_at ps s) ≡ Some x)
found_at v [] k x e = absurd (cc e)
found_at v (y ∷ ys) k x e = by_first (λ r. found_at v ys k x r) (is_of k (key_in y)) refl e where
  here : (o : Option ℕ) → is_of k o ≡ true → o ≡ Some k
  here None t = absurd (cc t)
  here (Some j) t = ap Some (sym (eqb-true k j t))

  by_first : (placed_for v ys k ≡ Some x → (s : ℕ) × (s < length ys) × (key_in (place_at ys s) ≡ Some k) × (placed_in v (place_at ys s) ≡ Some x)) → (b : Bool) → is_of k (key_in y) ≡ b → cond b (placed_in v y) (placed_for v ys k) ≡ Some x
      → (s : ℕ) × (s < length (y ∷ ys)) × (key_in (place_at (y ∷ ys) s) ≡ Some k) × (placed_in v (place_at (y ∷ ys) s) ≡ Some x)
  by_first rest true t q = (zero, omega arith, here (key_in y) t, q)
  by_first rest false t q = let r = rest q in (suc r.0, (let lt = r.1 in omega (arith, lt)), r.2, r.3)
