-- What the ties of a worker say of all its keys, and what is left of its places and records once names are gone.
use Rattle.std.proofs.Common.{◌≡◌, inl, ⊎_elim, ℕ, zero, suc, ◌+◌, ◌<◌, ◌==◌, Bool, true, false, cond, List, [], ◌∷◌, length, Option, Some, None, refl, sym, ◌∙◌, ap, subst, arith}
use Rattle.std.proofs.lemmas.Bool.{eq-eqb, eqb-true}
use Rattle.group_laws.specs.declared.types.Pending.{Pending}
use Rattle.group_laws.specs.Places.{Place}
use Rattle.group_laws.specs.MemberViews.{View}
use Rattle.core_worker.specs.declared.types.Place as places
use Rattle.core_worker.specs.declared.types.Place.TheVariants.{Free, Staged, Posted}
use Rattle.core_worker.specs.declared.worker.Worker.{Worker}
use Rattle.core_worker.specs.OwnPlaces.{place_at, key_in, is_free}
use Rattle.core_worker.specs.KeyTies.{IsPlaced}
use Rattle.core_worker.specs.GoneNames.{is_out, first_of, restarted_by, KnowsAll}
use Rattle.core_worker.specs.Ties.{Holds}
use Rattle.core_worker.specs.Order.{InOrder, count_changes}
use Rattle.core_worker.specs.Outbox.{as_told}

-- a posted place makes its key's change out, and a change that is out has one
pub out_at : (ps : List places.Place) (k s n lines : ℕ) → place_at ps s ≡ Posted n k lines → is_out ps k ≡ true
out_at [] k s n lines e = absurd (cc e)
out_at (x ∷ xs) k zero n lines e = ap (λ (y : places.Place). is_out (y ∷ xs) k) e ∙ ap (λ (b : Bool). cond b true (is_out xs k)) (eq-eqb k k refl)
out_at (x ∷ xs) k (suc s) n lines e = by x (out_at xs k s n lines e) where
  by : (y : places.Place) → is_out xs k ≡ true → is_out (y ∷ xs) k ≡ true
  by Free rest = rest
  by (Staged number entry value) rest = rest
  by (Posted number key some) rest = first (k == key) where
    first : (b : Bool) → cond b true (is_out xs k) ≡ true
    first true = refl
    first false = rest

pub out_has : (ps : List places.Place) (k : ℕ) → is_out ps k ≡ true → (s n lines : ℕ) × (s < length ps) × (place_at ps s ≡ Posted n k lines)
out_has [] k t = absurd (cc t)
out_has (Free ∷ xs) k t = let r = out_has xs k t in (suc r.0, r.1, r.2, (let lt = r.3 in omega (arith, lt)), r.4)
out_has (Staged number entry value ∷ xs) k t = let r = out_has xs k t in (suc r.0, r.1, r.2, (let lt = r.3 in omega (arith, lt)), r.4)
out_has (Posted number key lines ∷ xs) k t = by (k == key) refl t (out_has xs k) where
  by : (b : Bool) → (k == key) ≡ b → cond b true (is_out xs k) ≡ true → (is_out xs k ≡ true → (s n lines : ℕ) × (s < length xs) × (place_at xs s ≡ Posted n k lines)) → (s n some : ℕ) × (s < length (Posted number key lines ∷ xs)) × (place_at (Posted number key lines ∷ xs) s ≡ Posted n k some)
  by true e q rest = (zero, number, lines, omega arith, ap (λ (j : ℕ). Posted number j lines) (sym (eqb-true k key e)))
  by false e q rest = let r = rest q in (suc r.0, r.1, r.2, (let lt = r.3 in omega (arith, lt)), r.4)

module _ (p : Place) (m : ℕ) (v : View) (w : Worker) (H : Holds p m v w) (O : InOrder p m v w) (runs : w.stopped ≡ false) where
  pub knows_all : KnowsAll p m (as_told w v) w.places.items w.index
  knows_all = record {
    keys = λ k own. H.keys k own (inl runs);
    quiet = λ k own none. quiet k (is_out w.places.items k) refl none;
    posted = λ k own out. posted k (v.pending k) refl out;
    remembers = λ k own none. H.remembers runs k own none;
    mine = O.agrees.mine;
    heard = O.heard;
  } where
    quiet : (k : ℕ) (b : Bool) → is_out w.places.items k ≡ b → v.pending k ≡ None → is_out w.places.items k ≡ false
    quiet k false e none = e
    quiet k true e none =
        let at = out_has w.places.items k e in
        let is : IsPlaced p m v at.0 (Posted at.1 k at.2) = subst (IsPlaced p m v at.0) at.4 (H.placed at.0 (let lt = at.3 in let eight = H.eight in omega (arith, lt, eight))) in
        absurd (let both : None ≡ Some (record { entry = is.0; slot = Some at.0 }) = sym none ∙ is.1 in cc both)

    posted : (k : ℕ) (o : Option Pending) → v.pending k ≡ o → is_out w.places.items k ≡ false → v.pending k ≡ None
    posted k None e out = e
    posted k (Some q) e out = absurd (⊎_elim
        (λ y. let both : true ≡ false = sym (out_at w.places.items k y.0 y.1 y.2 y.4) ∙ out in cc both)
        (λ y. let both : true ≡ false = sym y.2 ∙ runs in cc both)
        (H.pending k q e))

-- a change that begins anew is of the same key, and free where it was
pub key_restarted : (test : ℕ → Bool) (x : places.Place) → key_in (restarted_by test x) ≡ key_in x
key_restarted test Free = refl
key_restarted test (Posted number key lines) = refl
key_restarted test (Staged number entry value) = by (test entry.key) where
  by : (b : Bool) → key_in (cond b (Staged number (first_of entry) value) (Staged number entry value)) ≡ Some entry.key
  by true = refl
  by false = refl

pub free_restarted : (test : ℕ → Bool) (x : places.Place) → is_free (restarted_by test x) ≡ is_free x
free_restarted test Free = refl
free_restarted test (Posted number key lines) = refl
free_restarted test (Staged number entry value) = by (test entry.key) where
  by : (b : Bool) → is_free (cond b (Staged number (first_of entry) value) (Staged number entry value)) ≡ false
  by true = refl
  by false = refl

pub changes_restarted : (test : ℕ → Bool) (xs ys : List places.Place) → length ys ≡ length xs → ((s : ℕ) → place_at ys s ≡ restarted_by test (place_at xs s)) → count_changes ys ≡ count_changes xs
changes_restarted test [] [] e at = refl
changes_restarted test [] (y ∷ ys) e at = absurd (omega (arith, e))
changes_restarted test (x ∷ xs) [] e at = absurd (omega (arith, e))
changes_restarted test (x ∷ xs) (y ∷ ys) e at = (λ i. cond {A = ℕ} ((ap is_free (at 0) ∙ free_restarted test x) i) 0 1 + changes_restarted test xs ys (omega (arith, e)) (λ s. at (suc s)) i)
