-- One view of a list is set: what each field of all views then is.
use Rattle.std.proofs.Common.{◌≡◌, ℕ, ◌<◌, Bool, cond, ◌&&◌, eqb, List, length, Some, inl, inr, arith, sym, ap, ◌∙◌, length-set}
use Rattle.std.specs.Prelude.{slice_get, slice_set}
use Rattle.std.proofs.lemmas.Bool.{cases_eq, cases_lt, eq-eqb, eqb-true, ne_eqb, and_from, and_parts, false_from_ne_true}
use Rattle.std.proofs.lemmas.Option.{slice_get_within, slice_get-get_or, slice_get_past}
use Rattle.std.proofs.lemmas.List.{get_or-set_same, get_or-set_other}
use Rattle.group_laws.specs.Updates.{put, put2, change}
use Rattle.group_laws.proofs.Clients.{if_into, if2_into}
use Rattle.group_machine.specs.Shows.{of}

module _ {V : Type 0} (vs : List V) (m : ℕ) (v w : V) (at : slice_get vs m ≡ Some v) where
  within : m < length vs
  within = slice_get_within vs m v at

  pub set_same : slice_get (slice_set vs m w) m ≡ Some w
  set_same = slice_get-get_or (slice_set vs m w) m w (let l = length-set vs m w in let i = within in omega (arith, l, i)) ∙ ap Some (get_or-set_same vs m w w within)

  pub set_other : (h : ℕ) → (h ≡ m → ⊥) → slice_get (slice_set vs m w) h ≡ slice_get vs h
  set_other h ne = elim (cases_lt h (length vs)) [
    | inl l ↦ slice_get-get_or (slice_set vs m w) h w (let z = length-set vs m w in omega (arith, z, l)) ∙ ap Some (get_or-set_other vs m h w w ne) ∙ sym (slice_get-get_or vs h w l)
    | inr l ↦ slice_get_past (slice_set vs m w) h (let z = length-set vs m w in omega (arith, z, l)) ∙ sym (slice_get_past vs h l)
  ]

  -- a field that the new view has as the old one
  pub kept_field : {X : Type 0} (f : V → X) (d : X) → f w ≡ f v → (h : ℕ) → of f d (slice_get (slice_set vs m w) h) ≡ of f d (slice_get vs h)
  kept_field f d e h = elim (cases_eq h m) [
    | inl i ↦ ap (λ (h : ℕ). of f d (slice_get (slice_set vs m w) h)) i ∙ ap (of f d) set_same ∙ e ∙ sym (ap (λ (h : ℕ). of f d (slice_get vs h)) i ∙ ap (of f d) at)
    | inr ne ↦ ap (of f d) (set_other h ne)
  ]

  -- a field that changes by g
  pub changed_field : {X : Type 0} (f : V → X) (d : X) (g : X → X) → f w ≡ g (f v) → (h : ℕ) → of f d (slice_get (slice_set vs m w) h) ≡ change (λ h. of f d (slice_get vs h)) m g h
  changed_field f d g e h = if_into (λ x. of f d (slice_get (slice_set vs m w) h) ≡ x) m (g (of f d (slice_get vs h))) (of f d (slice_get vs h)) h
      (λ i. ap (λ (h : ℕ). of f d (slice_get (slice_set vs m w) h)) i ∙ ap (of f d) set_same ∙ e ∙ ap g (sym (ap (λ (h : ℕ). of f d (slice_get vs h)) i ∙ ap (of f d) at)))
      (λ ne. ap (of f d) (set_other h ne))

  pub put_field : {X : Type 0} (f : V → X) (d x : X) → f w ≡ x → (h : ℕ) → of f d (slice_get (slice_set vs m w) h) ≡ put (λ h. of f d (slice_get vs h)) m x h
  put_field f d x e h = if_into (λ y. of f d (slice_get (slice_set vs m w) h) ≡ y) m x (of f d (slice_get vs h)) h
      (λ i. ap (λ (h : ℕ). of f d (slice_get (slice_set vs m w) h)) i ∙ ap (of f d) set_same ∙ e)
      (λ ne. ap (of f d) (set_other h ne))

  -- what the owners' views have of a key, where the view of m has x at the key j, which m owns, and all else as before
  pub put_key : {X : Type 0} (owner : ℕ → ℕ) (f : V → ℕ → X) (d x : X) (j : ℕ) → owner j ≡ m → ((k : ℕ) → f w k ≡ put (f v) j x k) → (k : ℕ) → of (λ v. f v k) d (slice_get (slice_set vs m w) (owner k)) ≡ put (λ k. of (λ v. f v k) d (slice_get vs (owner k))) j x k
  put_key owner f d x j own e k = if_into (λ y. of (λ v. f v k) d (slice_get (slice_set vs m w) (owner k)) ≡ y) j x (of (λ v. f v k) d (slice_get vs (owner k))) k
      (λ i. ap (λ (h : ℕ). of (λ v. f v k) d (slice_get (slice_set vs m w) h)) (ap owner i ∙ own) ∙ ap (of (λ v. f v k) d) set_same ∙ e k ∙ ap (λ (b : Bool). cond b x (f v k)) (eq-eqb k j i))
      (λ ne. kept_field (λ v. f v k) d (e k ∙ ap (λ (b : Bool). cond b x (f v k)) (ne_eqb k j ne)) (owner k))

  -- the same of a pair, whose first part tells the owner
  pub put_pair : {X : Type 0} (owner : ℕ → ℕ) (f : V → ℕ → ℕ → X) (d x : X) (j i : ℕ) → owner j ≡ m → ((k n : ℕ) → f w k n ≡ put2 (f v) j i x k n) → (k n : ℕ) → of (λ v. f v k n) d (slice_get (slice_set vs m w) (owner k)) ≡ put2 (λ k n. of (λ v. f v k n) d (slice_get vs (owner k))) j i x k n
  put_pair owner f d x j i own e k n = if2_into (λ y. of (λ v. f v k n) d (slice_get (slice_set vs m w) (owner k)) ≡ y) j i x (of (λ v. f v k n) d (slice_get vs (owner k))) k n
      (λ a b. ap (λ (h : ℕ). of (λ v. f v k n) d (slice_get (slice_set vs m w) h)) (ap owner a ∙ own) ∙ ap (of (λ v. f v k n) d) set_same ∙ e k n ∙ ap (λ (t : Bool). cond t x (f v k n)) (and_from (eqb k j) (eqb n i) (eq-eqb k j a) (eq-eqb n i b)))
      (λ ne. kept_field (λ v. f v k n) d (e k n ∙ ap (λ (t : Bool). cond t x (f v k n)) (false_from_ne_true (eqb k j && eqb n i) (λ t. let both = and_parts (eqb k j) (eqb n i) t in ne (eqb-true k j both.0) (eqb-true n i both.1)))) (owner k))

  -- any field, by what it is at m
  pub if_field : {X : Type 0} (f : V → X) (d : X) (x : ℕ → X) → f w ≡ x m → (h : ℕ) → of f d (slice_get (slice_set vs m w) h) ≡ cond (eqb h m) (x h) (of f d (slice_get vs h))
  if_field f d x e h = if_into (λ y. of f d (slice_get (slice_set vs m w) h) ≡ y) m (x h) (of f d (slice_get vs h)) h
      (λ i. ap (λ (h : ℕ). of f d (slice_get (slice_set vs m w) h)) i ∙ ap (of f d) set_same ∙ e ∙ ap x (sym i))
      (λ ne. ap (of f d) (set_other h ne))
