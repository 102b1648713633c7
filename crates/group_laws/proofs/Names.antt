-- Lists of names, and updates under a guard.
use Rattle.std.proofs.Common.{◌≡◌, ℕ, Bool, true, false, cond, ◌&&◌, eqb, List, [], ◌∷◌, ◌⊎◌, inl, inr, sym, ap, ◌∙◌}
use Rattle.std.proofs.lemmas.Bool.{eqb-true, eq-eqb, and_parts, and_from, or_cases, or_left, or_right}
use Rattle.log_entry.specs.declared.entry.Entry.{Entry}
use Rattle.log_entry.specs.declared.entry.EntryName.{EntryName}
use Rattle.store_image.specs.Facts.{In}
use Rattle.group_laws.specs.Updates.{has, without}
use Rattle.group_laws.proofs.Puts.{cond_cases, cond_into}

name_is : (n : EntryName) (k v : ℕ) → n.key ≡ k → n.version ≡ v → record { key = k; version = v } ≡ n
name_is n k v i j = λ d. record { key = sym i d; version = sym j d }

pub has_In : (ns : List EntryName) (k v : ℕ) → has ns k v ≡ true → In (record { key = k; version = v }) ns
has_In [] k v t = absurd (cc t)
has_In (n ∷ ns) k v t = elim (or_cases (eqb n.key k && eqb n.version v) (has ns k v) t) [
  | inl i ↦ let both = and_parts (eqb n.key k) (eqb n.version v) i in inl (name_is n k v (eqb-true n.key k both.0) (eqb-true n.version v both.1))
  | inr i ↦ inr (has_In ns k v i)
]

pub In_has : (ns : List EntryName) (x : EntryName) → In x ns → has ns x.key x.version ≡ true
In_has [] x i = absurd i
In_has (n ∷ ns) x (inl i) = or_left (eqb n.key x.key && eqb n.version x.version) (has ns x.key x.version)
    (and_from (eqb n.key x.key) (eqb n.version x.version) (eq-eqb _ _ (ap (λ (n : EntryName). n.key) (sym i))) (eq-eqb _ _ (ap (λ (n : EntryName). n.version) (sym i))))
In_has (n ∷ ns) x (inr i) = or_right (eqb n.key x.key && eqb n.version x.version) (has ns x.key x.version) (In_has ns x i)

pub without_was : (ns : List EntryName) (es : List Entry) (x : Entry) → In x (without ns es) → In x es × (has ns x.key x.version ≡ false)
without_was ns [] x i = absurd i
without_was ns (e ∷ es) x i = elim (cond_cases (In x) (has ns e.key e.version) (without ns es) (e ∷ without ns es) i) [
  | inl j ↦ let old = without_was ns es x j.1 in (inr old.0, old.1)
  | inr j ↦ elim j.1 [ inl k ↦ (inl k, ap (λ (e : Entry). has ns e.key e.version) k ∙ j.0) | inr k ↦ let old = without_was ns es x k in (inr old.0, old.1) ]
]

clash : (b : Bool) → b ≡ true → b ≡ false → ⊥
clash b p q = cc (p, q)

pub without_stays : (ns : List EntryName) (es : List Entry) (x : Entry) → has ns x.key x.version ≡ false → In x es → In x (without ns es)
without_stays ns [] x f i = i
without_stays ns (e ∷ es) x f (inl i) = cond_into (In x) (has ns e.key e.version) (without ns es) (e ∷ without ns es) (λ t. absurd (clash _ (ap (λ (e : Entry). has ns e.key e.version) i ∙ t) f)) (λ _. inl i)
without_stays ns (e ∷ es) x f (inr i) = cond_into (In x) (has ns e.key e.version) (without ns es) (e ∷ without ns es) (λ _. without_stays ns es x f i) (λ _. inr (without_stays ns es x f i))

both_not : (a b : Bool) → (a && b) ≡ false → a ≡ true → b ≡ true → ⊥
both_not a b f p q = clash (a && b) (and_from a b p q) f

-- an update at m, where also the test b passes
pub guard_cases : {X : Type 0} (P : X → Type 0) (m : ℕ) (b : Bool) (x y : X) (n : ℕ) → P (cond (eqb n m && b) x y) → ((n ≡ m) × (b ≡ true) × P x) ⊎ ((n ≡ m → b ≡ true → ⊥) × P y)
guard_cases P m b x y n p = elim (cond_cases P (eqb n m && b) x y p) [
  | inl i ↦ let both = and_parts (eqb n m) b i.0 in inl (eqb-true n m both.0, both.1, i.1)
  | inr i ↦ inr (λ j k. both_not (eqb n m) b i.0 (eq-eqb n m j) k, i.1)
]

pub guard_into : {X : Type 0} (P : X → Type 0) (m : ℕ) (b : Bool) (x y : X) (n : ℕ) → (n ≡ m → b ≡ true → P x) → ((n ≡ m → b ≡ true → ⊥) → P y) → P (cond (eqb n m && b) x y)
guard_into P m b x y n p q = cond_into P (eqb n m && b) x y (λ i. let both = and_parts (eqb n m) b i in p (eqb-true n m both.0) both.1) (λ i. q (λ j k. both_not (eqb n m) b i (eq-eqb n m j) k))
