-- Lists of names, as sets.
use Rattle.std.proofs.Common.{◌≡◌, ℕ, ◌+◌, ◌<◌, Bool, true, false, cond, not, ◌&&◌, ◌||◌, eqb, List, [], ◌∷◌, ◌++◌, take, length, get_or, ◌⊎◌, inl, inr, refl, sym, ap, ◌∙◌}
use Rattle.std.proofs.lemmas.List.{take_more}
use Rattle.std.proofs.lemmas.Bool.{eqb-true, eq-eqb, and_parts, and_from, or_cases, or_left, or_right}
use Rattle.log_entry.specs.declared.entry.EntryName.{EntryName}
use Rattle.log_entry.specs.declared.entry.Entry.{Entry}
use Rattle.group_laws.specs.Updates.{has, without}
use Rattle.group_laws.proofs.Clients.{In_has}
use Rattle.group_machine.proofs.Lists.{In-at}

or_assoc : (a b c : Bool) → ((a || b) || c) ≡ (a || (b || c))
or_assoc true b c = refl
or_assoc false b c = refl

pub has_append : (xs ys : List EntryName) (k n : ℕ) → has (xs ++ ys) k n ≡ (has xs k n || has ys k n)
has_append [] ys k n = refl
has_append (x ∷ xs) ys k n = ap (λ (b : Bool). (eqb x.key k && eqb x.version n) || b) (has_append xs ys k n) ∙ sym (or_assoc (eqb x.key k && eqb x.version n) (has xs k n) (has ys k n))

pub in_either : (xs ys : List EntryName) (k n : ℕ) → has (xs ++ ys) k n ≡ true → (has xs k n ≡ true) ⊎ (has ys k n ≡ true)
in_either xs ys k n t = or_cases (has xs k n) (has ys k n) (sym (has_append xs ys k n) ∙ t)

pub in_front : (xs ys : List EntryName) (k n : ℕ) → has xs k n ≡ true → has (xs ++ ys) k n ≡ true
in_front xs ys k n t = has_append xs ys k n ∙ or_left (has xs k n) (has ys k n) t

pub in_back : (xs ys : List EntryName) (k n : ℕ) → has ys k n ≡ true → has (xs ++ ys) k n ≡ true
in_back xs ys k n t = has_append xs ys k n ∙ or_right (has xs k n) (has ys k n) t

pub is_one : (x : EntryName) (k n : ℕ) → has (x ∷ []) k n ≡ true → (k ≡ x.key) × (n ≡ x.version)
is_one x k n t = elim (or_cases (eqb x.key k && eqb x.version n) false t) [
  | inl i ↦ let both = and_parts (eqb x.key k) (eqb x.version n) i in (sym (eqb-true x.key k both.0), sym (eqb-true x.version n both.1))
  | inr i ↦ absurd (cc i)
]

pub one_is : (x : EntryName) (k n : ℕ) → k ≡ x.key → n ≡ x.version → has (x ∷ []) k n ≡ true
one_is x k n i j = or_left (eqb x.key k && eqb x.version n) false (and_from (eqb x.key k) (eqb x.version n) (eq-eqb x.key k (sym i)) (eq-eqb x.version n (sym j)))

pub has_more : (xs : List EntryName) (i : ℕ) (d : EntryName) (k n : ℕ) → i < length xs → has (take (i + 1) xs) k n ≡ (has (take i xs) k n || has (get_or xs i d ∷ []) k n)
has_more xs i d k n l = ap (λ (ys : List EntryName). has ys k n) (take_more xs i d l) ∙ has_append (take i xs) (get_or xs i d ∷ []) k n

pub more_cases : (xs : List EntryName) (i : ℕ) (d : EntryName) (k n : ℕ) → i < length xs → has (take (i + 1) xs) k n ≡ true → (has (take i xs) k n ≡ true) ⊎ ((k ≡ (get_or xs i d).key) × (n ≡ (get_or xs i d).version))
more_cases xs i d k n l t = elim (or_cases (has (take i xs) k n) (has (get_or xs i d ∷ []) k n) (sym (has_more xs i d k n l) ∙ t)) [ inl old ↦ inl old | inr one ↦ inr (is_one (get_or xs i d) k n one) ]

pub more_from : (xs : List EntryName) (i : ℕ) (d : EntryName) (k n : ℕ) → i < length xs → (has (take i xs) k n ≡ true) ⊎ ((k ≡ (get_or xs i d).key) × (n ≡ (get_or xs i d).version)) → has (take (i + 1) xs) k n ≡ true
more_from xs i d k n l (inl old) = has_more xs i d k n l ∙ or_left (has (take i xs) k n) (has (get_or xs i d ∷ []) k n) old
more_from xs i d k n l (inr one) = has_more xs i d k n l ∙ or_right (has (take i xs) k n) (has (get_or xs i d ∷ []) k n) (one_is (get_or xs i d) k n one.0 one.1)

pub has_at : (xs : List EntryName) (i : ℕ) (d : EntryName) → i < length xs → has xs (get_or xs i d).key (get_or xs i d).version ≡ true
has_at xs i d l = In_has xs (get_or xs i d) (In-at (get_or xs i d) xs i d l refl)

pub none_there : (b : Bool) → (b ≡ true → ⊥) → b ≡ false
none_there true ne = absurd (ne refl)
none_there false ne = refl

-- two tests that pass for the same names
pub same_test : (a b c : Bool) → (a ≡ true → (b ≡ true) × (c ≡ false)) → ((b ≡ true) × (c ≡ false) → a ≡ true) → a ≡ (b && not c)
same_test true b c to from = let is = to refl in sym (λ i. is.0 i && not (is.1 i))
same_test false true true to from = refl
same_test false true false to from = from (refl, refl)
same_test false false c to from = refl

pub without_append : (ns : List EntryName) (xs ys : List Entry) → without ns (xs ++ ys) ≡ without ns xs ++ without ns ys
without_append ns [] ys = refl
without_append ns (x ∷ xs) ys = joined (has ns x.key x.version) (without_append ns xs ys)
  where
    joined : (b : Bool) → without ns (xs ++ ys) ≡ without ns xs ++ without ns ys → cond b (without ns (xs ++ ys)) (x ∷ without ns (xs ++ ys)) ≡ cond b (without ns xs) (x ∷ without ns xs) ++ without ns ys
    joined true e = e
    joined false e = ap (λ (es : List Entry). x ∷ es) e
