-- The live pairs among rising keys list the cells.
use Rattle.std.proofs.Common.{◌≡◌, inl, inr, ℕ, ◌+◌, ◌<◌, ltb, List, [], ◌∷◌, ◌++◌, length, map, drop, get_or, refl, sym, ◌∙◌, ap, arith, append_assoc, append-nil, subst, ◌≤◌, ◌==◌, true, false, cond, Option, Some, None}
use Rattle.std.proofs.lemmas.Bool.{eqb-true, eqb-false, ltb-true, ltb-false}
use Rattle.std.proofs.lemmas.List.{drop_more}
use Rattle.std.proofs.Math.ListN.{drop_of_length-le}
use Rattle.std.specs.List.{AllByRecursion}
use Rattle.std.specs.Option.{option_and_then}
use Rattle.fs_model.specs.declared.model.Pair.{Pair}
use Rattle.chunk_map.specs.declared.layouts.Geometry.{Geometry}
use Rattle.store_image.specs.declared.types.PlacedEntry.{PlacedEntry}
use Rattle.chunk_map.specs.Layouts.{owner}
use Rattle.store_image.specs.Parts.{all_entries, value_in_block}
use Rattle.store_image.specs.Winners.{winner_in, with_key, keys_of, cell_by, recovered}
use Rattle.store_image.specs.Listing.{IsRising, lookup, ListsCells, with_pair}
use Rattle.store_image.specs.Facts.{In}
use Rattle.store_image.proofs.SoundLaws.{winner_key}

-- the live pairs among these keys
abbrev pub pairs_of : (ℕ → Option (List ℕ)) → List ℕ → List Pair
pairs_of cells [] = []
pairs_of cells (k ∷ ks) = with_pair k (cells k) (pairs_of cells ks)

above_more : (b x : ℕ) (xs : List ℕ) → b < x → AllByRecursion (λ y. x < y) xs → AllByRecursion (λ y. b < y) xs
above_more b x [] lt all = tt
above_more b x (y ∷ ys) lt all = (let l = all.0 in omega (arith, lt, l), above_more b x ys lt all.1)

above_with : (b k : ℕ) (ks : List ℕ) → b < k → AllByRecursion (λ y. b < y) ks → AllByRecursion (λ y. b < y) (with_key k ks)
above_with b k [] lt all = (lt, tt)
above_with b k (x ∷ xs) lt all = elim (ltb k x) as (λ c. AllByRecursion (λ y. b < y) (cond c (k ∷ x ∷ xs) (cond (k == x) (x ∷ xs) (x ∷ with_key k xs)))) [
  | true ↦ (lt, all)
  | false ↦ elim (k == x) as (λ c. AllByRecursion (λ y. b < y) (cond c (x ∷ xs) (x ∷ with_key k xs))) [
    | true ↦ all
    | false ↦ (all.0, above_with b k xs lt all.1)
  ]
]

rising_with : (k : ℕ) (ks : List ℕ) → IsRising ks → IsRising (with_key k ks)
rising_with k [] is = (tt, tt)
rising_with k (x ∷ xs) is = elim (ltb k x) as (λ c. ltb k x ≡ c → IsRising (cond c (k ∷ x ∷ xs) (cond (k == x) (x ∷ xs) (x ∷ with_key k xs)))) [
  | true ↦ λ e. (let lt = ltb-true k x e in ((lt, above_more k x xs lt is.0), is))
  | false ↦ λ e. elim (k == x) as (λ c. (k == x) ≡ c → IsRising (cond c (x ∷ xs) (x ∷ with_key k xs))) [
    | true ↦ λ q. is
    | false ↦ λ q. (let le = ltb-false k x e in let ne = eqb-false k x q in (above_with x k xs (omega (arith, le, ne)) is.0, rising_with k xs is.1))
  ] refl
] refl

-- the keys of entries rise
pub rising_keys : (es : List PlacedEntry) → IsRising (keys_of es)
rising_keys [] = tt
rising_keys (e ∷ es) = rising_with e.entry.key (keys_of es) (rising_keys es)

above_pairs : (cells : ℕ → Option (List ℕ)) (b : ℕ) (ks : List ℕ) → AllByRecursion (λ y. b < y) ks → AllByRecursion (λ y. b < y) (map (λ x. x.key) (pairs_of cells ks))
above_pairs cells b [] all = tt
above_pairs cells b (k ∷ ks) all = elim (cells k) as (λ o. AllByRecursion (λ y. b < y) (map (λ x. x.key) (with_pair k o (pairs_of cells ks)))) [
  | None ↦ above_pairs cells b ks all.1
  | Some v ↦ (all.0, above_pairs cells b ks all.1)
]

rising_pairs : (cells : ℕ → Option (List ℕ)) (ks : List ℕ) → IsRising ks → IsRising (map (λ x. x.key) (pairs_of cells ks))
rising_pairs cells [] is = tt
rising_pairs cells (k ∷ ks) is = elim (cells k) as (λ o. IsRising (map (λ x. x.key) (with_pair k o (pairs_of cells ks)))) [
  | None ↦ rising_pairs cells ks is.1
  | Some v ↦ (above_pairs cells k ks is.0, rising_pairs cells ks is.1)
]

looked_here : (cells : ℕ → Option (List ℕ)) (k x : ℕ) (xs : List ℕ) → ((In k (x ∷ xs) → ⊥) → cells k ≡ None) → (((In k xs → ⊥) → cells k ≡ None) → lookup k (pairs_of cells xs) ≡ cells k) → (o : Option (List ℕ)) → cells x ≡ o
    → lookup k (with_pair x o (pairs_of cells xs)) ≡ cells k
looked_here cells k x xs none again None e = again not_here where
  not_here : (In k xs → ⊥) → cells k ≡ None
  not_here h = elim (k == x) as (λ c. (k == x) ≡ c → cells k ≡ None) [
    | true ↦ λ q. ap cells (eqb-true k x q) ∙ e
    | false ↦ λ q. none (λ i. elim i [ inl p ↦ eqb-false k x q p | inr p ↦ h p ])
  ] refl
looked_here cells k x xs none again (Some v) e = elim (x == k) as (λ c. (x == k) ≡ c → lookup k (record { key = x; value = v } ∷ pairs_of cells xs) ≡ cells k) [
  | true ↦ λ q. rw q (sym e ∙ ap cells (eqb-true x k q))
  | false ↦ λ q. rw q (again (λ h. none (λ i. elim i [ inl p ↦ eqb-false x k q (sym p) | inr p ↦ h p ])))
] refl

looked_up : (cells : ℕ → Option (List ℕ)) (k : ℕ) (ks : List ℕ) → ((In k ks → ⊥) → cells k ≡ None) → lookup k (pairs_of cells ks) ≡ cells k
looked_up cells k [] none = sym (none (λ h. h))
looked_up cells k (x ∷ xs) none = looked_here cells k x xs none (looked_up cells k xs) (cells x) refl

-- the pairs of rising keys list the cells, where each key that has one is among them
pub lists_cells : (cells : ℕ → Option (List ℕ)) (ks : List ℕ) → IsRising ks → ((k : ℕ) → (In k ks → ⊥) → cells k ≡ None) → ListsCells cells (pairs_of cells ks)
lists_cells cells ks rising none = record { rising = rising_pairs cells ks rising; each = λ k. looked_up cells k ks (none k) }

pub lists_pairs : (l : Geometry) (image : ℕ → ℕ) → ListsCells (recovered l image) (pairs_of (recovered l image) (keys_of (all_entries l image)))
lists_pairs l image = lists_cells (recovered l image) (keys_of (all_entries l image)) (rising_keys (all_entries l image)) (λ k h. no_winner k (winner_in k (all_entries l image)) refl h)
  where
    no_winner : (k : ℕ) (o : Option PlacedEntry) → winner_in k (all_entries l image) ≡ o → (In k (keys_of (all_entries l image)) → ⊥) → option_and_then (λ x. cell_by (value_in_block l image (owner l k)) x.entry.body) (winner_in k (all_entries l image)) ≡ None
    no_winner k None e h = ap (option_and_then (λ x. cell_by (value_in_block l image (owner l k)) x.entry.body)) e
    no_winner k (Some x) e h = absurd (h (winner_key k (all_entries l image) x e))

-- the pairs so far, and those of the keys from the i-th on
module _ (cells : ℕ → Option (List ℕ)) (ks : List ℕ) (i : ℕ) (ps : List Pair) (lt : i < length ks) where
  at_key : pairs_of cells (drop i ks) ≡ with_pair (get_or ks i 0) (cells (get_or ks i 0)) (pairs_of cells (drop (i + 1) ks))
  at_key = ap (pairs_of cells) (drop_more ks i 0 lt)

  pub pair_added : (more : List Pair) → more ≡ ps ++ with_pair (get_or ks i 0) (cells (get_or ks i 0)) [] → more ++ pairs_of cells (drop (i + 1) ks) ≡ ps ++ pairs_of cells (drop i ks)
  pair_added more is =
      let rest = pairs_of cells (drop (i + 1) ks) in
      ap (λ l. l ++ rest) is ∙ append_assoc ps (with_pair (get_or ks i 0) (cells (get_or ks i 0)) []) rest ∙ ap (λ l. ps ++ l) (before (cells (get_or ks i 0)) rest ∙ sym at_key)
    where
      before : (o : Option (List ℕ)) (rest : List Pair) → with_pair (get_or ks i 0) o [] ++ rest ≡ with_pair (get_or ks i 0) o rest
      before None rest = refl
      before (Some v) rest = refl

-- what a winner leaves is the cell
pub cell_at : (l : Geometry) (image : ℕ → ℕ) (k : ℕ) (es : List PlacedEntry) (x : PlacedEntry) (v : Option (List ℕ)) → es ≡ all_entries l image → winner_in k es ≡ Some x → v ≡ cell_by (value_in_block l image (owner l k)) x.entry.body → v ≡ recovered l image k
cell_at l image k es x v is wins leaves = leaves ∙ sym (ap (option_and_then (λ x. cell_by (value_in_block l image (owner l k)) x.entry.body)) (ap (winner_in k) (sym is) ∙ wins))

-- when no key is left
pub pairs_listed : (l : Geometry) (image : ℕ → ℕ) (ks : List ℕ) (i : ℕ) (ps : List Pair) → ks ≡ keys_of (all_entries l image) → length ks ≤ i → ps ++ pairs_of (recovered l image) (drop i ks) ≡ pairs_of (recovered l image) ks → ListsCells (recovered l image) ps
pairs_listed l image ks i ps is none all =
    let whole : ps ≡ pairs_of (recovered l image) (keys_of (all_entries l image)) = sym (append-nil ps) ∙ ap (λ xs. ps ++ pairs_of (recovered l image) xs) (sym (drop_of_length-le ks none)) ∙ all ∙ ap (pairs_of (recovered l image)) is in
    subst (ListsCells (recovered l image)) (sym whole) (lists_pairs l image)
