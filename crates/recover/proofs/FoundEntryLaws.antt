-- Found entries, and what an image has where they stand.
use Rattle.std.proofs.Common.{◌≡◌, ℕ, ◌+◌, ◌-◌, ◌*◌, ◌<◌, List, [], ◌∷◌, length, get_or, refl, sym, ◌∙◌, ap, subst, arith, Bool, true, false, cond, ltb, map}
use Rattle.std.specs.Prelude.{filter}
use Rattle.std.specs.List.{AllByRecursion}
use Rattle.std.specs.Ordering.{is_lt}
use Rattle.std.proofs.lemmas.List.{get_or-map, length-map}
use Rattle.std.proofs.lemmas.Bool.{eq-eqb, ltb-true, ltb-false}
use Rattle.std.proofs.Math.Nat.{div-div-eq-div-mul, div-eq_of_lt}
use Rattle.chunk_map.specs.declared.layouts.Geometry.{Geometry}
use Rattle.chunk_map.specs.Layouts.{chunk_words}
use Rattle.store_image.specs.Facts.{In}
use Rattle.store_image.specs.Soundness.{contradicts}
use Rattle.recover.specs.declared.found_entries.Found.{Found}
use Rattle.recover.specs.Clashes.{name_cmp}
use Rattle.recover.specs.ByName.{name_of, is_named, IsInOrder, IsByName}
use Rattle.recover.specs.FoundEntries.{placed_at, entries_at, core_at, AreInOrder, is_found, AreByName}
use Rattle.recover.proofs.NameLaws.{in_filter, filter_in, all_of, one_of, any_default, NeighboursAgree}

-- a word in front of the second part is in the first
pub first_core : (l : Geometry) (at : ℕ) → at - 512 < chunk_words l * l.chunks → core_at l at ≡ 0
unfolding core_at
first_core l at within = div-div-eq-div-mul (at - 512) (chunk_words l) l.chunks ∙ div-eq_of_lt within

filter_map : {X Y : Type 0} (f : X → Y) (p : Y → Bool) (xs : List X) → filter p (map f xs) ≡ map f (filter (λ x. p (f x)) xs)
filter_map f p [] = refl
filter_map f p (x ∷ xs) = elim (p (f x)) as (λ b. cond b (f x ∷ filter p (map f xs)) (filter p (map f xs)) ≡ map f (cond b (x ∷ filter (λ x. p (f x)) xs) (filter (λ x. p (f x)) xs))) [
  | true ↦ ap (λ ys. f x ∷ ys) (filter_map f p xs)
  | false ↦ filter_map f p xs
]

-- the entries there are in the same order
module _ (l : Geometry) (image : ℕ → ℕ) where
  pub in_order : (fs : List Found) → AreInOrder fs → IsInOrder (entries_at l image fs)
  in_order [] rising k d low high = absurd (omega (arith, high))
  in_order (f ∷ fs) rising k d low high =
      let n = length-map (f ∷ fs) (placed_at l image) in
      let lt : k + 1 < length (f ∷ fs) = omega (arith, high, n) in
      let one = get_or-map (placed_at l image) (f ∷ fs) (k + 1) f d lt in
      let other = get_or-map (placed_at l image) (f ∷ fs) k f d (omega (arith, lt)) in
      (λ i. is_lt (name_cmp (name_of (one i)) (name_of (other i)))) ∙ rising k f low lt

  pub by_name_at : (es xs : List Found) → AreByName es xs → IsByName (entries_at l image es) (entries_at l image xs)
  by_name_at es xs is = record {
    same = λ k v. filter_map (placed_at l image) (is_named k v) xs ∙ ap (map (placed_at l image)) (is.same k v) ∙ sym (filter_map (placed_at l image) (is_named k v) es);
    rising = in_order xs is.rising;
  }

own_name : (x : Found) → is_found x.key x.version x ≡ true
own_name x = rw (eq-eqb x.key x.key refl, eq-eqb x.version x.version refl) refl

pub in_first : (es xs : List Found) → AreByName es xs → (x : Found) → In x xs → In x es
in_first es xs is x h = filter_in (is_found x.key x.version) es x (subst (In x) (is.same x.key x.version) (in_filter (is_found x.key x.version) xs x h (own_name x)))

pub in_sorted : (es xs : List Found) → AreByName es xs → (x : Found) → In x es → In x xs
in_sorted es xs is x h = filter_in (is_found x.key x.version) xs x (subst (In x) (sym (is.same x.key x.version)) (in_filter (is_found x.key x.version) es x h (own_name x)))

-- what holds of each holds of each in another order
pub all_by_name : (P : Found → Type 0) (es xs : List Found) → AreByName es xs → AllByRecursion P es → AllByRecursion P xs
all_by_name P es xs is all = all_of P xs (λ x h. one_of P es x all (in_first es xs is x h))

-- an element by its place, whatever stands for none
abbrev pub no_found : Found
no_found = record { key = 0; version = 0; at = 0 }

pub key_any : (fs : List Found) (i j : ℕ) → i < length fs → j < length fs → (get_or fs i no_found).key ≡ (get_or fs j no_found).key → (d : Found) → (get_or fs i d).key ≡ (get_or fs j d).key
key_any fs i j low high same d = ap (λ (f : Found). f.key) (any_default fs i d no_found low) ∙ same ∙ ap (λ (f : Found). f.key) (any_default fs j no_found d high)

-- one more of the entries agrees with the one before it
pub near_more : (l : Geometry) (image : ℕ → ℕ) (fs : List Found) (n : ℕ) → 0 < n → n < length fs → NeighboursAgree (entries_at l image fs) n
    → contradicts (placed_at l image (get_or fs n no_found)) (placed_at l image (get_or fs (n - 1) no_found)) ≡ false → NeighboursAgree (entries_at l image fs) (n + 1)
near_more l image fs n some lt near fine j d high = elim (ltb (j + 1) n) as (λ b. ltb (j + 1) n ≡ b → contradicts (get_or (entries_at l image fs) (j + 1) d) (get_or (entries_at l image fs) j d) ≡ false) [
  | true ↦ λ e. near j d (ltb-true (j + 1) n e)
  | false ↦ λ e.
      let h = ltb-false (j + 1) n e in
      let here : j + 1 ≡ n = omega (arith, h, high) in
      let before : j ≡ n - 1 = omega (arith, here) in
      let one = ap (λ k. get_or (entries_at l image fs) k d) here ∙ get_or-map (placed_at l image) fs n no_found d lt in
      let other = ap (λ k. get_or (entries_at l image fs) k d) before ∙ get_or-map (placed_at l image) fs (n - 1) no_found d (omega (arith, lt)) in
      (λ i. contradicts (one i) (other i)) ∙ fine
] refl
