-- The keys of the names that an index lists, and the live keys of several indexes.
use Rattle.std.proofs.Common.{◌≡◌, ⊎_elim, ℕ, zero, suc, ◌+◌, ◌<◌, ◌≤◌, ◌==◌, ◌||◌, List, [], ◌∷◌, ◌++◌, length, map, get_or, Bool, true, false, Option, Some, None, refl, sym, ◌∙◌, ap, subst, arith}
use Rattle.std.specs.Prelude.{◌↔◌, is_some, slice_get, slice_index}
use Rattle.std.specs.List.{AllByRecursion, Contains, list_any}
use Rattle.std.specs.List.Sorted.{IsStrictlyIncreasing}
use Rattle.std.proofs.lemmas.Bool.{eq-eqb, eqb-true, or_left, or_right, or_cases, true≢false, false_from_ne_true}
use Rattle.std.proofs.lemmas.List.Folds.{list_any-append}
use Rattle.log_entry.specs.declared.entry.EntryName.{EntryName}
use Rattle.store_image.specs.Listing.{IsRising}
use Rattle.core_index.specs.Noted.{name_with}
use Rattle.recover.specs.declared.types.CoreStart.{CoreStart}
use Rattle.range_scan.specs.Keys.{has, IsUnion}
use Rattle.range_scan.specs.LiveKeys.{AreLiveIn, AreLiveKeys, is_live}

above_more : (x y : ℕ) (ys : List ℕ) → x < y → AllByRecursion (λ z. y < z) ys → AllByRecursion (λ z. x < z) ys
above_more x y [] lt all = tt
above_more x y (z ∷ zs) lt all = (let a = all.0 in omega (arith, a, lt), above_more x y zs lt all.1)

rises_over : (x : ℕ) (xs : List ℕ) → IsStrictlyIncreasing (x ∷ xs) → IsRising xs → AllByRecursion (λ y. x < y) xs
rises_over x [] increasing rising = tt
rises_over x (y ∷ ys) increasing rising = (let lt : x < y = increasing 0 (omega arith) in (lt, above_more x y ys lt rising.0))

pub rises : (xs : List ℕ) → IsStrictlyIncreasing xs → IsRising xs
rises [] increasing = tt
rises (x ∷ xs) increasing =
    let rest = rises xs (λ k lt. subst (λ (n : ℕ). slice_index (x ∷ xs) (suc k) < slice_index (x ∷ xs) n) (next k) (increasing (suc k) (omega (arith, lt)))) in
    (rises_over x xs increasing rest, rest)
  where
    next : (k : ℕ) → suc k + 1 ≡ suc (k + 1)
    next k = omega arith

-- a name in the list
has_at : (names : List EntryName) (i : ℕ) (n : EntryName) → i < length names → get_or names i n ≡ n → has (map (λ (m : EntryName). m.key) names) n.key ≡ true
has_at [] i n lt is = absurd (omega (arith, lt))
has_at (m ∷ ms) zero n lt is = or_left (m.key == n.key) (has (map (λ (m : EntryName). m.key) ms) n.key) (eq-eqb m.key n.key (ap (λ (m : EntryName). m.key) is))
has_at (m ∷ ms) (suc i) n lt is = or_right (m.key == n.key) (has (map (λ (m : EntryName). m.key) ms) n.key) (has_at ms i n (omega (arith, lt)) is)

named : (names : List EntryName) (k : ℕ) → has (map (λ (m : EntryName). m.key) names) k ≡ true → (v : ℕ) × Contains names (name_with k v)
named [] k is = absurd (true≢false (sym is))
named (m ∷ ms) k is = ⊎_elim
    (λ (here : (m.key == k) ≡ true). (m.version, (0, omega arith, (let e = eqb-true m.key k here in λ i. name_with (e i) m.version))))
    (λ (there : has (map (λ (m : EntryName). m.key) ms) k ≡ true). (let w = named ms k there in (w.0, (suc w.1.0, (let lt = w.1.1 in omega (arith, lt)), w.1.2))))
    (or_cases (m.key == k) (has (map (λ (m : EntryName). m.key) ms) k) is)

pub named_keys : (names : List EntryName) (version : ℕ → Option ℕ) → ((k v : ℕ) → Contains names (name_with k v) ↔ (version k ≡ Some v)) → (k : ℕ) → has (map (λ (m : EntryName). m.key) names) k ≡ is_some (version k)
named_keys names version each k = by (version k) refl where
  by : (o : Option ℕ) → version k ≡ o → has (map (λ (m : EntryName). m.key) names) k ≡ is_some o
  by (Some v) e = (let there = (each k v).1 e in has_at names there.0 (name_with k v) there.1 there.2)
  by None e = false_from_ne_true (has (map (λ (m : EntryName). m.key) names) k) (λ is. (let w = named names k is in let some = (each k w.0).0 w.1 in cc (sym e ∙ some)))

-- the keys of several cores
pub live_union : (starts front back : List CoreStart) (xs ys zs : List ℕ) → starts ≡ front ++ back → AreLiveKeys front xs → AreLiveKeys back ys → IsUnion xs ys zs → AreLiveKeys starts zs
live_union starts front back xs ys zs is a b union = record {
  rising = union.rising;
  each = λ k. union.each k ∙ ap (λ c. c || has ys k) (a.each k) ∙ ap (λ c. list_any (is_live k) front || c) (b.each k) ∙ sym (list_any-append (is_live k) front back) ∙ ap (list_any (is_live k)) (sym is);
}

or_false : (b : Bool) → b ≡ (b || false)
or_false true = refl
or_false false = refl

pub live_one : (starts : List CoreStart) (start : CoreStart) (keys : List ℕ) → Some start ≡ slice_get starts 0 → length starts ≤ 1 → AreLiveIn start.index keys → AreLiveKeys starts keys
live_one [] start keys is few live = absurd (cc is)
live_one (s ∷ (t ∷ ts)) start keys is few live = absurd (omega (arith, few))
live_one (s ∷ []) start keys is few live =
    let e : start ≡ s = cc is in
    record { rising = live.rising; each = λ k. live.each k ∙ ap (is_live k) e ∙ or_false (is_live k s) }

pub live_none : (starts : List CoreStart) (keys : List ℕ) → None ≡ slice_get starts 0 → keys ≡ [] → AreLiveKeys starts keys
live_none [] keys is none = subst (AreLiveKeys []) (sym none) (record { rising = tt; each = λ k. refl })
live_none (s ∷ ss) keys is none = absurd (cc is)
