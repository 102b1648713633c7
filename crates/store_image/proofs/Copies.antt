-- Entries that others equal or outdo can come and go: no winner changes.
use Rattle.std.proofs.Common.{◌≡◌, ◌⊎◌, inl, inr, ℕ, ◌<◌, ◌≤◌, List, [], ◌∷◌, ◌++◌, refl, sym, ◌∙◌, ap, arith, ◌==◌, true, false, cond, Option, Some, None, ltb}
use Rattle.std.specs.Prelude.{option_map}
use Rattle.std.proofs.lemmas.Bool.{eqb-false, ltb-true, ltb-false}
use Rattle.store_image.specs.declared.types.PlacedEntry.{PlacedEntry}
use Rattle.store_image.specs.Winners.{better, winner_in}
use Rattle.store_image.specs.Facts.{In, Agree}
use Rattle.store_image.proofs.SoundFacts.{in_front, in_back, in_either, winner_is}

-- a key with an entry has a winner
pub winner_some : (k : ℕ) (es : List PlacedEntry) (x : PlacedEntry) → In x es → x.entry.key ≡ k → winner_in k es ≡ None → ⊥
winner_some k [] x h own none = h
winner_some k (z ∷ zs) x h own none = elim (z.entry.key == k) as (λ b. (z.entry.key == k) ≡ b → cond b (Some (better z (winner_in k zs))) (winner_in k zs) ≡ None → ⊥) [
  | true ↦ λ e q. cc q
  | false ↦ λ e q. behind e q (winner_some k zs x) h
] refl none where
  behind : (z.entry.key == k) ≡ false → winner_in k zs ≡ None → (In x zs → x.entry.key ≡ k → winner_in k zs ≡ None → ⊥) → In x (z ∷ zs) → ⊥
  behind e q again (inl p) = eqb-false z.entry.key k e (ap (λ (w : PlacedEntry). w.entry.key) (sym p) ∙ own)
  behind e q again (inr g) = again g own q

-- and none of its entries is of greater version
better_max : (z x y : PlacedEntry) (o : Option PlacedEntry) → Some (better z o) ≡ Some x → (y ≡ z) ⊎ ((w : PlacedEntry) × (o ≡ Some w) × (y.entry.version ≤ w.entry.version)) → y.entry.version ≤ x.entry.version
better_max z x y None is (inl p) = let e : z ≡ x = cc is in let v = ap (λ (w : PlacedEntry). w.entry.version) (p ∙ e) in omega (arith, v)
better_max z x y None is (inr h) = cc (h.1)
better_max z x y (Some u) is h = elim (ltb z.entry.version u.entry.version) as (λ b. ltb z.entry.version u.entry.version ≡ b → Some (cond b u z) ≡ Some x → y.entry.version ≤ x.entry.version) [
  | true ↦ λ e q. (let same : u ≡ x = cc q in newer (ltb-true z.entry.version u.entry.version e) (ap (λ (w : PlacedEntry). w.entry.version) same) h)
  | false ↦ λ e q. (let same : z ≡ x = cc q in older (ltb-false z.entry.version u.entry.version e) (ap (λ (w : PlacedEntry). w.entry.version) same) h)
] refl is where
  newer : z.entry.version < u.entry.version → u.entry.version ≡ x.entry.version → (y ≡ z) ⊎ ((w : PlacedEntry) × (Some u ≡ Some w) × (y.entry.version ≤ w.entry.version)) → y.entry.version ≤ x.entry.version
  newer lt v (inl p) = let o = ap (λ (w : PlacedEntry). w.entry.version) p in omega (arith, lt, v, o)
  newer lt v (inr h) = let same : u ≡ h.0 = cc (h.1) in let o = ap (λ (w : PlacedEntry). w.entry.version) same in let le = h.2 in omega (arith, v, o, le)

  older : u.entry.version ≤ z.entry.version → z.entry.version ≡ x.entry.version → (y ≡ z) ⊎ ((w : PlacedEntry) × (Some u ≡ Some w) × (y.entry.version ≤ w.entry.version)) → y.entry.version ≤ x.entry.version
  older le v (inl p) = let o = ap (λ (w : PlacedEntry). w.entry.version) p in omega (arith, v, o)
  older le v (inr h) = let same : u ≡ h.0 = cc (h.1) in let o = ap (λ (w : PlacedEntry). w.entry.version) same in let l = h.2 in omega (arith, le, v, o, l)

pub winner_max : (k : ℕ) (es : List PlacedEntry) (x y : PlacedEntry) → winner_in k es ≡ Some x → In y es → y.entry.key ≡ k → y.entry.version ≤ x.entry.version
winner_max k [] x y is h own = absurd h
winner_max k (z ∷ zs) x y is h own = elim (z.entry.key == k) as (λ b. (z.entry.key == k) ≡ b → cond b (Some (better z (winner_in k zs))) (winner_in k zs) ≡ Some x → y.entry.version ≤ x.entry.version) [
  | true ↦ λ e q. better_max z x y (winner_in k zs) q (at h (winner_in k zs) refl (λ w s g. winner_max k zs w y s g own))
  | false ↦ λ e q. behind e h (λ g. winner_max k zs x y q g own)
] refl is where
  at : In y (z ∷ zs) → (o : Option PlacedEntry) → winner_in k zs ≡ o → ((w : PlacedEntry) → winner_in k zs ≡ Some w → In y zs → y.entry.version ≤ w.entry.version) → (y ≡ z) ⊎ ((w : PlacedEntry) × (o ≡ Some w) × (y.entry.version ≤ w.entry.version))
  at (inl p) o s again = inl p
  at (inr g) None s again = absurd (winner_some k zs y g own s)
  at (inr g) (Some w) s again = inr (w, refl, again w s g)

  behind : (z.entry.key == k) ≡ false → In y (z ∷ zs) → (In y zs → y.entry.version ≤ x.entry.version) → y.entry.version ≤ x.entry.version
  behind e (inl p) again = absurd (eqb-false z.entry.key k e (ap (λ (w : PlacedEntry). w.entry.key) (sym p) ∙ own))
  behind e (inr g) again = again g

in_outer : (y : PlacedEntry) (a xs b : List PlacedEntry) → In y (a ++ b) → In y (a ++ (xs ++ b))
in_outer y a xs b h = elim (in_either y a b h) [
  | inl p ↦ in_front y a (xs ++ b) p
  | inr p ↦ in_back y a (xs ++ b) (in_back y xs b p)
]

in_three : (y : PlacedEntry) (a xs b : List PlacedEntry) → In y (a ++ (xs ++ b)) → In y xs ⊎ In y (a ++ b)
in_three y a xs b h = elim (in_either y a (xs ++ b) h) [
  | inl p ↦ inr (in_front y a b p)
  | inr p ↦ elim (in_either y xs b p) [
    | inl q ↦ inl q
    | inr q ↦ inr (in_back y a b q)
  ]
]

-- each entry of xs has one among es of its key that is no older
abbrev pub Outdone : List PlacedEntry → List PlacedEntry → Type 0
Outdone xs es = (e : PlacedEntry) → In e xs → (z : PlacedEntry) × In z es × (z.entry.key ≡ e.entry.key) × (e.entry.version ≤ z.entry.version)

-- Where entries that agree are put in or taken out that others outdo, each key's winner stays the same entry.
pub winners_kept : (k : ℕ) (a xs b : List PlacedEntry) → Agree (a ++ (xs ++ b)) → Outdone xs (a ++ b) → option_map (λ x. x.entry) (winner_in k (a ++ (xs ++ b))) ≡ option_map (λ x. x.entry) (winner_in k (a ++ b))
winners_kept k a xs b agree outdone = by_winners (winner_in k (a ++ (xs ++ b))) (winner_in k (a ++ b)) refl refl where
  -- of an entry of the longer list there is one of the shorter that is no older
  shorter : (y : PlacedEntry) → In y (a ++ (xs ++ b)) → (z : PlacedEntry) × In z (a ++ b) × (z.entry.key ≡ y.entry.key) × (y.entry.version ≤ z.entry.version)
  shorter y h = elim (in_three y a xs b h) [
    | inl p ↦ outdone y p
    | inr p ↦ (y, p, refl, omega arith)
  ]

  equal : (x y : PlacedEntry) → winner_in k (a ++ (xs ++ b)) ≡ Some x → winner_in k (a ++ b) ≡ Some y → x.entry ≡ y.entry
  equal x y long short =
      let ix = winner_is k (a ++ (xs ++ b)) x long in
      let iy = winner_is k (a ++ b) y short in
      let up = winner_max k (a ++ (xs ++ b)) x y long (in_outer y a xs b iy.0) iy.1 in
      let z = shorter x ix.0 in
      let down = winner_max k (a ++ b) y z.0 short z.1 (z.2 ∙ ix.1) in
      let no_older = z.3 in
      let key : x.entry.key ≡ y.entry.key = ix.1 ∙ sym iy.1 in
      let version : x.entry.version ≡ y.entry.version = omega (arith, up, down, no_older) in
      let body = (agree x y ix.0 (in_outer y a xs b iy.0) key version).0 in
      (λ t. record { key = key t; version = version t; body = body t })

  by_winners : (o p : Option PlacedEntry) → winner_in k (a ++ (xs ++ b)) ≡ o → winner_in k (a ++ b) ≡ p → option_map (λ x. x.entry) o ≡ option_map (λ x. x.entry) p
  by_winners None None long short = refl
  by_winners None (Some y) long short = let iy = winner_is k (a ++ b) y short in absurd (winner_some k (a ++ (xs ++ b)) y (in_outer y a xs b iy.0) iy.1 long)
  by_winners (Some x) None long short = let ix = winner_is k (a ++ (xs ++ b)) x long in let z = shorter x ix.0 in absurd (winner_some k (a ++ b) z.0 z.1 (z.2 ∙ ix.1) short)
  by_winners (Some x) (Some y) long short = ap Some (equal x y long short)
