-- What a sound image keeps to.
use Rattle.std.proofs.Common.{◌≡◌, ◌⊎◌, inl, inr, ℕ, zero, suc, ◌+◌, ◌*◌, ◌<◌, ◌≤◌, List, [], ◌∷◌, ◌++◌, refl, sym, ◌∙◌, ap, arith, ◌==◌, ◌&&◌, ◌||◌, not, true, false, Bool, cond, Option, Some, None, ltb}
use Rattle.std.specs.Prelude.{bytes_eq, option_map}
use Rattle.std.specs.Option.{option_or}
use Rattle.std.proofs.lemmas.Slice.Eq.{bytes_eq-Decides}
use Rattle.std.specs.List.{list_any}
use Rattle.std.proofs.lemmas.Bool.{and_from, eqb-true, eqb-false, eq-eqb, lt-ltb}
use Rattle.log_entry.specs.declared.entry.Body.{Body}
use Rattle.log_entry.specs.declared.entry.Body.TheVariants.{Pointer, Embedded, Tombstone}
use Rattle.chunk_map.specs.declared.layouts.Geometry.{Geometry}
use Rattle.store_image.specs.declared.types.PlacedEntry.{PlacedEntry}
use Rattle.chunk_map.specs.Layouts.{numbers, superblock_rule, layout_of, owner, has_class}
use Rattle.store_image.specs.Parts.{all_entries, block_class, value_in_block, value_by_class, block_bytes}
use Rattle.store_image.specs.Winners.{better, winner_in, with_key, keys_of}
use Rattle.store_image.specs.Soundness.{first_some, damaged, chunk_rule, chunk_fault, same_body, contradicts, clash_after, clash_fault, points_to, pointer_rule, body_rule, winner_fault, block_fault, damage, fault_by, first_fault, IsSound}
use Rattle.store_image.specs.Facts.{In}

or_none : {X : Type 0} (a b : Option X) → option_or a b ≡ None → (a ≡ None) × (b ≡ None)
or_none None b e = (refl, e)
or_none (Some x) b e = cc e

map_none : {X Y : Type 0} (f : X → Y) (o : Option X) → option_map f o ≡ None → o ≡ None
map_none f None e = refl
map_none f (Some x) e = cc e

pub none_of : {X Y : Type 0} (f : X → Option Y) (xs : List X) (x : X) → first_some f xs ≡ None → In x xs → f x ≡ None
none_of f [] x e h = absurd h
none_of f (y ∷ ys) x e (inl p) = ap f p ∙ (or_none (f y) (first_some f ys) e).0
none_of f (y ∷ ys) x e (inr p) = none_of f ys x (or_none (f y) (first_some f ys) e).1 p

pub in_numbers : (from n k : ℕ) → from ≤ k → k < from + n → In k (numbers from n)
in_numbers from zero k low high = let bad : ⊥ = omega (arith, low, high) in absurd bad
in_numbers from (suc n) k low high = elim (k == from) as (λ b. (k == from) ≡ b → In k (numbers from (suc n))) [
  | true ↦ λ e. inl (eqb-true k from e)
  | false ↦ λ e. inr (in_numbers (suc from) n k (let ne = eqb-false k from e in omega (arith, low, ne)) (omega (arith, high)))
] refl

-- of the four steps
module _ (bytes : ℕ) (image : ℕ → ℕ) (sound : IsSound bytes image) where
  abbrev l : Geometry
  l = layout_of image

  by_rule : (r : Option ℕ) → fault_by image r ≡ None → (r ≡ None) × (damage l image ≡ None)
  by_rule None e = (refl, e)
  by_rule (Some r) e = cc e

  opened : (superblock_rule bytes image ≡ None) × (damage l image ≡ None)
  unfolding first_fault
  opened = by_rule (superblock_rule bytes image) sound

  pub has_layout : superblock_rule bytes image ≡ None
  has_layout = opened.0

  chunks_none : chunk_fault l image ≡ None
  chunks_none = (or_none (chunk_fault l image) _ opened.1).0

  after : option_or (clash_fault (all_entries l image)) (block_fault l image (all_entries l image)) ≡ None
  after = (or_none (chunk_fault l image) _ opened.1).1

  pub no_clash : clash_after [] (all_entries l image) ≡ None
  no_clash = map_none _ _ (or_none (clash_fault (all_entries l image)) _ after).0

  pub blocks_none : block_fault l image (all_entries l image) ≡ None
  blocks_none = (or_none (clash_fault (all_entries l image)) _ after).1

  -- rules 4 to 7 of each chunk
  pub chunk_sound : (c j : ℕ) → c < l.cores → j < l.chunks → chunk_rule l image c j ≡ None
  chunk_sound c j low high =
      let part = none_of (λ c. first_some (λ j. option_map (damaged c j) (chunk_rule l image c j)) (numbers 0 l.chunks)) (numbers 0 l.cores) c chunks_none (in_numbers 0 l.cores c (omega arith) (omega (arith, low))) in
      map_none (damaged c j) (chunk_rule l image c j) (none_of (λ j. option_map (damaged c j) (chunk_rule l image c j)) (numbers 0 l.chunks) j part (in_numbers 0 l.chunks j (omega arith) (omega (arith, high))))

  -- the rule of a key's winner
  pub winner_sound : (k : ℕ) → In k (keys_of (all_entries l image)) → winner_fault l image (all_entries l image) k (winner_in k (all_entries l image)) ≡ None
  winner_sound k h = none_of (λ k. winner_fault l image (all_entries l image) k (winner_in k (all_entries l image))) (keys_of (all_entries l image)) k blocks_none h

-- a rising list has the key that was put in, and those from before
in_with : (k j : ℕ) (ks : List ℕ) → (j ≡ k) ⊎ In j ks → In j (with_key k ks)
in_with k j [] (inl p) = inl p
in_with k j [] (inr p) = absurd p
in_with k j (x ∷ xs) h = elim (ltb k x) as (λ b. In j (cond b (k ∷ x ∷ xs) (cond (k == x) (x ∷ xs) (x ∷ with_key k xs)))) [
  | true ↦ front h
  | false ↦ elim (k == x) as (λ b. (k == x) ≡ b → In j (cond b (x ∷ xs) (x ∷ with_key k xs))) [
    | true ↦ λ e. same (eqb-true k x e) h
    | false ↦ λ e. deeper (in_with k j xs) h
  ] refl
] where
  front : (j ≡ k) ⊎ In j (x ∷ xs) → In j (k ∷ x ∷ xs)
  front (inl p) = inl p
  front (inr p) = inr p

  same : k ≡ x → (j ≡ k) ⊎ In j (x ∷ xs) → In j (x ∷ xs)
  same e (inl p) = inl (p ∙ e)
  same e (inr p) = p

  deeper : ((j ≡ k) ⊎ In j xs → In j (with_key k xs)) → (j ≡ k) ⊎ In j (x ∷ xs) → In j (x ∷ with_key k xs)
  deeper again (inl p) = inr (again (inl p))
  deeper again (inr (inl p)) = inl p
  deeper again (inr (inr p)) = inr (again (inr p))

-- each key that has a winner is among the keys
pub winner_key : (k : ℕ) (es : List PlacedEntry) (x : PlacedEntry) → winner_in k es ≡ Some x → In k (keys_of es)
winner_key k [] x e = cc e
winner_key k (y ∷ ys) x e = elim (y.entry.key == k) as (λ b. (y.entry.key == k) ≡ b → cond b (Some (better y (winner_in k ys))) (winner_in k ys) ≡ Some x → In k (with_key y.entry.key (keys_of ys))) [
  | true ↦ λ t q. in_with y.entry.key k (keys_of ys) (inl (sym (eqb-true y.entry.key k t)))
  | false ↦ λ t q. in_with y.entry.key k (keys_of ys) (inr (winner_key k ys x q))
] refl e

pub none_any : {X : Type 0} (test : X → Bool) (xs : List X) (x : X) → list_any test xs ≡ false → In x xs → test x ≡ false
none_any test [] x e h = absurd h
none_any test (y ∷ ys) x e h = elim (test y) as (λ b. test y ≡ b → (b || list_any test ys) ≡ false → test x ≡ false) [
  | true ↦ λ t q. cc q
  | false ↦ λ t q. here t q (none_any test ys x) h
] refl e where
  here : test y ≡ false → list_any test ys ≡ false → (list_any test ys ≡ false → In x ys → test x ≡ false) → In x (y ∷ ys) → test x ≡ false
  here t q again (inl p) = ap test p ∙ t
  here t q again (inr p) = again q p

no_rule_11 : (b c : Bool) → cond {A = Option ℕ} b (cond c (Some 11) None) (Some 10) ≡ None → (b ≡ true) × (c ≡ false)
no_rule_11 true true e = cc e
no_rule_11 true false e = (refl, refl)
no_rule_11 false c e = cc e

-- a pointer that breaks none of rules 9 to 11
pointer_kept : (image : ℕ → ℕ) (es : List PlacedEntry) (k p : ℕ) (o : Option ℕ) → pointer_rule image es k p o ≡ None
    → (class : ℕ) × (o ≡ Some class) × (has_class (image (32 * p)) class ≡ true) × (list_any (λ j. ltb j k && points_to p (winner_in j es)) (keys_of es) ≡ false)
pointer_kept image es k p None e = cc e
pointer_kept image es k p (Some class) e = let both = no_rule_11 _ _ e in (class, refl, both.0, both.1)

module _ (bytes : ℕ) (image : ℕ → ℕ) (sound : IsSound bytes image) where
  abbrev es : List PlacedEntry
  es = all_entries (layout_of image) image

  winner_points : (k p : ℕ) (x : PlacedEntry) → winner_in k es ≡ Some x → x.entry.body ≡ Pointer p
      → pointer_rule image es k p (block_class (layout_of image) image (owner (layout_of image) k) p) ≡ None
  winner_points k p x is body =
      let none = winner_sound bytes image sound k (winner_key k es x is) in
      let rule : body_rule (layout_of image) image es k x.entry.body ≡ None = map_none (damaged x.core x.chunk) _ (ap (winner_fault (layout_of image) image es k) (sym is) ∙ none) in
      ap (body_rule (layout_of image) image es k) (sym body) ∙ rule

  -- rules 9 and 10: a winner's block holds a value
  pub winner_held : (k p : ℕ) (x : PlacedEntry) → winner_in k es ≡ Some x → x.entry.body ≡ Pointer p → value_in_block (layout_of image) image (owner (layout_of image) k) p ≡ Some (block_bytes image p)
  winner_held k p x is body =
      let kept = pointer_kept image es k p _ (winner_points k p x is body) in
      ap (value_by_class image p) kept.1 ∙ ap (λ b. cond b (Some (block_bytes image p)) None) kept.2

  below : (j k p : ℕ) (x y : PlacedEntry) → winner_in j es ≡ Some x → winner_in k es ≡ Some y → x.entry.body ≡ Pointer p → y.entry.body ≡ Pointer p → j < k → ⊥
  below j k p x y ix iy bx by lt =
      let kept = pointer_kept image es k p _ (winner_points k p y iy by) in
      let not_this = none_any (λ j. ltb j k && points_to p (winner_in j es)) (keys_of es) j kept.3 (winner_key j es x ix) in
      let points : points_to p (winner_in j es) ≡ true = ap (points_to p) ix ∙ ap (same_body (Pointer p)) bx ∙ eq-eqb p p refl in
      let both = and_from _ _ (lt-ltb j k lt) points in
      cc (both, not_this)

  -- rule 11: no two winners have one block
  pub own_blocks : (j k p : ℕ) (x y : PlacedEntry) → winner_in j es ≡ Some x → winner_in k es ≡ Some y → x.entry.body ≡ Pointer p → y.entry.body ≡ Pointer p → j ≡ k
  own_blocks j k p x y ix iy bx by =
      let not_below = below j k p x y ix iy bx by in
      let not_above = below k j p y x iy ix by bx in
      omega (arith, not_below, not_above)

-- rule 8, as a fact
in_later : {X : Type 0} (x y : X) (before : List X) → (In x before) ⊎ (x ≡ y) → In x (before ++ y ∷ [])
in_later x y [] (inl h) = absurd h
in_later x y [] (inr e) = inl e
in_later x y (z ∷ zs) (inl (inl e)) = inl e
in_later x y (z ∷ zs) (inl (inr h)) = inr (in_later x y zs (inl h))
in_later x y (z ∷ zs) (inr e) = inr (in_later x y zs (inr e))

clash_cond : (b : Bool) (x : PlacedEntry) (o : Option PlacedEntry) → cond b (Some x) o ≡ None → (b ≡ false) × (o ≡ None)
clash_cond true x o e = cc e
clash_cond false x o e = (refl, e)

-- none contradicts one before it
clash_before : (before xs : List PlacedEntry) (x y : PlacedEntry) → clash_after before xs ≡ None → In x before → In y xs → contradicts y x ≡ false
clash_before before [] x y none hx hy = absurd hy
clash_before before (z ∷ zs) x y none hx (inl e) = ap (λ w. contradicts w x) e ∙ none_any (contradicts z) before x (clash_cond (list_any (contradicts z) before) z _ none).0 hx
clash_before before (z ∷ zs) x y none hx (inr h) = clash_before (before ++ z ∷ []) zs x y (clash_cond (list_any (contradicts z) before) z _ none).1 (in_later x z before (inl hx)) h

-- of two places one comes first
clash_pair : (before xs : List PlacedEntry) (x y : PlacedEntry) → clash_after before xs ≡ None → In x xs → In y xs → (x ≡ y) ⊎ ((contradicts y x ≡ false) ⊎ (contradicts x y ≡ false))
clash_pair before [] x y none hx hy = absurd hx
clash_pair before (z ∷ zs) x y none (inl a) (inl b) = inl (a ∙ sym b)
clash_pair before (z ∷ zs) x y none (inl a) (inr h) = inr (inl (clash_before (before ++ z ∷ []) zs x y (clash_cond (list_any (contradicts z) before) z _ none).1 (in_later x z before (inr a)) h))
clash_pair before (z ∷ zs) x y none (inr h) (inl b) = inr (inr (clash_before (before ++ z ∷ []) zs y x (clash_cond (list_any (contradicts z) before) z _ none).1 (in_later y z before (inr b)) h))
clash_pair before (z ∷ zs) x y none (inr g) (inr h) = clash_pair (before ++ z ∷ []) zs x y (clash_cond (list_any (contradicts z) before) z _ none).1 g h

pub equal_bytes : (u v : List ℕ) → bytes_eq u v ≡ true → u ≡ v
equal_bytes u v e = (bytes_eq-Decides u v).0 e

pub same_bodies : (a b : Body) → same_body a b ≡ true → a ≡ b
same_bodies (Pointer p) (Pointer q) e = ap Pointer (eqb-true p q e)
same_bodies (Pointer p) (Embedded v) e = cc e
same_bodies (Pointer p) Tombstone e = cc e
same_bodies (Embedded u) (Pointer q) e = cc e
same_bodies (Embedded u) (Embedded v) e = ap Embedded (equal_bytes u v e)
same_bodies (Embedded u) Tombstone e = cc e
same_bodies Tombstone (Pointer q) e = cc e
same_bodies Tombstone (Embedded v) e = cc e
same_bodies Tombstone Tombstone e = refl

agreed : (a b c d : Bool) → (a && b && not (c && d)) ≡ false → a ≡ true → b ≡ true → (c ≡ true) × (d ≡ true)
agreed true true true true e p q = (refl, refl)
agreed true true true false e p q = cc e
agreed true true false d e p q = cc e
agreed true false c d e p q = cc q
agreed false b c d e p q = cc p

not_contradicted : (x y : PlacedEntry) → contradicts x y ≡ false → x.entry.key ≡ y.entry.key → x.entry.version ≡ y.entry.version → (x.entry.body ≡ y.entry.body) × (x.core ≡ y.core)
not_contradicted x y none k v =
    let r = agreed (x.entry.key == y.entry.key) (x.entry.version == y.entry.version) (same_body x.entry.body y.entry.body) (x.core == y.core) none (eq-eqb x.entry.key y.entry.key k) (eq-eqb x.entry.version y.entry.version v) in
    (same_bodies x.entry.body y.entry.body r.0, eqb-true x.core y.core r.1)

pub one_body : (bytes : ℕ) (image : ℕ → ℕ) → IsSound bytes image → (x y : PlacedEntry) → In x (all_entries (layout_of image) image) → In y (all_entries (layout_of image) image)
    → x.entry.key ≡ y.entry.key → x.entry.version ≡ y.entry.version → (x.entry.body ≡ y.entry.body) × (x.core ≡ y.core)
one_body bytes image sound x y hx hy k v = elim (clash_pair [] (all_entries (layout_of image) image) x y (no_clash bytes image sound) hx hy) [
  | inl e ↦ (ap (λ w. w.entry.body) e, ap (λ w. w.core) e)
  | inr (inl n) ↦ (let r = not_contradicted y x n (sym k) (sym v) in (sym r.0, sym r.1))
  | inr (inr n) ↦ not_contradicted x y n k v
]
