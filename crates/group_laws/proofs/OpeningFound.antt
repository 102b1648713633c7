-- What an image's words say of a group is sound, and is what the state before the two rules says.
use Rattle.std.proofs.Common.{◌≡◌, ℕ, ◌-◌, ◌*◌, ◌<◌, Bool, true, false, cond, ◌&&◌, ◌==◌, List, [], ◌∷◌, map, Option, Some, None, unwrap_or, ◌⊎◌, inl, inr, arith, refl, sym, ap, ◌∙◌, subst, ltb}
use Rattle.std.specs.Prelude.{find, option_map}
use Rattle.std.specs.Option.{option_and_then}
use Rattle.std.proofs.lemmas.Bool.{and_parts, and_from, eqb-true, eq-eqb, ltb-true, lt-ltb}
use Rattle.log_entry.specs.declared.entry.Body.{Body}
use Rattle.log_entry.specs.declared.entry.Body.TheVariants.{Pointer, Embedded, Tombstone}
use Rattle.log_entry.specs.declared.entry.Entry.{Entry}
use Rattle.chunk_map.specs.Layouts as layouts
use Rattle.store_image.specs.declared.types.PlacedEntry.{PlacedEntry}
use Rattle.store_image.specs.Parts.{chunk_units, all_entries, value_in_block, block_bytes}
use Rattle.store_image.specs.Winners.{winner, winner_in, keys_of, cell_by}
use Rattle.store_image.specs.Winners as images
use Rattle.store_image.specs.Soundness.{points_to, same_body}
use Rattle.store_image.specs.Facts.{In, KeepsRules}
use Rattle.store_image.proofs.Clients.{chosen, layout_numbers, winner_key, same_bodies, winner_some}
use Rattle.group_laws.specs.declared.types.Block.{Block}
use Rattle.group_laws.specs.Places.{Place, IsPlace, members, core_of, owner}
use Rattle.group_laws.specs.Crashes.{Contents, IsWinner, HasNone, Leaves}
use Rattle.group_laws.specs.Images.{log_of, block_of}
use Rattle.group_laws.specs.Opening.{IsSound, IsFound}
use Rattle.group_laws.specs.OpeningImages.{is_own, kept_in, winner_of, cell_of, home_of, pointing, block_at, found}
use Rattle.group_laws.proofs.Images.{contents, stands_there, there_stands, held_there}
use Rattle.group_laws.proofs.PartBlocks.{block_lies, blocks_apart}
use Rattle.group_laws.proofs.GroupEntries as entries
use Rattle.group_laws.proofs.GroupEntries.{core_once, core_back, own_core, from_one}

-- what a search finds, and that it finds something
pub found_is : {X : Type 0} (f : X → Bool) (xs : List X) (y : X) → find f xs ≡ Some y → In y xs × (f y ≡ true)
found_is f [] y e = cc e
found_is f (x ∷ xs) y e = elim (chosen (f x) (Some x) (find f xs) (Some y) e) [
  | inl a ↦ (let same : x ≡ y = (let q = a.1 in cc q) in (inl (sym same), ap f (sym same) ∙ a.0))
  | inr a ↦ let rest = found_is f xs y a.1 in (inr rest.0, rest.1)
]

pub finds_one : {X : Type 0} (f : X → Bool) (xs : List X) (y : X) → In y xs → f y ≡ true → (z : X) × (find f xs ≡ Some z)
finds_one f [] y i t = absurd i
finds_one {X = X} f (x ∷ xs) y i t = elim (f x) as (λ b. f x ≡ b → (z : _) × (cond b (Some x) (find f xs) ≡ Some z)) [
  | true ↦ λ e. (x, refl)
  | false ↦ λ e. behind e i (λ j. finds_one f xs y j t)
] refl where
  behind : f x ≡ false → In y (x ∷ xs) → (In y xs → (z : X) × (find f xs ≡ Some z)) → (z : X) × (find f xs ≡ Some z)
  behind e (inl q) again = absurd (let here = ap f (sym q) in cc (e, here, t))
  behind e (inr j) again = again j

no_key : {A : Type 0} {b : Bool} → b ≡ false → b ≡ true → A
no_key f t = absurd (cc (f, t))

points : (q : ℕ) (o : Option PlacedEntry) → points_to q o ≡ true → (y : PlacedEntry) × (o ≡ Some y) × (y.entry.body ≡ Pointer q)
points q None t = cc t
points q (Some y) t = (y, refl, sym (same_bodies (Pointer q) y.entry.body t))

points_back : (q : ℕ) (b : Body) → b ≡ Pointer q → same_body (Pointer q) b ≡ true
points_back q (Pointer r) e = let same : r ≡ q = cc e in eq-eqb q r (sym same)
points_back q (Embedded v) e = cc e
points_back q Tombstone e = cc e

module _ (p : Place) (image : ℕ → ℕ) (place : IsPlace p) (rules : KeepsRules p.layout image) where
  abbrev es : List PlacedEntry
  es = all_entries p.layout image

  abbrev x : Contents
  x = contents p (λ h. image)

  some_group : 0 < p.layout.group
  some_group = entries.some_group p image place rules

  some_units : 0 < chunk_units p.layout
  some_units = let size = (layout_numbers p.layout place.layout).size in omega (arith, size)

  some_chunks : 0 < p.layout.chunks
  some_chunks = let many = (layout_numbers p.layout place.layout).chunks in omega (arith, many)

  pub own_true : (k : ℕ) → owner p k < members p → is_own p k ≡ true
  own_true k low = lt-ltb (owner p k) (members p) low

  -- a block of the owner's part, as the whole image has it
  held_own : (k q : ℕ) → owner p k < members p → x.holds (owner p k) q ≡ value_in_block p.layout image (layouts.owner p.layout k) q
  held_own k q own = held_there p (λ h. image) (owner p k) q ∙ ap (λ (c : ℕ). value_in_block p.layout image c q) (own_core p k some_group own).0

  pub sound : IsSound p x
  sound = record {
    group = λ h e t. let s = entries.stands p image place rules h e t in (s.low, s.own);
    from_one = λ h e t. let s = entries.stands p image place rules h e t in subst (λ (z : Entry). 0 < z.version) (sym s.is) (from_one p image h s.y s.log);
    one_body = λ h i e f t u k v.
        let a = entries.stands p image place rules h e t in
        let b = entries.stands p image place rules i f u in
        let same = entries.same_entry p image place rules a.y b.y a.image_has b.image_has (ap (λ (z : Entry). z.key) (sym a.is) ∙ k ∙ ap (λ (z : Entry). z.key) b.is) (ap (λ (z : Entry). z.version) (sym a.is) ∙ v ∙ ap (λ (z : Entry). z.version) b.is) in
        (core_once p h i (sym a.core ∙ same.1 ∙ b.core), a.is ∙ same.0 ∙ sym b.is);
    block = λ k q e W b.
        let z = entries.won p image place rules k e W in
        (block_bytes image q, held_own k q z.3 ∙ rules.holds k q z.0 z.1 (ap (λ (f : Entry). f.body) z.2 ∙ b));
    lies = λ m q v t. block_lies p image m q v some_units some_chunks (sym (held_there p (λ h. image) m q) ∙ t);
    apart = λ m q r v u t s ne. blocks_apart p image m q r v u some_units (sym (held_there p (λ h. image) m q) ∙ t) (sym (held_there p (λ h. image) m r) ∙ s) ne;
    one_key = λ j k q e f V W a b.
        let y = entries.won p image place rules j e V in
        let z = entries.won p image place rules k f W in
        rules.own j k q y.0 z.0 y.1 z.1 (ap (λ (g : Entry). g.body) y.2 ∙ a) (ap (λ (g : Entry). g.body) z.2 ∙ b);
  }

  kept : (h : ℕ) (e : Entry) → (In e (kept_in p image h) → x.entries h e ≡ true) × (x.entries h e ≡ true → In e (kept_in p image h))
  kept h e = (by (ltb h (members p)) refl, λ t. let s = stands_there p (λ h. image) h e t in subst (λ (b : Bool). In e (cond b (map (λ (z : PlacedEntry). z.entry) (log_of p image h)) [])) (sym (lt-ltb h (members p) s.0)) s.1) where
    by : (b : Bool) → ltb h (members p) ≡ b → In e (cond b (map (λ (z : PlacedEntry). z.entry) (log_of p image h)) []) → x.entries h e ≡ true
    by true q i = there_stands p (λ h. image) h e (ltb-true h (members p) q) i
    by false q i = absurd i

  -- the winner's body leaves the cell that the image recovers
  leaves : (k : ℕ) (y : PlacedEntry) (body : Body) → owner p k < members p → winner_in k es ≡ Some y → y.entry.body ≡ body → Leaves (x.holds (owner p k)) body (cell_by (value_in_block p.layout image (layouts.owner p.layout k)) body)
  leaves k y (Pointer q) own w b = let there = rules.holds k q y w b in (block_bytes image q, held_own k q own ∙ there, there)
  leaves k y (Embedded v) own w b = refl
  leaves k y Tombstone own w b = refl

  abbrev Told : ℕ → Option PlacedEntry → Option (List ℕ) → Type 0
  Told k o c = (HasNone x k × (unwrap_or (option_map (λ (y : PlacedEntry). y.entry.version) o) 0 ≡ 0) × (c ≡ None)) ⊎ ((e : Entry) × IsWinner x k e × (unwrap_or (option_map (λ (y : PlacedEntry). y.entry.version) o) 0 ≡ e.version) × Leaves (x.holds (owner p k)) e.body c)

  told : (k : ℕ) → Told k (winner_of p image k) (cell_of p image k)
  told k = by_own (is_own p k) refl where
    by_winner : owner p k < members p → (o : Option PlacedEntry) → winner_in k es ≡ o → Told k o (option_and_then (λ (y : PlacedEntry). cell_by (value_in_block p.layout image (layouts.owner p.layout k)) y.entry.body) o)
    by_winner own None q = inl (λ d f t i. (let s = entries.stands p image place rules d f t in winner_some k es s.y s.image_has (ap (λ (g : Entry). g.key) (sym s.is) ∙ i) q), refl, refl)
    by_winner own (Some y) q = inr (y.entry, entries.wins p image place rules k y own q, refl, leaves k y y.entry.body own q refl)

    by_own : (b : Bool) → is_own p k ≡ b → Told k (cond b (winner p.layout image k) None) (cond b (images.recovered p.layout image k) None)
    by_own true own = by_winner (ltb-true (owner p k) (members p) own) (winner_in k es) refl
    by_own false own = inl (λ d f t i. (let s = entries.stands p image place rules d f t in no_key own (own_true k (subst (λ (j : ℕ). owner p j < members p) i s.own))), refl, refl)

  abbrev pub is_named : ℕ → ℕ → PlacedEntry → Bool
  is_named k v y = y.entry.key == k && y.entry.version == v

  -- an entry that stands has its home
  pub has_home : (y : PlacedEntry) → In y es → (h : ℕ) → h < members p → y.core ≡ core_of p h → owner p y.entry.key < members p → home_of p image y.entry.key y.entry.version ≡ Some h
  has_home y i h low at own =
      let k = y.entry.key in
      let v = y.entry.version in
      let one = finds_one (is_named k v) es y i (and_from (k == k) (v == v) (eq-eqb k k refl) (eq-eqb v v refl)) in
      let is = found_is (is_named k v) es one.0 one.1 in
      let names = and_parts (one.0.entry.key == k) (one.0.entry.version == v) is.1 in
      let same = entries.same_entry p image place rules one.0 y is.0 i (eqb-true one.0.entry.key k names.0) (eqb-true one.0.entry.version v names.1) in
      ap (λ b. cond b (option_map (λ (z : PlacedEntry). z.core - p.group * p.layout.group) (find (is_named k v) es)) None) (own_true k own)
      ∙ ap (option_map (λ (z : PlacedEntry). z.core - p.group * p.layout.group)) one.1
      ∙ ap Some (ap (λ (c : ℕ). c - p.group * p.layout.group) (same.1 ∙ at) ∙ core_back p h)

  -- and a home is that of an entry
  pub home_has : (k v h : ℕ) → home_of p image k v ≡ Some h → (y : PlacedEntry) × In y es × In y (log_of p image h) × (h < members p) × (owner p k < members p) × (y.entry.key ≡ k) × (y.entry.version ≡ v)
  home_has k v h e = elim (chosen (is_own p k) (option_map (λ (z : PlacedEntry). z.core - p.group * p.layout.group) (find (is_named k v) es)) None (Some h) e) [
    | inr a ↦ absurd (let q = a.1 in cc q)
    | inl a ↦ by (ltb-true (owner p k) (members p) a.0) (find (is_named k v) es) refl a.1
  ] where
    by : owner p k < members p → (o : Option PlacedEntry) → find (is_named k v) es ≡ o → option_map (λ (z : PlacedEntry). z.core - p.group * p.layout.group) o ≡ Some h → (y : PlacedEntry) × In y es × In y (log_of p image h) × (h < members p) × (owner p k < members p) × (y.entry.key ≡ k) × (y.entry.version ≡ v)
    by own None q s = absurd (cc s)
    by own (Some y) q s =
        let is = found_is (is_named k v) es y q in
        let names = and_parts (y.entry.key == k) (y.entry.version == v) is.1 in
        let key = eqb-true y.entry.key k names.0 in
        let at = entries.home p image place rules y is.0 (subst (λ (j : ℕ). owner p j < members p) (sym key) own) in
        let same : y.core - p.group * p.layout.group ≡ h = cc s in
        let here : at.0 ≡ h = sym (core_back p at.0) ∙ ap (λ (c : ℕ). c - p.group * p.layout.group) (sym at.3) ∙ same in
        (y, is.0, subst (λ (i : ℕ). In y (log_of p image i)) here at.2, subst (λ (i : ℕ). i < members p) here at.1, own, key, eqb-true y.entry.version v names.1)

  present : (k v h : ℕ) → (home_of p image k v ≡ Some h → (e : Entry) × (x.entries h e ≡ true) × (e.key ≡ k) × (e.version ≡ v)) × ((e : Entry) × (x.entries h e ≡ true) × (e.key ≡ k) × (e.version ≡ v) → home_of p image k v ≡ Some h)
  present k v h = (
    λ q. (let y = home_has k v h q in (y.0.entry, entries.there p image place rules h y.0 y.3 y.2, y.5, y.6)),
    λ e. (
        let s = entries.stands p image place rules h e.0 e.1 in
        let key : s.y.entry.key ≡ k = ap (λ (z : Entry). z.key) (sym s.is) ∙ e.2 in
        let version : s.y.entry.version ≡ v = ap (λ (z : Entry). z.version) (sym s.is) ∙ e.3 in
        let there = has_home s.y s.image_has h s.low s.core (subst (λ (z : Entry). owner p z.key < members p) s.is s.own) in
        subst (λ (w : ℕ). home_of p image k w ≡ Some h) version (subst (λ (j : ℕ). home_of p image j s.y.entry.version ≡ Some h) key there)
        ),
  )

  abbrev is_pointing : ℕ → ℕ → ℕ → Bool
  is_pointing m q k = owner p k == m && points_to q (winner p.layout image k)

  abbrev IsBlockOf : ℕ → ℕ → Block → Type 0
  IsBlockOf m q b = (e : Entry) × IsWinner x b.key e × (e.body ≡ Pointer q) × (owner p b.key ≡ m) × (x.holds m q ≡ Some b.bytes)

  from_key : (m q k : ℕ) (v : List ℕ) → m < members p → pointing p image m q ≡ Some k → block_of p image m q ≡ Some v → block_at p image m q ≡ Some (record { key = k; bytes = v })
  from_key m q k v low points holds = rw (lt-ltb m (members p) low, points, holds) refl

  blocks : (m q : ℕ) (b : Block) → (block_at p image m q ≡ Some b → IsBlockOf m q b) × (IsBlockOf m q b → block_at p image m q ≡ Some b)
  blocks m q b = (λ t. there t, back) where
    made : (k : ℕ) (o : Option (List ℕ)) → option_map (λ (v : List ℕ). record { key = k; bytes = v }) o ≡ Some b → (k ≡ b.key) × (o ≡ Some b.bytes)
    made k None e = absurd (cc e)
    made k (Some v) e = let same : record { key = k; bytes = v } ≡ b = cc e in (ap (λ (c : Block). c.key) same, ap (λ (c : Block). Some c.bytes) same)

    by_key : m < members p → (o : Option ℕ) → pointing p image m q ≡ o → option_and_then (λ (k : ℕ). option_map (λ (v : List ℕ). record { key = k; bytes = v }) (block_of p image m q)) o ≡ Some b → IsBlockOf m q b
    by_key low None is e = absurd (cc e)
    by_key low (Some k) is e =
        let at = found_is (is_pointing m q) (keys_of es) k is in
        let both = and_parts (owner p k == m) (points_to q (winner p.layout image k)) at.1 in
        let own = eqb-true (owner p k) m both.0 in
        let y = points q (winner p.layout image k) both.1 in
        let value = made k (block_of p image m q) e in (
          y.0.entry,
          subst (λ (j : ℕ). IsWinner x j y.0.entry) value.0 (entries.wins p image place rules k y.0 (subst (λ (n : ℕ). n < members p) (sym own) low) y.1),
          y.2,
          ap (owner p) (sym value.0) ∙ own,
          held_there p (λ h. image) m q ∙ value.1,
        )

    there : block_at p image m q ≡ Some b → IsBlockOf m q b
    there t = elim (chosen (ltb m (members p)) _ _ _ t) [
      | inl a ↦ by_key (ltb-true m (members p) a.0) (pointing p image m q) refl a.1
      | inr a ↦ absurd (let n = a.1 in cc n)
    ]

    back : IsBlockOf m q b → block_at p image m q ≡ Some b
    back e =
        let z = entries.won p image place rules b.key e.0 e.1 in
        let body : z.0.entry.body ≡ Pointer q = ap (λ (f : Entry). f.body) z.2 ∙ e.2 in
        let points : points_to q (winner p.layout image b.key) ≡ true = ap (points_to q) z.1 ∙ points_back q z.0.entry.body body in
        let one = finds_one (is_pointing m q) (keys_of es) b.key (winner_key b.key es z.0 z.1) (and_from (owner p b.key == m) (points_to q (winner p.layout image b.key)) (eq-eqb (owner p b.key) m e.3) points) in
        let at = found_is (is_pointing m q) (keys_of es) one.0 one.1 in
        let y = points_to_some one.0 (and_parts (owner p one.0 == m) (points_to q (winner p.layout image one.0)) at.1).1 in
        let same : one.0 ≡ b.key = rules.own one.0 b.key q y.0 z.0 y.1 z.1 y.2 body in
        let low : m < members p = subst (λ (n : ℕ). n < members p) e.3 z.3 in
        let value : block_of p image m q ≡ Some b.bytes = sym (held_there p (λ h. image) m q) ∙ e.4 in
        from_key m q b.key b.bytes low (one.1 ∙ ap Some same) value
      where
        points_to_some : (k : ℕ) → points_to q (winner p.layout image k) ≡ true → (y : PlacedEntry) × (winner_in k es ≡ Some y) × (y.entry.body ≡ Pointer q)
        points_to_some k t = points q (winner p.layout image k) t

  pub is_found : IsFound (found p image) x
  is_found = record {
    place = place;
    holder = refl;
    slot = λ m s. refl;
    mail = λ a b. refl;
    kept = kept;
    flying = λ h. refl;
    taken = λ h a s. refl;
    broken = λ h. refl;
    holds = λ h. refl;
    looked = λ h. refl;
    last = told;
    pending = λ k. refl;
    present = present;
    told = λ k v. refl;
    dead = λ h k v. refl;
    doomed = λ h k v. refl;
    leaving = λ h k v. refl;
    blocks = blocks;
    posted = λ h. refl;
    took = λ h. refl;
  }
