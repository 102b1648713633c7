-- What is said of the contents of a group's parts holds of their words.
use Rattle.std.proofs.Common.{◌≡◌, ℕ, ◌<◌, ◌≤◌, Bool, true, false, ◌&&◌, List, [], ◌∷◌, map, Option, Some, None, ◌⊎◌, inl, inr, arith, refl, sym, ap, ◌∙◌, subst, ltb}
use Rattle.std.specs.List.{flat_map, list_any}
use Rattle.std.specs.Option.{option_and_then}
use Rattle.std.proofs.lemmas.Bool.{and_parts, and_from, or_cases, or_left, or_right, ltb-true, lt-ltb}
use Rattle.log_entry.specs.declared.entry.Body.{Body}
use Rattle.log_entry.specs.declared.entry.Body.TheVariants.{Pointer, Embedded, Tombstone}
use Rattle.log_entry.specs.declared.entry.Entry.{Entry}
use Rattle.chunk_map.specs.Layouts.{numbers}
use Rattle.store_image.specs.declared.types.PlacedEntry.{PlacedEntry}
use Rattle.store_image.specs.Parts.{placed_in_chunk, chunk_entries}
use Rattle.store_image.specs.Winners.{winner_in, cell_by}
use Rattle.store_image.specs.Facts.{In}
use Rattle.store_image.proofs.Clients.{in_front, in_back, in_either, number_in, winner_is, in_numbers, winner_some, winner_max}
use Rattle.group_laws.specs.Places.{Place, members, core_of, owner}
use Rattle.group_laws.specs.Updates.{same_entry}
use Rattle.group_laws.specs.State.{Group}
use Rattle.group_laws.specs.Invariant.{Lawful}
use Rattle.group_laws.specs.Crashes.{Contents, IsLicensed, IsWinner, HasNone, Leaves, Recovers, Safe}
use Rattle.group_laws.specs.Images.{log_of, StandsIn, block_of, IsLicensedImage, group_entries, recovered, IsSafe}
use Rattle.group_laws.proofs.Times.{same_entry-true, same_entry-itself}
use Rattle.group_laws.proofs.Safe as safe

-- membership as a test
pub in_any : (e : Entry) (xs : List Entry) → In e xs → list_any (same_entry e) xs ≡ true
in_any e [] i = absurd i
in_any e (x ∷ xs) (inl q) = or_left (same_entry e x) (list_any (same_entry e) xs) (ap (same_entry e) (sym q) ∙ same_entry-itself e)
in_any e (x ∷ xs) (inr i) = or_right (same_entry e x) (list_any (same_entry e) xs) (in_any e xs i)

pub any_in : (e : Entry) (xs : List Entry) → list_any (same_entry e) xs ≡ true → In e xs
any_in e [] t = absurd (cc t)
any_in e (x ∷ xs) t = elim (or_cases (same_entry e x) (list_any (same_entry e) xs) t) [
  | inl q ↦ inl (same_entry-true e x q)
  | inr i ↦ inr (any_in e xs i)
]

pub in_map : {X Y : Type 0} (f : X → Y) (x : X) (xs : List X) → In x xs → In (f x) (map f xs)
in_map f x [] i = i
in_map f x (y ∷ ys) (inl q) = inl (ap f q)
in_map f x (y ∷ ys) (inr i) = inr (in_map f x ys i)

pub of_map : {X Y : Type 0} (f : X → Y) (y : Y) (xs : List X) → In y (map f xs) → (x : X) × In x xs × (y ≡ f x)
of_map f y [] i = absurd i
of_map f y (x ∷ xs) (inl q) = (x, inl refl, q)
of_map f y (x ∷ xs) (inr i) = let rest = of_map f y xs i in (rest.0, inr rest.1, rest.2)

pub in_flat : {X Y : Type 0} (f : X → List Y) (x : X) (y : Y) (xs : List X) → In x xs → In y (f x) → In y (flat_map f xs)
in_flat f x y [] i j = absurd i
in_flat f x y (z ∷ zs) (inl q) j = in_front y (f z) (flat_map f zs) (subst (λ (z : _). In y (f z)) q j)
in_flat f x y (z ∷ zs) (inr i) j = in_back y (f z) (flat_map f zs) (in_flat f x y zs i j)

pub of_flat : {X Y : Type 0} (f : X → List Y) (y : Y) (xs : List X) → In y (flat_map f xs) → (x : X) × In x xs × In y (f x)
of_flat f y [] i = absurd i
of_flat f y (z ∷ zs) i = elim (in_either y (f z) (flat_map f zs) i) [
  | inl j ↦ (z, inl refl, j)
  | inr j ↦ let rest = of_flat f y zs j in (rest.0, inr rest.1, rest.2)
]

-- the entries of a part name it
placed_core : (c j : ℕ) (xs : List (ℕ × Entry)) (x : PlacedEntry) → In x (placed_in_chunk c j xs) → x.core ≡ c
placed_core c j [] x i = absurd i
placed_core c j (y ∷ ys) x (inl q) = ap (λ (z : PlacedEntry). z.core) q
placed_core c j (y ∷ ys) x (inr i) = placed_core c j ys x i

pub part_core : (p : Place) (image : ℕ → ℕ) (h : ℕ) (x : PlacedEntry) → In x (log_of p image h) → x.core ≡ core_of p h
part_core p image h x i =
    let found = of_flat (λ j. chunk_entries p.layout image (core_of p h) j) x (numbers 0 p.layout.chunks) i in
    placed_core (core_of p h) found.0 _ x found.2

-- what the words of a group's parts say
pub contents : Place → (ℕ → ℕ → ℕ) → Contents
contents p images = record {
  entries = λ h e. ltb h (members p) && list_any (same_entry e) (map (λ (x : PlacedEntry). x.entry) (log_of p (images h) h));
  holds = λ h q. block_of p (images h) h q;
}

pub stands_there : (p : Place) (images : ℕ → ℕ → ℕ) (h : ℕ) (e : Entry) → (contents p images).entries h e ≡ true → (h < members p) × StandsIn p (images h) h e
unfolding contents
stands_there p images h e t = let both = and_parts (ltb h (members p)) (list_any (same_entry e) _) t in (ltb-true h (members p) both.0, any_in e _ both.1)

pub there_stands : (p : Place) (images : ℕ → ℕ → ℕ) (h : ℕ) (e : Entry) → h < members p → StandsIn p (images h) h e → (contents p images).entries h e ≡ true
unfolding contents
there_stands p images h e low i = and_from (ltb h (members p)) (list_any (same_entry e) _) (lt-ltb h (members p) low) (in_any e _ i)

pub held_there : (p : Place) (images : ℕ → ℕ → ℕ) (h q : ℕ) → (contents p images).holds h q ≡ block_of p (images h) h q
unfolding contents
held_there p images h q = refl

module _ (w : Group) (L : Lawful w) (images : ℕ → ℕ → ℕ) (ok : (h : ℕ) → h < members w.place → IsLicensedImage w h (images h)) where
  abbrev x : Contents
  x = contents w.place images

  abbrev es : List PlacedEntry
  es = group_entries w.place images

  licensed : (h : ℕ) → IsLicensed w x h
  licensed h = record {
    has = λ e i spared. let low = (L.logs.group h e (inl i)).0 in there_stands w.place images h e low ((ok h low).has e i spared);
    only = λ e t. let s = stands_there w.place images h e t in (ok h s.0).only e s.1;
    whole = elim (cases (ltb h (members w.place))) [
      | inl t ↦ let low = ltb-true h (members w.place) t in elim (ok h low).whole [
        | inl all ↦ inl (λ e i. there_stands w.place images h e low (all e i))
        | inr none ↦ inr (λ e i t. none e i (stands_there w.place images h e t).1)
      ]
      | inr f ↦ inl (λ e i. absurd (let low = (L.logs.group h e (inr i)).0 in let t = lt-ltb h (members w.place) low in cc (t, f)))
    ];
    blocks = λ p b q. held_there w.place images h p ∙ (ok h (L.blocks.lies h p b q).2).blocks p b q;
  } where
    cases : (b : Bool) → (b ≡ true) ⊎ (b ≡ false)
    cases true = inl refl
    cases false = inr refl

  whole : Safe w x
  whole = safe.safe w L x licensed

  -- an entry of the group's parts, and its home
  home : (y : PlacedEntry) → In y es → (h : ℕ) × (x.entries h y.entry ≡ true) × (y.core ≡ core_of w.place h)
  home y i =
      let found = of_flat (λ h. log_of w.place (images h) h) y (numbers 0 (members w.place)) i in
      let low : found.0 < members w.place = (let r = number_in 0 (members w.place) found.0 found.1 in omega (arith, r.1)) in
      (found.0, there_stands w.place images found.0 y.entry low (in_map (λ (z : PlacedEntry). z.entry) y _ found.2), part_core w.place (images found.0) found.0 y found.2)

  back : (h : ℕ) (e : Entry) → x.entries h e ≡ true → (y : PlacedEntry) × In y es × (e ≡ y.entry)
  back h e t =
      let s = stands_there w.place images h e t in
      let found = of_map (λ (z : PlacedEntry). z.entry) e _ s.1 in
      (found.0, in_flat (λ h. log_of w.place (images h) h) h found.0 (numbers 0 (members w.place)) (in_numbers 0 (members w.place) h (omega arith) (let low = s.0 in omega (arith, low))) found.1, found.2)

  wins : (k : ℕ) (y : PlacedEntry) → winner_in k es ≡ Some y → IsWinner x k y.entry
  wins k y q =
      let is = winner_is k es y q in
      let at = home y is.0 in
      record {
        home = at.0;
        stands = at.1;
        key = is.1;
        greatest = λ d f t i. let z = back d f t in subst (λ (g : Entry). g.version ≤ y.entry.version) (sym z.2) (winner_max k es y z.0 q z.1 (ap (λ (g : Entry). g.key) (sym z.2) ∙ i));
      }

  none_wins : (k : ℕ) → winner_in k es ≡ None → HasNone x k
  none_wins k q d f t i = let z = back d f t in winner_some k es z.0 z.1 (ap (λ (g : Entry). g.key) (sym z.2) ∙ i) q

  block : (k p : ℕ) (y : PlacedEntry) → winner_in k es ≡ Some y → y.entry.body ≡ Pointer p → (v : List ℕ) × (block_of w.place (images (owner w.place k)) (owner w.place k) p ≡ Some v)
  block k p y q b = let own = whole.block k p y.entry (wins k y q) b in (own.0, sym (held_there w.place images (owner w.place k) p) ∙ own.1)

  leaves : (k : ℕ) (y : PlacedEntry) (body : Body) → winner_in k es ≡ Some y → y.entry.body ≡ body → Leaves (x.holds (owner w.place k)) body (cell_by (block_of w.place (images (owner w.place k)) (owner w.place k)) body)
  leaves k y (Pointer p) q b = let v = block k p y q b in (v.0, held_there w.place images (owner w.place k) p ∙ v.1, v.1)
  leaves k y (Embedded v) q b = refl
  leaves k y Tombstone q b = refl

  found : (k : ℕ) (o : Option PlacedEntry) → winner_in k es ≡ o → Recovers w x k (option_and_then (λ (y : PlacedEntry). cell_by (block_of w.place (images (owner w.place k)) (owner w.place k)) y.entry.body) o)
  found k None q = inl (none_wins k q, refl)
  found k (Some y) q = inr (y.entry, wins k y q, leaves k y y.entry.body q refl)

  pub images_safe : IsSafe w images
  images_safe = record {
    well = λ h low. (ok h low).well;
    grouped = λ y i. let at = home y i in whole.group at.0 y.entry at.1;
    agree = λ y z i j k v.
        let a = home y i in
        let b = home z j in
        let one = whole.one_body a.0 b.0 y.entry z.entry a.1 b.1 k v in
        (ap (λ (e : Entry). e.body) one.1, a.2 ∙ ap (core_of w.place) one.0 ∙ sym b.2);
    block = block;
    own = λ j k p y z q r b c. whole.own j k p y.entry z.entry (wins j y q) (wins k z r) b c;
    cells = λ k. whole.cells k (recovered w.place images k) (found k (winner_in k es) refl);
  }
