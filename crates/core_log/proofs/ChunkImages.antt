-- An image of a part that differs from another one in one chunk, which is no data chunk there.
use Rattle.std.proofs.Common.{◌≡◌, ◌≢◌, ◌⊎◌, inl, inr, ⊎_elim, ℕ, ◌+◌, ◌*◌, ◌/◌, ◌%◌, ◌≤◌, ◌<◌, ◌==◌, ◌&&◌, leb, Bool, true, false, cond, List, [], ◌∷◌, map, Option, Some, None, Ok, refl, sym, ◌∙◌, ap, subst, arith}
use Rattle.std.specs.List.{flat_map, list_all}
use Rattle.std.proofs.lemmas.Bool.{cases_eq, and_parts, and_from, eqb-true}
use Rattle.log_entry.specs.declared.entry.Entry.{Entry}
use Rattle.chunk_map.specs.declared.heads.Head.TheVariants.{Data}
use Rattle.chunk_map.specs.declared.layouts.Geometry.{Geometry}
use Rattle.chunk_map.specs.Layouts.{numbers, chunk_words, chunk_first, head_at}
use Rattle.chunk_map.proofs.Clients.{chunks_apart}
use Rattle.store_image.specs.declared.types.PlacedEntry.{PlacedEntry}
use Rattle.store_image.specs.Parts.{chunk_entries, part_entries, chunk_reads, reads, chunk_at, unit_at, class_behind, block_class, value_in_block, value_by_class}
use Rattle.store_image.specs.Facts.{In}
use Rattle.store_image.proofs.Clients.{chunk_same, reads_same, head_same, Numbers, chunk_of, block_lies, held_same, in_numbers, in_front, in_back, in_either, number_in}

-- the entry stands in a chunk, or in a part
abbrev pub InChunk : Geometry → (ℕ → ℕ) → ℕ → ℕ → Entry → Type 0
InChunk l image c j e = In e (map (λ (x : PlacedEntry). x.entry) (chunk_entries l image c j))

abbrev pub InPart : Geometry → (ℕ → ℕ) → ℕ → Entry → Type 0
InPart l image c e = In e (map (λ (x : PlacedEntry). x.entry) (part_entries l image c))

in_map : {X Y : Type 0} (f : X → Y) (x : X) (xs : List X) → In x xs → In (f x) (map f xs)
in_map f x [] i = i
in_map f x (y ∷ ys) (inl q) = inl (ap f q)
in_map f x (y ∷ ys) (inr i) = inr (in_map f x ys i)

of_map : {X Y : Type 0} (f : X → Y) (y : Y) (xs : List X) → In y (map f xs) → (x : X) × In x xs × (y ≡ f x)
of_map f y [] i = absurd i
of_map f y (x ∷ xs) (inl q) = (x, inl refl, q)
of_map f y (x ∷ xs) (inr i) = let rest = of_map f y xs i in (rest.0, inr rest.1, rest.2)

in_flat : {X Y : Type 0} (f : X → List Y) (x : X) (y : Y) (xs : List X) → In x xs → In y (f x) → In y (flat_map f xs)
in_flat f x y [] i j = absurd i
in_flat f x y (z ∷ zs) (inl q) j = in_front y (f z) (flat_map f zs) (subst (λ (z : _). In y (f z)) q j)
in_flat f x y (z ∷ zs) (inr i) j = in_back y (f z) (flat_map f zs) (in_flat f x y zs i j)

of_flat : {X Y : Type 0} (f : X → List Y) (y : Y) (xs : List X) → In y (flat_map f xs) → (x : X) × In x xs × In y (f x)
of_flat f y [] i = absurd i
of_flat f y (z ∷ zs) i = elim (in_either y (f z) (flat_map f zs) i) [
  | inl j ↦ (z, inl refl, j)
  | inr j ↦ let rest = of_flat f y zs j in (rest.0, inr rest.1, rest.2)
]

-- a part has what its chunks have
pub part_has : (l : Geometry) (image : ℕ → ℕ) (c j : ℕ) (e : Entry) → j < l.chunks → InChunk l image c j e → InPart l image c e
part_has l image c j e lt i =
    let x = of_map (λ (x : PlacedEntry). x.entry) e (chunk_entries l image c j) i in
    subst (λ (d : Entry). InPart l image c d) (sym x.2)
    (in_map (λ (y : PlacedEntry). y.entry) x.0 _ (in_flat (λ n. chunk_entries l image c n) j x.0 (numbers 0 l.chunks) (in_numbers 0 l.chunks j (omega arith) (omega arith)) x.1))

pub part_of : (l : Geometry) (image : ℕ → ℕ) (c : ℕ) (e : Entry) → InPart l image c e → (j : ℕ) × (j < l.chunks) × InChunk l image c j e
part_of l image c e i =
    let x = of_map (λ (x : PlacedEntry). x.entry) e _ i in
    let at = of_flat (λ n. chunk_entries l image c n) x.0 (numbers 0 l.chunks) x.1 in (
      at.0,
      (let lt = number_in 0 l.chunks at.0 at.1 in omega (arith, lt.1)),
      subst (λ (d : Entry). InChunk l image c at.0 d) (sym x.2) (in_map (λ (y : PlacedEntry). y.entry) x.0 (chunk_entries l image c at.0) at.2),
    )

all_of : {X : Type 0} (f : X → Bool) (xs : List X) → list_all f xs ≡ true → (x : X) → In x xs → f x ≡ true
all_of f [] all x i = absurd i
all_of f (y ∷ ys) all x (inl q) = ap f q ∙ (and_parts (f y) (list_all f ys) all).0
all_of f (y ∷ ys) all x (inr i) = all_of f ys (and_parts (f y) (list_all f ys) all).1 x i

of_all : {X : Type 0} (f : X → Bool) (xs : List X) → ((x : X) → In x xs → f x ≡ true) → list_all f xs ≡ true
of_all f [] each = refl
of_all f (x ∷ xs) each = and_from (f x) (list_all f xs) (each x (inl refl)) (of_all f xs (λ y i. each y (inr i)))

-- a part reads well where each of its chunks does
pub chunk_reads_of : (l : Geometry) (image : ℕ → ℕ) (c j : ℕ) → reads l image c ≡ true → j < l.chunks → chunk_reads l image (chunk_first l c j) ≡ true
chunk_reads_of l image c j all lt = all_of (λ n. chunk_reads l image (chunk_first l c n)) (numbers 0 l.chunks) all j (in_numbers 0 l.chunks j (omega arith) (omega (arith, lt)))

pub part_reads_by : (l : Geometry) (image : ℕ → ℕ) (c : ℕ) → ((j : ℕ) → j < l.chunks → chunk_reads l image (chunk_first l c j) ≡ true) → reads l image c ≡ true
part_reads_by l image c each = of_all (λ n. chunk_reads l image (chunk_first l c n)) (numbers 0 l.chunks) (λ j i. each j (let lt = number_in 0 l.chunks j i in omega (arith, lt.1)))

-- a word of another chunk lies outside this one
pub outside_chunk : (l : Geometry) (c j n k : ℕ) → n ≢ j → k < chunk_words l → (chunk_first l c n + k < chunk_first l c j) ⊎ (chunk_first l c j + chunk_words l ≤ chunk_first l c n + k)
outside_chunk l c j n k ne lt = ⊎_elim (λ before. inl (omega (arith, before, lt))) (λ behind. inr (omega (arith, behind))) (chunks_apart l c n j ne)

-- a block that holds something has a class
pub held_has : (image : ℕ → ℕ) (q : ℕ) (o : Option ℕ) (v : List ℕ) → value_by_class image q o ≡ Some v → (class : ℕ) × (o ≡ Some class)
held_has image q None v e = absurd (cc e)
held_has image q (Some class) v e = (class, refl)

module _ (l : Geometry) (is : Numbers l) (c : ℕ) (low : c < l.cores) (j : ℕ) (image old : ℕ → ℕ)
    (same : (w : ℕ) → (w < chunk_first l c j) ⊎ (chunk_first l c j + chunk_words l ≤ w) → image w ≡ old w) where
  room : 32 ≤ chunk_words l
  room = let s = is.size in omega (arith, s)

  pub else_same : (n k : ℕ) → n ≢ j → k < chunk_words l → image (chunk_first l c n + k) ≡ old (chunk_first l c n + k)
  else_same n k ne lt = same (chunk_first l c n + k) (outside_chunk l c j n k ne lt)

  -- another chunk says what it said
  pub entries_else : (n : ℕ) → n ≢ j → chunk_entries l image c n ≡ chunk_entries l old c n
  entries_else n ne = chunk_same l image old c n room (λ k less. else_same n k ne less)

  pub to_else : (n : ℕ) (e : Entry) → n ≢ j → InChunk l old c n e → InChunk l image c n e
  to_else n e ne i = subst (λ (xs : List PlacedEntry). In e (map (λ (x : PlacedEntry). x.entry) xs)) (sym (entries_else n ne)) i

  pub from_else : (n : ℕ) (e : Entry) → n ≢ j → InChunk l image c n e → InChunk l old c n e
  from_else n e ne i = subst (λ (xs : List PlacedEntry). In e (map (λ (x : PlacedEntry). x.entry) xs)) (entries_else n ne) i

  -- where the chunk reads well, the part reads as well as before
  pub reads_kept : chunk_reads l image (chunk_first l c j) ≡ true → reads l old c ≡ true → reads l image c ≡ true
  reads_kept now all = part_reads_by l image c (λ n lt. ⊎_elim (λ here. ap (λ k. chunk_reads l image (chunk_first l c k)) here ∙ now)
      (λ ne. reads_same l image old (chunk_first l c n) room (λ k less. else_same n k ne less) ∙ chunk_reads_of l old c n all lt)
      (cases_eq n j))

  -- a block stays what it was
  module _ (no_data : (class : ℕ) → head_at l old (chunk_first l c j) ≡ Ok (Data class) → ⊥) where
    pub block_stays : (q : ℕ) (v : List ℕ) → value_in_block l old c q ≡ Some v → value_in_block l image c q ≡ Some v
    block_stays q v e =
        let has = held_has old q (block_class l old c q) v e in
        let lies = block_lies l is old c q has.0 low has.1 in
        let ne : chunk_of l q ≢ j = λ here. no_data has.0 (ap (λ n. head_at l old (chunk_first l c n)) (sym here) ∙ lies.head) in
        held_same l image old c q (class_same ne) (λ class at k less.
        let again = block_lies l is old c q class low at in
        let word = again.words k less in
        ap image word.3 ∙ else_same (chunk_of l q) word.0 ne word.2 ∙ ap old (sym word.3)) ∙ e
      where
        class_same : chunk_of l q ≢ j → block_class l image c q ≡ block_class l old c q
        class_same ne = by_test (leb 16 q && (chunk_at l q / l.chunks == c)) refl where
          by_test : (b : Bool) → (leb 16 q && (chunk_at l q / l.chunks == c)) ≡ b → cond b (class_behind l (unit_at l q) (head_at l image (512 + chunk_at l q * chunk_words l))) None ≡ cond b (class_behind l (unit_at l q) (head_at l old (512 + chunk_at l q * chunk_words l))) None
          by_test false t = refl
          by_test true t =
              let part : chunk_at l q / l.chunks ≡ c = eqb-true (chunk_at l q / l.chunks) c (and_parts (leb 16 q) (chunk_at l q / l.chunks == c) t).1 in
              let some = is.chunks in
              let split : l.chunks * (chunk_at l q / l.chunks) + chunk_at l q % l.chunks ≡ chunk_at l q = omega (arith, some) in
              let number : c * l.chunks + chunk_of l q ≡ chunk_at l q = (let e : l.chunks * c ≡ c * l.chunks = omega arith in omega (arith, e, ap (λ x. l.chunks * x + chunk_at l q % l.chunks) (sym part) ∙ split)) in
              let first : 512 + chunk_at l q * chunk_words l ≡ chunk_first l c (chunk_of l q) = ap (λ n. 512 + n * chunk_words l) (sym number) in
              ap (class_behind l (unit_at l q)) (ap (head_at l image) first
              ∙ head_same l image old (chunk_first l c (chunk_of l q)) room (λ k less. else_same (chunk_of l q) k ne less)
              ∙ ap (head_at l old) (sym first))
