-- Where one chunk has more entries, and all else is as it was.
use Rattle.std.proofs.Common.{◌≡◌, ◌≢◌, ◌⊎◌, inl, inr, ℕ, zero, suc, ◌+◌, ◌-◌, ◌<◌, List, [], ◌++◌, sym, ◌∙◌, ap, arith, append_assoc, append-nil}
use Rattle.std.specs.List.{flat_map}
use Rattle.chunk_map.specs.declared.layouts.Geometry.{Geometry}
use Rattle.store_image.specs.declared.types.PlacedEntry.{PlacedEntry}
use Rattle.chunk_map.specs.Layouts.{numbers}
use Rattle.store_image.specs.Parts.{chunk_entries, part_entries, all_entries}
use Rattle.store_image.proofs.Local.{over_numbers}

-- one is longer than the other by xs, somewhere
abbrev pub Inserted : {X : Type 0} → List X → List X → List X → Type 0
Inserted {X} old xs new = (a : List X) × (b : List X) × (old ≡ a ++ b) × (new ≡ a ++ (xs ++ b))

at_end : {X : Type 0} (old xs new : List X) → new ≡ old ++ xs → Inserted old xs new
at_end old xs new e = (old, [], sym (append-nil old), e ∙ ap (λ l. old ++ l) (sym (append-nil xs)))

-- behind and before what stays
around : {X : Type 0} (front old xs new back : List X) → Inserted old xs new → Inserted (front ++ (old ++ back)) xs (front ++ (new ++ back))
around front old xs new back (a, b, is, more) = (
  front ++ a,
  b ++ back,
  ap (λ l. front ++ (l ++ back)) is ∙ ap (λ l. front ++ l) (append_assoc a b back) ∙ sym (append_assoc front a (b ++ back)),
  ap (λ l. front ++ (l ++ back)) more ∙ ap (λ l. front ++ l) (append_assoc a (xs ++ b) back ∙ ap (λ l. a ++ l) (append_assoc xs b back)) ∙ sym (append_assoc front a (xs ++ (b ++ back))),
)

over_split : {X : Type 0} (f : ℕ → List X) (from m n : ℕ) → flat_map f (numbers from (m + suc n)) ≡ flat_map f (numbers from m) ++ (f (from + m) ++ flat_map f (numbers (suc (from + m)) n))
over_split f from zero n =
    let e : 0 + suc n ≡ suc n = omega arith in
    let z : from ≡ from + 0 = omega arith in
    ap (λ k. flat_map f (numbers from k)) e ∙ ap (λ k. f k ++ flat_map f (numbers (suc k) n)) z
over_split f from (suc m) n =
    let e : suc m + suc n ≡ suc (m + suc n) = omega arith in
    let z : suc from + m ≡ from + suc m = omega arith in
    ap (λ k. flat_map f (numbers from k)) e ∙ ap (λ l. f from ++ l) (over_split f (suc from) m n ∙ ap (λ k. flat_map f (numbers (suc from) m) ++ (f k ++ flat_map f (numbers (suc k) n))) z) ∙ sym (append_assoc (f from) _ _)

over_one : {X : Type 0} (f g : ℕ → List X) (n k : ℕ) (xs : List X) → k < n → ((m : ℕ) → m ≢ k → f m ≡ g m) → Inserted (f k) xs (g k) → Inserted (flat_map f (numbers 0 n)) xs (flat_map g (numbers 0 n))
over_one f g n k xs lt same more =
    let e : n ≡ k + suc (n - suc k) = omega (arith, lt) in
    let z : 0 + k ≡ k = omega arith in
    let split : (h : ℕ → List _) → flat_map h (numbers 0 n) ≡ flat_map h (numbers 0 k) ++ (h k ++ flat_map h (numbers (suc k) (n - suc k))) = λ h. ap (λ m. flat_map h (numbers 0 m)) e ∙ over_split h 0 k (n - suc k) ∙ ap (λ m. flat_map h (numbers 0 k) ++ (h m ++ flat_map h (numbers (suc m) (n - suc k)))) z in
    let front : flat_map f (numbers 0 k) ≡ flat_map g (numbers 0 k) = over_numbers f g 0 k (λ m low high. same m (λ is. omega (arith, is, high))) in
    let back : flat_map f (numbers (suc k) (n - suc k)) ≡ flat_map g (numbers (suc k) (n - suc k)) = over_numbers f g (suc k) (n - suc k) (λ m low high. same m (λ is. omega (arith, is, low))) in
    let r = around (flat_map f (numbers 0 k)) (f k) xs (g k) (flat_map f (numbers (suc k) (n - suc k))) more in
    (r.0, r.1, split f ∙ r.2, split g ∙ (λ t. sym front t ++ (g k ++ sym back t)) ∙ r.3)

-- A chunk that has these entries more puts them among all, and changes nothing else.
pub all_inserted : (l : Geometry) (i j : ℕ → ℕ) (c n : ℕ) (xs : List PlacedEntry) → c < l.cores → n < l.chunks
    → ((d m : ℕ) → (d ≢ c) ⊎ (m ≢ n) → chunk_entries l i d m ≡ chunk_entries l j d m)
    → chunk_entries l j c n ≡ chunk_entries l i c n ++ xs → Inserted (all_entries l i) xs (all_entries l j)
all_inserted l i j c n xs low high same more =
    over_one (part_entries l i) (part_entries l j) l.cores c xs low
    (λ d ne. over_numbers (chunk_entries l i d) (chunk_entries l j d) 0 l.chunks (λ m a b. same d m (inl ne)))
    (over_one (chunk_entries l i c) (chunk_entries l j c) l.chunks n xs high (λ m ne. same c m (inr ne)) (at_end (chunk_entries l i c n) xs (chunk_entries l j c n) more))

-- A chunk that has no entries any more takes its own out of all, and changes nothing else.
pub all_removed : (l : Geometry) (i j : ℕ → ℕ) (c n : ℕ) → c < l.cores → n < l.chunks
    → ((d m : ℕ) → (d ≢ c) ⊎ (m ≢ n) → chunk_entries l j d m ≡ chunk_entries l i d m)
    → chunk_entries l j c n ≡ [] → Inserted (all_entries l j) (chunk_entries l i c n) (all_entries l i)
all_removed l i j c n low high same none = all_inserted l j i c n (chunk_entries l i c n) low high same (ap (λ l'. l' ++ chunk_entries l i c n) (sym none))
