-- What a part says depends on its own words alone. So does what licenses an image of it.
use Rattle.std.proofs.Common.{◌≡◌, ℕ, zero, suc, ◌+◌, ◌-◌, ◌*◌, ◌/◌, ◌%◌, ◌<◌, ◌≤◌, ◌==◌, ◌&&◌, ◌^◌, cond, leb, Bool, true, false, List, Some, None, inl, inr, arith, refl, sym, ap, ◌∙◌, subst}
use Rattle.std.specs.List.{list_all}
use Rattle.std.proofs.Common.{map}
use Rattle.std.proofs.lemmas.Bool.{leb-true}
use Rattle.std.proofs.lemmas.Nat.{div-add-mod'}
use Rattle.std.proofs.lemmas.Bool.{and_parts, eqb-true}
use Rattle.log_entry.specs.declared.entry.Entry.{Entry}
use Rattle.chunk_map.specs.declared.layouts.Geometry.{Geometry}
use Rattle.chunk_map.specs.Layouts.{numbers, part_first, chunk_first, chunk_words, head_at}
use Rattle.chunk_map.proofs.Clients.{chunk_in_part}
use Rattle.store_image.specs.declared.types.PlacedEntry.{PlacedEntry}
use Rattle.store_image.specs.Parts.{part_entries, reads, value_in_block, block_class, class_behind, chunk_at, unit_at, chunk_units}
use Rattle.store_image.proofs.Clients.{chosen, head_same, reads_same, part_same, Numbers, behind_facts, layout_numbers, held_same}
use Rattle.store_image.specs.Facts.{In}
use Rattle.group_laws.specs.Places.{Place, IsPlace, core_of}
use Rattle.group_laws.specs.MemberViews.{View}
use Rattle.group_laws.specs.Images.{IsLicensedBy, SamePart, StandsIn, log_of}

all_same : (f g : ℕ → Bool) (from n : ℕ) → ((k : ℕ) → from ≤ k → k < from + n → f k ≡ g k) → list_all f (numbers from n) ≡ list_all g (numbers from n)
all_same f g from zero same = refl
all_same f g from (suc n) same =
    let first : f from ≡ g from = same from (omega arith) (omega arith) in
    let rest : list_all f (numbers (suc from) n) ≡ list_all g (numbers (suc from) n) = all_same f g (suc from) n (λ k low high. same k (omega (arith, low)) (omega (arith, high))) in
    (λ t. first t && rest t)

module _ (l : Geometry) (is : Numbers l) (c : ℕ) (i j : ℕ → ℕ) (same : (w : ℕ) → part_first l c ≤ w → w < part_first l (c + 1) → i w ≡ j w) where
  room : 32 ≤ chunk_words l
  room = let s = is.size in omega (arith, s)

  in_chunk : (n k : ℕ) → n < l.chunks → k < chunk_words l → i (chunk_first l c n + k) ≡ j (chunk_first l c n + k)
  in_chunk n k low less = let at = chunk_in_part l c n low in same (chunk_first l c n + k) (omega (arith, at.0)) (omega (arith, at.1, less))

  pub entries_same : part_entries l i c ≡ part_entries l j c
  entries_same = part_same l i j c room in_chunk

  pub part_reads : reads l i c ≡ reads l j c
  part_reads = all_same _ _ 0 l.chunks (λ n low high. reads_same l i j (chunk_first l c n) room (λ k less. in_chunk n k (omega (arith, high)) less))

  -- of a pointer whose chunk is one of the part's
  module _ (p : ℕ) (here : chunk_at l p / l.chunks ≡ c) where
    place : 512 + chunk_at l p * chunk_words l ≡ chunk_first l c (chunk_at l p % l.chunks)
    place =
        let q = chunk_at l p in
        let split : c * l.chunks + q % l.chunks ≡ q = ap (λ n. n * l.chunks + q % l.chunks) (sym here) ∙ div-add-mod' q l.chunks in
        ap (λ n. 512 + n * chunk_words l) (sym split)

    within : chunk_at l p % l.chunks < l.chunks
    within = let four = is.chunks in omega (arith, four)

    word : (k : ℕ) → k < chunk_words l → i (512 + chunk_at l p * chunk_words l + k) ≡ j (512 + chunk_at l p * chunk_words l + k)
    word k less = ap (λ n. i (n + k)) place ∙ in_chunk (chunk_at l p % l.chunks) k within less ∙ sym (ap (λ n. j (n + k)) place)

    head : head_at l i (512 + chunk_at l p * chunk_words l) ≡ head_at l j (512 + chunk_at l p * chunk_words l)
    head = head_same l i j (512 + chunk_at l p * chunk_words l) room word

  class_same : (p : ℕ) → block_class l i c p ≡ block_class l j c p
  class_same p = elim (leb 16 p && (chunk_at l p / l.chunks == c)) as (λ b. (leb 16 p && (chunk_at l p / l.chunks == c)) ≡ b → cond b (class_behind l (unit_at l p) (head_at l i (512 + chunk_at l p * chunk_words l))) None ≡ cond b (class_behind l (unit_at l p) (head_at l j (512 + chunk_at l p * chunk_words l))) None) [
    | true ↦ λ e. ap (class_behind l (unit_at l p)) (head p (eqb-true (chunk_at l p / l.chunks) c (and_parts (leb 16 p) (chunk_at l p / l.chunks == c) e).1))
    | false ↦ λ e. refl
  ] refl

  block_word : (p class : ℕ) → block_class l j c p ≡ Some class → (k : ℕ) → k < 32 * 2 ^ class → i (32 * p + k) ≡ j (32 * p + k)
  block_word p class e k less = elim (chosen (leb 16 p && (chunk_at l p / l.chunks == c)) (class_behind l (unit_at l p) (head_at l j (512 + chunk_at l p * chunk_words l))) None (Some class) e) [
    | inr a ↦ cc (a.1)
    | inl a ↦
        let both = and_parts (leb 16 p) (chunk_at l p / l.chunks == c) a.0 in
        let low = leb-true 16 p both.0 in
        let here = eqb-true (chunk_at l p / l.chunks) c both.1 in
        let b = behind_facts l (unit_at l p) class (head_at l j (512 + chunk_at l p * chunk_words l)) a.1 in
        let size = is.whole in
        let big = is.size in
        let start : chunk_units l * chunk_at l p + unit_at l p ≡ p - 16 = omega (arith, big) in
        let units : chunk_words l ≡ 32 * chunk_units l = omega (arith, size) in
        let first : chunk_at l p * chunk_words l ≡ 32 * (chunk_units l * chunk_at l p) = ap (λ w. chunk_at l p * w) units ∙ omega arith in
        let at : 32 * p + k ≡ 512 + chunk_at l p * chunk_words l + (32 * unit_at l p + k) = omega (arith, start, first, low) in
        let inside : 32 * unit_at l p + k < chunk_words l = let top = b.1 in omega (arith, units, top, less) in
        ap i at ∙ word p here (32 * unit_at l p + k) inside ∙ sym (ap j at)
  ]

  pub part_holds : (p : ℕ) → value_in_block l i c p ≡ value_in_block l j c p
  part_holds p = held_same l i j c p (class_same p) (block_word p)

-- An image with the same words in the part is licensed too.
pub licensed_words : (p : Place) (h : ℕ) (v : View) (i j : ℕ → ℕ) → IsPlace p → SamePart p h i j → IsLicensedBy p h v j → IsLicensedBy p h v i
licensed_words p h v i j at same ok = record {
  well = part_reads l is c i j same ∙ ok.well;
  has = λ e k spared. back e (ok.has e k spared);
  only = λ e s. ok.only e (there e s);
  whole = elim ok.whole [
    | inl all ↦ inl (λ e k. back e (all e k))
    | inr none ↦ inr (λ e k s. none e k (there e s))
  ];
  blocks = λ q b r. part_holds l is c i j same q ∙ ok.blocks q b r;
} where
  l : Geometry
  l = p.layout

  is : Numbers p.layout
  is = layout_numbers p.layout at.layout

  c : ℕ
  c = core_of p h

  entries : log_of p i h ≡ log_of p j h
  entries = entries_same l is c i j same

  back : (e : Entry) → StandsIn p j h e → StandsIn p i h e
  back e s = subst (λ (es : List PlacedEntry). In e (map (λ (x : PlacedEntry). x.entry) es)) (sym entries) s

  there : (e : Entry) → StandsIn p i h e → StandsIn p j h e
  there e s = subst (λ (es : List PlacedEntry). In e (map (λ (x : PlacedEntry). x.entry) es)) entries s
