-- What blocks hold: where their words lie, and what writes change of them.
use Rattle.std.proofs.Common.{◌≡◌, inl, inr, ℕ, ◌+◌, ◌-◌, ◌*◌, ◌/◌, ◌%◌, ◌^◌, ◌<◌, ◌≤◌, List, length, take, replicate, refl, sym, ◌∙◌, ap, arith, ◌==◌, ◌&&◌, true, false, cond, Option, Some, None, leb, Ok, Err, Result}
use Rattle.std.proofs.lemmas.Bool.{and_parts, eqb-true}
use Rattle.std.proofs.lemmas.List.{take_at}
use Rattle.log_entry.specs.Words.{words_for, packed, unpacked, words_from}
use Rattle.log_entry.proofs.Clients.{AreBytes, unpacked-packed, words_same}
use Rattle.chunk_map.specs.declared.layouts.Geometry.{Geometry}
use Rattle.chunk_map.specs.declared.heads.Head.{Head}
use Rattle.chunk_map.specs.declared.heads.Head.TheVariants.{Free, Log, Data}
use Rattle.chunk_map.specs.Layouts.{chunk_words, chunk_first, head_at, has_class}
use Rattle.store_image.specs.Parts.{chunk_units, chunk_at, unit_at, is_start, class_behind, block_class, block_bytes, value_by_class, value_in_block}
use Rattle.store_image.proofs.Local.{chosen}
use Rattle.store_image.proofs.Places.{Numbers, two_positive, class_room, behind_facts, pointed_chunk}

-- only a data chunk has blocks, of its own class
data_behind : (l : Geometry) (u class : ℕ) (h : Result Head ℕ) → class_behind l u h ≡ Some class → h ≡ Ok (Data class)
data_behind l u class (Ok Free) e = cc e
data_behind l u class (Ok (Log t)) e = cc e
data_behind l u class (Err r) e = cc e
data_behind l u class (Ok (Data c)) e = elim (chosen (is_start l c u) _ _ _ e) [
  | inl a ↦ (let same : c ≡ class = cc (a.1) in ap (λ (x : ℕ). Ok (Data x)) same)
  | inr a ↦ cc (a.1)
]

-- the chunk of a block, in its part
abbrev pub chunk_of : Geometry → ℕ → ℕ
chunk_of l p = chunk_at l p % l.chunks

pub record LiesIn (l : Geometry) (image : ℕ → ℕ) (c p class : ℕ) : Type 0 where
  pub chunk : chunk_of l p < l.chunks
  pub head : head_at l image (chunk_first l c (chunk_of l p)) ≡ Ok (Data class)
  pub words : (k : ℕ) → k < 32 * 2 ^ class → (m : ℕ) × (32 ≤ m) × (m < chunk_words l) × (32 * p + k ≡ chunk_first l c (chunk_of l p) + m)

-- A block's words lie in one data chunk of its part, behind the head.
pub block_lies : (l : Geometry) (is : Numbers l) (image : ℕ → ℕ) (c p class : ℕ) → c < l.cores → block_class l image c p ≡ Some class → LiesIn l image c p class
block_lies l is image c p class low e = elim (chosen (leb 16 p && (chunk_at l p / l.chunks == c)) _ _ _ e) [
  | inr a ↦ cc (a.1)
  | inl a ↦
      let f = pointed_chunk l is c p low a.0 in
      let part : chunk_at l p / l.chunks ≡ c = eqb-true (chunk_at l p / l.chunks) c (and_parts (leb 16 p) (chunk_at l p / l.chunks == c) a.0).1 in
      let some = is.chunks in
      let split : l.chunks * (chunk_at l p / l.chunks) + chunk_at l p % l.chunks ≡ chunk_at l p = omega (arith, some) in
      let number : c * l.chunks + chunk_of l p ≡ chunk_at l p = (let q : l.chunks * c ≡ c * l.chunks = omega arith in omega (arith, q, ap (λ x. l.chunks * x + chunk_at l p % l.chunks) (sym part) ∙ split)) in
      let first : 512 + chunk_at l p * chunk_words l ≡ chunk_first l c (chunk_of l p) = ap (λ q. 512 + q * chunk_words l) (sym number) in
      let b = behind_facts l (unit_at l p) class (head_at l image (512 + chunk_at l p * chunk_words l)) a.1 in
      let size = is.whole in
      let big = is.size in
      let low' = f.0 in
      let start : chunk_units l * chunk_at l p + unit_at l p ≡ p - 16 = omega (arith, big) in
      let units : chunk_words l ≡ 32 * chunk_units l = omega (arith, size) in
      let words : chunk_at l p * chunk_words l ≡ 32 * (chunk_units l * chunk_at l p) = ap (λ w. chunk_at l p * w) units ∙ omega arith in
      record {
        chunk = omega (arith, some);
        head = ap (head_at l image) (sym first) ∙ data_behind l (unit_at l p) class (head_at l image (512 + chunk_at l p * chunk_words l)) a.1;
        words = λ k less. (
          32 * unit_at l p + k,
          (let u = b.0 in omega (arith, u)),
          (let top = b.1 in omega (arith, units, top, less)),
          (let at : 32 * p + k ≡ 512 + chunk_at l p * chunk_words l + (32 * unit_at l p + k) = omega (arith, start, words, low') in at ∙ ap (λ x. x + (32 * unit_at l p + k)) first),
        );
      }
]

-- What a block holds depends on its chunk's head and on its own words alone.
pub held_same : (l : Geometry) (i j : ℕ → ℕ) (c p : ℕ) → block_class l i c p ≡ block_class l j c p → ((class : ℕ) → block_class l j c p ≡ Some class → (k : ℕ) → k < 32 * 2 ^ class → i (32 * p + k) ≡ j (32 * p + k)) → value_in_block l i c p ≡ value_in_block l j c p
held_same l i j c p classes same = ap (value_by_class i p) classes ∙ by_class (block_class l j c p) refl where
  by_class : (o : Option ℕ) → block_class l j c p ≡ o → value_by_class i p o ≡ value_by_class j p o
  by_class None e = refl
  by_class (Some class) e =
      let z : 32 * p + 0 ≡ 32 * p = omega arith in
      let some : 0 < 32 * 2 ^ class = two_positive class in
      let n : i (32 * p) ≡ j (32 * p) = ap i (sym z) ∙ same class e 0 some ∙ ap j z in
      ap (λ x. cond (has_class x class) (Some (take x (unpacked (words_from i (32 * p + 1) (words_for x))))) None) n
      ∙ elim (has_class (j (32 * p)) class) as (λ b. has_class (j (32 * p)) class ≡ b → cond b (Some (take (j (32 * p)) (unpacked (words_from i (32 * p + 1) (words_for (j (32 * p))))))) None ≡ cond b (Some (block_bytes j p)) None) [
        | true ↦ λ has.
            let fits = class_room (j (32 * p)) class has in
            ap (λ ws. Some (take (j (32 * p)) (unpacked ws))) (words_same i j (32 * p + 1) (words_for (j (32 * p))) (λ k less.
            let at : 32 * p + 1 + k ≡ 32 * p + (1 + k) = omega arith in
            ap i at ∙ same class e (1 + k) (omega (arith, fits, less)) ∙ ap j (sym at)))
        | false ↦ λ has. refl
      ] refl

-- A block that has a value's length and words holds the value.
pub held_written : (l : Geometry) (image : ℕ → ℕ) (c p class : ℕ) (bytes : List ℕ) → block_class l image c p ≡ Some class → has_class (length bytes) class ≡ true → AreBytes bytes
    → image (32 * p) ≡ length bytes → words_from image (32 * p + 1) (words_for (length bytes)) ≡ packed bytes → value_in_block l image c p ≡ Some bytes
held_written l image c p class bytes is has are size words =
    let n = length bytes in
    let zeros = replicate {A = ℕ} (8 * words_for n - n) 0 in
    let value : take n (unpacked (packed bytes)) ≡ bytes = ap (take n) (unpacked-packed bytes are) ∙ take_at bytes zeros n refl in
    ap (value_by_class image p) is
    ∙ ap (λ x. cond (has_class x class) (Some (take x (unpacked (words_from image (32 * p + 1) (words_for x))))) None) size
    ∙ ap (λ b. cond b (Some (take n (unpacked (words_from image (32 * p + 1) (words_for n))))) None) has
    ∙ ap (λ ws. Some (take n (unpacked ws))) words
    ∙ ap Some value
