-- Where the chunks and blocks of a layout lie.
use Rattle.std.proofs.Common.{◌≡◌, inl, inr, ℕ, ◌+◌, ◌-◌, ◌*◌, ◌/◌, ◌%◌, ◌^◌, ◌<◌, ◌≤◌, List, [], ◌∷◌, refl, sym, ◌∙◌, ap, arith, ◌==◌, ◌&&◌, ◌||◌, true, false, Bool, cond, Option, Some, None, Result, Ok, Err, leb, ltb, ◌≢◌, ◌⊎◌}
use Rattle.std.proofs.Math.Nat.{mul-le-mul_left}
use Rattle.std.proofs.lemmas.Nat.{pow_pos}
use Rattle.std.specs.Prelude.{is_none}
use Rattle.std.specs.List.{list_any, list_all}
use Rattle.std.proofs.lemmas.Bool.{and_parts, eqb-true, leb-true}
use Rattle.log_entry.specs.Words.{words_for}
use Rattle.chunk_map.specs.declared.layouts.Geometry.{Geometry}
use Rattle.chunk_map.specs.declared.heads.Head.{Head}
use Rattle.chunk_map.specs.declared.heads.Head.TheVariants.{Free, Log, Data}
use Rattle.chunk_map.specs.Layouts.{chunk_first, chunk_words, total_bytes, is_chunk_size, layout_rule, superblock_rule, layout_of, magic, head_at, has_class}
use Rattle.store_image.specs.Parts.{chunk_units, chunk_at, unit_at, is_start, class_behind, block_class}
use Rattle.store_image.proofs.Local.{chosen}

-- what a chunk's size is
abbrev good_size : ℕ → Bool
good_size n = leb 4096 n && leb n 4194304 && (n % 4096 == 0)

any_good : (n : ℕ) (es : List ℕ) → list_any (λ e. n == 2 ^ e) es ≡ true → list_all (λ e. good_size (2 ^ e)) es ≡ true → good_size n ≡ true
any_good n [] some all = cc some
any_good n (e ∷ es) some all = elim (n == 2 ^ e) as (λ b. (n == 2 ^ e) ≡ b → (b || list_any (λ e. n == 2 ^ e) es) ≡ true → good_size n ≡ true) [
  | true ↦ λ is q. ap good_size (eqb-true n (2 ^ e) is) ∙ (and_parts (good_size (2 ^ e)) _ all).0
  | false ↦ λ is q. any_good n es q (and_parts (good_size (2 ^ e)) _ all).1
] refl some

pub record Numbers (l : Geometry) : Type 0 where
  pub cores : 1 ≤ l.cores
  pub chunks : 4 ≤ l.chunks
  pub size : 4096 ≤ l.chunk_bytes
  pub whole : l.chunk_bytes % 4096 ≡ 0
  pub total : l.cores * l.chunks * l.chunk_bytes ≤ 268435456
  pub group : 1 ≤ l.group

within_total : (b : Bool) → cond {A = Option ℕ} b None (Some 5) ≡ None → b ≡ true
within_total true e = refl
within_total false e = cc e

pub layout_numbers : (l : Geometry) → layout_rule l ≡ None → Numbers l
layout_numbers l none = elim (chosen (leb 1 l.cores && leb l.cores 16) _ _ _ none) [
  | inr a ↦ cc (a.1)
  | inl a ↦ elim (chosen (leb 1 l.group && leb l.group 8 && l.cores % l.group == 0) _ _ _ a.1) [
    | inr b ↦ cc (b.1)
    | inl b ↦ elim (chosen (leb 4 l.chunks && leb l.chunks 64) _ _ _ b.1) [
      | inr c ↦ cc (c.1)
      | inl c ↦ elim (chosen (is_chunk_size l.chunk_bytes) _ _ _ c.1) [
        | inr d ↦ cc (d.1)
        | inl d ↦
            let good = any_good l.chunk_bytes (12 ∷ 13 ∷ 14 ∷ 15 ∷ 16 ∷ 17 ∷ 18 ∷ 19 ∷ 20 ∷ 21 ∷ 22 ∷ []) d.0 refl in
            let outer = and_parts (leb 4096 l.chunk_bytes && leb l.chunk_bytes 4194304) (l.chunk_bytes % 4096 == 0) good in
            record {
              cores = leb-true 1 l.cores (and_parts (leb 1 l.cores) (leb l.cores 16) a.0).0;
              chunks = leb-true 4 l.chunks (and_parts (leb 4 l.chunks) (leb l.chunks 64) c.0).0;
              size = leb-true 4096 l.chunk_bytes (and_parts (leb 4096 l.chunk_bytes) (leb l.chunk_bytes 4194304) outer.0).0;
              whole = eqb-true (l.chunk_bytes % 4096) 0 outer.1;
              total = leb-true (l.cores * l.chunks * l.chunk_bytes) 268435456 (within_total _ d.1);
              group = leb-true 1 l.group (and_parts (leb 1 l.group) (leb l.group 8) (and_parts (leb 1 l.group && leb l.group 8) (l.cores % l.group == 0) b.0).0).0;
            }
      ]
    ]
  ]
]

-- word k of the chunk with number q among all lies in the region
module _ (l : Geometry) (is : Numbers l) where
  pub in_region : (q k : ℕ) → q < l.cores * l.chunks → k < chunk_words l → 512 + q * chunk_words l + k < total_bytes l / 8
  in_region q k lt less =
      let n = l.cores * l.chunks in
      let w = chunk_words l in
      let size = is.whole in
      let eight : l.chunk_bytes ≡ 8 * w = omega (arith, size) in
      let more : w * (q + 1) ≤ w * n = mul-le-mul_left w lt' in
      let total : total_bytes l ≡ 4096 + n * (8 * w) = ap (λ b. 4096 + n * b) eight in
      omega (arith, more, total, less)
    where
      lt' : q + 1 ≤ l.cores * l.chunks
      lt' = omega (arith, lt)

  -- a chunk lies in the region, and the region isn't large
  pub chunk_ends : (q : ℕ) → q < l.cores * l.chunks → (512 + q * chunk_words l + chunk_words l ≤ total_bytes l / 8) × (total_bytes l / 8 < 2 ^ 32)
  chunk_ends q lt =
      let s = is.size in
      let t = is.total in
      let last = in_region q (chunk_words l - 1) lt (omega (arith, s)) in
      (omega (arith, last, s), omega (arith, t))

  pub chunk_number : (c j : ℕ) → c < l.cores → j < l.chunks → c * l.chunks + j < l.cores * l.chunks
  chunk_number c j low high =
      let more : l.chunks * (c + 1) ≤ l.chunks * l.cores = mul-le-mul_left l.chunks (let q : c + 1 ≤ l.cores = omega (arith, low) in q) in
      omega (arith, more, high)

-- a block that has room for the length lies in its chunk
pub start_facts : (l : Geometry) (class u : ℕ) → is_start l class u ≡ true → (1 ≤ u) × (u + 2 ^ class ≤ chunk_units l)
start_facts l class u e =
    let outer = and_parts (leb 1 u && ((u - 1) % 2 ^ class == 0)) (leb (u + 2 ^ class) (chunk_units l)) e in
    let inner = and_parts (leb 1 u) ((u - 1) % 2 ^ class == 0) outer.0 in
    (leb-true 1 u inner.0, leb-true (u + 2 ^ class) (chunk_units l) outer.1)

pub behind_facts : (l : Geometry) (u class : ℕ) (h : Result Head ℕ) → class_behind l u h ≡ Some class → (1 ≤ u) × (u + 2 ^ class ≤ chunk_units l)
behind_facts l u class (Ok Free) e = cc e
behind_facts l u class (Ok (Log t)) e = cc e
behind_facts l u class (Err r) e = cc e
behind_facts l u class (Ok (Data c)) e = elim (chosen (is_start l c u) _ _ _ e) [
  | inl a ↦ (let same : c ≡ class = cc (a.1) in start_facts l class u (ap (λ x. is_start l x u) (sym same) ∙ a.0))
  | inr a ↦ cc (a.1)
]

pub two_positive : (n : ℕ) → 0 < 32 * 2 ^ n
two_positive n = let some : 0 < 2 ^ n = pow_pos n in omega (arith, some)

pub class_room : (n class : ℕ) → has_class n class ≡ true → 1 + words_for n ≤ 32 * 2 ^ class
class_room n class e =
    let outer = and_parts (leb 256 n && leb (n + 8) (256 * 2 ^ class)) ((class == 1) || ltb (128 * 2 ^ class) (n + 8)) e in
    let inner = and_parts (leb 256 n) (leb (n + 8) (256 * 2 ^ class)) outer.0 in
    let top = leb-true (n + 8) (256 * 2 ^ class) inner.1 in
    omega (arith, top)

-- of a pointer into part c
module _ (l : Geometry) (is : Numbers l) (c p : ℕ) (low : c < l.cores) where
  -- its chunk is one of the region's
  pub chunk_within : chunk_at l p / l.chunks ≡ c → chunk_at l p < l.cores * l.chunks
  chunk_within part =
      let some = is.chunks in
      let more : l.chunks * (c + 1) ≤ l.chunks * l.cores = mul-le-mul_left l.chunks (let q : c + 1 ≤ l.cores = omega (arith, low) in q) in
      let split : l.chunks * (chunk_at l p / l.chunks) + chunk_at l p % l.chunks ≡ chunk_at l p = omega (arith, some) in
      let less : chunk_at l p % l.chunks < l.chunks = omega (arith, some) in
      let at : l.chunks * c + chunk_at l p % l.chunks ≡ chunk_at l p = ap (λ x. l.chunks * x + chunk_at l p % l.chunks) (sym part) ∙ split in
      omega (arith, more, at, less)

  pub pointed_chunk : (leb 16 p && (chunk_at l p / l.chunks == c)) ≡ true → (16 ≤ p) × (chunk_at l p < l.cores * l.chunks)
  pointed_chunk e =
      let both = and_parts (leb 16 p) (chunk_at l p / l.chunks == c) e in
      (leb-true 16 p both.0, chunk_within (eqb-true (chunk_at l p / l.chunks) c both.1))

-- each word of a block lies in the region
pub word_within : (l : Geometry) (is : Numbers l) (image : ℕ → ℕ) (c p : ℕ) → c < l.cores → (class : ℕ) → block_class l image c p ≡ Some class → (k : ℕ) → k < 32 * 2 ^ class → 32 * p + k < total_bytes l / 8
word_within l is image c p low class e k less = elim (chosen (leb 16 p && (chunk_at l p / l.chunks == c)) _ _ _ e) [
  | inr a ↦ cc (a.1)
  | inl a ↦
      let f = pointed_chunk l is c p low a.0 in
      let b = behind_facts l (unit_at l p) class (head_at l image (512 + chunk_at l p * chunk_words l)) a.1 in
      let size = is.whole in
      let big = is.size in
      let low' = f.0 in
      let start : chunk_units l * chunk_at l p + unit_at l p ≡ p - 16 = omega (arith, big) in
      let units : chunk_words l ≡ 32 * chunk_units l = omega (arith, size) in
      let first : chunk_at l p * chunk_words l ≡ 32 * (chunk_units l * chunk_at l p) = ap (λ w. chunk_at l p * w) units ∙ omega arith in
      let at : 32 * p + k ≡ 512 + chunk_at l p * chunk_words l + (32 * unit_at l p + k) = omega (arith, start, first, low') in
      let within : 32 * unit_at l p + k < chunk_words l = let top = b.1 in omega (arith, units, top, less) in
      let there = in_region l is (chunk_at l p) (32 * unit_at l p + k) f.1 within in
      omega (arith, at, there)
]

is_none_true : {X : Type 0} (o : Option X) → is_none o ≡ true → o ≡ None
is_none_true None e = refl
is_none_true (Some x) e = cc e

pub superblock_facts : (bytes : ℕ) (image : ℕ → ℕ) → superblock_rule bytes image ≡ None → (4096 ≤ bytes) × (layout_rule (layout_of image) ≡ None) × (bytes ≡ total_bytes (layout_of image))
superblock_facts bytes image none = elim (chosen (bytes % 8 == 0 && leb 4096 bytes && leb bytes 268439552) _ _ _ none) [
  | inr a ↦ cc (a.1)
  | inl a ↦ elim (chosen (image 0 == magic && image 1 == 1) _ _ _ a.1) [
    | inr b ↦ cc (b.1)
    | inl b ↦ elim (chosen (is_none (layout_rule (layout_of image)) && bytes == total_bytes (layout_of image)) _ _ _ b.1) [
      | inr c ↦ cc (c.1)
      | inl c ↦
          let both = and_parts (is_none (layout_rule (layout_of image))) (bytes == total_bytes (layout_of image)) c.0 in (
            leb-true 4096 bytes (and_parts (bytes % 8 == 0) (leb 4096 bytes) (and_parts (bytes % 8 == 0 && leb 4096 bytes) (leb bytes 268439552) a.0).0).1,
            is_none_true (layout_rule (layout_of image)) both.0,
            eqb-true bytes (total_bytes (layout_of image)) both.1,
          )
    ]
  ]
]

-- Different chunks have no word in common.
pub chunks_apart : (l : Geometry) (c n d m k k' : ℕ) → n < l.chunks → m < l.chunks → k < chunk_words l → k' < chunk_words l → (d ≢ c) ⊎ (m ≢ n) → chunk_first l c n + k ≢ chunk_first l d m + k'
chunks_apart l c n d m k k' ln lm lk lk' ne same = elim ne [
  | inl h ↦ h (number d m c n lm ln equal).0
  | inr h ↦ h (number d m c n lm ln equal).1
] where
  -- the number of a chunk tells its part and its place there
  number : (c n d m : ℕ) → n < l.chunks → m < l.chunks → c * l.chunks + n ≡ d * l.chunks + m → (c ≡ d) × (n ≡ m)
  number c n d m ln lm e = let r = parts c d n m ln lm e in (r, omega (arith, e, ap (λ x. x * l.chunks) r)) where
    below : (c d n m : ℕ) → m < l.chunks → n < l.chunks → c * l.chunks + n ≡ d * l.chunks + m → c < d → ⊥
    below c d n m lm ln e lt =
        let more : l.chunks * (c + 1) ≤ l.chunks * d = mul-le-mul_left l.chunks (let q : c + 1 ≤ d = omega (arith, lt) in q) in
        omega (arith, more, e, ln)

    parts : (c d n m : ℕ) → n < l.chunks → m < l.chunks → c * l.chunks + n ≡ d * l.chunks + m → c ≡ d
    parts c d n m ln lm e = let a = below c d n m lm ln e in let b = below d c m n ln lm (sym e) in omega (arith, a, b)

  apart : (q r k k' : ℕ) → k < chunk_words l → 512 + q * chunk_words l + k ≡ 512 + r * chunk_words l + k' → q < r → ⊥
  apart q r k k' lk e lt =
      let w = chunk_words l in
      let more : w * (q + 1) ≤ w * r = mul-le-mul_left w (let s : q + 1 ≤ r = omega (arith, lt) in s) in
      omega (arith, more, e, lk)

  equal : d * l.chunks + m ≡ c * l.chunks + n
  equal =
      let a = apart (d * l.chunks + m) (c * l.chunks + n) k' k lk' (sym same) in
      let b = apart (c * l.chunks + n) (d * l.chunks + m) k k' lk same in
      omega (arith, a, b)
