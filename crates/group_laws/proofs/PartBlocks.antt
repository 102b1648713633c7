-- The blocks of a part lie in it, and share no unit.
use Rattle.std.proofs.Common.{◌≡◌, ℕ, zero, suc, ◌+◌, ◌-◌, ◌*◌, ◌/◌, ◌%◌, ◌^◌, ◌<◌, ◌≤◌, ◌≢◌, Bool, true, false, cond, ◌&&◌, ◌||◌, ◌==◌, leb, ltb, List, length, Option, Some, None, unwrap_or, Result, Ok, Err, inl, inr, arith, refl, sym, ap, ◌∙◌, subst, length-take}
use Rattle.std.specs.Prelude.{find}
use Rattle.std.proofs.Math.Nat.{mul-le-mul_left, pow-le-pow_right}
use Rattle.std.proofs.lemmas.Nat.{pow_pos}
use Rattle.std.proofs.lemmas.Bool.{and_parts, eqb-true, leb-true, cases_eq, cases_lt}
use Rattle.log_entry.specs.Words.{words_for, unpacked, words_from}
use Rattle.log_entry.proofs.Clients.{length-unpacked, length-words}
use Rattle.chunk_map.specs.declared.layouts.Geometry.{Geometry}
use Rattle.chunk_map.specs.declared.heads.Head.{Head}
use Rattle.chunk_map.specs.declared.heads.Head.TheVariants.{Free, Log, Data}
use Rattle.chunk_map.specs.Layouts.{numbers, chunk_words, is_class, head_at, head_by, has_class, payload_words}
use Rattle.store_image.specs.Parts.{chunk_units, chunk_at, unit_at, is_start, class_behind, block_class, block_bytes, value_by_class, value_in_block}
use Rattle.store_image.proofs.Clients.{chosen, start_facts}
use Rattle.group_laws.specs.Places.{Place, core_of, first_unit, units, LiesIn, Apart}

-- what stands at a pointer where a block starts
pub record Starts (l : Geometry) (image : ℕ → ℕ) (c q class : ℕ) : Type 0 where
  pub low : 16 ≤ q
  pub part : chunk_at l q / l.chunks ≡ c
  pub head : head_at l image (512 + chunk_at l q * chunk_words l) ≡ Ok (Data class)
  pub start : is_start l class (unit_at l q) ≡ true

behind : (l : Geometry) (u class : ℕ) (h : Result Head ℕ) → class_behind l u h ≡ Some class → (h ≡ Ok (Data class)) × (is_start l class u ≡ true)
behind l u class (Ok Free) e = cc e
behind l u class (Ok (Log t)) e = cc e
behind l u class (Err r) e = cc e
behind l u class (Ok (Data c)) e = elim (chosen (is_start l c u) _ _ _ e) [
  | inl a ↦ (let same : c ≡ class = cc (a.1) in (ap (λ (x : ℕ). Ok (Data x)) same, ap (λ (x : ℕ). is_start l x u) (sym same) ∙ a.0))
  | inr a ↦ cc (a.1)
]

starts : (l : Geometry) (image : ℕ → ℕ) (c q class : ℕ) → block_class l image c q ≡ Some class → Starts l image c q class
starts l image c q class e = elim (chosen (leb 16 q && (chunk_at l q / l.chunks == c)) _ _ _ e) [
  | inr a ↦ cc (a.1)
  | inl a ↦
      let both = and_parts (leb 16 q) (chunk_at l q / l.chunks == c) a.0 in
      let b = behind l (unit_at l q) class (head_at l image (512 + chunk_at l q * chunk_words l)) a.1 in
      record { low = leb-true 16 q both.0; part = eqb-true (chunk_at l q / l.chunks) c both.1; head = b.0; start = b.1 }
]

-- the class of a head is one of 1 to 12
classed : (l : Geometry) (kind tail class : ℕ) → head_by l kind tail ≡ Ok (Data class) → (1 ≤ class) × (class ≤ 12)
classed l kind tail class e = elim (chosen (kind == 0) _ _ _ e) [
  | inl a ↦ cc (a.1)
  | inr a ↦ elim (chosen (kind == 1) _ _ _ a.1) [
    | inl b ↦ elim (chosen (tail % 8 == 0 && leb tail (payload_words l)) _ _ _ b.1) [ inl c ↦ cc (c.1) | inr c ↦ cc (c.1) ]
    | inr b ↦ elim (chosen (kind % 256 == 2 && is_class l (kind / 256)) _ _ _ b.1) [
      | inr c ↦ cc (c.1)
      | inl c ↦
          let same : kind / 256 ≡ class = cc (c.1) in
          let outer = and_parts (leb 1 (kind / 256) && leb (kind / 256) 12) (leb (1024 * 2 ^ (kind / 256)) l.chunk_bytes) (and_parts (kind % 256 == 2) (is_class l (kind / 256)) c.0).1 in
          let inner = and_parts (leb 1 (kind / 256)) (leb (kind / 256) 12) outer.0 in
          (let low = leb-true 1 (kind / 256) inner.0 in omega (arith, low, same), let high = leb-true (kind / 256) 12 inner.1 in omega (arith, high, same))
    ]
  ]
]

-- the first number that passes is no greater than any that does
first_passing : (f : ℕ → Bool) (from n k : ℕ) → from ≤ k → k < from + n → f k ≡ true → unwrap_or (find f (numbers from n)) 13 ≤ k
first_passing f from zero k low high t = absurd (omega (arith, low, high))
first_passing f from (suc n) k low high t = elim (f from) as (λ b. f from ≡ b → unwrap_or (cond b (Some from) (find f (numbers (suc from) n))) 13 ≤ k) [
  | true ↦ λ e. low
  | false ↦ λ e. first_passing f (suc from) n k (elim (cases_eq from k) [ inl same ↦ absurd (let here = ap f same in cc (here, e, t)) | inr other ↦ omega (arith, low, other) ]) (omega (arith, high)) t
] refl

-- a block has the units that its value needs
enough : (n class : ℕ) → 1 ≤ class → class ≤ 12 → has_class n class ≡ true → units n ≤ 2 ^ class
unfolding units
enough n class low high e =
    let outer = and_parts (leb 256 n && leb (n + 8) (256 * 2 ^ class)) ((class == 1) || ltb (128 * 2 ^ class) (n + 8)) e in
    let inner = and_parts (leb 256 n) (leb (n + 8) (256 * 2 ^ class)) outer.0 in
    pow-le-pow_right (omega arith) (first_passing (λ k. leb (n + 8) (256 * 2 ^ k)) 1 12 class low (omega (arith, high)) inner.1)

-- the bytes of a block are as many as its first word says
long : (image : ℕ → ℕ) (q : ℕ) → length (block_bytes image q) ≡ image (32 * q)
long image q =
    let n = image (32 * q) in
    let ws = words_from image (32 * q + 1) (words_for n) in
    let many : length (unpacked ws) ≡ 8 * words_for n = length-unpacked ws ∙ ap (λ (k : ℕ). 8 * k) (length-words image (32 * q + 1) (words_for n)) in
    let all = length-take n (unpacked ws) in
    omega (arith, all, many)

pub record IsBlock (l : Geometry) (image : ℕ → ℕ) (c q : ℕ) (v : List ℕ) : Type 0 where
  pub class : ℕ
  pub starts : Starts l image c q class
  pub enough : units (length v) ≤ 2 ^ class
  pub bytes : v ≡ block_bytes image q

pub is_block : (l : Geometry) (image : ℕ → ℕ) (c q : ℕ) (v : List ℕ) → value_in_block l image c q ≡ Some v → IsBlock l image c q v
is_block l image c q v e = by_class (block_class l image c q) refl e where
  by_class : (o : Option ℕ) → block_class l image c q ≡ o → value_by_class image q o ≡ Some v → IsBlock l image c q v
  by_class None is there = cc there
  by_class (Some class) is there = elim (chosen (has_class (image (32 * q)) class) _ _ _ there) [
    | inr a ↦ cc (a.1)
    | inl a ↦
        let s = starts l image c q class is in
        let at : ℕ = 512 + chunk_at l q * chunk_words l in
        let range = classed l (image at) (image (at + 1)) class s.head in
        let same : block_bytes image q ≡ v = cc (a.1) in
        record { class = class; starts = s; enough = subst (λ (n : ℕ). units n ≤ 2 ^ class) (sym (long image q) ∙ ap length same) (enough (image (32 * q)) class range.0 range.1 a.0); bytes = sym same }
  ]

-- where a block lies in its chunk
place_of_block : (l : Geometry) (image : ℕ → ℕ) (c q class : ℕ) → 0 < chunk_units l → Starts l image c q class → (q ≡ 16 + (chunk_units l * chunk_at l q + unit_at l q)) × (unit_at l q + 2 ^ class ≤ chunk_units l)
place_of_block l image c q class some s =
    let low = s.low in
    let top = start_facts l class (unit_at l q) s.start in
    let split : chunk_units l * chunk_at l q + unit_at l q ≡ q - 16 = omega (arith, some) in
    (omega (arith, split, low), top.1)

pub block_lies : (p : Place) (image : ℕ → ℕ) (m q : ℕ) (v : List ℕ) → 0 < chunk_units p.layout → 0 < p.layout.chunks → value_in_block p.layout image (core_of p m) q ≡ Some v → LiesIn p m q (units (length v))
unfolding first_unit core_of
block_lies p image m q v some rows is =
    let l = p.layout in
    let b = is_block l image (core_of p m) q v is in
    let at = place_of_block l image (core_of p m) q b.class some b.starts in
    let few = b.enough in
    let k : ℕ = p.group * l.group + m in
    let size : ℕ = chunk_units l in
    let part : chunk_at l q / l.chunks ≡ k = b.starts.part in
    let split : l.chunks * (chunk_at l q / l.chunks) + chunk_at l q % l.chunks ≡ chunk_at l q = omega (arith, rows) in
    let within : chunk_at l q % l.chunks < l.chunks = omega (arith, rows) in
    let row : l.chunks * k + chunk_at l q % l.chunks ≡ chunk_at l q = ap (λ (x : ℕ). l.chunks * x + chunk_at l q % l.chunks) (sym part) ∙ split in
    let below : size * (l.chunks * k) ≤ size * chunk_at l q = mul-le-mul_left size (omega (arith, row)) in
    let above : size * (chunk_at l q + 1) ≤ size * (l.chunks * k + l.chunks) = mul-le-mul_left size (omega (arith, row, within)) in
    let first : size * (l.chunks * k) ≡ k * (l.chunks * size) = omega arith in
    let next : size * (l.chunks * k + l.chunks) ≡ k * (l.chunks * size) + l.chunks * size = omega arith in
    let last : (p.group * l.group + (m + 1)) * (l.chunks * size) ≡ k * (l.chunks * size) + l.chunks * size = omega arith in
    let start = at.0 in
    let top = at.1 in
    (omega (arith, below, first, start), omega (arith, above, next, last, start, top, few))

pub blocks_apart : (p : Place) (image : ℕ → ℕ) (m q r : ℕ) (v u : List ℕ) → 0 < chunk_units p.layout → value_in_block p.layout image (core_of p m) q ≡ Some v → value_in_block p.layout image (core_of p m) r ≡ Some u → q ≢ r → Apart q (units (length v)) r (units (length u))
blocks_apart p image m q r v u some one two ne =
    let l = p.layout in
    let b = is_block l image (core_of p m) q v one in
    let c = is_block l image (core_of p m) r u two in
    let x = place_of_block l image (core_of p m) q b.class some b.starts in
    let y = place_of_block l image (core_of p m) r c.class some c.starts in
    elim (cases_lt (chunk_at l q) (chunk_at l r)) [
      | inl less ↦ inl (other l (chunk_at l q) (chunk_at l r) (unit_at l q) (unit_at l r) q r (2 ^ b.class) (units (length v)) x.0 y.0 x.1 b.enough less)
      | inr more ↦ elim (cases_lt (chunk_at l r) (chunk_at l q)) [
        | inl less ↦ inr (other l (chunk_at l r) (chunk_at l q) (unit_at l r) (unit_at l q) r q (2 ^ c.class) (units (length u)) y.0 x.0 y.1 c.enough less)
        | inr not_more ↦
            let same : chunk_at l q ≡ chunk_at l r = omega (arith, more, not_more) in
            let class : b.class ≡ c.class = data_class b.class c.class (head_at l image (512 + chunk_at l q * chunk_words l)) b.starts.head (ap (λ (n : ℕ). head_at l image (512 + n * chunk_words l)) same ∙ c.starts.head) in
            within l (chunk_at l q) (unit_at l q) (unit_at l r) q r b.class (units (length v)) (units (length u)) x.0 (y.0 ∙ ap (λ (n : ℕ). 16 + (chunk_units l * n + unit_at l r)) (sym same)) b.starts.start (ap (λ (k : ℕ). is_start l k (unit_at l r)) class ∙ c.starts.start) b.enough (subst (λ (k : ℕ). units (length u) ≤ 2 ^ k) (sym class) c.enough) ne
      ]
    ] where
      data_class : (a b : ℕ) (h : Result Head ℕ) → h ≡ Ok (Data a) → h ≡ Ok (Data b) → a ≡ b
      data_class a b h i j = cc (i, j)

      other : (l : Geometry) (a b s t q r size n : ℕ) → q ≡ 16 + (chunk_units l * a + s) → r ≡ 16 + (chunk_units l * b + t) → s + size ≤ chunk_units l → n ≤ size → a < b → q + n ≤ r
      other l a b s t q r size n at to top few less =
          let more : chunk_units l * (a + 1) ≤ chunk_units l * b = mul-le-mul_left (chunk_units l) (omega (arith, less)) in
          omega (arith, at, to, top, few, more)

      steps : (d s t : ℕ) → 0 < d → 1 ≤ s → s < t → (s - 1) % d ≡ 0 → (t - 1) % d ≡ 0 → s + d ≤ t
      steps d s t some low less a b =
          let x : d * ((s - 1) / d) + (s - 1) % d ≡ s - 1 = omega (arith, some) in
          let y : d * ((t - 1) / d) + (t - 1) % d ≡ t - 1 = omega (arith, some) in
          elim (cases_lt ((s - 1) / d) ((t - 1) / d)) [
            | inl up ↦ (let more : d * ((s - 1) / d + 1) ≤ d * ((t - 1) / d) = mul-le-mul_left d (omega (arith, up)) in omega (arith, more, x, y, a, b, low, less))
            | inr down ↦ absurd (let fewer : d * ((t - 1) / d) ≤ d * ((s - 1) / d) = mul-le-mul_left d down in omega (arith, fewer, x, y, a, b, low, less))
          ]

      aligned : (l : Geometry) (class s : ℕ) → is_start l class s ≡ true → (1 ≤ s) × ((s - 1) % 2 ^ class ≡ 0)
      aligned l class s e =
          let outer = and_parts (leb 1 s && ((s - 1) % 2 ^ class == 0)) (leb (s + 2 ^ class) (chunk_units l)) e in
          let inner = and_parts (leb 1 s) ((s - 1) % 2 ^ class == 0) outer.0 in
          (leb-true 1 s inner.0, eqb-true ((s - 1) % 2 ^ class) 0 inner.1)

      within : (l : Geometry) (a s t q r class n o : ℕ) → q ≡ 16 + (chunk_units l * a + s) → r ≡ 16 + (chunk_units l * a + t) → is_start l class s ≡ true → is_start l class t ≡ true → n ≤ 2 ^ class → o ≤ 2 ^ class → q ≢ r → Apart q n r o
      within l a s t q r class n o at to is js few less ne =
          let i = aligned l class s is in
          let j = aligned l class t js in
          elim (cases_lt s t) [
            | inl up ↦ inl (let far = steps (2 ^ class) s t (pow_pos class) i.0 up i.1 j.1 in omega (arith, far, at, to, few))
            | inr down ↦ elim (cases_lt t s) [
              | inl up ↦ inr (let far = steps (2 ^ class) t s (pow_pos class) j.0 up j.1 i.1 in omega (arith, far, at, to, less))
              | inr equal ↦ absurd (ne (omega (arith, at, to, down, equal)))
            ]
          ]
