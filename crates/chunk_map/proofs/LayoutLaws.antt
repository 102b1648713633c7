-- What the rules of a layout say of its numbers, and where parts and chunks lie.
use Rattle.std.proofs.Common.{◌≡◌, ◌≢◌, ◌⊎◌, inl, inr, ⊎_elim, ℕ, suc, ◌+◌, ◌*◌, ◌/◌, ◌%◌, ◌^◌, ◌≤◌, ◌<◌, ◌==◌, ◌&&◌, ◌||◌, nat_le, Bool, true, false, if◌then◌else◌, List, [], ◌∷◌, Option, Some, None, refl, sym, ◌∙◌, ap, subst, arith, lit≤}
use Rattle.std.specs.List.{list_any, AllByRecursion}
use Rattle.std.proofs.Math.Nat.{mul_assoc, add-mul, mul-le-mul_right, mul-le-mul}
use Rattle.std.proofs.lemmas.Bool.{and_parts, eqb-true, leb-true, cases_lt}
use Rattle.chunk_map.specs.declared.layouts.Geometry.{Geometry}
use Rattle.chunk_map.specs.Layouts.{IsLayout, is_chunk_size, chunk_words, payload_words, payload_lines, total_bytes, part_first, chunk_first}

kept : (b : Bool) (x : Option ℕ) (rule : ℕ) → (if b then x else Some rule) ≡ None → (b ≡ true) × (x ≡ None)
kept true x rule e = (refl, e)
kept false x rule e = absurd (cc e)

one_of : (n : ℕ) (P : ℕ → Type 0) (es : List ℕ) → AllByRecursion (λ e. P (2 ^ e)) es → list_any (λ e. n == 2 ^ e) es ≡ true → P n
one_of n P [] all is = absurd (cc is)
one_of n P (e ∷ es) all is = elim (n == 2 ^ e) as (λ b. (n == 2 ^ e) ≡ b → (b || list_any (λ e. n == 2 ^ e) es) ≡ true → P n) [
  | true ↦ λ here rest. subst P (sym (eqb-true n (2 ^ e) here)) all.0
  | false ↦ λ here rest. one_of n P es all.1 rest
] refl is

abbrev pub IsSize : ℕ → Type 0
IsSize n = (4096 ≤ n) × (n ≤ 4194304) × (n % 4096 ≡ 0)

pub chunk_size : (n : ℕ) → is_chunk_size n ≡ true → IsSize n
chunk_size n is =
    let one : (m : ℕ) → 4096 ≤ m → m ≤ 4194304 → m % 4096 ≡ 0 → IsSize m = λ m low high whole. (low, high, whole) in
    one_of n IsSize (12 ∷ 13 ∷ 14 ∷ 15 ∷ 16 ∷ 17 ∷ 18 ∷ 19 ∷ 20 ∷ 21 ∷ 22 ∷ [])
    (one 4096 (lit≤ tt) (lit≤ tt) refl, (one 8192 (lit≤ tt) (lit≤ tt) refl, (one 16384 (lit≤ tt) (lit≤ tt) refl, (one 32768 (lit≤ tt) (lit≤ tt) refl, (one 65536 (lit≤ tt) (lit≤ tt) refl, (one 131072 (lit≤ tt) (lit≤ tt) refl, (one 262144 (lit≤ tt) (lit≤ tt) refl, (one 524288 (lit≤ tt) (lit≤ tt) refl, (one 1048576 (lit≤ tt) (lit≤ tt) refl, (one 2097152 (lit≤ tt) (lit≤ tt) refl, (one 4194304 (lit≤ tt) (lit≤ tt) refl, tt))))))))))) is

-- the numbers of a layout, as bounds
pub record Numbers (l : Geometry) : Type 0 where
  pub cores_low : 1 ≤ l.cores
  pub cores_high : l.cores ≤ 16
  pub group_low : 1 ≤ l.group
  pub group_high : l.group ≤ 8
  pub divides : l.cores % l.group ≡ 0
  pub chunks_low : 4 ≤ l.chunks
  pub chunks_high : l.chunks ≤ 64
  pub size : IsSize l.chunk_bytes
  pub total : l.cores * l.chunks * l.chunk_bytes ≤ 268435456

pub numbers_of : (l : Geometry) → IsLayout l → Numbers l
numbers_of l is =
    let one = kept (nat_le 1 l.cores && nat_le l.cores 16) _ 1 is in
    let two = kept (nat_le 1 l.group && nat_le l.group 8 && l.cores % l.group == 0) _ 2 one.1 in
    let three = kept (nat_le 4 l.chunks && nat_le l.chunks 64) _ 3 two.1 in
    let four = kept (is_chunk_size l.chunk_bytes) _ 4 three.1 in
    let five = kept (nat_le (l.cores * l.chunks * l.chunk_bytes) 268435456) None 5 four.1 in
    let cores = and_parts (nat_le 1 l.cores) (nat_le l.cores 16) one.0 in
    let group = and_parts (nat_le 1 l.group && nat_le l.group 8) (l.cores % l.group == 0) two.0 in
    let bounds = and_parts (nat_le 1 l.group) (nat_le l.group 8) group.0 in
    let chunks = and_parts (nat_le 4 l.chunks) (nat_le l.chunks 64) three.0 in
    record {
      cores_low = leb-true 1 l.cores cores.0;
      cores_high = leb-true l.cores 16 cores.1;
      group_low = leb-true 1 l.group bounds.0;
      group_high = leb-true l.group 8 bounds.1;
      divides = eqb-true (l.cores % l.group) 0 group.1;
      chunks_low = leb-true 4 l.chunks chunks.0;
      chunks_high = leb-true l.chunks 64 chunks.1;
      size = chunk_size l.chunk_bytes four.0;
      total = leb-true (l.cores * l.chunks * l.chunk_bytes) 268435456 five.0;
    }

-- the words of a chunk are whole lines
pub chunk_words_whole : (l : Geometry) → IsSize l.chunk_bytes → (chunk_words l % 8 ≡ 0) × (chunk_words l ≡ 8 * (l.chunk_bytes / 64)) × (512 ≤ chunk_words l) × (chunk_words l ≤ 524288)
chunk_words_whole l size = (omega (arith, size.2), omega (arith, size.2), omega (arith, size.0), omega (arith, size.1))

pub payload_of : (l : Geometry) → IsSize l.chunk_bytes → (payload_words l ≡ 8 * payload_lines l) × (payload_words l + 32 ≡ chunk_words l)
payload_of l size = (omega (arith, size.2, size.0), omega (arith, size.0))

-- a chunk lies in its part
pub chunk_first_sum : (l : Geometry) (c j : ℕ) → chunk_first l c j ≡ part_first l c + j * chunk_words l
chunk_first_sum l c j =
    let e = add-mul (c * l.chunks) j (chunk_words l) in
    let f = mul_assoc c l.chunks (chunk_words l) in
    omega (arith, e, f)

pub part_next : (l : Geometry) (c : ℕ) → part_first l (c + 1) ≡ part_first l c + l.chunks * chunk_words l
part_next l c = let e = add-mul c 1 (l.chunks * chunk_words l) in omega (arith, e)

pub chunk_before : (l : Geometry) (c i j : ℕ) → i < j → chunk_first l c i + chunk_words l ≤ chunk_first l c j
chunk_before l c i j lt =
    let le : suc i * chunk_words l ≤ j * chunk_words l = mul-le-mul_right {m = suc i} {n = j} (chunk_words l) (omega arith) in
    let e = add-mul i 1 (chunk_words l) in
    let at = chunk_first_sum l c i in
    let at' = chunk_first_sum l c j in
    let next : suc i * chunk_words l ≡ i * chunk_words l + chunk_words l = omega (arith, e) in
    omega (arith, le, next, at, at')

-- two chunks of a part have no word in common
pub chunks_apart : (l : Geometry) (c i j : ℕ) → i ≢ j → (chunk_first l c i + chunk_words l ≤ chunk_first l c j) ⊎ (chunk_first l c j + chunk_words l ≤ chunk_first l c i)
chunks_apart l c i j ne = ⊎_elim (λ lt. inl (chunk_before l c i j lt)) (λ ge. inr (chunk_before l c j i (omega arith))) (cases_lt i j)

pub chunk_in_part : (l : Geometry) (c j : ℕ) → j < l.chunks → (part_first l c ≤ chunk_first l c j) × (chunk_first l c j + chunk_words l ≤ part_first l (c + 1))
chunk_in_part l c j lt =
    let at = chunk_first_sum l c j in
    let last = chunk_before l c j l.chunks lt in
    let at' = chunk_first_sum l c l.chunks in
    let next = part_next l c in
    (omega arith, omega arith)

-- the parts end where the region does
pub parts_end : (l : Geometry) → IsSize l.chunk_bytes → 8 * part_first l l.cores ≡ total_bytes l
parts_end l size =
    let f = mul_assoc l.cores l.chunks l.chunk_bytes in
    let words : l.chunk_bytes ≡ 8 * chunk_words l = omega (arith, size.2) in
    let g : l.chunks * l.chunk_bytes ≡ 8 * (l.chunks * chunk_words l) = ap (λ (n : ℕ). l.chunks * n) words ∙ omega arith in
    let h : l.cores * (l.chunks * l.chunk_bytes) ≡ 8 * (l.cores * (l.chunks * chunk_words l)) = ap (λ (n : ℕ). l.cores * n) g ∙ omega arith in
    omega (arith, f, h)

pub part_below : (l : Geometry) (c d : ℕ) → c ≤ d → part_first l c ≤ part_first l d
part_below l c d le = let m = mul-le-mul_right {m = c} {n = d} (l.chunks * chunk_words l) le in omega (arith, m)

-- parts and chunks begin at a line
pub chunk_first_whole : (l : Geometry) (c j : ℕ) → IsSize l.chunk_bytes → chunk_first l c j ≡ 8 * (64 + (c * l.chunks + j) * (l.chunk_bytes / 64))
chunk_first_whole l c j size =
    let words = (chunk_words_whole l size).1 in
    let e : (c * l.chunks + j) * chunk_words l ≡ 8 * ((c * l.chunks + j) * (l.chunk_bytes / 64)) = ap (λ (n : ℕ). (c * l.chunks + j) * n) words ∙ omega arith in
    omega (arith, e)

-- where the part of a core lies in a region
pub part_within : (l : Geometry) (c : ℕ) → IsLayout l → c < l.cores → 8 * part_first l (c + 1) ≤ total_bytes l
part_within l c is lt = let size = (numbers_of l is).size in let e = parts_end l size in let le = part_below l (c + 1) l.cores (omega arith) in omega (arith, e, le)

-- no sum of the calls wraps
pub chunk_fits : (l : Geometry) (c j : ℕ) → IsLayout l → c < 2 ^ 32 → j < 2 ^ 32 → (c * l.chunks + j) * (l.chunk_bytes / 8) < 2 ^ 62
chunk_fits l c j is lt lt' =
    let n = numbers_of l is in
    let high = n.chunks_high in
    let words = (chunk_words_whole l n.size).3 in
    let a : c * l.chunks ≤ 4294967295 * 64 = mul-le-mul {n₁ = c} {m₁ = l.chunks} {n₂ = 4294967295} {m₂ = 64} (omega arith) high in
    let b : (c * l.chunks + j) * (l.chunk_bytes / 8) ≤ 279172874175 * 524288 = mul-le-mul {n₁ = c * l.chunks + j} {m₁ = l.chunk_bytes / 8} {n₂ = 279172874175} {m₂ = 524288} (omega (arith, a)) words in
    omega (arith, b)
