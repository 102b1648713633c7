-- What an allocator's form says of its sets.
use Rattle.std.proofs.Common.{count_by, ◌≡◌, ◌⊎◌, inl, inr, ⊎_elim, ℕ, ◌+◌, ◌-◌, ◌*◌, ◌/◌, ◌%◌, ◌^◌, ◌≤◌, ◌<◌, ◌==◌, ◌&&◌, nat_le, Bool, true, false, cond, List, length, get_or, replicate, Option, Some, None, refl, sym, ◌∙◌, ap, arith}
use Rattle.std.specs.Prelude.{is_none, slice_get}
use Rattle.std.specs.Option.{option_and_then, option_map_or}
use Rattle.std.proofs.lemmas.List.{get_or_past, get_or_read, get_or-replicate, length-replicate}
use Rattle.std.proofs.lemmas.Bool.{cases_lt, both_ways, le-leb, lt-leb, leb-true, and_parts, cond-true, cond-false, cond_both, and_left, and_right}
use Rattle.chunk_map.specs.declared.layouts.Geometry.{Geometry}
use Rattle.chunk_map.specs.Layouts.{is_class, IsLayout, numbers}
use Rattle.chunk_map.proofs.Clients.{numbers_of}
use Rattle.store_image.specs.Parts.{chunk_units, chunk_at, unit_at, is_start}
use Rattle.lazy_alloc.specs.Bits.{has, has_bit}
use Rattle.lazy_alloc.specs.Sets.{Chunk, AreSets, start_in, chunk_is_free, chunk_class, chunk_is_due, class_at, block_is_used, free_chunk_count}
use Rattle.lazy_alloc.specs.Form.{room_words, chunk_in, bit_of, class_in, class_of_block, is_marked, chunks_of, used_of, sets_of, IsForm}
use Rattle.lazy_alloc.proofs.BitLaws.{has_bit_is, lowest_zero}
use Rattle.lazy_alloc.proofs.CountLaws.{read_in, read_past, count_split, count_none, count_same}
use Rattle.lazy_alloc.proofs.PlaceLaws.{Lies, lies, in_part}

pub there : (classes : List (Option ℕ)) (j c : ℕ) → class_in classes j ≡ Some c → j < length classes
there classes j c e = ⊎_elim (λ lt. lt) (λ ge. absurd (let past : class_in classes j ≡ None = get_or_past classes j None ge in cc (past, e))) (cases_lt j (length classes))

-- a class as it is read
pub class_found : (classes : List (Option ℕ)) (k m : ℕ) (x : Option ℕ) → x ≡ get_or classes k x → k ≡ m → k < length classes → class_in classes m ≡ x
class_found classes k m x read same lt = ap (class_in classes) (sym same) ∙ sym (get_or_read classes k x lt read None)

least : (l : Geometry) (c : ℕ) → is_class l c ≡ true → 1 ≤ c
least l c e = leb-true 1 c (and_parts (nat_le 1 c) (nat_le c 12) (and_parts (nat_le 1 c && nat_le c 12) (nat_le (1024 * 2 ^ c) l.chunk_bytes) e).0).0

module _ (l : Geometry) (part free due : ℕ) (classes : List (Option ℕ)) (bits : List ℕ) (is : IsForm l part free due classes bits) where
  pub free_is : (j : ℕ) → chunk_is_free (sets_of l part free due classes bits) j ≡ has free j
  unfolding chunks_of
  free_is j = ⊎_elim
      (λ lt. ap (λ (o : Option Chunk). option_map_or (λ (c : Chunk). c.is_free) o false) (read_in (λ j. record { is_free = has free j; class = class_in classes j; is_due = has due j }) 0 l.chunks j lt) ∙ (let e : 0 + j ≡ j = omega arith in ap (has free) e))
      (λ ge. ap (λ (o : Option Chunk). option_map_or (λ (c : Chunk). c.is_free) o false) (read_past (λ j. record { is_free = has free j; class = class_in classes j; is_due = has due j }) 0 l.chunks j ge) ∙ sym (none (has free j) refl ge))
      (cases_lt j l.chunks)
    where
      none : (b : Bool) → has free j ≡ b → l.chunks ≤ j → b ≡ false
      none true e ge = let f = is.free_in j e in absurd (let g = f.0 in omega (arith, g, ge))
      none false e ge = refl

  pub free_counted : count_by (has free) (numbers 0 64) ≡ free_chunk_count (sets_of l part free due classes bits)
  free_counted =
      let high = (numbers_of l is.layout).chunks_high in
      let sum : l.chunks + (64 - l.chunks) ≡ 64 = omega (arith, high) in
      let split = ap (λ (n : ℕ). count_by (has free) (numbers 0 n)) (sym sum) ∙ count_split (has free) 0 l.chunks (64 - l.chunks) in
      let none = count_none (has free) (0 + l.chunks) (64 - l.chunks) (λ j above below. above_none (has free j) refl above) in
      let same = count_same (has free) (chunk_is_free (sets_of l part free due classes bits)) 0 l.chunks (λ j above below. sym (free_is j)) in
      omega (arith, split, none, same)
    where
      above_none : {j : ℕ} (b : Bool) → has free j ≡ b → 0 + l.chunks ≤ j → b ≡ false
      above_none {j} true e ge = let f = is.free_in j e in absurd (let g = f.0 in omega (arith, g, ge))
      above_none false e ge = refl

  pub class_is : (j : ℕ) → chunk_class (sets_of l part free due classes bits) j ≡ class_in classes j
  unfolding chunks_of
  class_is j = ⊎_elim
      (λ lt. ap (λ (o : Option Chunk). option_and_then (λ (c : Chunk). c.class) o) (read_in (λ j. record { is_free = has free j; class = class_in classes j; is_due = has due j }) 0 l.chunks j lt) ∙ (let e : 0 + j ≡ j = omega arith in ap (class_in classes) e))
      (λ ge. ap (λ (o : Option Chunk). option_and_then (λ (c : Chunk). c.class) o) (read_past (λ j. record { is_free = has free j; class = class_in classes j; is_due = has due j }) 0 l.chunks j ge) ∙ sym (get_or_past classes j None (let m = is.many in omega (arith, m, ge))))
      (cases_lt j l.chunks)

  pub due_is : (j : ℕ) → chunk_is_due (sets_of l part free due classes bits) j ≡ has due j
  unfolding chunks_of
  due_is j = ⊎_elim
      (λ lt. ap (λ (o : Option Chunk). option_map_or (λ (c : Chunk). c.is_due) o false) (read_in (λ j. record { is_free = has free j; class = class_in classes j; is_due = has due j }) 0 l.chunks j lt) ∙ (let e : 0 + j ≡ j = omega arith in ap (has due) e))
      (λ ge. ap (λ (o : Option Chunk). option_map_or (λ (c : Chunk). c.is_due) o false) (read_past (λ j. record { is_free = has free j; class = class_in classes j; is_due = has due j }) 0 l.chunks j ge) ∙ sym (none (has due j) refl ge))
      (cases_lt j l.chunks)
    where
      none : (b : Bool) → has due j ≡ b → l.chunks ≤ j → b ≡ false
      none false e ge = refl
      none true e ge = let cut = is.due_in j e in let past : class_in classes j ≡ None = get_or_past classes j None (let m = is.many in omega (arith, m, ge)) in let none : is_none (class_in classes j) ≡ true = ap is_none past in absurd (cc (none, cut))

  pub class_at_is : (p : ℕ) → class_at (sets_of l part free due classes bits) p ≡ class_of_block l part classes p
  unfolding class_of_block
  class_at_is p = λ i. cond (nat_le 16 p && (chunk_at l p / l.chunks == part)) (option_and_then (start_in l (unit_at l p)) (class_is (chunk_in l p) i)) None

  bound : (j c : ℕ) → class_in classes j ≡ Some c → j < l.chunks
  bound j c e = let t = there classes j c e in omega (arith, t, is.many)

  pub block_lies : (p c : ℕ) → class_of_block l part classes p ≡ Some c → Lies l part (class_in classes) p c
  unfolding class_of_block
  block_lies p c e = lies l part (class_in classes) p c bound e

  pub class_from : (p c : ℕ) → class_of_block l part classes p ≡ Some c → 1 ≤ c
  class_from p c e = least l c (is.cut_in (chunk_in l p) c (block_lies p c e).class_is)

  unmarked : (p : ℕ) → is_marked l bits p None ≡ false
  unfolding is_marked
  unmarked p = refl

  pub used_is : (p : ℕ) → block_is_used (sets_of l part free due classes bits) p ≡ is_marked l bits p (class_of_block l part classes p)
  unfolding used_of
  used_is p = ⊎_elim outside (λ low. ⊎_elim (inside low) (above low) (cases_lt (p - from) n)) (cases_lt p from)
    where
      from : ℕ
      from = 16 + part * l.chunks * chunk_units l

      n : ℕ
      n = l.chunks * chunk_units l

      here : (o : Option ℕ) → class_of_block l part classes p ≡ o → (p < from) ⊎ (from + n ≤ p) → o ≡ None
      here None e out = refl
      here (Some c) e out = let i = in_part l part (class_in classes) p c (block_lies p c e) in absurd (⊎_elim (λ lt. omega (arith, lt, i.0)) (λ ge. omega (arith, ge, i.1)) out)

      none : (p < from) ⊎ (from + n ≤ p) → is_marked l bits p (class_of_block l part classes p) ≡ false
      none out = ap (is_marked l bits p) (here (class_of_block l part classes p) refl out) ∙ unmarked p

      outside : p < from → block_is_used (sets_of l part free due classes bits) p ≡ is_marked l bits p (class_of_block l part classes p)
      outside lt = and_left (nat_le from p) (option_map_or (λ u. u) (slice_get (used_of l part classes bits) (p - from)) false) (lt-leb from p lt) ∙ sym (none (inl lt))

      read : ℕ → Bool
      read q = is_marked l bits q (class_of_block l part classes q)

      inside : from ≤ p → p - from < n → block_is_used (sets_of l part free due classes bits) p ≡ read p
      inside low lt =
          let e : from + (p - from) ≡ p = omega arith in
          ap (λ (b : Bool). b && option_map_or (λ u. u) (slice_get (used_of l part classes bits) (p - from)) false) (le-leb from p low)
          ∙ ap (λ (o : Option Bool). option_map_or (λ u. u) o false) (read_in (λ q. is_marked l bits q (class_of_block l part classes q)) from n (p - from) lt)
          ∙ ap (λ (q : ℕ). is_marked l bits q (class_of_block l part classes q)) e

      above : from ≤ p → n ≤ p - from → block_is_used (sets_of l part free due classes bits) p ≡ is_marked l bits p (class_of_block l part classes p)
      above low ge =
          and_right (nat_le from p) (option_map_or (λ u. u) (slice_get (used_of l part classes bits) (p - from)) false) (ap (λ (o : Option Bool). option_map_or (λ u. u) o false) (read_past (λ q. is_marked l bits q (class_of_block l part classes q)) from n (p - from) ge))
          ∙ sym (none (inr (omega arith)))

  pub are_sets : AreSets (sets_of l part free due classes bits)
  are_sets = record {
    part_is = is.part_in;
    free_in = λ j e. let f = is.free_in j (sym (free_is j) ∙ e) in (f.0, class_is j ∙ f.1);
    cut_in = λ j c e. let k : class_in classes j ≡ Some c = sym (class_is j) ∙ e in (bound j c k, is.cut_in j c k);
    due_in = λ j e. ap is_none (class_is j) ∙ is.due_in j (sym (due_is j) ∙ e);
    used_in = λ p e. ap is_none (class_at_is p) ∙ marked_some p (class_of_block l part classes p) (sym (used_is p) ∙ e);
  }
    where
      marked_some : (p : ℕ) (o : Option ℕ) → is_marked l bits p o ≡ true → is_none o ≡ false
      marked_some p None e = absurd (cc (e, unmarked p))
      marked_some p (Some c) e = refl

  -- the class of a block, as it is found
  pub no_part : (p : ℕ) → (nat_le 16 p && (chunk_at l p / l.chunks == part)) ≡ false → class_at (sets_of l part free due classes bits) p ≡ None
  no_part p out = cond-false (nat_le 16 p && (chunk_at l p / l.chunks == part)) _ None out

  pub no_class : (p : ℕ) → class_in classes (chunk_in l p) ≡ None → class_at (sets_of l part free due classes bits) p ≡ None
  unfolding class_of_block
  no_class p none = class_at_is p ∙ cond_both (nat_le 16 p && (chunk_at l p / l.chunks == part)) (option_and_then (start_in l (unit_at l p)) (class_in classes (chunk_in l p))) None (λ (o : Option ℕ). o ≡ None) (λ own. ap (option_and_then (start_in l (unit_at l p))) none) (λ out. refl)

  pub no_start : (p c : ℕ) → class_in classes (chunk_in l p) ≡ Some c → is_start l c (unit_at l p) ≡ false → class_at (sets_of l part free due classes bits) p ≡ None
  unfolding class_of_block
  no_start p c some off = class_at_is p ∙ cond_both (nat_le 16 p && (chunk_at l p / l.chunks == part)) (option_and_then (start_in l (unit_at l p)) (class_in classes (chunk_in l p))) None (λ (o : Option ℕ). o ≡ None) (λ own. ap (option_and_then (start_in l (unit_at l p))) some ∙ cond-false (is_start l c (unit_at l p)) (Some c) None off) (λ out. refl)

  pub has_start : (p c : ℕ) → (nat_le 16 p && (chunk_at l p / l.chunks == part)) ≡ true → class_in classes (chunk_in l p) ≡ Some c → is_start l c (unit_at l p) ≡ true → class_at (sets_of l part free due classes bits) p ≡ Some c
  unfolding class_of_block
  has_start p c own some on = class_at_is p ∙ cond-true (nat_le 16 p && (chunk_at l p / l.chunks == part)) (option_and_then (start_in l (unit_at l p)) (class_in classes (chunk_in l p))) None own ∙ ap (option_and_then (start_in l (unit_at l p))) some ∙ cond-true (is_start l c (unit_at l p)) (Some c) None on

  pub class_bounds : (j c : ℕ) → class_in classes j ≡ Some c → (1 ≤ c) × (c ≤ 12)
  class_bounds j c e =
      let both = and_parts (nat_le 1 c && nat_le c 12) (nat_le (1024 * 2 ^ c) l.chunk_bytes) (is.cut_in j c e) in
      let inner = and_parts (nat_le 1 c) (nat_le c 12) both.0 in
      (leb-true 1 c inner.0, leb-true c 12 inner.1)

  -- whether a block is allocated, by its bit
  pub marked_at : (p c : ℕ) → class_of_block l part classes p ≡ Some c → block_is_used (sets_of l part free due classes bits) p ≡ has_bit bits (bit_of l p c)
  unfolding is_marked
  marked_at p c at = used_is p ∙ ap (is_marked l bits p) at

  pub unused_at : (p : ℕ) → class_at (sets_of l part free due classes bits) p ≡ None → block_is_used (sets_of l part free due classes bits) p ≡ false
  unused_at p none = used_is p ∙ ap (is_marked l bits p) (sym (class_at_is p) ∙ none) ∙ unmarked p

-- with no chunk free or cut
module _ (l : Geometry) (part n m : ℕ) (classes : List (Option ℕ)) (bits : List ℕ) (rules : IsLayout l) (low : part < l.cores) (cs : classes ≡ replicate n None) (bs : bits ≡ replicate m 0) (many : n ≡ l.chunks) (long : m ≡ l.chunks * room_words l) where
  none_set : (j : ℕ) → has 0 j ≡ false
  none_set j = let z : ℕ = 0 in lowest_zero z refl j

  zero_at : (k : ℕ) → get_or bits k 0 ≡ 0
  zero_at k =
      let z : ℕ = 0 in
      ap (λ (ws : List ℕ). get_or ws k 0) bs ∙ ⊎_elim (λ lt. get_or-replicate m k z z lt) (λ ge. get_or_past (replicate m z) k z (let size = length-replicate m z in omega (arith, size, ge))) (cases_lt k m)

  no_bit : (i : ℕ) → has_bit bits i ≡ false
  no_bit i = has_bit_is bits i ∙ lowest_zero (get_or bits (i / 64) 0) (zero_at (i / 64)) (i % 64)

  pub no_class_at : (j : ℕ) → class_in classes j ≡ None
  no_class_at j =
      let z : Option ℕ = None in
      ap (λ (ws : List (Option ℕ)). class_in ws j) cs ∙ ⊎_elim (λ lt. get_or-replicate n j z z lt) (λ ge. get_or_past (replicate n z) j z (let size = length-replicate n z in omega (arith, size, ge))) (cases_lt j n)

  pub empty_form : IsForm l part 0 0 classes bits
  empty_form = record {
    layout = rules;
    part_in = low;
    many = ap length cs ∙ length-replicate n None ∙ many;
    room = (let z : ℕ = 0 in ap length bs ∙ length-replicate m z ∙ long);
    free_in = λ j e. absurd (both_ways (has 0 j) (none_set j) e);
    due_in = λ j e. absurd (both_ways (has 0 j) (none_set j) e);
    cut_in = λ j c e. (let two : None ≡ Some c = sym (no_class_at j) ∙ e in cc two);
    blank = λ j none i above below. no_bit i;
  }

  pub empty_free : (j : ℕ) → chunk_is_free (sets_of l part 0 0 classes bits) j ≡ false
  empty_free j = free_is l part 0 0 classes bits empty_form j ∙ none_set j

  pub empty_due : (j : ℕ) → chunk_is_due (sets_of l part 0 0 classes bits) j ≡ false
  empty_due j = due_is l part 0 0 classes bits empty_form j ∙ none_set j

  pub empty_class : (j : ℕ) → chunk_class (sets_of l part 0 0 classes bits) j ≡ None
  empty_class j = class_is l part 0 0 classes bits empty_form j ∙ no_class_at j

  pub empty_used : (p : ℕ) → block_is_used (sets_of l part 0 0 classes bits) p ≡ false
  empty_used p = unused_at l part 0 0 classes bits empty_form p (no_class l part 0 0 classes bits empty_form p (no_class_at (chunk_in l p)))
