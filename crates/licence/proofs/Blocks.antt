-- An image that differs from a licensed one in a block that holds no value of the view, and perhaps in the head of its chunk.
use Rattle.std.proofs.Common.{◌≡◌, ◌≢◌, ◌⊎◌, inl, inr, ⊎_elim, ℕ, ◌+◌, ◌-◌, ◌*◌, ◌/◌, ◌%◌, ◌^◌, ◌≤◌, ◌<◌, ◌==◌, ◌&&◌, leb, true, cond, List, [], map, Some, None, Result, Ok, Err, sym, ◌∙◌, ap, subst, arith}
use Rattle.std.proofs.lemmas.Bool.{cases_eq, cases_lt, and_parts, eqb-true, leb-true}
use Rattle.std.proofs.lemmas.Nat.{pow_pos}
use Rattle.std.proofs.Math.Nat.{mul-le-mul_left}
use Rattle.log_entry.specs.declared.entry.Entry.{Entry}
use Rattle.chunk_map.specs.declared.heads.Head.{Head}
use Rattle.chunk_map.specs.declared.heads.Head.TheVariants.{Free, Log, Data}
use Rattle.chunk_map.specs.declared.layouts.Geometry.{Geometry}
use Rattle.chunk_map.specs.Layouts.{chunk_words, chunk_first, head_at, is_class}
use Rattle.chunk_map.proofs.Clients.{data_read}
use Rattle.store_image.specs.declared.types.PlacedEntry.{PlacedEntry}
use Rattle.store_image.specs.Parts.{chunk_entries, chunk_reads, head_reads, scan_behind, chunk_at, unit_at, chunk_units, is_start, class_behind, block_class, value_in_block}
use Rattle.store_image.specs.Facts.{In}
use Rattle.store_image.proofs.Clients.{chunk_same, head_same, reads_same, chosen, data_entries, free_entries, Numbers, LiesIn, chunk_of, block_lies, held_same}
use Rattle.group_laws.specs.Places.{Place, core_of}
use Rattle.group_laws.specs.Images.{StandsIn, IsLicensedBy}
use Rattle.group_laws.specs.MemberViews.{View}
use Rattle.core_log.proofs.Clients.{part_has, part_of, chunk_reads_of, part_reads_by, outside_chunk, held_has}

-- a block of this class may begin at the pointer, in this part
pub record Start (l : Geometry) (c r k : ℕ) : Type 0 where
  pub in_part : (leb 16 r && (chunk_at l r / l.chunks == c)) ≡ true
  pub start : is_start l k (unit_at l r) ≡ true

behind : (l : Geometry) (u k : ℕ) (h : Result Head ℕ) → class_behind l u h ≡ Some k → is_start l k u ≡ true
behind l u k (Ok Free) e = absurd (cc e)
behind l u k (Ok (Log t)) e = absurd (cc e)
behind l u k (Err r) e = absurd (cc e)
behind l u k (Ok (Data d)) e = elim (chosen (is_start l d u) _ _ _ e) [
  | inl a ↦ (let same : d ≡ k = cc (a.1) in ap (λ x. is_start l x u) (sym same) ∙ a.0)
  | inr a ↦ absurd (cc (a.1))
]

start_of : (l : Geometry) (image : ℕ → ℕ) (c r k : ℕ) → block_class l image c r ≡ Some k → Start l c r k
start_of l image c r k e = elim (chosen (leb 16 r && (chunk_at l r / l.chunks == c)) _ _ _ e) [
  | inl a ↦ record { in_part = a.0; start = behind l (unit_at l r) k (head_at l image (512 + chunk_at l r * chunk_words l)) a.1 }
  | inr a ↦ absurd (cc (a.1))
]

multiples : (a b n : ℕ) → 0 < n → a % n ≡ 0 → b % n ≡ 0 → a < b → a + n ≤ b
multiples a b n pos ea eb lt =
    let da : n * (a / n) + a % n ≡ a = omega (arith, pos) in
    let db : n * (b / n) + b % n ≡ b = omega (arith, pos) in
    elim (cases_lt (a / n) (b / n)) [
      | inl less ↦
          let more : n * (a / n + 1) ≤ n * (b / n) = mul-le-mul_left n (let s : a / n + 1 ≤ b / n = omega (arith, less) in s) in
          let one : n * (a / n + 1) ≡ n * (a / n) + n = omega arith in
          omega (arith, da, db, ea, eb, more, one)
      | inr ge ↦
          let more : n * (b / n) ≤ n * (a / n) = mul-le-mul_left n ge in
          omega (arith, da, db, ea, eb, more, lt)
    ]

-- what a start says in numbers
pub record UnitOf (l : Geometry) (c r k : ℕ) : Type 0 where
  pub low : 16 ≤ r
  pub first : 1 ≤ unit_at l r
  pub whole : (unit_at l r - 1) % 2 ^ k ≡ 0
  pub number : chunk_at l r ≡ c * l.chunks + chunk_of l r
  pub place : r ≡ 16 + (chunk_units l * chunk_at l r + unit_at l r)

pub numbers_of : (l : Geometry) (is : Numbers l) (c r k : ℕ) → Start l c r k → UnitOf l c r k
numbers_of l is c r k s =
    let outer = and_parts (leb 16 r) (chunk_at l r / l.chunks == c) s.in_part in
    let low = leb-true 16 r outer.0 in
    let part : chunk_at l r / l.chunks ≡ c = eqb-true (chunk_at l r / l.chunks) c outer.1 in
    let inner = and_parts (leb 1 (unit_at l r) && ((unit_at l r - 1) % 2 ^ k == 0)) (leb (unit_at l r + 2 ^ k) (chunk_units l)) s.start in
    let both = and_parts (leb 1 (unit_at l r)) ((unit_at l r - 1) % 2 ^ k == 0) inner.0 in
    let some = is.chunks in
    let big = is.size in
    let split : l.chunks * (chunk_at l r / l.chunks) + chunk_at l r % l.chunks ≡ chunk_at l r = omega (arith, some) in
    let turned : l.chunks * (chunk_at l r / l.chunks) ≡ c * l.chunks = ap (λ x. l.chunks * x) part ∙ omega arith in
    let at : chunk_units l * chunk_at l r + unit_at l r ≡ r - 16 = omega (arith, big) in
    record {
      low = low;
      first = leb-true 1 (unit_at l r) both.0;
      whole = eqb-true ((unit_at l r - 1) % 2 ^ k) 0 both.1;
      number = omega (arith, split, turned);
      place = omega (arith, at, low);
    }

-- two blocks of one class in one chunk share no unit
pub apart : (l : Geometry) (is : Numbers l) (c q r k : ℕ) → Start l c q k → Start l c r k → chunk_of l q ≡ chunk_of l r → q ≢ r → (q + 2 ^ k ≤ r) ⊎ (r + 2 ^ k ≤ q)
apart l is c q r k sq sr same ne =
    let a = numbers_of l is c q k sq in
    let b = numbers_of l is c r k sr in
    let chunks : chunk_at l q ≡ chunk_at l r = a.number ∙ ap (λ x. c * l.chunks + x) same ∙ sym b.number in
    let start : chunk_units l * chunk_at l q ≡ chunk_units l * chunk_at l r = ap (λ x. chunk_units l * x) chunks in
    let pos : 0 < 2 ^ k = pow_pos k in
    let fa = a.first in
    let fb = b.first in
    let pa = a.place in
    let pb = b.place in
    elim (cases_lt (unit_at l q) (unit_at l r)) [
      | inl less ↦
          let more = multiples (unit_at l q - 1) (unit_at l r - 1) (2 ^ k) pos a.whole b.whole (omega (arith, less, fa)) in
          inl (omega (arith, more, fa, fb, pa, pb, start))
      | inr ge ↦
          let differ : unit_at l r ≢ unit_at l q = λ e. ne (omega (arith, e, pa, pb, start)) in
          let more = multiples (unit_at l r - 1) (unit_at l q - 1) (2 ^ k) pos b.whole a.whole (omega (arith, ge, differ, fa, fb)) in
          inr (omega (arith, more, fa, fb, pa, pb, start))
    ]

has_none : (l : Geometry) (image : ℕ → ℕ) (c j class : ℕ) → (head_at l image (chunk_first l c j) ≡ Ok (Data class)) ⊎ (head_at l image (chunk_first l c j) ≡ Ok Free) → chunk_entries l image c j ≡ []
has_none l image c j class (inl e) = data_entries l image c j class e
has_none l image c j class (inr e) = free_entries l image c j e

reads_so : (l : Geometry) (image : ℕ → ℕ) (at class : ℕ) → (head_at l image at ≡ Ok (Data class)) ⊎ (head_at l image at ≡ Ok Free) → chunk_reads l image at ≡ true
reads_so l image at class (inl e) = (λ i. head_reads (e i) (scan_behind image at (e i)))
reads_so l image at class (inr e) = (λ i. head_reads (e i) (scan_behind image at (e i)))

-- One image, and another that differs in a block and in the head's line of its chunk, which is Data of the class or Free in both.
module _ (p : Place) (m : ℕ) (v : View) (is : Numbers p.layout) (low : core_of p m < p.layout.cores) (q class : ℕ) (starts : Start p.layout (core_of p m) q class) (fits : is_class p.layout class ≡ true) (image old : ℕ → ℕ) (licensed : IsLicensedBy p m v old) (unused : v.blocks q ≡ None)
    (same : (w : ℕ) → (w < 32 * q) ⊎ (32 * q + 32 * 2 ^ class ≤ w) → (w < chunk_first p.layout (core_of p m) (chunk_of p.layout q)) ⊎ (chunk_first p.layout (core_of p m) (chunk_of p.layout q) + 8 ≤ w) → image w ≡ old w)
    (head_old : (head_at p.layout old (chunk_first p.layout (core_of p m) (chunk_of p.layout q)) ≡ Ok Free) ⊎ ((head_at p.layout old (chunk_first p.layout (core_of p m) (chunk_of p.layout q)) ≡ Ok (Data class)) × (head_at p.layout image (chunk_first p.layout (core_of p m) (chunk_of p.layout q)) ≡ Ok (Data class))))
    (head_now : (head_at p.layout image (chunk_first p.layout (core_of p m) (chunk_of p.layout q)) ≡ Ok (Data class)) ⊎ (head_at p.layout image (chunk_first p.layout (core_of p m) (chunk_of p.layout q)) ≡ Ok Free)) where
  abbrev l : Geometry
  l = p.layout

  abbrev c : ℕ
  c = core_of p m

  abbrev j : ℕ
  j = chunk_of p.layout q

  room : 32 ≤ chunk_words l
  room = let s = is.size in omega (arith, s)

  within : j < l.chunks
  within = let some = is.chunks in omega (arith, some)

  -- the block's words lie in its chunk
  lies : LiesIn l (λ w. 2 + 256 * class) c q class
  lies = block_lies l is (λ w. 2 + 256 * class) c q class low (ap (λ b. cond b (class_behind l (unit_at l q) (head_at l (λ w. 2 + 256 * class) (512 + chunk_at l q * chunk_words l))) None) starts.in_part
      ∙ ap (class_behind l (unit_at l q)) (data_read l class (2 + 256 * class) fits) ∙ ap (λ b. cond b (Some class) None) starts.start)

  -- a word of another chunk is neither in the block nor in the head's line
  else_same : (n k : ℕ) → n < l.chunks → n ≢ j → k < chunk_words l → image (chunk_first l c n + k) ≡ old (chunk_first l c n + k)
  else_same n k lt ne less =
      let out = outside_chunk l c j n k ne less in
      let size : 0 < 32 * 2 ^ class = (let pos : 0 < 2 ^ class = pow_pos class in omega (arith, pos)) in
      let first = lies.words 0 size in
      let last = lies.words (32 * 2 ^ class - 1) (omega (arith, size)) in
      let f1 = first.1 in
      let f3 = first.3 in
      let l2 = last.2 in
      let l3 = last.3 in
      same (chunk_first l c n + k) (⊎_elim (λ lo. inl (omega (arith, lo, f1, f3))) (λ hi. inr (omega (arith, hi, l2, l3, size))) out) (⊎_elim (λ lo. inl lo) (λ hi. inr (omega (arith, hi, room))) out)

  entries_else : (n : ℕ) → n < l.chunks → chunk_entries l image c n ≡ chunk_entries l old c n
  entries_else n lt = ⊎_elim
      (λ here. (λ i. chunk_entries l image c (here i)) ∙ has_none l image c j class head_now ∙ sym (has_none l old c j class (⊎_elim (λ free. inr free) (λ cut. inl cut.0) head_old)) ∙ (λ i. chunk_entries l old c (sym here i)))
      (λ ne. chunk_same l image old c n room (λ k less. else_same n k lt ne less)) (cases_eq n j)

  -- another block stays what it was
  block_stays : (r : ℕ) (u : List ℕ) → r ≢ q → value_in_block l old c r ≡ Some u → value_in_block l image c r ≡ Some u
  block_stays r u ne e =
      let has = held_has old r (block_class l old c r) u e in
      let at = block_lies l is old c r has.0 low has.1 in
      ⊎_elim (λ here. in_chunk r u ne e has.0 has.1 here) (λ other. beside r u e has.0 has.1 at.chunk other) (cases_eq (chunk_of l r) j)
    where
      first_is : (r k : ℕ) → Start l c r k → 512 + chunk_at l r * chunk_words l ≡ chunk_first l c (chunk_of l r)
      first_is r k s = ap (λ n. 512 + n * chunk_words l) (numbers_of l is c r k s).number

      class_to : (r k : ℕ) → Start l c r k → head_at l image (chunk_first l c (chunk_of l r)) ≡ Ok (Data k) → block_class l image c r ≡ Some k
      class_to r k s head = ap (λ b. cond b (class_behind l (unit_at l r) (head_at l image (512 + chunk_at l r * chunk_words l))) None) s.in_part
          ∙ ap (class_behind l (unit_at l r)) (ap (head_at l image) (first_is r k s) ∙ head) ∙ ap (λ b. cond b (Some k) None) s.start

      beside : (r : ℕ) (u : List ℕ) → value_in_block l old c r ≡ Some u → (k : ℕ) → block_class l old c r ≡ Some k → chunk_of l r < l.chunks → chunk_of l r ≢ j → value_in_block l image c r ≡ Some u
      beside r u e k cls lt other =
          let at = block_lies l is old c r k low cls in
          let head = head_same l image old (chunk_first l c (chunk_of l r)) room (λ n less. else_same (chunk_of l r) n lt other less) ∙ at.head in
          held_same l image old c r (class_to r k (start_of l old c r k cls) head ∙ sym cls) (λ d is_d n less.
          let again = block_lies l is old c r d low is_d in
          let word = again.words n less in
          ap image word.3 ∙ else_same (chunk_of l r) word.0 lt other word.2 ∙ ap old (sym word.3)) ∙ e

      in_chunk : (r : ℕ) (u : List ℕ) → r ≢ q → value_in_block l old c r ≡ Some u → (k : ℕ) → block_class l old c r ≡ Some k → chunk_of l r ≡ j → value_in_block l image c r ≡ Some u
      in_chunk r u ne e k cls here = ⊎_elim
          (λ free. absurd (let both : Ok Free ≡ Ok (Data k) = sym free ∙ ap (λ n. head_at l old (chunk_first l c n)) (sym here) ∙ (block_lies l is old c r k low cls).head in cc both))
          (λ cut.
          let at = block_lies l is old c r k low cls in
          let one : Ok (Data class) ≡ Ok (Data k) = sym cut.0 ∙ ap (λ n. head_at l old (chunk_first l c n)) (sym here) ∙ at.head in
          let same_class : class ≡ k = cc one in
          let sr = start_of l old c r k cls in
          let parted = apart l is c q r class starts (subst (Start l c r) (sym same_class) sr) (sym here) (λ x. ne (sym x)) in
          held_same l image old c r (class_to r k sr (ap (λ n. head_at l image (chunk_first l c n)) here ∙ cut.1 ∙ ap (λ d. Ok (Data d)) same_class) ∙ sym cls) (λ d is_d n less.
          let again = block_lies l is old c r d low is_d in
          let word = again.words n less in
          let of_k : Some d ≡ Some k = sym is_d ∙ cls in
          let d_is : d ≡ k = cc of_k in
          let size : 2 ^ d ≡ 2 ^ class = ap (λ x. 2 ^ x) (d_is ∙ sym same_class) in
          let w1 = word.1 in
          let w3 = word.3 ∙ ap (λ x. chunk_first l c x + word.0) here in
          same (32 * r + n) (⊎_elim (λ a. inr (omega (arith, a))) (λ b. inl (omega (arith, b, less, size))) parted) (inr (omega (arith, w1, w3)))) ∙ e)
          head_old

  pub licensed_block : IsLicensedBy p m v image
  licensed_block = record {
    well = part_reads_by l image c (λ n lt. ⊎_elim (λ here. ap (λ k. chunk_reads l image (chunk_first l c k)) here ∙ reads_so l image (chunk_first l c j) class head_now)
        (λ ne. reads_else n lt ne) (cases_eq n j));
    has = λ e k live. moves image old (λ n lt. sym (entries_else n lt)) e (licensed.has e k live);
    only = λ e i. licensed.only e (moves old image entries_else e i);
    whole = ⊎_elim (λ all. inl (λ e f. moves image old (λ n lt. sym (entries_else n lt)) e (all e f))) (λ none. inr (λ e f i. none e f (moves old image entries_else e i))) licensed.whole;
    blocks = λ r b e. block_stays r b.bytes (λ here. let both : Some b ≡ None = sym e ∙ ap v.blocks here ∙ unused in cc both) (licensed.blocks r b e);
  }
    where
      moves : (to from : ℕ → ℕ) → ((n : ℕ) → n < l.chunks → chunk_entries l from c n ≡ chunk_entries l to c n) → (e : Entry) → StandsIn p from m e → StandsIn p to m e
      moves to from alike e i = let at = part_of l from c e i in part_has l to c at.0 e at.1 (subst (λ (xs : List PlacedEntry). In e (map (λ (x : PlacedEntry). x.entry) xs)) (alike at.0 at.1) at.2)

      reads_else : (n : ℕ) → n < l.chunks → n ≢ j → chunk_reads l image (chunk_first l c n) ≡ true
      reads_else n lt ne = reads_same l image old (chunk_first l c n) room (λ k less. else_same n k lt ne less) ∙ chunk_reads_of l old c n licensed.well lt
