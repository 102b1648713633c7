-- What single steps mean for the sets, and for the counts of what is free.
use Rattle.std.proofs.Common.{◌≡◌, ◌≢◌, ⊎_elim, ℕ, ◌+◌, ◌*◌, ◌≤◌, ◌<◌, ◌==◌, ◌&&◌, ◌||◌, not, eqb, Bool, true, false, Option, Some, None, count_by, refl, sym, ◌∙◌, ap, subst, arith}
use Rattle.std.specs.Prelude.{is_none, is_some}
use Rattle.std.specs.Option.{option_map_or, option_eq}
use Rattle.std.proofs.Math.Nat.{mul-le-mul_right, add-mul}
use Rattle.std.proofs.lemmas.Bool.{cases_eq, cases_lt, both_ways, and_parts, not-true, eqb-true, eq-eqb, ne_eqb, and_right}
use Rattle.chunk_map.specs.Layouts.{numbers}
use Rattle.store_image.specs.Parts.{chunk_units, unit_at}
use Rattle.lazy_alloc.specs.Sets.{Sets, AreSets, SameChunks, SameBlocks, Uses, Releases, chunk_is_free, chunk_class, chunk_is_due, class_at, block_is_used, is_free_block, chunk_of, part_unit, free_chunk_count, free_block_count, TakesBlock, PutsBack, TakesChunk, GivesChunk}
use Rattle.lazy_alloc.specs.Steps.{LowestIn, LowestBlock}
use Rattle.lazy_alloc.specs.Form.{class_by}
use Rattle.lazy_alloc.proofs.CountLaws.{count_same, count_less}
use Rattle.lazy_alloc.proofs.PlaceLaws.{Lies, lies, in_part}

-- the same layout and part
pub record SamePart (old new : Sets) : Type 0 where
  pub layout_is : new.layout ≡ old.layout
  pub part_is : new.part ≡ old.part

pub class_same : (old new : Sets) → SamePart old new → ((j : ℕ) → chunk_class new j ≡ chunk_class old j) → (q : ℕ) → class_at new q ≡ class_at old q
class_same old new same classes q = λ i. class_by (same.layout_is i) (same.part_is i) (λ j. classes j i) q

pub blocks_over : (old new : Sets) (c : ℕ) → SamePart old new → free_block_count new c ≡ count_by (is_free_block new c) (numbers (part_unit old) (old.layout.chunks * chunk_units old.layout))
blocks_over old new c same = λ i. count_by (is_free_block new c) (numbers (16 + same.part_is i * (same.layout_is i).chunks * chunk_units (same.layout_is i)) ((same.layout_is i).chunks * chunk_units (same.layout_is i)))

pub chunks_over : (old new : Sets) → SamePart old new → free_chunk_count new ≡ count_by (chunk_is_free new) (numbers 0 old.layout.chunks)
chunks_over old new same = λ i. count_by (chunk_is_free new) (numbers 0 (same.layout_is i).chunks)

pub chunks_same : (old new : Sets) → SamePart old new → ((j : ℕ) → chunk_is_free new j ≡ chunk_is_free old j) → free_chunk_count new ≡ free_chunk_count old
chunks_same old new same free = chunks_over old new same ∙ count_same (chunk_is_free new) (chunk_is_free old) 0 old.layout.chunks (λ j low high. free j)

pub blocks_same : (old new : Sets) (c : ℕ) → SamePart old new → ((j : ℕ) → chunk_class new j ≡ chunk_class old j) → SameBlocks old new → free_block_count new c ≡ free_block_count old c
blocks_same old new c same classes used =
    blocks_over old new c same ∙ count_same (is_free_block new c) (is_free_block old c) (part_unit old) (old.layout.chunks * chunk_units old.layout) (λ q low high i. option_map_or (λ k. k == c) (class_same old new same classes q i) false && not (used q i))

-- what a free block is
is_class_of : (o : Option ℕ) (c : ℕ) → option_map_or (λ k. k == c) o false ≡ true → o ≡ Some c
is_class_of None c e = cc e
is_class_of (Some k) c e = ap Some (eqb-true k c e)

pub free_block : (a : Sets) (c p : ℕ) → is_free_block a c p ≡ true → (class_at a p ≡ Some c) × (block_is_used a p ≡ false)
free_block a c p e =
    let both = and_parts (option_map_or (λ k. k == c) (class_at a p) false) (not (block_is_used a p)) e in
    (is_class_of (class_at a p) c both.0, not-true (block_is_used a p) both.1)

pub is_free : (a : Sets) (c p : ℕ) → class_at a p ≡ Some c → block_is_used a p ≡ false → is_free_block a c p ≡ true
is_free a c p class unused = (λ i. option_map_or (λ k. k == c) (class i) false && not (unused i)) ∙ ap (λ (b : Bool). b && true) (eq-eqb c c refl)

pub lies_at : (a : Sets) (p c : ℕ) → AreSets a → class_at a p ≡ Some c → Lies a.layout a.part (chunk_class a) p c
lies_at a p c are e = lies a.layout a.part (chunk_class a) p c (λ j k is. (are.cut_in j k is).0) e

-- One block more is allocated, or one less: two sets that differ at one block, which is free in the first alone.
module _ (free used : Sets) (p class : ℕ) (are : AreSets free) (same : SamePart free used) (classes : (j : ℕ) → chunk_class used j ≡ chunk_class free j)
    (is : class_at free p ≡ Some class) (was : block_is_used free p ≡ false) (now : block_is_used used p ≡ true) (others : (q : ℕ) → q ≢ p → block_is_used used q ≡ block_is_used free q) where
  pub one_less : free_block_count free class ≡ free_block_count used class + 1
  one_less =
      let range = in_part free.layout free.part (chunk_class free) p class (lies_at free p class are is) in
      count_less (is_free_block free class) (is_free_block used class) p (part_unit free) (free.layout.chunks * chunk_units free.layout) range.0 range.1 (is_free free class p is was)
      (and_right (option_map_or (λ k. k == class) (class_at used p) false) (not (block_is_used used p)) (ap not now))
      (λ q ne i. option_map_or (λ k. k == class) (class_same free used same classes q i) false && not (others q ne i))
      ∙ ap (λ (n : ℕ). n + 1) (sym (blocks_over free used class same))

  pub rest_same : (c : ℕ) → c ≢ class → free_block_count used c ≡ free_block_count free c
  rest_same c ne =
      blocks_over free used c same ∙ count_same (is_free_block used c) (is_free_block free c) (part_unit free) (free.layout.chunks * chunk_units free.layout) (λ q low high. ⊎_elim (here q) (there q) (cases_eq q p))
    where
      no : (a : Sets) (q : ℕ) → class_at a q ≡ Some class → is_free_block a c q ≡ false
      no a q e = (λ i. option_map_or (λ k. k == c) (e i) false && not (block_is_used a q)) ∙ ap (λ (b : Bool). b && not (block_is_used a q)) (ne_eqb class c (λ e. ne (sym e)))

      here : (q : ℕ) → q ≡ p → is_free_block used c q ≡ is_free_block free c q
      here q e = let at : class_at free q ≡ Some class = ap (class_at free) e ∙ is in no used q (class_same free used same classes q ∙ at) ∙ sym (no free q at)

      there : (q : ℕ) → q ≢ p → is_free_block used c q ≡ is_free_block free c q
      there q ne = λ i. option_map_or (λ k. k == c) (class_same free used same classes q i) false && not (others q ne i)

pub same_part : (old new : Sets) → SameChunks old new → SamePart old new
same_part old new chunks = record { layout_is = chunks.layout_is; part_is = chunks.part_is }

pub used_there : (p q : ℕ) (b : Bool) → q ≢ p → (q == p || b) ≡ b
used_there p q b ne = ap (λ (t : Bool). t || b) (ne_eqb q p ne)

pub takes_block : (old new : Sets) (class p : ℕ) → AreSets old → SameChunks old new → is_free_block old class p ≡ true → ((q : ℕ) → q < p → is_free_block old class q ≡ false) → Uses old new p → TakesBlock old new class p
takes_block old new class p are chunks free lowest used =
    let f = free_block old class p free in
    let now : block_is_used new p ≡ true = used p ∙ ap (λ (t : Bool). t || block_is_used old p) (eq-eqb p p refl) in
    let same = same_part old new chunks in
    let others : (q : ℕ) → q ≢ p → block_is_used new q ≡ block_is_used old q = λ q ne. used q ∙ used_there p q (block_is_used old q) ne in
    record {
      chunks = chunks;
      was_free = free;
      lowest = lowest;
      used = used;
      count = one_less old new p class are same chunks.classes f.0 f.1 now others;
      chunk_count = chunks_same old new same chunks.free;
      others = λ c ne. rest_same old new p class are same chunks.classes f.0 f.1 now others c ne;
    }

pub some_of : (o : Option ℕ) → is_none o ≡ false → (c : ℕ) × (o ≡ Some c)
some_of None e = cc e
some_of (Some c) e = (c, refl)

pub puts_back : (old new : Sets) (p : ℕ) → AreSets old → AreSets new → SameChunks old new → block_is_used old p ≡ true → Releases old new p → PutsBack old new p
puts_back old new p are are' chunks was used =
    let s = some_of (class_at old p) (are.used_in p was) in
    let same = same_part old new chunks in
    let back : SamePart new old = record { layout_is = sym same.layout_is; part_is = sym same.part_is } in
    let classes : (j : ℕ) → chunk_class old j ≡ chunk_class new j = λ j. sym (chunks.classes j) in
    let is : class_at new p ≡ Some s.0 = class_same old new same chunks.classes p ∙ s.1 in
    let now : block_is_used new p ≡ false = used p ∙ and_right (block_is_used old p) (not (p == p)) (ap not (eq-eqb p p refl)) in
    let others : (q : ℕ) → q ≢ p → block_is_used old q ≡ block_is_used new q = λ q ne. sym (used q ∙ kept (block_is_used old q) (ne_eqb q p ne)) in
    record {
      chunks = chunks;
      used = used;
      chunk_count = chunks_same old new same chunks.free;
      count = λ c e. let own : s.0 ≡ c = (let t : Some s.0 ≡ Some c = sym s.1 ∙ e in cc t) in subst (λ (x : ℕ). free_block_count new x ≡ free_block_count old x + 1) own (one_less new old p s.0 are' back classes is now was others);
      others = λ c ne. sym (rest_same new old p s.0 are' back classes is now was others c (λ e. ne (s.1 ∙ ap Some (sym e))));
    }
  where
    kept : {t : Bool} (b : Bool) → t ≡ false → (b && not t) ≡ b
    kept true e = ap not e
    kept false e = refl

pub takes_chunk : (old new : Sets) (j : ℕ) → AreSets old → SamePart old new → chunk_is_free old j ≡ true → ((i : ℕ) → i < j → chunk_is_free old i ≡ false) → ((i : ℕ) → chunk_is_free new i ≡ (chunk_is_free old i && not (i == j)))
    → ((i : ℕ) → chunk_class new i ≡ chunk_class old i) → ((i : ℕ) → chunk_is_due new i ≡ chunk_is_due old i) → SameBlocks old new → TakesChunk old new j
takes_chunk old new j are same was lowest free classes due used = record {
  was_free = was;
  lowest = lowest;
  layout_is = same.layout_is;
  part_is = same.part_is;
  free = free;
  classes = classes;
  due = due;
  used = used;
  chunk_count = count_less (chunk_is_free old) (chunk_is_free new) j 0 old.layout.chunks (omega arith) (let w = (are.free_in j was).0 in omega (arith, w)) was
      (free j ∙ and_right (chunk_is_free old j) (not (j == j)) (ap not (eq-eqb j j refl)))
      (λ i ne. free i ∙ kept (chunk_is_free old i) (ne_eqb i j ne)) ∙ ap (λ (n : ℕ). n + 1) (sym (chunks_over old new same));
  count = λ c. blocks_same old new c same classes used;
}
  where
    kept : {t : Bool} (b : Bool) → t ≡ false → (b && not t) ≡ b
    kept true e = ap not e
    kept false e = refl

pub gives_chunk : (old new : Sets) (j : ℕ) → SamePart old new → j < old.layout.chunks → chunk_is_free old j ≡ false → ((i : ℕ) → chunk_is_free new i ≡ (i == j || chunk_is_free old i))
    → ((i : ℕ) → chunk_class new i ≡ chunk_class old i) → ((i : ℕ) → chunk_is_due new i ≡ chunk_is_due old i) → SameBlocks old new → GivesChunk old new j
gives_chunk old new j same within was free classes due used = record {
  layout_is = same.layout_is;
  part_is = same.part_is;
  free = free;
  classes = classes;
  due = due;
  used = used;
  chunk_count = chunks_over old new same ∙ count_less (chunk_is_free new) (chunk_is_free old) j 0 old.layout.chunks (omega arith) (omega (arith, within)) (free j ∙ ap (λ (t : Bool). t || chunk_is_free old j) (eq-eqb j j refl)) was
      (λ i ne. sym (free i ∙ used_there j i (chunk_is_free old i) ne));
  count = λ c. blocks_same old new c same classes used;
}

-- From chunk to chunk. A free block of a class lies in a chunk of the class.
pub other_class : (a : Sets) (c j : ℕ) → AreSets a → (chunk_class a j ≡ Some c → ⊥) → (q : ℕ) → chunk_of a q ≡ j → is_free_block a c q ≡ false
other_class a c j are ne q here = by (is_free_block a c q) refl
  where
    by : (b : Bool) → is_free_block a c q ≡ b → b ≡ false
    by false e = refl
    by true e = let lies = lies_at a q c are (free_block a c q e).0 in absurd (ne (ap (chunk_class a) (sym here) ∙ lies.class_is))

pub next_chunk : (a : Sets) (c j : ℕ) → ((q : ℕ) → chunk_of a q < j → is_free_block a c q ≡ false) → ((q : ℕ) → chunk_of a q ≡ j → is_free_block a c q ≡ false) → (q : ℕ) → chunk_of a q < j + 1 → is_free_block a c q ≡ false
next_chunk a c j below here q lt = ⊎_elim (λ same. here q same) (λ ne. below q (omega arith)) (cases_eq (chunk_of a q) j)

pub lowest_none : (a : Sets) (c j : ℕ) (o : Option ℕ) → is_some o ≡ false → LowestIn a c j o → (q : ℕ) → chunk_of a q ≡ j → is_free_block a c q ≡ false
lowest_none a c j None e is = is
lowest_none a c j (Some p) e is = cc e

pub lowest_some : (a : Sets) (c j : ℕ) (o : Option ℕ) → AreSets a → is_some o ≡ true → ((q : ℕ) → chunk_of a q < j → is_free_block a c q ≡ false) → LowestIn a c j o → LowestBlock a c o
lowest_some a c j None are e below is = cc e
lowest_some a c j (Some p) are e below is = (is.0, λ q less. by q less (is_free_block a c q) refl)
  where
    after : (q : ℕ) → class_at a q ≡ Some c → j < chunk_of a q → p < q
    after q class gt =
        let lies = lies_at a p c are (free_block a c p is.0).0 in
        let lies' = lies_at a q c are class in
        let l = a.layout in
        let le : (a.part * l.chunks + (j + 1)) * chunk_units l ≤ (a.part * l.chunks + chunk_of a q) * chunk_units l = mul-le-mul_right {m = a.part * l.chunks + (j + 1)} {n = a.part * l.chunks + chunk_of a q} (chunk_units l) (omega (arith, gt)) in
        let sum = add-mul (a.part * l.chunks + j) 1 (chunk_units l) in
        let regroup : (a.part * l.chunks + j + 1) * chunk_units l ≡ (a.part * l.chunks + (j + 1)) * chunk_units l = (let e : a.part * l.chunks + j + 1 ≡ a.part * l.chunks + (j + 1) = omega arith in ap (λ (x : ℕ). x * chunk_units l) e) in
        let place : p ≡ 16 + (a.part * l.chunks + j) * chunk_units l + unit_at l p = lies.place ∙ ap (λ (x : ℕ). 16 + (a.part * l.chunks + x) * chunk_units l + unit_at l p) is.1 in
        let place' = lies'.place in
        let last = lies.last in
        let first' = lies'.first in
        omega (arith, le, sum, regroup, place, place', last, first')

    by : (q : ℕ) → q < p → (b : Bool) → is_free_block a c q ≡ b → b ≡ false
    by q less false e = refl
    by q less true e = ⊎_elim
        (λ lt. sym e ∙ below q lt)
        (λ ge. ⊎_elim (λ same. sym e ∙ is.2 q less same) (λ ne. absurd (let gt = after q (free_block a c q e).0 (omega arith) in omega (arith, gt, less))) (cases_eq (chunk_of a q) j))
        (cases_lt (chunk_of a q) j)

pub no_class : (x : Option ℕ) (c : ℕ) → option_eq eqb x (Some c) ≡ false → x ≡ Some c → ⊥
no_class x c e is = both_ways (eqb c c) (ap (λ (o : Option ℕ). option_eq eqb o (Some c)) (sym is) ∙ e) (eq-eqb c c refl)
