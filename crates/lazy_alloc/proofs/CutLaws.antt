-- A chunk is cut: what becomes free.
use Rattle.std.proofs.Common.{◌≡◌, ◌≢◌, ◌⊎◌, inl, inr, ⊎_elim, ℕ, ◌+◌, ◌-◌, ◌*◌, ◌%◌, ◌^◌, ◌≤◌, ◌<◌, ◌==◌, ◌&&◌, ◌||◌, not, nat_le, Bool, true, false, cond, Option, Some, None, count_by, refl, sym, ◌∙◌, ap, subst, arith}
use Rattle.std.specs.Prelude.{is_none}
use Rattle.std.specs.Option.{option_and_then, option_map_or}
use Rattle.std.proofs.Math.Nat.{add-mul}
use Rattle.std.proofs.lemmas.Nat.{pow_pos}
use Rattle.std.proofs.lemmas.Bool.{cases_eq, both_ways, and_parts, and_from, leb-true, le-leb, eq-eqb, cond-true}
use Rattle.chunk_map.specs.declared.layouts.Geometry.{Geometry}
use Rattle.chunk_map.specs.Layouts.{numbers, is_class}
use Rattle.store_image.specs.Parts.{chunk_units, is_start}
use Rattle.lazy_alloc.specs.Sets.{Sets, AreSets, SameChunks, Uses, chunk_class, class_at, chunk_of, start_in, block_is_used, is_free_block, part_unit, blocks_in, first_block, free_block_count, TakesChunk, Cuts}
use Rattle.lazy_alloc.specs.Steps.{CutsChunk}
use Rattle.lazy_alloc.specs.Form.{chunk_in, class_by}
use Rattle.lazy_alloc.proofs.BitLaws.{and_true}
use Rattle.lazy_alloc.proofs.CountLaws.{count_same, count_none, count_split}
use Rattle.lazy_alloc.proofs.PlaceLaws.{placed_in, placed_class, in_chunk}
use Rattle.lazy_alloc.proofs.StartLaws.{count_starts}
use Rattle.lazy_alloc.proofs.SetLaws.{SamePart, same_part, blocks_over, chunks_same, free_block, is_free, lies_at, one_less, rest_same, other_class, used_there}

-- the class of a block depends on its own chunk
pub class_point : (old new : Sets) (q : ℕ) → SamePart old new → chunk_class new (chunk_of old q) ≡ chunk_class old (chunk_of old q) → class_at new q ≡ class_at old q
class_point old new q same class =
    let e : chunk_class new (chunk_of new q) ≡ chunk_class old (chunk_of old q) = ap (λ (l : Geometry). chunk_class new (chunk_in l q)) same.layout_is ∙ class in
    (λ i. class_by (same.layout_is i) (same.part_is i) (λ _. e i) q)

-- a block of a class has room in a chunk
pub class_fits : (l : Geometry) (c : ℕ) → is_class l c ≡ true → 1 + 2 ^ c ≤ chunk_units l
class_fits l c e =
    let size = leb-true (1024 * 2 ^ c) l.chunk_bytes (and_parts (nat_le 1 c && nat_le c 12) (nat_le (1024 * 2 ^ c) l.chunk_bytes) e).1 in
    let some = pow_pos c in
    omega (arith, size, some)

module _ (old new : Sets) (j c : ℕ) (on : Bool) (are : AreSets old) (are' : AreSets new) (within : j < old.layout.chunks) (none : chunk_class old j ≡ None) (ok : is_class old.layout c ≡ true) (cuts : CutsChunk old new j c on) where
  same : SamePart old new
  same = record { layout_is = cuts.layout_is; part_is = cuts.part_is }

  abbrev from : ℕ
  from = 16 + (old.part * old.layout.chunks + j) * chunk_units old.layout

  abbrev units : ℕ
  units = chunk_units old.layout

  -- a block of another chunk is what it was
  away : (d q : ℕ) → chunk_of old q ≢ j → is_free_block new d q ≡ is_free_block old d q
  away d q ne = λ i. option_map_or (λ k. k == d) (class_point old new q same (cuts.classes (chunk_of old q) ne) i) false && not (cuts.used q i)

  of_new : (q : ℕ) → chunk_of new q ≡ chunk_of old q
  of_new q = ap (λ (l : Geometry). chunk_in l q) cuts.layout_is

  pub cut_others : (d : ℕ) → d ≢ c → free_block_count new d ≡ free_block_count old d
  cut_others d ne =
      blocks_over old new d same ∙ count_same (is_free_block new d) (is_free_block old d) (part_unit old) (old.layout.chunks * chunk_units old.layout) (λ q low high. ⊎_elim (here q) (away d q) (cases_eq (chunk_of old q) j))
    where
      here : (q : ℕ) → chunk_of old q ≡ j → is_free_block new d q ≡ is_free_block old d q
      here q e =
          other_class new d j are' (λ is. ne (let two : Some d ≡ Some c = sym is ∙ cuts.cut in cc two)) q (of_new q ∙ e)
          ∙ sym (other_class old d j are (λ is. let two : None ≡ Some d = sym none ∙ is in cc two) q e)

  -- in the chunk, each start of a block is a free block
  inside : (q : ℕ) → from ≤ q → q < from + units → is_free_block new c q ≡ is_start old.layout c (q - from)
  inside q low high = by (is_start old.layout c (q - from)) refl
    where
      lt : q - from < chunk_units old.layout
      lt = omega arith

      place : q ≡ 16 + (old.part * old.layout.chunks + j) * chunk_units old.layout + (q - from)
      place = omega arith

      class : class_at new q ≡ option_and_then (start_in old.layout (q - from)) (Some c)
      class = (λ i. class_by (cuts.layout_is i) (cuts.part_is i) (chunk_class new) q) ∙ placed_class old.layout old.part j (q - from) q within lt place (chunk_class new) ∙ ap (option_and_then (start_in old.layout (q - from))) cuts.cut

      unused : block_is_used new q ≡ false
      unused = cuts.used q ∙ off (block_is_used old q) refl
        where
          off : (b : Bool) → block_is_used old q ≡ b → b ≡ false
          off false e = refl
          off true e = absurd (let some = are.used_in q e in let no : class_at old q ≡ None = placed_class old.layout old.part j (q - from) q within lt place (chunk_class old) ∙ ap (option_and_then (start_in old.layout (q - from))) none in both_ways (is_none (class_at old q)) some (ap is_none no))

      by : (b : Bool) → is_start old.layout c (q - from) ≡ b → is_free_block new c q ≡ b
      by true e = is_free new c q (class ∙ ap (λ (b : Bool). cond b (Some c) None) e) unused
      by false e = ap (λ (o : Option ℕ). option_map_or (λ k. k == c) o false && not (block_is_used new q)) (class ∙ ap (λ (b : Bool). cond b (Some c) None) e)

  outside : (q : ℕ) → (q < from) ⊎ (from + units ≤ q) → is_free_block new c q ≡ is_free_block old c q
  outside q out = ⊎_elim (λ here. in_new here (is_free_block new c q) refl ∙ sym (other_class old c j are (λ is. let two : None ≡ Some c = sym none ∙ is in cc two) q here)) (away c q) (cases_eq (chunk_of old q) j)
    where
      in_new : chunk_of old q ≡ j → (b : Bool) → is_free_block new c q ≡ b → is_free_block new c q ≡ false
      in_new here false e = e
      in_new here true e =
          let lies = lies_at new q c are' (free_block new c q e).0 in
          let i = in_chunk new.layout new.part (chunk_class new) q c lies in
          let first : 16 + (new.part * new.layout.chunks + chunk_in new.layout q) * chunk_units new.layout ≡ from = (λ t. 16 + (cuts.part_is t * (cuts.layout_is t).chunks + (of_new q ∙ here) t) * chunk_units (cuts.layout_is t)) in
          let size = ap chunk_units cuts.layout_is in
          ⊎_elim (λ lt. absurd (omega (arith, lt, i.0, first))) (λ ge. absurd (omega (arith, ge, i.1, first, size))) out

  -- there was none in the chunk
  nothing_in : (q : ℕ) → from ≤ q → q < from + units → is_free_block old c q ≡ false
  nothing_in q low high =
      other_class old c j are (λ is. let two : None ≡ Some c = sym none ∙ is in cc two) q
      (let lt : q - from < chunk_units old.layout = omega arith in let place : q ≡ 16 + (old.part * old.layout.chunks + j) * chunk_units old.layout + (q - from) = omega arith in placed_in old.layout old.part j (q - from) q within lt place)

  pub cut_count : free_block_count new c ≡ free_block_count old c + blocks_in old.layout c
  cut_count =
      let before = j * units in
      let after = (old.layout.chunks - (j + 1)) * units in
      let all : old.layout.chunks * units ≡ before + (units + after) = (let e : old.layout.chunks ≡ j + 1 + (old.layout.chunks - (j + 1)) = omega arith in
      let s = add-mul (j + 1) (old.layout.chunks - (j + 1)) units in let t = add-mul j 1 units in let r = ap (λ (x : ℕ). x * units) e in omega (arith, s, t, r)) in
      let start : part_unit old + before ≡ from = (let s = add-mul (old.part * old.layout.chunks) j units in omega (arith, s)) in
      let P = is_free_block new c in
      let Q = is_free_block old c in
      let one = count_split P (part_unit old) before (units + after) in
      let two = count_split P (part_unit old + before) units after in
      let one' = count_split Q (part_unit old) before (units + after) in
      let two' = count_split Q (part_unit old + before) units after in
      let low = count_same P Q (part_unit old) before (λ q ge lt. outside q (inl (omega (arith, lt, start)))) in
      let mid = count_same P (λ q. is_start old.layout c (q - from)) (part_unit old + before) units (λ q ge lt. inside q (omega (arith, ge, start)) (omega (arith, lt, start))) in
      let none' = count_none Q (part_unit old + before) units (λ q ge lt. nothing_in q (omega (arith, ge, start)) (omega (arith, lt, start))) in
      let starts = ap (λ (f : ℕ). count_by (λ q. is_start old.layout c (q - from)) (numbers f units)) start ∙ count_starts old.layout c from (let f = class_fits old.layout c ok in omega (arith, f)) in
      let high = count_same P Q (part_unit old + before + units) after (λ q ge lt. outside q (inr (omega (arith, ge, start)))) in
      let whole = ap (λ (n : ℕ). count_by Q (numbers (part_unit old) n)) all in
      blocks_over old new c same ∙ ap (λ (n : ℕ). count_by P (numbers (part_unit old) n)) all ∙ (let z : count_by P (numbers (part_unit old) (before + (units + after))) ≡ free_block_count old c + blocks_in old.layout c = omega (arith, one, two, one', two', low, mid, none', starts, high, whole) in z)

  -- the chunk's first block
  module _ (p : ℕ) (first : p ≡ first_block old j) where
    place : p ≡ 16 + (old.part * old.layout.chunks + j) * chunk_units old.layout + 1
    place = first

    low : 1 < chunk_units old.layout
    low = let f = class_fits old.layout c ok in let some = pow_pos c in omega (arith, f, some)

    pub first_class : class_at new p ≡ Some c
    first_class =
        let f = class_fits old.layout c ok in
        let some = pow_pos c in
        let starts : is_start old.layout c 1 ≡ true = and_from _ _ (eq-eqb ((1 - 1) % 2 ^ c) 0 (let m : 0 % 2 ^ c ≡ 0 = omega (arith, some) in m)) (le-leb (1 + 2 ^ c) (chunk_units old.layout) f) in
        (λ i. class_by (cuts.layout_is i) (cuts.part_is i) (chunk_class new) p) ∙ placed_class old.layout old.part j 1 p within low place (chunk_class new) ∙ ap (option_and_then (start_in old.layout 1)) cuts.cut
        ∙ cond-true (is_start old.layout c 1) (Some c) None starts

    pub first_unused : block_is_used old p ≡ false
    first_unused = off (block_is_used old p) refl
      where
        off : (b : Bool) → block_is_used old p ≡ b → b ≡ false
        off false e = refl
        off true e = absurd (let some = are.used_in p e in let no : class_at old p ≡ None = placed_class old.layout old.part j 1 p within low place (chunk_class old) ∙ ap (option_and_then (start_in old.layout 1)) none in both_ways (is_none (class_at old p)) some (ap is_none no))

-- the lowest free chunk is taken and cut, and its first block is allocated
pub cuts_lowest : (old mid cut new : Sets) (c j p : ℕ) → AreSets old → AreSets mid → AreSets cut → is_class old.layout c ≡ true → ((q : ℕ) → is_free_block old c q ≡ false) → TakesChunk old mid j → CutsChunk mid cut j c true → p ≡ first_block cut j
    → SameChunks cut new → Uses cut new p → Cuts old new c j p
cuts_lowest old mid cut new c j p are are' are'' ok none takes cuts first chunks used =
    let free = are.free_in j takes.was_free in
    let layouts = takes.layout_is in
    let within : j < mid.layout.chunks = subst (λ (l : Geometry). j < l.chunks) (sym takes.layout_is) free.0 in
    let uncut : chunk_class mid j ≡ None = takes.classes j ∙ free.1 in
    let class : is_class mid.layout c ≡ true = ap (λ (l : Geometry). is_class l c) takes.layout_is ∙ ok in
    let first' : p ≡ first_block mid j = first ∙ (λ i. 16 + (cuts.part_is i * (cuts.layout_is i).chunks + j) * chunk_units (cuts.layout_is i) + 1) in
    let first'' : p ≡ first_block old j = first' ∙ (λ i. 16 + (takes.part_is i * (takes.layout_is i).chunks + j) * chunk_units (takes.layout_is i) + 1) in
    let same_mid : SamePart old mid = record { layout_is = takes.layout_is; part_is = takes.part_is } in
    let same_cut : SamePart mid cut = record { layout_is = cuts.layout_is; part_is = cuts.part_is } in
    let same_new = same_part cut new chunks in
    let nothing : (q : ℕ) → is_free_block mid c q ≡ false = λ q. (λ i. option_map_or (λ k. k == c) (class_point old mid q same_mid (takes.classes (chunk_of old q)) i) false && not (takes.used q i)) ∙ none q in
    let there = first_class mid cut j c true are' are'' within uncut class cuts p first' in
    let unused_mid = first_unused mid cut j c true are' are'' within uncut class cuts p first' in
    let unused_cut : block_is_used cut p ≡ false = cuts.used p ∙ unused_mid in
    let now : block_is_used new p ≡ true = used p ∙ ap (λ (t : Bool). t || block_is_used cut p) (eq-eqb p p refl) in
    let others : (q : ℕ) → q ≢ p → block_is_used new q ≡ block_is_used cut q = λ q ne. used q ∙ used_there p q (block_is_used cut q) ne in
    let less = one_less cut new p c are'' same_new chunks.classes there unused_cut now others in
    let many = cut_count mid cut j c true are' are'' within uncut class cuts in
    let zero = count_none (is_free_block mid c) (part_unit mid) (mid.layout.chunks * chunk_units mid.layout) (λ q ge lt. nothing q) in
    let size : blocks_in mid.layout c ≡ blocks_in old.layout c = ap (λ (l : Geometry). blocks_in l c) takes.layout_is in
    let chunk_count = takes.chunk_count in
    let count_cut = chunks_same mid cut same_cut cuts.free in
    let count_new = chunks_same cut new same_new chunks.free in
    record {
      none = none;
      was_free = takes.was_free;
      lowest = takes.lowest;
      first = first'';
      layout_is = chunks.layout_is ∙ cuts.layout_is ∙ takes.layout_is;
      part_is = chunks.part_is ∙ cuts.part_is ∙ takes.part_is;
      free = λ i. chunks.free i ∙ cuts.free i ∙ takes.free i;
      cut = chunks.classes j ∙ cuts.cut;
      classes = λ i ne. chunks.classes i ∙ cuts.classes i ne ∙ takes.classes i;
      due = λ i. chunks.due i ∙ cuts.due i ∙ (λ t. and_true (i == j) true refl t || takes.due i t);
      was_unused = sym (takes.used p) ∙ unused_mid;
      used = λ q. used q ∙ ap (λ (b : Bool). q == p || b) (cuts.used q ∙ takes.used q);
      chunk_count = omega (arith, chunk_count, count_cut, count_new);
      count = omega (arith, less, many, zero, size);
      others = λ d ne. rest_same cut new p c are'' same_new chunks.classes there unused_cut now others d ne ∙ cut_others mid cut j c true are' are'' within uncut class cuts d ne ∙ takes.count d;
    }

-- the first block of a chunk that is cut is a block
pub cut_block : (old mid cut : Sets) (c j p : ℕ) → AreSets old → AreSets mid → AreSets cut → is_class old.layout c ≡ true → TakesChunk old mid j → CutsChunk mid cut j c true → p ≡ first_block cut j → is_none (class_at cut p) ≡ false
cut_block old mid cut c j p are are' are'' ok takes cuts first =
    let free = are.free_in j takes.was_free in
    let within : j < mid.layout.chunks = subst (λ (l : Geometry). j < l.chunks) (sym takes.layout_is) free.0 in
    let uncut : chunk_class mid j ≡ None = takes.classes j ∙ free.1 in
    let class : is_class mid.layout c ≡ true = ap (λ (l : Geometry). is_class l c) takes.layout_is ∙ ok in
    ap is_none (first_class mid cut j c true are' are'' within uncut class cuts p (first ∙ (λ i. 16 + (cuts.part_is i * (cuts.layout_is i).chunks + j) * chunk_units (cuts.layout_is i) + 1)))

pub cut_unused : (old mid cut : Sets) (c j p : ℕ) → AreSets old → AreSets mid → AreSets cut → is_class old.layout c ≡ true → TakesChunk old mid j → CutsChunk mid cut j c true → p ≡ first_block cut j → block_is_used cut p ≡ false
cut_unused old mid cut c j p are are' are'' ok takes cuts first =
    let free = are.free_in j takes.was_free in
    let within : j < mid.layout.chunks = subst (λ (l : Geometry). j < l.chunks) (sym takes.layout_is) free.0 in
    let uncut : chunk_class mid j ≡ None = takes.classes j ∙ free.1 in
    let class : is_class mid.layout c ≡ true = ap (λ (l : Geometry). is_class l c) takes.layout_is ∙ ok in
    cuts.used p ∙ first_unused mid cut j c true are' are'' within uncut class cuts p (first ∙ (λ i. 16 + (cuts.part_is i * (cuts.layout_is i).chunks + j) * chunk_units (cuts.layout_is i) + 1))
