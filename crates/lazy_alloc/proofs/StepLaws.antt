-- The steps, in the form.
use Rattle.std.proofs.Common.{◌≡◌, ◌≢◌, ⊎_elim, ℕ, ◌+◌, ◌*◌, ◌/◌, ◌≤◌, ◌<◌, nat_le, cond, set, ◌==◌, ◌&&◌, ◌||◌, not, Bool, true, false, List, length, Option, Some, None, refl, sym, ◌∙◌, ap, subst, arith}
use Rattle.std.specs.Prelude.{is_none}
use Rattle.std.proofs.Math.Nat.{mul-le-mul_right}
use Rattle.std.proofs.lemmas.Bool.{cases_eq, cases_lt, eq-eqb, eqb-true, ne_eqb, or_cases, and_parts, both_ways}
use Rattle.std.proofs.lemmas.List.{length-set, get_or-set_same, get_or-set_other}
use Rattle.std.specs.Option.{option_and_then}
use Rattle.store_image.specs.Parts.{chunk_at, unit_at}
use Rattle.chunk_map.specs.declared.layouts.Geometry.{Geometry}
use Rattle.chunk_map.specs.Layouts.{is_class}
use Rattle.lazy_alloc.specs.Bits.{has, has_bit}
use Rattle.lazy_alloc.specs.Sets.{block_is_used, start_in}
use Rattle.lazy_alloc.specs.Steps.{CutsChunk}
use Rattle.lazy_alloc.specs.Form.{room_words, chunk_in, bit_of, class_in, class_of_block, is_marked, sets_of, IsForm}
use Rattle.lazy_alloc.proofs.PlaceLaws.{bit_within, bit_own}
use Rattle.lazy_alloc.proofs.FormLaws.{free_is, class_is, due_is, block_lies, used_is, class_from, class_at_is, unused_at, no_class, marked_at}

-- two ranges of bits of different chunks have no bit in common
pub one_chunk : (r j k i : ℕ) → 64 * (j * r) ≤ i → i < 64 * ((j + 1) * r) → 64 * (k * r) ≤ i → i < 64 * ((k + 1) * r) → j ≡ k
one_chunk r j k i low high low' high' = ⊎_elim (λ lt. absurd (below j k lt high low')) (λ ge. ⊎_elim (λ gt. absurd (below k j gt high' low)) (λ le. omega arith) (cases_lt k j)) (cases_lt j k)
  where
    below : (j k : ℕ) → j < k → i < 64 * ((j + 1) * r) → 64 * (k * r) ≤ i → ⊥
    below j k lt high low = let le : (j + 1) * r ≤ k * r = mul-le-mul_right {m = j + 1} {n = k} r (omega arith) in omega (arith, le, high, low)

module _ (l : Geometry) (part free due : ℕ) (classes : List (Option ℕ)) (bits bits' : List ℕ) (is : IsForm l part free due classes bits) (p c : ℕ) (at : class_of_block l part classes p ≡ Some c)
    (f : Bool → Bool → Bool) (keeps : (b : Bool) → f false b ≡ b) (long : length bits' ≡ length bits) (each : (i : ℕ) → has_bit bits' i ≡ f (i == bit_of l p c) (has_bit bits i)) where
  -- the form stays one where the bit of one block changes
  pub marked_form : IsForm l part free due classes bits'
  marked_form = record {
    layout = is.layout;
    part_in = is.part_in;
    many = is.many;
    room = long ∙ is.room;
    free_in = is.free_in;
    due_in = is.due_in;
    cut_in = is.cut_in;
    blank = λ j none i low high. each i ∙ ap (λ (b : Bool). f b (has_bit bits i)) (ne_eqb i (bit_of l p c) (apart j none i low high)) ∙ keeps (has_bit bits i) ∙ is.blank j none i low high;
  }
    where
      apart : (j : ℕ) → class_in classes j ≡ None → (i : ℕ) → 64 * (j * room_words l) ≤ i → i < 64 * ((j + 1) * room_words l) → i ≢ bit_of l p c
      apart j none i low high e =
          let lies = block_lies l part free due classes bits is p c at in
          let b = bit_within l part (class_in classes) p c (class_from l part free due classes bits is p c at) lies in
          let one = one_chunk (room_words l) j (chunk_in l p) i low high (omega (arith, e, b.0)) (omega (arith, e, b.1)) in
          let two : None ≡ Some c = sym none ∙ ap (class_in classes) one ∙ lies.class_is in
          cc two

  pub marked_used : (q : ℕ) → block_is_used (sets_of l part free due classes bits') q ≡ f (q == p) (block_is_used (sets_of l part free due classes bits) q)
  unfolding is_marked
  marked_used q =
      used_is l part free due classes bits' marked_form q ∙ by (class_of_block l part classes q) refl ∙ ap (f (q == p)) (sym (used_is l part free due classes bits is q))
    where
      by : (o : Option ℕ) → class_of_block l part classes q ≡ o → is_marked l bits' q (class_of_block l part classes q) ≡ f (q == p) (is_marked l bits q (class_of_block l part classes q))
      by None e =
          let ne : q ≢ p = λ same. (let two : None ≡ Some c = sym e ∙ ap (class_of_block l part classes) same ∙ at in cc two) in
          ap (is_marked l bits' q) e ∙ sym (keeps false) ∙ sym (ap (λ (b : Bool). f b false) (ne_eqb q p ne)) ∙ ap (f (q == p)) (sym (ap (is_marked l bits q) e))
      by (Some d) e =
          ap (is_marked l bits' q) e ∙ each (bit_of l q d) ∙ ap (λ (b : Bool). f b (has_bit bits (bit_of l q d))) (⊎_elim
          (λ same. let own = bit_own l part (class_in classes) q d p c (class_from l part free due classes bits is q d e) (class_from l part free due classes bits is p c at) (block_lies l part free due classes bits is q d e) (block_lies l part free due classes bits is p c at) same in
          eq-eqb (bit_of l q d) (bit_of l p c) same ∙ sym (eq-eqb q p own))
          (λ ne. ne_eqb (bit_of l q d) (bit_of l p c) ne ∙ sym (ne_eqb q p (λ same. let two : Some d ≡ Some c = sym e ∙ ap (class_of_block l part classes) same ∙ at in let own : d ≡ c = cc two in ne (λ i. bit_of l (same i) (own i)))))
          (cases_eq (bit_of l q d) (bit_of l p c))) ∙ ap (f (q == p)) (sym (ap (is_marked l bits q) e))

-- the bit of a block is one of the list
pub bit_in_room : (l : Geometry) (part free due : ℕ) (classes : List (Option ℕ)) (bits : List ℕ) → IsForm l part free due classes bits → (p c : ℕ) → class_of_block l part classes p ≡ Some c → bit_of l p c < 64 * length bits
bit_in_room l part free due classes bits is p c at =
    let lies = block_lies l part free due classes bits is p c at in
    let b = bit_within l part (class_in classes) p c (class_from l part free due classes bits is p c at) lies in
    let w = lies.within in
    let le : (chunk_in l p + 1) * room_words l ≤ l.chunks * room_words l = mul-le-mul_right {m = chunk_in l p + 1} {n = l.chunks} (room_words l) (omega arith) in
    let room = is.room in
    omega (arith, b.1, le, room)

module _ (l : Geometry) (part free free' due due' : ℕ) (classes : List (Option ℕ)) (bits : List ℕ) (is : IsForm l part free due classes bits) (j : ℕ) where
  -- a chunk more is free, or one less
  pub given_form : j < l.chunks → class_in classes j ≡ None → ((i : ℕ) → has free' i ≡ (i == j || has free i)) → IsForm l part free' due classes bits
  given_form lt none each = record {
    layout = is.layout;
    part_in = is.part_in;
    many = is.many;
    room = is.room;
    free_in = λ i e. ⊎_elim (λ here. let same = eqb-true i j here in (subst (λ (x : ℕ). x < l.chunks) (sym same) lt, ap (class_in classes) same ∙ none)) (λ old. is.free_in i old) (or_cases (i == j) (has free i) (sym (each i) ∙ e));
    due_in = is.due_in;
    cut_in = is.cut_in;
    blank = is.blank;
  }

  pub taken_form : ((i : ℕ) → has free' i ≡ (has free i && not (i == j))) → IsForm l part free' due classes bits
  taken_form each = record {
    layout = is.layout;
    part_in = is.part_in;
    many = is.many;
    room = is.room;
    free_in = λ i e. is.free_in i (and_parts (has free i) (not (i == j)) (sym (each i) ∙ e)).0;
    due_in = is.due_in;
    cut_in = is.cut_in;
    blank = is.blank;
  }

  -- a chunk is cut
  module _ (c : ℕ) (on : Bool) (lt : j < l.chunks) (taken : has free j ≡ false) (none : class_in classes j ≡ None) (ok : is_class l c ≡ true) (each : (i : ℕ) → has due' i ≡ ((i == j && on) || has due i)) where
    within : j < length classes
    within = let m = is.many in omega arith

    pub cut_here : class_in (set classes j (Some c)) j ≡ Some c
    cut_here = get_or-set_same classes j (Some c) None within

    pub cut_other : (i : ℕ) → i ≢ j → class_in (set classes j (Some c)) i ≡ class_in classes i
    cut_other i ne = get_or-set_other classes j i (Some c) None ne

    pub cut_form : IsForm l part free due' (set classes j (Some c)) bits
    cut_form = record {
      layout = is.layout;
      part_in = is.part_in;
      many = length-set classes j (Some c) ∙ is.many;
      room = is.room;
      free_in = λ i e. let ne : i ≢ j = λ same. both_ways (has free j) taken (ap (has free) (sym same) ∙ e) in let f = is.free_in i e in (f.0, cut_other i ne ∙ f.1);
      due_in = λ i e. ⊎_elim (λ same. ap is_none (ap (class_in (set classes j (Some c))) same ∙ cut_here)) (λ ne. ap is_none (cut_other i ne) ∙ is.due_in i (old_due i ne e)) (cases_eq i j);
      cut_in = λ i k e. ⊎_elim (λ same. let two : Some c ≡ Some k = sym cut_here ∙ ap (class_in (set classes j (Some c))) (sym same) ∙ e in let own : c ≡ k = cc two in subst (λ (x : ℕ). is_class l x ≡ true) own ok) (λ ne. is.cut_in i k (sym (cut_other i ne) ∙ e)) (cases_eq i j);
      blank = λ i no. ⊎_elim (λ same. let two : Some c ≡ None = sym cut_here ∙ ap (class_in (set classes j (Some c))) (sym same) ∙ no in cc two) (λ ne. is.blank i (sym (cut_other i ne) ∙ no)) (cases_eq i j);
    }
      where
        old_due : (i : ℕ) → i ≢ j → has due' i ≡ true → has due i ≡ true
        old_due i ne e = sym (ap (λ (b : Bool). (b && on) || has due i) (ne_eqb i j ne)) ∙ sym (each i) ∙ e

    pub cut_used : (q : ℕ) → block_is_used (sets_of l part free due' (set classes j (Some c)) bits) q ≡ block_is_used (sets_of l part free due classes bits) q
    unfolding class_of_block
    cut_used q = ⊎_elim here other (cases_eq (chunk_in l q) j)
      where
        here : chunk_in l q ≡ j → block_is_used (sets_of l part free due' (set classes j (Some c)) bits) q ≡ block_is_used (sets_of l part free due classes bits) q
        here same = by (class_of_block l part (set classes j (Some c)) q) refl ∙ sym (unused_at l part free due classes bits is q (no_class l part free due classes bits is q (ap (class_in classes) same ∙ none)))
          where
            by : (o : Option ℕ) → class_of_block l part (set classes j (Some c)) q ≡ o → block_is_used (sets_of l part free due' (set classes j (Some c)) bits) q ≡ false
            by None e = unused_at l part free due' (set classes j (Some c)) bits cut_form q (class_at_is l part free due' (set classes j (Some c)) bits cut_form q ∙ e)
            by (Some d) e =
                let lies = block_lies l part free due' (set classes j (Some c)) bits cut_form q d e in
                let b = bit_within l part (class_in (set classes j (Some c))) q d (class_from l part free due' (set classes j (Some c)) bits cut_form q d e) lies in
                marked_at l part free due' (set classes j (Some c)) bits cut_form q d e
                ∙ is.blank j none (bit_of l q d) (subst (λ (x : ℕ). 64 * (x * room_words l) ≤ bit_of l q d) same b.0) (subst (λ (x : ℕ). bit_of l q d < 64 * ((x + 1) * room_words l)) same b.1)

        other : chunk_in l q ≢ j → block_is_used (sets_of l part free due' (set classes j (Some c)) bits) q ≡ block_is_used (sets_of l part free due classes bits) q
        other ne =
            used_is l part free due' (set classes j (Some c)) bits cut_form q
            ∙ ap (is_marked l bits q) (λ i. cond (nat_le 16 q && (chunk_at l q / l.chunks == part)) (option_and_then (start_in l (unit_at l q)) (cut_other (chunk_in l q) ne i)) None)
            ∙ sym (used_is l part free due classes bits is q)

-- a head is written
pub written_form : (l : Geometry) (part free due due' : ℕ) (classes : List (Option ℕ)) (bits : List ℕ) → IsForm l part free due classes bits → (j : ℕ) → ((i : ℕ) → has due' i ≡ (has due i && not (i == j))) → IsForm l part free due' classes bits
written_form l part free due due' classes bits is j each = record {
  layout = is.layout;
  part_in = is.part_in;
  many = is.many;
  room = is.room;
  free_in = is.free_in;
  due_in = λ i e. is.due_in i (and_parts (has due i) (not (i == j)) (sym (each i) ∙ e)).0;
  cut_in = is.cut_in;
  blank = is.blank;
}

pub cuts_chunk : (l : Geometry) (part free due due' : ℕ) (classes : List (Option ℕ)) (bits : List ℕ) (is : IsForm l part free due classes bits) (j c : ℕ) (on : Bool) (lt : j < l.chunks) (taken : has free j ≡ false) (none : class_in classes j ≡ None) (ok : is_class l c ≡ true)
    (each : (i : ℕ) → has due' i ≡ ((i == j && on) || has due i)) → CutsChunk (sets_of l part free due classes bits) (sets_of l part free due' (set classes j (Some c)) bits) j c on
cuts_chunk l part free due due' classes bits is j c on lt taken none ok each =
    let is' = cut_form l part free free due due' classes bits is j c on lt taken none ok each in
    record {
      layout_is = refl;
      part_is = refl;
      free = λ i. free_is l part free due' (set classes j (Some c)) bits is' i ∙ sym (free_is l part free due classes bits is i);
      cut = class_is l part free due' (set classes j (Some c)) bits is' j ∙ cut_here l part free free due due' classes bits is j c on lt taken none ok each;
      classes = λ i ne. class_is l part free due' (set classes j (Some c)) bits is' i ∙ cut_other l part free free due due' classes bits is j c on lt taken none ok each i ne ∙ sym (class_is l part free due classes bits is i);
      due = λ i. due_is l part free due' (set classes j (Some c)) bits is' i ∙ each i ∙ ap (λ (b : Bool). (i == j && on) || b) (sym (due_is l part free due classes bits is i));
      used = cut_used l part free free due due' classes bits is j c on lt taken none ok each;
    }
