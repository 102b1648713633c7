-- Notes in order, merged into one item a name.
use Rattle.std.proofs.Common.{◌≡◌, ◌≢◌, ⊎_elim, ℕ, zero, suc, ◌+◌, ◌-◌, ◌*◌, ◌<◌, ◌≤◌, ◌==◌, ◌&&◌, ◌||◌, Bool, true, false, cond, List, [], ◌∷◌, ◌++◌, length, take, get_or, Some, None, refl, sym, ◌∙◌, ap, subst, arith, slice_set}
use Rattle.std.specs.List.{AllByRecursion, count_by}
use Rattle.std.proofs.lemmas.Bool.{cond-true, cond-false, and_parts, and_from, eqb-true, eq-eqb, ne_eqb, cases_eq, cases_lt}
use Rattle.std.proofs.lemmas.List.{length_push, get_or_push, get_or_append_left, get_or-set_same, length-set, get_or_default}
use Rattle.std.proofs.lemmas.List.Elements.{All-push, All-set}
use Rattle.std.proofs.lemmas.List.Folds.{list_any-append, list_any_none, list_any_at}
use Rattle.std.proofs.lemmas.List.Sums.{sum_by-cons}
use Rattle.core_log.specs.declared.types.LogChunk.{LogChunk}
use Rattle.log_standing.specs.declared.name_item.NameItem.{NameItem}
use Rattle.log_standing.specs.NameCounts.{name_eq, copies_with, count_in}
use Rattle.log_standing.specs.NameItems.{item_spot, rank_of, rank_in, order_of, is_item, copies_of, live, copies_among, is_note, has_note, chunks_noted, AreIn, Fits, InOrder, IsCounted, IsNoteOf, IsMerged}
use Rattle.log_standing.proofs.StandingLaws.{same_name, name_same}
use Rattle.log_standing.proofs.Filled.{again_named}
use Rattle.log_standing.proofs.ItemLaws.{item_rank, rises_set, rises_push, all_below, below_absent, absent_copies, copies_at_place, copies_set, copies_push}

-- Counting.

-- a count where each element passes one test or the other, and none both
count_either : (p q : LogChunk → Bool) → ((c : LogChunk) → q c ≡ true → p c ≡ false) → (cs : List LogChunk) → count_by (λ (c : LogChunk). p c || (q c || false)) cs ≡ count_by p cs + count_by q cs
count_either p q apart [] = refl
count_either p q apart (c ∷ cs) =
    let both : LogChunk → Bool = λ (c : LogChunk). p c || (q c || false) in
    let rest = count_either p q apart cs in
    let a : count_by both (c ∷ cs) ≡ cond (both c) 1 0 + count_by both cs = sum_by-cons (λ (x : LogChunk). cond (both x) 1 0) c cs in
    let b : count_by p (c ∷ cs) ≡ cond (p c) 1 0 + count_by p cs = sum_by-cons (λ (x : LogChunk). cond (p x) 1 0) c cs in
    let d : count_by q (c ∷ cs) ≡ cond (q c) 1 0 + count_by q cs = sum_by-cons (λ (x : LogChunk). cond (q x) 1 0) c cs in
    let e = one (p c) (q c) (apart c) in
    omega (arith, a, b, d, e, rest) where
      one : (x y : Bool) → (y ≡ true → x ≡ false) → cond (x || (y || false)) 1 0 ≡ cond x 1 0 + cond y 1 0
      one true true none = absurd (cc (none refl))
      one true false none = refl
      one false true none = refl
      one false false none = refl

-- one note more of another name, one that was noted before, and a new one
pub counts_other : (cs : List LogChunk) (xs : List NameItem) (y : NameItem) (k v : ℕ) → is_item k v y ≡ false → chunks_noted cs (xs ++ y ∷ []) k v ≡ chunks_noted cs xs k v
counts_other cs xs y k v isnt = λ i. count_by (λ (c : LogChunk). same c.chunk i) cs where
  same : (j : ℕ) → has_note (xs ++ y ∷ []) k v j ≡ has_note xs k v j
  same j = list_any-append (is_note k v j) xs (y ∷ []) ∙ ap (λ (b : Bool). has_note xs k v j || ((b && (y.chunk == j)) || false)) isnt ∙ or_false (has_note xs k v j) where
    or_false : (b : Bool) → (b || false) ≡ b
    or_false true = refl
    or_false false = refl

pub counts_again : (cs : List LogChunk) (xs : List NameItem) (y : NameItem) → has_note xs y.key y.version y.chunk ≡ true → (k v : ℕ) → chunks_noted cs (xs ++ y ∷ []) k v ≡ chunks_noted cs xs k v
counts_again cs xs y had k v = λ i. count_by (λ (c : LogChunk). same c.chunk i) cs where
  known : (j : ℕ) → is_note k v j y ≡ true → has_note xs k v j ≡ true
  known j is =
      let parts = and_parts (is_item k v y) (y.chunk == j) is in
      let e = same_name y.key y.version k v parts.0 in
      let n = eqb-true y.chunk j parts.1 in
      sym (λ i. has_note xs (e.0 i) (e.1 i) (n i)) ∙ had

  same : (j : ℕ) → has_note (xs ++ y ∷ []) k v j ≡ has_note xs k v j
  same j = list_any-append (is_note k v j) xs (y ∷ []) ∙ again_named (has_note xs k v j) (is_note k v j y) (known j)

pub counts_new : (cs : List LogChunk) (xs : List NameItem) (y : NameItem) → has_note xs y.key y.version y.chunk ≡ false → count_by (λ (c : LogChunk). c.chunk == y.chunk) cs ≡ 1 → (k v : ℕ) → is_item k v y ≡ true → chunks_noted cs (xs ++ y ∷ []) k v ≡ chunks_noted cs xs k v + 1
counts_new cs xs y none once k v is =
    (λ i. count_by (λ (c : LogChunk). more c.chunk i) cs) ∙ count_either (λ (c : LogChunk). has_note xs k v c.chunk) (λ (c : LogChunk). c.chunk == y.chunk) (λ c at. absent c.chunk at) cs ∙ ap (λ (n : ℕ). chunks_noted cs xs k v + n) once where
      e : (y.key ≡ k) × (y.version ≡ v)
      e = same_name y.key y.version k v is

      absent : (j : ℕ) → (j == y.chunk) ≡ true → has_note xs k v j ≡ false
      absent j at = let n = eqb-true j y.chunk at in sym (λ i. has_note xs (e.0 i) (e.1 i) (sym n i)) ∙ none

      flip : (m n : ℕ) → (m == n) ≡ (n == m)
      flip m n = ⊎_elim (λ (same : m ≡ n). eq-eqb m n same ∙ sym (eq-eqb n m (sym same))) (λ (ne : m ≢ n). ne_eqb m n ne ∙ sym (ne_eqb n m (λ same. ne (sym same)))) (cases_eq m n)

      more : (j : ℕ) → has_note (xs ++ y ∷ []) k v j ≡ (has_note xs k v j || ((j == y.chunk) || false))
      more j = list_any-append (is_note k v j) xs (y ∷ []) ∙ ap (λ (b : Bool). has_note xs k v j || ((b && (y.chunk == j)) || false)) is ∙ ap (λ (b : Bool). has_note xs k v j || (b || false)) (flip y.chunk j)

-- One item more.

abbrev pub first_of : NameItem → NameItem
first_of y = record { key = y.key; version = y.version; count = 1; chunk = y.chunk; words = y.words; dead = false }

abbrev pub with_chunk : NameItem → ℕ → NameItem
with_chunk x j = record { key = x.key; version = x.version; count = x.count + 1; chunk = j; words = x.words; dead = x.dead }

module _ (xs out : List NameItem) (y : NameItem) (merged : IsMerged xs out) (ordered : InOrder (xs ++ y ∷ [])) where
  n : length (xs ++ y ∷ []) ≡ length xs + 1
  n = length_push xs y

  at_end : (d : NameItem) → get_or (xs ++ y ∷ []) (length xs) d ≡ y
  at_end d = get_or_push xs y d (length xs) refl

  -- no earlier item comes after this one, nor after the last one
  before : (j : ℕ) (d : NameItem) → j < length xs → order_of (get_or xs j d) ≤ order_of y
  unfolding n at_end
  before j d lt =
      let up = ordered.rising j (length xs) d (omega (arith, lt)) (omega (arith, n)) in
      subst (λ (x : NameItem). order_of x ≤ order_of y) (get_or_append_left xs (y ∷ []) d j lt) (subst (λ (x : NameItem). order_of (get_or (xs ++ y ∷ []) j d) ≤ order_of x) (at_end d) up)

  up_to_last : (j : ℕ) (d : NameItem) → j < length xs → order_of (get_or xs j d) ≤ order_of (get_or xs (length xs - 1) d)
  unfolding n
  up_to_last j d lt =
      let up = ordered.rising j (length xs - 1) d (omega (arith, lt)) (omega (arith, n)) in
      let last : length xs - 1 < length xs = omega (arith, lt) in
      subst (λ (x : NameItem). order_of x ≤ order_of (get_or xs (length xs - 1) d)) (get_or_append_left xs (y ∷ []) d j lt) (subst (λ (x : NameItem). order_of (get_or (xs ++ y ∷ []) j d) ≤ order_of x) (get_or_append_left xs (y ∷ []) d (length xs - 1) last) up)

  fits_new : Fits y
  unfolding n at_end
  fits_new = subst Fits (at_end y) (ordered.fits (length xs) y (omega (arith, n)))

  fits_old : (j : ℕ) (d : NameItem) → j < length xs → Fits (get_or xs j d)
  unfolding n
  fits_old j d lt = subst Fits (get_or_append_left xs (y ∷ []) d j lt) (ordered.fits j d (omega (arith, n, lt)))

  -- where the last item comes before this one, none has its note
  not_noted : ((d : NameItem) → 0 < length xs → order_of (get_or xs (length xs - 1) d) < order_of y) → has_note xs y.key y.version y.chunk ≡ false
  unfolding up_to_last
  not_noted less = list_any_none (is_note y.key y.version y.chunk) xs (λ j d lt. elim (is_note y.key y.version y.chunk (get_or xs j d)) as (λ b. is_note y.key y.version y.chunk (get_or xs j d) ≡ b → b ≡ false) [
    | true ↦ λ is.
        let parts = and_parts (is_item y.key y.version (get_or xs j d)) ((get_or xs j d).chunk == y.chunk) is in
        let rank = item_rank y.key y.version (get_or xs j d) parts.0 in
        let chunk = eqb-true (get_or xs j d).chunk y.chunk parts.1 in
        let up = up_to_last j d lt in
        let top = less d (omega (arith, lt)) in
        absurd (omega (arith, rank, chunk, up, top))
    | false ↦ λ _. refl
  ] refl)

  -- the last one of the merged list has the rank and the chunk of the last item
  same_rank : (d : NameItem) → 0 < length xs → rank_in (get_or out (length out - 1) d) ≡ rank_in (get_or xs (length xs - 1) d)
  same_rank d some = let last = merged.last d some in λ i. rank_of (last.key i) (last.version i)

  -- A new name.
  module _ (new : (d : NameItem) → 0 < length out → is_item y.key y.version (get_or out (length out - 1) d) ≡ false) where
    rank_less : (d : NameItem) → 0 < length out → rank_in (get_or out (length out - 1) d) < rank_in y
    unfolding before same_rank fits_new fits_old
    rank_less d some =
        let more = merged.no_more in
        let there : 0 < length xs = omega (arith, some, more) in
        let in' : length xs - 1 < length xs = omega (arith, there) in
        let le = before (length xs - 1) d in' in
        let fits = fits_new in
        let old = fits_old (length xs - 1) d in' in
        let last = merged.last d there in
        let x = get_or xs (length xs - 1) d in
        let o = get_or out (length out - 1) d in
        let same = same_rank d there in
        let isnt = new d some in
        ⊎_elim
        (λ (lt : rank_in o < rank_in y). lt)
        (λ (ge : rank_in y ≤ rank_in o).
        let chunk = fits.chunk in
        let rank : x.key * 4294967296 + x.version ≡ y.key * 4294967296 + y.version = omega (arith, le, chunk, same, ge) in
        let low = old.version in
        let low' = fits.version in
        let key : x.key ≡ y.key = omega (arith, rank, low, low') in
        let version : x.version ≡ y.version = omega (arith, rank, key) in
        let is : is_item y.key y.version o ≡ true = (λ i. name_eq (last.key i, last.version i) (y.key, y.version)) ∙ (λ i. name_eq (key i, version i) (y.key, y.version)) ∙ name_same y.key y.version in
        absurd (let both : true ≡ false = sym is ∙ isnt in cc both))
        (cases_lt (rank_in o) (rank_in y))

    below : AllByRecursion (λ (x : NameItem). rank_in x < rank_in y) out
    unfolding rank_less
    below = all_below out (rank_in y) merged.rises rank_less

    order_less : (d : NameItem) → 0 < length xs → order_of (get_or xs (length xs - 1) d) < order_of y
    unfolding rank_less same_rank fits_old
    order_less d some =
        let less = rank_less d (merged.some some) in
        let same = same_rank d some in
        let old = fits_old (length xs - 1) d (omega (arith, some)) in
        let chunk = old.chunk in
        omega (arith, less, same, chunk)

    new_counts : (cs : List LogChunk) → AreIn cs (xs ++ y ∷ []) → (k v : ℕ) → count_in (copies_among (live (out ++ first_of y ∷ [])) k v) ≡ chunks_noted cs (xs ++ y ∷ []) k v
    unfolding below order_less not_noted n at_end
    new_counts cs are k v =
        let old : AreIn cs xs = λ j d lt. subst (λ (x : NameItem). count_by (λ (c : LogChunk). c.chunk == x.chunk) cs ≡ 1) (get_or_append_left xs (y ∷ []) d j lt) (are j d (omega (arith, n, lt))) in
        let once : count_by (λ (c : LogChunk). c.chunk == y.chunk) cs ≡ 1 = subst (λ (x : NameItem). count_by (λ (c : LogChunk). c.chunk == x.chunk) cs ≡ 1) (at_end y) (are (length xs) y (omega (arith, n))) in
        let was = merged.counts cs old k v in
        elim (is_item k v y) as (λ b. is_item k v y ≡ b → count_in (copies_among (live (out ++ first_of y ∷ [])) k v) ≡ chunks_noted cs (xs ++ y ∷ []) k v) [
          | true ↦ λ is.
              let more = counts_new cs xs y (not_noted order_less) once k v is in
              let rank = item_rank k v y is in
              let none : count_in (copies_among (live out) k v) ≡ 0 = ap count_in (absent_copies out k v (below_absent out (rank_in y) k v below (omega (arith, rank)))) in
              let now : count_in (copies_among (live (out ++ first_of y ∷ [])) k v) ≡ 1 = ap count_in (copies_push out (first_of y) k v below ∙ cond-true (is_item k v y) (copies_of (first_of y)) (copies_among (live out) k v) is) in
              omega (arith, more, none, now, was)
          | false ↦ λ isnt. ap count_in (copies_push out (first_of y) k v below ∙ cond-false (is_item k v y) (copies_of (first_of y)) (copies_among (live out) k v) isnt) ∙ was ∙ sym (counts_other cs xs y k v isnt)
        ] refl

    pub merged_new : IsMerged (xs ++ y ∷ []) (out ++ first_of y ∷ [])
    unfolding below fits_new new_counts n
    merged_new =
        let m = length_push out (first_of y) in
        let more = merged.no_more in
        let fits = fits_new in
        record {
          rises = rises_push out (first_of y) merged.rises below;
          each = All-push IsCounted out (first_of y) merged.each (record { some = omega arith; most = omega arith; chunk = fits.chunk; untold = refl });
          counts = new_counts;
          some = λ _. omega (arith, m);
          no_more = omega (arith, m, n, more);
          last = λ d _.
              let a : get_or (out ++ first_of y ∷ []) (length (out ++ first_of y ∷ []) - 1) d ≡ first_of y = get_or_push out (first_of y) d (length (out ++ first_of y ∷ []) - 1) (omega (arith, m)) in
              let b : get_or (xs ++ y ∷ []) (length (xs ++ y ∷ []) - 1) d ≡ y = get_or_push xs y d (length (xs ++ y ∷ []) - 1) (omega (arith, n)) in
              record { key = ap (λ (x : NameItem). x.key) a ∙ sym (ap (λ (x : NameItem). x.key) b); version = ap (λ (x : NameItem). x.version) a ∙ sym (ap (λ (x : NameItem). x.version) b); chunk = ap (λ (x : NameItem). x.chunk) a ∙ sym (ap (λ (x : NameItem). x.chunk) b) };
        }

  -- The last name again.
  module _ (d : NameItem) (some : 0 < length out) (same : is_item y.key y.version (get_or out (length out - 1) d) ≡ true) where
    o : NameItem
    o = get_or out (length out - 1) d

    x : NameItem
    x = get_or xs (length xs - 1) d

    there : 0 < length xs
    there = let more = merged.no_more in omega (arith, some, more)

    last : IsNoteOf o x
    unfolding o x there
    last = merged.last d there

    name : (o.key ≡ y.key) × (o.version ≡ y.version)
    unfolding o
    name = same_name (get_or out (length out - 1) d).key (get_or out (length out - 1) d).version y.key y.version same

    x_rank : rank_in x ≡ rank_in y
    unfolding name last
    x_rank = λ i. rank_of ((sym last.key ∙ name.0) i) ((sym last.version ∙ name.1) i)

    was_at : (cs : List LogChunk) → AreIn cs (xs ++ y ∷ []) → AreIn cs xs
    unfolding n
    was_at cs are = λ j e lt. subst (λ (z : NameItem). count_by (λ (c : LogChunk). c.chunk == z.chunk) cs ≡ 1) (get_or_append_left xs (y ∷ []) e j lt) (are j e (omega (arith, n, lt)))

    -- in another chunk
    module _ (other : (get_or out (length out - 1) d).chunk ≢ y.chunk) where
      z : NameItem
      z = with_chunk (get_or out (length out - 1) d) y.chunk

      chunk_less : o.chunk < y.chunk
      unfolding o x last x_rank before there
      chunk_less =
          let le = before (length xs - 1) d (omega (arith, there)) in
          let rank = x_rank in
          let chunk = last.chunk in
          let most : o.chunk ≤ y.chunk = omega (arith, le, rank, chunk) in
          ⊎_elim (λ (eq : o.chunk ≡ y.chunk). absurd (other eq)) (λ (ne : o.chunk ≢ y.chunk). ⊎_elim (λ (lt : o.chunk < y.chunk). lt) (λ (ge : y.chunk ≤ o.chunk). absurd (ne (omega (arith, most, ge)))) (cases_lt o.chunk y.chunk)) (cases_eq o.chunk y.chunk)

      none : has_note xs y.key y.version y.chunk ≡ false
      unfolding not_noted chunk_less x_rank last x
      none = not_noted (λ e lt.
          let rank = x_rank in
          let chunk = last.chunk in
          let less = chunk_less in
          let at : order_of x < order_of y = omega (arith, rank, chunk, less) in
          subst (λ (w : NameItem). order_of w < order_of y) (get_or_default xs (length xs - 1) d e (omega (arith, lt))) at)

      counted_at : (w : NameItem) → 0 < w.count → count_in (copies_of w) ≡ w.count
      counted_at w more = ap count_in (cond-false (w.count == 0) None (Some (copies_with w.count w.dead (item_spot w))) (ne_eqb w.count 0 (λ e. omega (arith, more, e))))

      old_each : IsCounted (get_or out (length out - 1) d)
      old_each = merged.each (length out - 1) d (omega (arith, some))

      more_counts : (cs : List LogChunk) → AreIn cs (xs ++ y ∷ []) → (k v : ℕ) → count_in (copies_among (live (slice_set out (length out - 1) z)) k v) ≡ chunks_noted cs (xs ++ y ∷ []) k v
      unfolding none counted_at old_each z name o was_at at_end n
      more_counts cs are k v =
          let lt : length out - 1 < length out = omega (arith, some) in
          let was = merged.counts cs (was_at cs are) k v in
          let once : count_by (λ (c : LogChunk). c.chunk == y.chunk) cs ≡ 1 = subst (λ (w : NameItem). count_by (λ (c : LogChunk). c.chunk == w.chunk) cs ≡ 1) (at_end y) (are (length xs) y (omega (arith, n))) in
          let now = copies_set out (length out - 1) z d y.key y.version merged.rises lt same same k v in
          elim (is_item k v y) as (λ b. is_item k v y ≡ b → count_in (copies_among (live (slice_set out (length out - 1) z)) k v) ≡ chunks_noted cs (xs ++ y ∷ []) k v) [
            | true ↦ λ is.
                let more = counts_new cs xs y none once k v is in
                let here : is_item k v (get_or out (length out - 1) d) ≡ true = (λ i. name_eq (name.0 i, name.1 i) (k, v)) ∙ is in
                let each = old_each in
                let positive = each.some in
                let old : count_in (copies_among (live out) k v) ≡ (get_or out (length out - 1) d).count = ap count_in (copies_at_place out (length out - 1) d k v merged.rises lt here) ∙ counted_at (get_or out (length out - 1) d) positive in
                let new : count_in (copies_among (live (slice_set out (length out - 1) z)) k v) ≡ z.count = ap count_in (now ∙ cond-true (is_item k v y) (copies_of z) (copies_among (live out) k v) is) ∙ counted_at z (omega arith) in
                omega (arith, more, old, new, was)
            | false ↦ λ isnt. ap count_in (now ∙ cond-false (is_item k v y) (copies_of z) (copies_among (live out) k v) isnt) ∙ was ∙ sym (counts_other cs xs y k v isnt)
          ] refl

      pub merged_more : IsMerged (xs ++ y ∷ []) (slice_set out (length out - 1) (with_chunk (get_or out (length out - 1) d) y.chunk))
      unfolding more_counts old_each chunk_less name z o n fits_new
      merged_more =
          let i = length out - 1 in
          let lt : i < length out = omega (arith, some) in
          let m : length (slice_set out i z) ≡ length out = length-set out i z in
          let more = merged.no_more in
          let each = old_each in
          let most = each.most in
          let less = chunk_less in
          let fits = fits_new in
          record {
            rises = rises_set out i z d refl merged.rises;
            each = All-set IsCounted out i z (record { some = omega arith; most = omega (arith, most, less); chunk = fits.chunk; untold = each.untold }) merged.each;
            counts = more_counts;
            some = λ _. omega (arith, m, some);
            no_more = omega (arith, m, n, more);
            last = λ e _.
                let a : get_or (slice_set out i z) (length (slice_set out i z) - 1) e ≡ z = ap (λ (l : ℕ). get_or (slice_set out i z) (l - 1) e) m ∙ get_or-set_same out i z e lt in
                let b : get_or (xs ++ y ∷ []) (length (xs ++ y ∷ []) - 1) e ≡ y = get_or_push xs y e (length (xs ++ y ∷ []) - 1) (omega (arith, n)) in
                record { key = ap (λ (w : NameItem). w.key) a ∙ name.0 ∙ sym (ap (λ (w : NameItem). w.key) b); version = ap (λ (w : NameItem). w.version) a ∙ name.1 ∙ sym (ap (λ (w : NameItem). w.version) b); chunk = ap (λ (w : NameItem). w.chunk) a ∙ sym (ap (λ (w : NameItem). w.chunk) b) };
          }

    -- in the same chunk
    module _ (again : (get_or out (length out - 1) d).chunk ≡ y.chunk) where
      had : has_note xs y.key y.version y.chunk ≡ true
      unfolding last name o x there
      had =
          let e : is_item y.key y.version (get_or xs (length xs - 1) d) ≡ true = (λ i. name_eq ((sym last.key ∙ name.0) i, (sym last.version ∙ name.1) i) (y.key, y.version)) ∙ name_same y.key y.version in
          let j : (get_or xs (length xs - 1) d).chunk ≡ y.chunk = sym last.chunk ∙ again in
          list_any_at (is_note y.key y.version y.chunk) xs (length xs - 1) d (omega (arith, there)) (and_from (is_item y.key y.version (get_or xs (length xs - 1) d)) ((get_or xs (length xs - 1) d).chunk == y.chunk) e (eq-eqb (get_or xs (length xs - 1) d).chunk y.chunk j))

      pub merged_same : IsMerged (xs ++ y ∷ []) out
      unfolding had was_at n name o
      merged_same =
          let more = merged.no_more in
          record {
            rises = merged.rises;
            each = merged.each;
            counts = λ cs are k v. merged.counts cs (was_at cs are) k v ∙ sym (counts_again cs xs y had k v);
            some = λ _. some;
            no_more = omega (arith, n, more);
            last = λ e _.
                let a : get_or out (length out - 1) e ≡ get_or out (length out - 1) d = get_or_default out (length out - 1) e d (omega (arith, some)) in
                let b : get_or (xs ++ y ∷ []) (length (xs ++ y ∷ []) - 1) e ≡ y = get_or_push xs y e (length (xs ++ y ∷ []) - 1) (omega (arith, n)) in
                record { key = ap (λ (w : NameItem). w.key) a ∙ name.0 ∙ sym (ap (λ (w : NameItem). w.key) b); version = ap (λ (w : NameItem). w.version) a ∙ name.1 ∙ sym (ap (λ (w : NameItem). w.version) b); chunk = ap (λ (w : NameItem). w.chunk) a ∙ again ∙ sym (ap (λ (w : NameItem). w.chunk) b) };
          }

-- A write among the first ones of a list.
pub take_write : (xs : List NameItem) (i n : ℕ) (z : NameItem) → i < n → take n (slice_set xs i z) ≡ slice_set (take n xs) i z
take_write [] i zero z lt = refl
take_write [] i (suc n) z lt = refl
take_write (x ∷ xs) i zero z lt = absurd (omega (arith, lt))
take_write (x ∷ xs) zero (suc n) z lt = refl
take_write (x ∷ xs) (suc i) (suc n) z lt = ap (λ (l : List NameItem). x ∷ l) (take_write xs i n z (omega (arith, lt)))

-- no notes
pub merged_none : IsMerged [] []
merged_none = record {
  rises = tt;
  each = λ j d lt. absurd (omega (arith, lt));
  counts = λ cs are k v. sym (count_none cs);
  some = λ lt. absurd (omega (arith, lt));
  no_more = omega arith;
  last = λ d lt. absurd (omega (arith, lt));
} where
  count_none : (cs : List LogChunk) → count_by (λ (c : LogChunk). false) cs ≡ 0
  count_none [] = refl
  count_none (c ∷ cs) = let a = sum_by-cons (λ (x : LogChunk). 0) c cs in let b = count_none cs in omega (arith, a, b)
