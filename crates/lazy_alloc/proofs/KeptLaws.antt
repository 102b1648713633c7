-- Counts and chains stay those of the form.
use Rattle.std.proofs.Common.{◌≡◌, ◌≢◌, ⊎_elim, ℕ, ◌+◌, ◌-◌, ◌*◌, ◌/◌, ◌^◌, ◌≤◌, ◌<◌, ◌==◌, ◌&&◌, ◌||◌, not, Bool, true, false, List, length, get_or, set, replicate, Option, Some, None, refl, sym, ◌∙◌, ap, subst, arith}
use Rattle.std.specs.Prelude.{is_some}
use Rattle.std.proofs.Math.Nat.{mul-le-mul}
use Rattle.std.proofs.lemmas.Bool.{cases_eq, cases_lt, both_ways, eq-eqb, ne_eqb, and_right}
use Rattle.std.proofs.lemmas.List.{length-set, get_or-set_same, get_or-set_other, get_or-replicate, get_or_past, length-replicate}
use Rattle.chunk_map.specs.declared.layouts.Geometry.{Geometry}
use Rattle.chunk_map.specs.Layouts.{IsLayout, is_class}
use Rattle.chunk_map.proofs.Clients.{numbers_of}
use Rattle.store_image.specs.Parts.{chunk_units, unit_at}
use Rattle.lazy_alloc.specs.Bits.{has, has_bit}
use Rattle.lazy_alloc.specs.Chains.{IsLinked, Adds, Removes, Same, Lacks, LeastFrom, link_at}
use Rattle.lazy_alloc.specs.Sets.{class_at, chunk_class, block_is_used, is_free_block, free_block_count, blocks_in, part_unit}
use Rattle.lazy_alloc.specs.Steps.{LowestIn}
use Rattle.lazy_alloc.specs.Form.{room_words, chunk_in, bit_of, class_in, class_of_block, is_full, is_open, sets_of, IsForm, IsKept}
use Rattle.lazy_alloc.proofs.BitLaws.{and_true}
use Rattle.lazy_alloc.proofs.CountLaws.{count_small, count_none}
use Rattle.lazy_alloc.proofs.SetLaws.{one_less, rest_same, is_free, free_block, blocks_same}
use Rattle.lazy_alloc.proofs.CutLaws.{cut_count, cut_others}
use Rattle.lazy_alloc.proofs.FormLaws.{are_sets, class_at_is, class_is, block_lies, class_bounds, empty_form, no_class_at, no_class as no_class_of}
use Rattle.lazy_alloc.proofs.StepLaws.{marked_form, marked_used, cut_form, cut_here, cut_other, cuts_chunk}
use Rattle.lazy_alloc.proofs.PlaceLaws.{Lies, block_number, block_fits, blocks_fit}
use Rattle.lazy_alloc.proofs.BlockLaws.{own_chunk, free_there}
use Rattle.lazy_alloc.proofs.OpenLaws.{open_is, open_parts, open_same, closed, closed_full, not_full, some_unset, units_some, apart, open_free, blocks_some, class_bound, first_bit}

-- counts of blocks are small
pub count_fits : (l : Geometry) (part free due : ℕ) (classes : List (Option ℕ)) (bits : List ℕ) (c : ℕ) → IsLayout l → free_block_count (sets_of l part free due classes bits) c ≤ 1048576
count_fits l part free due classes bits c rules =
    let n = numbers_of l rules in
    let size = n.size.1 in
    let small : l.chunks * chunk_units l ≤ 64 * 16384 = mul-le-mul {n₁ = l.chunks} {m₁ = chunk_units l} {n₂ = 64} {m₂ = 16384} n.chunks_high (omega (arith, size)) in
    let le = count_small (is_free_block (sets_of l part free due classes bits) c) (part_unit (sets_of l part free due classes bits)) (l.chunks * chunk_units l) in
    omega (arith, small, le)

-- the free and the due chunks don't matter
pub kept_again : (l : Geometry) (part free due free' due' : ℕ) (classes : List (Option ℕ)) (bits counts : List ℕ) (firsts nexts : List (Option ℕ)) → IsKept l part free due classes bits counts firsts nexts → IsForm l part free' due' classes bits → IsKept l part free' due' classes bits counts firsts nexts
kept_again l part free due free' due' classes bits counts firsts nexts is form = record {
  form = form;
  counts_many = is.counts_many;
  counted = λ c le. is.counted c le ∙ sym (blocks_same (sets_of l part free due classes bits) (sets_of l part free' due' classes bits) c (record { layout_is = refl; part_is = refl }) (λ j. class_is l part free' due' classes bits form j ∙ sym (class_is l part free due classes bits is.form j)) (λ q. refl));
  firsts_many = is.firsts_many;
  nexts_many = is.nexts_many;
  linked = is.linked;
}

module _ (l : Geometry) (part free due : ℕ) (classes : List (Option ℕ)) (bits counts : List ℕ) (firsts nexts : List (Option ℕ)) (is : IsKept l part free due classes bits counts firsts nexts) where
  module _ (p c : ℕ) (at : class_of_block l part classes p ≡ Some c) where
    lies : Lies l part (class_in classes) p c
    lies = block_lies l part free due classes bits is.form p c at

    class : class_in classes (chunk_in l p) ≡ Some c
    class = lies.class_is

    pub class_le : c ≤ 12
    class_le = (class_bounds l part free due classes bits is.form (chunk_in l p) c class).1

    pub class_ge : 1 ≤ c
    class_ge = (class_bounds l part free due classes bits is.form (chunk_in l p) c class).0

    pub chunk_low : chunk_in l p < l.chunks
    chunk_low = lies.within

    class_there : class_at (sets_of l part free due classes bits) p ≡ Some c
    class_there = class_at_is l part free due classes bits is.form p ∙ at

    unlike : (d : ℕ) → d ≢ c → (bs : List ℕ) → is_open l classes bs d (chunk_in l p) ≡ false
    unlike d ne bs = closed l classes bs d (chunk_in l p) (λ e. ne (let two : Some d ≡ Some c = sym e ∙ class in cc two))

    -- another chunk is open as before
    others : (bits' : List ℕ) (f : Bool → Bool → Bool) → ((b : Bool) → f false b ≡ b) → ((i : ℕ) → has_bit bits' i ≡ f (i == bit_of l p c) (has_bit bits i)) → (d i : ℕ) → ((d ≡ c) × (i ≡ chunk_in l p) → ⊥) → is_open l classes bits' d i ≡ is_open l classes bits d i
    others bits' f keeps each d i ne = ⊎_elim
        (λ here. let off : d ≢ c = λ same. ne (same, here) in ap (is_open l classes bits' d) here ∙ unlike d off bits' ∙ sym (ap (is_open l classes bits d) here ∙ unlike d off bits))
        (λ away. open_same l classes classes bits bits' d i refl (λ own b lt. each (64 * (i * room_words l) + b) ∙ ap (λ (t : Bool). f t (has_bit bits (64 * (i * room_words l) + b))) (ne_eqb (64 * (i * room_words l) + b) (bit_of l p c) (apart l part free due classes bits is.form p c at i d b own lt away)) ∙ keeps (has_bit bits (64 * (i * room_words l) + b))))
        (cases_eq i (chunk_in l p))

    pub full_lacks : is_full l bits (chunk_in l p) c ≡ true → Lacks firsts nexts (chunk_in l p)
    full_lacks full = record {
      has = is_open l classes bits;
      linked = is.linked;
      lacks = λ d. ⊎_elim (λ same. ap (λ (x : ℕ). is_open l classes bits x (chunk_in l p)) same ∙ closed_full l classes bits c (chunk_in l p) full) (λ ne. unlike d ne bits) (cases_eq d c);
    }

    same_open : (old new : ℕ → ℕ → Bool) → old c (chunk_in l p) ≡ true → new c (chunk_in l p) ≡ true → ((d i : ℕ) → ((d ≡ c) × (i ≡ chunk_in l p) → ⊥) → new d i ≡ old d i) → (d i : ℕ) → new d i ≡ old d i
    same_open old new was now rest d i = ⊎_elim
        (λ same. ⊎_elim (λ here. (λ t. new (same t) (here t)) ∙ now ∙ sym ((λ t. old (same t) (here t)) ∙ was)) (λ away. rest d i (λ both. away both.1)) (cases_eq i (chunk_in l p)))
        (λ off. rest d i (λ both. off both.0)) (cases_eq d c)

    -- a free block is allocated
    module _ (unused : block_is_used (sets_of l part free due classes bits) p ≡ false) where
      free_now : is_free_block (sets_of l part free due classes bits) c p ≡ true
      free_now = is_free (sets_of l part free due classes bits) c p class_there unused

      pub was_open : is_open l classes bits c (chunk_in l p) ≡ true
      was_open = open_free l part free due classes bits is.form c p free_now class

      pub some_left : (bits' : List ℕ) (long : length bits' ≡ length bits) (each : (i : ℕ) → has_bit bits' i ≡ (i == bit_of l p c || has_bit bits i)) → 1 ≤ get_or counts c 0
      some_left bits' long each = let n = is.counted c class_le in let less = less_by bits' long each in omega (arith, n, less)
        where
          less_by : (bits' : List ℕ) (long : length bits' ≡ length bits) (each : (i : ℕ) → has_bit bits' i ≡ (i == bit_of l p c || has_bit bits i)) → free_block_count (sets_of l part free due classes bits) c ≡ free_block_count (sets_of l part free due classes bits') c + 1
          less_by bits' long each =
              let used = marked_used l part free due classes bits bits' is.form p c at (λ x b. x || b) (λ b. refl) long each in
              one_less (sets_of l part free due classes bits) (sets_of l part free due classes bits') p c (are_sets l part free due classes bits is.form) (record { layout_is = refl; part_is = refl }) (λ j. refl) class_there unused
              (used p ∙ ap (λ (t : Bool). t || block_is_used (sets_of l part free due classes bits) p) (eq-eqb p p refl)) (λ q ne. used q ∙ ap (λ (t : Bool). t || block_is_used (sets_of l part free due classes bits) q) (ne_eqb q p ne))

      pub kept_marked : (bits' counts' : List ℕ) (firsts' nexts' : List (Option ℕ)) (long : length bits' ≡ length bits) (each : (i : ℕ) → has_bit bits' i ≡ (i == bit_of l p c || has_bit bits i)) → counts' ≡ set counts c (get_or counts c 0 - 1)
          → length firsts' ≡ length firsts → length nexts' ≡ length nexts
          → ((has has' : ℕ → ℕ → Bool) → IsLinked firsts nexts has → (is_full l bits' (chunk_in l p) c ≡ true → Removes has has' c (chunk_in l p)) → (is_full l bits' (chunk_in l p) c ≡ false → Same has has') → IsLinked firsts' nexts' has')
          → IsKept l part free due classes bits' counts' firsts' nexts'
      kept_marked bits' counts' firsts' nexts' long each is_counts fl nl chained =
          let used = marked_used l part free due classes bits bits' is.form p c at (λ x b. x || b) (λ b. refl) long each in
          let S = sets_of l part free due classes bits in
          let S' = sets_of l part free due classes bits' in
          let are = are_sets l part free due classes bits is.form in
          let now : block_is_used S' p ≡ true = used p ∙ ap (λ (t : Bool). t || block_is_used S p) (eq-eqb p p refl) in
          let rest : (q : ℕ) → q ≢ p → block_is_used S' q ≡ block_is_used S q = λ q ne. used q ∙ ap (λ (t : Bool). t || block_is_used S q) (ne_eqb q p ne) in
          let less = one_less S S' p c are (record { layout_is = refl; part_is = refl }) (λ j. refl) class_there unused now rest in
          let low : c < length counts = (let m = is.counts_many in let le = class_le in omega arith) in
          let away = others bits' (λ x b. x || b) (λ b. refl) each in
          record {
            form = marked_form l part free due classes bits bits' is.form p c at (λ x b. x || b) (λ b. refl) long each;
            counts_many = ap (length {A = ℕ}) is_counts ∙ length-set counts c (get_or counts c 0 - 1) ∙ is.counts_many;
            counted = λ d le. ap (λ (ns : List ℕ). get_or ns d 0) is_counts ∙ ⊎_elim
                (λ same. let n = is.counted c class_le in ap (λ (x : ℕ). get_or (set counts c (get_or counts c 0 - 1)) x 0) same ∙ get_or-set_same counts c (get_or counts c 0 - 1) 0 low ∙ (let z : get_or counts c 0 - 1 ≡ free_block_count S' c = omega (arith, n, less) in z) ∙ ap (free_block_count S') (sym same))
                (λ ne. get_or-set_other counts c d (get_or counts c 0 - 1) 0 ne ∙ is.counted d le ∙ sym (rest_same S S' p c are (record { layout_is = refl; part_is = refl }) (λ j. refl) class_there unused now rest d ne))
                (cases_eq d c);
            firsts_many = fl ∙ is.firsts_many;
            nexts_many = nl ∙ is.nexts_many;
            linked = chained (is_open l classes bits) (is_open l classes bits') is.linked
                (λ full. record { was = was_open; now = closed_full l classes bits' c (chunk_in l p) full; others = away })
                (λ open_still. same_open (is_open l classes bits) (is_open l classes bits') was_open (open_is l classes bits' c (chunk_in l p) class open_still) away);
          }

    -- an allocated block is freed
    module _ (in_use : block_is_used (sets_of l part free due classes bits) p ≡ true) (bits' : List ℕ) (long : length bits' ≡ length bits) (each : (i : ℕ) → has_bit bits' i ≡ (has_bit bits i && not (i == bit_of l p c))) where
      form' : IsForm l part free due classes bits'
      form' = marked_form l part free due classes bits bits' is.form p c at (λ x b. b && not x) (λ b. and_true b true refl) long each

      now_open : is_open l classes bits' c (chunk_in l p) ≡ true
      now_open = open_is l classes bits' c (chunk_in l p) class (not_full l bits' (chunk_in l p) c ((unit_at l p - 1) / 2 ^ c) (block_number l part (class_in classes) p c lies)
          (each (bit_of l p c) ∙ and_right (has_bit bits (bit_of l p c)) (not (bit_of l p c == bit_of l p c)) (ap not (eq-eqb (bit_of l p c) (bit_of l p c) refl))))

      pub kept_released : (counts' : List ℕ) (firsts' nexts' : List (Option ℕ)) → counts' ≡ set counts c (get_or counts c 0 + 1) → length firsts' ≡ length firsts → length nexts' ≡ length nexts
          → ((has has' : ℕ → ℕ → Bool) → IsLinked firsts nexts has → (is_full l bits (chunk_in l p) c ≡ true → Adds has has' c (chunk_in l p)) → (is_full l bits (chunk_in l p) c ≡ false → Same has has') → IsLinked firsts' nexts' has')
          → IsKept l part free due classes bits' counts' firsts' nexts'
      kept_released counts' firsts' nexts' is_counts fl nl chained =
          let S = sets_of l part free due classes bits in
          let S' = sets_of l part free due classes bits' in
          let used = marked_used l part free due classes bits bits' is.form p c at (λ x b. b && not x) (λ b. and_true b true refl) long each in
          let are' = are_sets l part free due classes bits' form' in
          let there' : class_at S' p ≡ Some c = class_at_is l part free due classes bits' form' p ∙ at in
          let unused' : block_is_used S' p ≡ false = used p ∙ and_right (block_is_used S p) (not (p == p)) (ap not (eq-eqb p p refl)) in
          let rest : (q : ℕ) → q ≢ p → block_is_used S q ≡ block_is_used S' q = λ q ne. sym (used q ∙ and_true (block_is_used S q) (not (q == p)) (ap not (ne_eqb q p ne))) in
          let less = one_less S' S p c are' (record { layout_is = refl; part_is = refl }) (λ j. refl) there' unused' in_use rest in
          let low : c < length counts = (let m = is.counts_many in let le = class_le in omega arith) in
          let away = others bits' (λ x b. b && not x) (λ b. and_true b true refl) each in
          record {
            form = form';
            counts_many = ap (length {A = ℕ}) is_counts ∙ length-set counts c (get_or counts c 0 + 1) ∙ is.counts_many;
            counted = λ d le. ap (λ (ns : List ℕ). get_or ns d 0) is_counts ∙ ⊎_elim
                (λ same. let n = is.counted c class_le in ap (λ (x : ℕ). get_or (set counts c (get_or counts c 0 + 1)) x 0) same ∙ get_or-set_same counts c (get_or counts c 0 + 1) 0 low ∙ (let z : get_or counts c 0 + 1 ≡ free_block_count S' c = omega (arith, n, less) in z) ∙ ap (free_block_count S') (sym same))
                (λ ne. get_or-set_other counts c d (get_or counts c 0 + 1) 0 ne ∙ is.counted d le ∙ rest_same S' S p c are' (record { layout_is = refl; part_is = refl }) (λ j. refl) there' unused' in_use rest d ne)
                (cases_eq d c);
            firsts_many = fl ∙ is.firsts_many;
            nexts_many = nl ∙ is.nexts_many;
            linked = chained (is_open l classes bits) (is_open l classes bits') is.linked
                (λ full. record { was = λ d. ⊎_elim (λ same. ap (λ (x : ℕ). is_open l classes bits x (chunk_in l p)) same ∙ closed_full l classes bits c (chunk_in l p) full) (λ ne. unlike d ne bits) (cases_eq d c); now = now_open; others = away })
                (λ open_before. same_open (is_open l classes bits) (is_open l classes bits') (open_is l classes bits c (chunk_in l p) class open_before) now_open away);
          }

  -- a chunk that is not open has no free block, and one that is has one
  pub closed_none : (c q : ℕ) → is_open l classes bits c (chunk_in l q) ≡ false → is_free_block (sets_of l part free due classes bits) c q ≡ false
  closed_none c q no_room = by (is_free_block (sets_of l part free due classes bits) c q) refl
    where
      by : (t : Bool) → is_free_block (sets_of l part free due classes bits) c q ≡ t → t ≡ false
      by false e = refl
      by true e = absurd (
          let at : class_of_block l part classes q ≡ Some c = sym (class_at_is l part free due classes bits is.form q) ∙ (free_block (sets_of l part free due classes bits) c q e).0 in
          both_ways (is_open l classes bits c (chunk_in l q)) no_room (open_free l part free due classes bits is.form c q e (block_lies l part free due classes bits is.form q c at).class_is)
          )

  pub open_lowest : (c j : ℕ) (o : Option ℕ) → j < l.chunks → is_open l classes bits c j ≡ true → LowestIn (sets_of l part free due classes bits) c j o → is_some o ≡ true
  open_lowest c j (Some p) lt open_now lowest = refl
  open_lowest c j None lt open_now lowest = absurd (
      let parts = open_parts l classes bits c j open_now in
      let u = some_unset l bits j c parts.1 in
      let p = 16 + (part * l.chunks + j) * chunk_units l + (1 + u.0 * 2 ^ c) in
      let fits = block_fits l c u.0 (blocks_in l c) u.1 (blocks_fit l c (units_some l part free due classes bits is.form)) in
      both_ways (is_free_block (sets_of l part free due classes bits) c p) (lowest p (own_chunk l part free due classes bits is.form j c parts.0 u.0 p lt fits u.2 refl)) (free_there l part free due classes bits is.form j c parts.0 u.0 p lt fits u.2 refl)
      )

  -- a chunk is cut
  module _ (due' j c : ℕ) (on : Bool) (lt : j < l.chunks) (taken : has free j ≡ false) (none : class_in classes j ≡ None) (ok : is_class l c ≡ true) (each : (i : ℕ) → has due' i ≡ ((i == j && on) || has due i)) where
    not_yet : (d : ℕ) → is_open l classes bits d j ≡ false
    not_yet d = closed l classes bits d j (λ e. let two : None ≡ Some d = sym none ∙ e in cc two)

    pub uncut_lacks : Lacks firsts nexts j
    uncut_lacks = record { has = is_open l classes bits; linked = is.linked; lacks = not_yet }

    pub kept_cut : (counts' : List ℕ) (firsts' nexts' : List (Option ℕ)) → counts' ≡ set counts c (get_or counts c 0 + blocks_in l c) → length firsts' ≡ length firsts → length nexts' ≡ length nexts
        → ((has has' : ℕ → ℕ → Bool) → IsLinked firsts nexts has → Adds has has' c j → IsLinked firsts' nexts' has') → IsKept l part free due' (set classes j (Some c)) bits counts' firsts' nexts'
    kept_cut counts' firsts' nexts' is_counts fl nl chained =
        let S = sets_of l part free due classes bits in
        let S' = sets_of l part free due' (set classes j (Some c)) bits in
        let form' = cut_form l part free free due due' classes bits is.form j c on lt taken none ok each in
        let here = cut_here l part free free due due' classes bits is.form j c on lt taken none ok each in
        let cuts = cuts_chunk l part free due due' classes bits is.form j c on lt taken none ok each in
        let are = are_sets l part free due classes bits is.form in
        let are' = are_sets l part free due' (set classes j (Some c)) bits form' in
        let uncut : chunk_class S j ≡ None = class_is l part free due classes bits is.form j ∙ none in
        let more = cut_count S S' j c on are are' lt uncut ok cuts in
        let le12 = class_bound l c ok in
        let low : c < length counts = (let m = is.counts_many in omega arith) in
        let first = first_bit l part free due classes bits is.form j none in
        record {
          form = form';
          counts_many = ap (length {A = ℕ}) is_counts ∙ length-set counts c (get_or counts c 0 + blocks_in l c) ∙ is.counts_many;
          counted = λ d le. ap (λ (ns : List ℕ). get_or ns d 0) is_counts ∙ ⊎_elim
              (λ same. let n = is.counted c le12 in ap (λ (x : ℕ). get_or (set counts c (get_or counts c 0 + blocks_in l c)) x 0) same ∙ get_or-set_same counts c (get_or counts c 0 + blocks_in l c) 0 low ∙ (let z : get_or counts c 0 + blocks_in l c ≡ free_block_count S' c = omega (arith, n, more) in z) ∙ ap (free_block_count S') (sym same))
              (λ ne. get_or-set_other counts c d (get_or counts c 0 + blocks_in l c) 0 ne ∙ is.counted d le ∙ sym (cut_others S S' j c on are are' lt uncut ok cuts d ne))
              (cases_eq d c);
          firsts_many = fl ∙ is.firsts_many;
          nexts_many = nl ∙ is.nexts_many;
          linked = chained (is_open l classes bits) (is_open l (set classes j (Some c)) bits) is.linked (record {
            was = not_yet;
            now = open_is l (set classes j (Some c)) bits c j here (not_full l bits j c 0 (blocks_some l c ok) first);
            others = λ d i ne. ⊎_elim
                (λ same. let off : d ≢ c = λ e. ne (e, same) in
                closed l (set classes j (Some c)) bits d i (λ e. off (let two : Some d ≡ Some c = sym e ∙ ap (class_in (set classes j (Some c))) same ∙ here in cc two)) ∙ sym (ap (is_open l classes bits d) same ∙ not_yet d))
                (λ away. open_same l classes (set classes j (Some c)) bits bits d i (cut_other l part free free due due' classes bits is.form j c on lt taken none ok each i away) (λ own b less. refl))
                (cases_eq i j);
          });
        }

-- with nothing in it
module _ (l : Geometry) (part n m : ℕ) (classes : List (Option ℕ)) (bits counts : List ℕ) (firsts nexts : List (Option ℕ)) (rules : IsLayout l) (low : part < l.cores) (cs : classes ≡ replicate n None) (bs : bits ≡ replicate m 0) (many : n ≡ l.chunks) (long : m ≡ l.chunks * room_words l)
    (ns : counts ≡ replicate 13 0) (fs : firsts ≡ replicate 13 None) (xs : nexts ≡ replicate n None) where
  no_class : (j : ℕ) → class_in classes j ≡ None
  no_class j = no_class_at l part n m classes bits rules low cs bs many long j

  no_link : (k i : ℕ) → link_at (replicate k None) i ≡ None
  no_link k i = let z : Option ℕ = None in ⊎_elim (λ lt. get_or-replicate k i z z lt) (λ ge. get_or_past (replicate k z) i z (let size = length-replicate k z in omega (arith, size, ge))) (cases_lt i k)

  nothing : (d j : ℕ) → is_open l classes bits d j ≡ false
  nothing d j = closed l classes bits d j (λ e. let two : None ≡ Some d = sym (no_class j) ∙ e in cc two)

  no_free : (c : ℕ) → free_block_count (sets_of l part 0 0 classes bits) c ≡ 0
  no_free c = count_none (is_free_block (sets_of l part 0 0 classes bits) c) (part_unit (sets_of l part 0 0 classes bits)) (l.chunks * chunk_units l) (λ q ge lt. none q (is_free_block (sets_of l part 0 0 classes bits) c q) refl)
    where
      none : (q : ℕ) (b : Bool) → is_free_block (sets_of l part 0 0 classes bits) c q ≡ b → b ≡ false
      none q false e = refl
      none q true e = absurd (
          let f = free_block (sets_of l part 0 0 classes bits) c q e in
          let no = no_class_of l part 0 0 classes bits (empty_form l part n m classes bits rules low cs bs many long) q (no_class (chunk_in l q)) in
          let two : None ≡ Some c = sym no ∙ f.0 in cc two
          )

  pub kept_empty : IsKept l part 0 0 classes bits counts firsts nexts
  kept_empty = record {
    form = empty_form l part n m classes bits rules low cs bs many long;
    counts_many = (let z : ℕ = 0 in ap length ns ∙ length-replicate 13 z);
    counted = λ c le. (let z : ℕ = 0 in ap (λ (ks : List ℕ). get_or ks c 0) ns ∙ get_or-replicate 13 c z z (omega arith) ∙ sym (no_free c));
    firsts_many = (let z : Option ℕ = None in ap length fs ∙ length-replicate 13 z);
    nexts_many = (let z : Option ℕ = None in ap length xs ∙ length-replicate n z ∙ many);
    linked = record {
      first = λ c lt. subst (λ (o : Option ℕ). LeastFrom (is_open l classes bits c) 0 o) (sym (ap (λ (x : List (Option ℕ)). link_at x c) fs ∙ no_link 13 c)) (λ k le. nothing c k);
      next = λ c j e. absurd (both_ways (is_open l classes bits c j) (nothing c j) e);
      one = λ c d j e q. absurd (both_ways (is_open l classes bits c j) (nothing c j) e);
      within = λ c j e. absurd (both_ways (is_open l classes bits c j) (nothing c j) e);
    };
  }
