-- A region is judged, and recovers, by the words in its length alone.
use Rattle.std.proofs.Common.{◌≡◌, ℕ, zero, suc, ◌+◌, ◌*◌, ◌/◌, ◌%◌, ◌^◌, ◌<◌, ◌≤◌, List, refl, sym, ◌∙◌, ap, arith, ◌==◌, ◌&&◌, true, false, cond, Option, Some, None, leb, ltb}
use Rattle.std.specs.Prelude.{option_map, is_none}
use Rattle.std.specs.Option.{option_or, option_and_then}
use Rattle.std.specs.List.{list_any}
use Rattle.std.proofs.lemmas.Bool.{and_parts, leb-true}
use Rattle.log_entry.specs.declared.entry.Body.{Body}
use Rattle.log_entry.specs.declared.entry.Body.TheVariants.{Pointer, Embedded, Tombstone}
use Rattle.chunk_map.specs.declared.layouts.Geometry.{Geometry}
use Rattle.store_image.specs.declared.types.PlacedEntry.{PlacedEntry}
use Rattle.chunk_map.specs.Layouts.{numbers, chunk_words, chunk_first, total_bytes, layout_rule, superblock_rule, layout_of, magic, owner, head_at, has_class}
use Rattle.store_image.specs.Parts.{part_entries, all_entries, chunk_at, unit_at, class_behind, block_class, value_in_block}
use Rattle.store_image.specs.Winners.{winner_in, winner, cell_by, recovered, keys_of}
use Rattle.store_image.specs.Soundness.{first_some, damaged, points_to, rule_behind, chunk_fault, clash_fault, pointer_rule, body_rule, winner_fault, block_fault, damage, fault_by, first_fault}
use Rattle.store_image.proofs.Places.{Numbers, layout_numbers, in_region, chunk_number, two_positive, pointed_chunk, word_within, superblock_facts}
use Rattle.store_image.proofs.BlockLaws.{held_same}
use Rattle.store_image.proofs.Local.{head_same, scan_same, part_same, over_numbers}

first_same : {Y : Type 0} (f g : ℕ → Option Y) (from n : ℕ) → ((k : ℕ) → from ≤ k → k < from + n → f k ≡ g k) → first_some f (numbers from n) ≡ first_some g (numbers from n)
first_same f g from zero same = refl
first_same f g from (suc n) same =
    let first : f from ≡ g from = same from (omega arith) (omega arith) in
    let rest : first_some f (numbers (suc from) n) ≡ first_some g (numbers (suc from) n) = first_same f g (suc from) n (λ k low high. same k (omega (arith, low)) (omega (arith, high))) in
    (λ t. option_or (first t) (rest t))

module _ (l : Geometry) (is : Numbers l) (i j : ℕ → ℕ) (same : (w : ℕ) → w < total_bytes l / 8 → i w ≡ j w) where
  room : 32 ≤ chunk_words l
  room = let s = is.size in omega (arith, s)

  in_chunk : (c n : ℕ) → c < l.cores → n < l.chunks → (k : ℕ) → k < chunk_words l → i (chunk_first l c n + k) ≡ j (chunk_first l c n + k)
  in_chunk c n low high k less = same (chunk_first l c n + k) (in_region l is (c * l.chunks + n) k (chunk_number l is c n low high) less)

  pub parts_agree : (c : ℕ) → c < l.cores → part_entries l i c ≡ part_entries l j c
  parts_agree c low = part_same l i j c room (λ n k high less. in_chunk c n low high k less)

  pub entries_agree : all_entries l i ≡ all_entries l j
  entries_agree = over_numbers (part_entries l i) (part_entries l j) 0 l.cores (λ c low high. parts_agree c (omega (arith, high)))

  chunks_agree : chunk_fault l i ≡ chunk_fault l j
  chunks_agree = first_same _ _ 0 l.cores (λ c low high. first_same _ _ 0 l.chunks (λ n low' high'.
      let here = in_chunk c n (omega (arith, high)) (omega (arith, high')) in
      let h = head_same l i j (chunk_first l c n) room here in
      let s = scan_same l i j (chunk_first l c n) room here in
      (λ t. option_map (damaged c n) (rule_behind l c (h t) (s t)))))

  -- of a pointer into part c
  module _ (c p : ℕ) (low : c < l.cores) where
    head_agrees : chunk_at l p < l.cores * l.chunks → head_at l i (512 + chunk_at l p * chunk_words l) ≡ head_at l j (512 + chunk_at l p * chunk_words l)
    head_agrees lt = head_same l i j (512 + chunk_at l p * chunk_words l) room (λ k less. same (512 + chunk_at l p * chunk_words l + k) (in_region l is (chunk_at l p) k lt less))

    pub class_agrees : block_class l i c p ≡ block_class l j c p
    class_agrees = elim (leb 16 p && (chunk_at l p / l.chunks == c)) as (λ b. (leb 16 p && (chunk_at l p / l.chunks == c)) ≡ b → cond b (class_behind l (unit_at l p) (head_at l i (512 + chunk_at l p * chunk_words l))) None ≡ cond b (class_behind l (unit_at l p) (head_at l j (512 + chunk_at l p * chunk_words l))) None) [
      | true ↦ λ e. ap (class_behind l (unit_at l p)) (head_agrees (pointed_chunk l is c p low e).1)
      | false ↦ λ e. refl
    ] refl

    -- each word of the block
    word_agrees : (class : ℕ) → block_class l j c p ≡ Some class → (k : ℕ) → k < 32 * 2 ^ class → i (32 * p + k) ≡ j (32 * p + k)
    word_agrees class e k less = same (32 * p + k) (word_within l is j c p low class e k less)

    pub rule_agrees : (es : List PlacedEntry) (k : ℕ) → pointer_rule i es k p (block_class l i c p) ≡ pointer_rule j es k p (block_class l j c p)
    rule_agrees es k = ap (pointer_rule i es k p) class_agrees ∙ by_class (block_class l j c p) refl where
      by_class : (o : Option ℕ) → block_class l j c p ≡ o → pointer_rule i es k p o ≡ pointer_rule j es k p o
      by_class None e = refl
      by_class (Some class) e =
          let z : 32 * p + 0 ≡ 32 * p = omega arith in
          let some : 0 < 32 * 2 ^ class = two_positive class in
          let n : i (32 * p) ≡ j (32 * p) = ap i (sym z) ∙ word_agrees class e 0 some ∙ ap j z in
          ap (λ x. cond (has_class x class) (cond (list_any (λ m. ltb m k && points_to p (winner_in m es)) (keys_of es)) (Some 11) None) (Some 10)) n

    pub held_agrees : value_in_block l i c p ≡ value_in_block l j c p
    held_agrees = held_same l i j c p class_agrees word_agrees

  owner_low : (k : ℕ) → owner l k < l.cores
  owner_low k = let some = is.cores in omega (arith, some)

  body_agrees : (es : List PlacedEntry) (k : ℕ) (b : Body) → body_rule l i es k b ≡ body_rule l j es k b
  body_agrees es k (Pointer p) = rule_agrees (owner l k) p (owner_low k) es k
  body_agrees es k (Embedded v) = refl
  body_agrees es k Tombstone = refl

  winner_agrees : (es : List PlacedEntry) (k : ℕ) (o : Option PlacedEntry) → winner_fault l i es k o ≡ winner_fault l j es k o
  winner_agrees es k None = refl
  winner_agrees es k (Some x) = ap (option_map (damaged x.core x.chunk)) (body_agrees es k x.entry.body)

  pub damage_agrees : damage l i ≡ damage l j
  damage_agrees =
      let es = entries_agree in
      let chunks = chunks_agree in
      let blocks : block_fault l i (all_entries l i) ≡ block_fault l j (all_entries l j) =
      ap (block_fault l i) es ∙ ap (λ f. first_some f (keys_of (all_entries l j))) (λ t k. winner_agrees (all_entries l j) k (winner_in k (all_entries l j)) t) in
      (λ t. option_or (chunks t) (option_or (clash_fault (es t)) (blocks t)))

  cell_agrees : (k : ℕ) (b : Body) → cell_by (value_in_block l i (owner l k)) b ≡ cell_by (value_in_block l j (owner l k)) b
  cell_agrees k (Pointer p) = held_agrees (owner l k) p (owner_low k)
  cell_agrees k (Embedded v) = refl
  cell_agrees k Tombstone = refl

  -- the recovered cells are the same too
  pub recovered_agrees : (k : ℕ) → recovered l i k ≡ recovered l j k
  recovered_agrees k = ap (λ es. option_and_then (λ x. cell_by (value_in_block l i (owner l k)) x.entry.body) (winner_in k es)) entries_agree ∙ by_winner (winner l j k) where
    by_winner : (o : Option PlacedEntry) → option_and_then (λ x. cell_by (value_in_block l i (owner l k)) x.entry.body) o ≡ option_and_then (λ x. cell_by (value_in_block l j (owner l k)) x.entry.body) o
    by_winner None = refl
    by_winner (Some x) = cell_agrees k x.entry.body

-- the superblock's words
module _ (bytes : ℕ) (i j : ℕ → ℕ) (same : (w : ℕ) → w < bytes / 8 → i w ≡ j w) where
  layouts_agree : 4096 ≤ bytes → layout_of i ≡ layout_of j
  layouts_agree low =
      let c = same 2 (omega (arith, low)) in
      let g = same 3 (omega (arith, low)) in
      let n = same 4 (omega (arith, low)) in
      let b = same 5 (omega (arith, low)) in
      (λ t. record { cores = c t; group = g t; chunks = n t; chunk_bytes = b t })

  rules_agree : superblock_rule bytes i ≡ superblock_rule bytes j
  rules_agree = elim (bytes % 8 == 0 && leb 4096 bytes && leb bytes 268439552) as (λ b. (bytes % 8 == 0 && leb 4096 bytes && leb bytes 268439552) ≡ b → cond b (rest i) (Some 1) ≡ cond b (rest j) (Some 1)) [
    | true ↦ λ e.
        let low = leb-true 4096 bytes (and_parts (bytes % 8 == 0) (leb 4096 bytes) (and_parts (bytes % 8 == 0 && leb 4096 bytes) (leb bytes 268439552) e).0).1 in
        let a = same 0 (omega (arith, low)) in
        let b = same 1 (omega (arith, low)) in
        let l = layouts_agree low in
        (λ t. cond (a t == magic && b t == 1) (cond (is_none (layout_rule (l t)) && bytes == total_bytes (l t)) None (Some 3)) (Some 2))
    | false ↦ λ e. refl
  ] refl
    where
      rest : (ℕ → ℕ) → Option ℕ
      rest image = cond (image 0 == magic && image 1 == 1) (cond (is_none (layout_rule (layout_of image)) && bytes == total_bytes (layout_of image)) None (Some 3)) (Some 2)

-- Images with the same words in the region's length are judged alike,
pub fault_agrees : (bytes : ℕ) (i j : ℕ → ℕ) → ((w : ℕ) → w < bytes / 8 → i w ≡ j w) → first_fault bytes i ≡ first_fault bytes j
unfolding first_fault
fault_agrees bytes i j same = ap (fault_by i) (rules_agree bytes i j same) ∙ by_rule (superblock_rule bytes j) refl where
  by_rule : (r : Option ℕ) → superblock_rule bytes j ≡ r → fault_by i r ≡ fault_by j r
  by_rule None e =
      let f = superblock_facts bytes j e in
      let l = layouts_agree bytes i j same f.0 in
      let total = f.2 in
      ap (λ l. damage l i) l ∙ damage_agrees (layout_of j) (layout_numbers (layout_of j) f.1) i j (λ w less. same w (omega (arith, total, less)))
  by_rule (Some r) e = refl

-- and recover alike.
pub cells_agree : (bytes : ℕ) (i j : ℕ → ℕ) → ((w : ℕ) → w < bytes / 8 → i w ≡ j w) → superblock_rule bytes j ≡ None → (k : ℕ) → recovered (layout_of i) i k ≡ recovered (layout_of j) j k
cells_agree bytes i j same e k =
    let f = superblock_facts bytes j e in
    let l = layouts_agree bytes i j same f.0 in
    let total = f.2 in
    ap (λ l. recovered l i k) l ∙ recovered_agrees (layout_of j) (layout_numbers (layout_of j) f.1) i j (λ w less. same w (omega (arith, total, less))) k
