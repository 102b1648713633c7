-- What a core begins with: its allocator and its index.
use Rattle.std.proofs.Common.{◌≡◌, ℕ, ◌+◌, ◌*◌, ◌/◌, ◌%◌, ◌<◌, ◌==◌, ◌&&◌, not, leb, true, false, cond, List, length, Option, Some, None, refl, sym, ◌∙◌, ap, arith}
use Rattle.std.specs.Prelude.{slice_get, is_none}
use Rattle.std.specs.Option.{option_and_then}
use Rattle.std.specs.List.{list_any}
use Rattle.std.proofs.lemmas.Bool.{and_parts, and_from, eqb-true}
use Rattle.chunk_map.specs.declared.layouts.Geometry.{Geometry}
use Rattle.chunk_map.specs.declared.heads.Head.{Head}
use Rattle.chunk_map.specs.declared.heads.Head.TheVariants.{Free, Log, Data}
use Rattle.std.specs.Prelude.{Result, Ok, Err}
use Rattle.chunk_map.specs.Layouts.{IsLayout, chunk_first, chunk_words, head_at, owner}
use Rattle.store_image.specs.Parts.{all_entries, chunk_at, unit_at, class_behind, block_class, value_by_class}
use Rattle.store_image.specs.Facts.{KeepsRules}
use Rattle.store_image.proofs.Clients.{layout_numbers}
use Rattle.lazy_alloc.specs.Heads.{is_free, class_in, is_free_there, class_there}
use Rattle.lazy_alloc.specs.Sets.{Sets, chunk_is_free, chunk_class, chunk_is_due, block_is_used, class_at, start_in}
use Rattle.recover.specs.declared.shares.Share.{Share}
use Rattle.recover.specs.Starts.{IsAllocatorOf, IsIndexOf}
use Rattle.recover.specs.Shares.{IsShare}
use Rattle.recover.specs.Heads.{AreHeads}
use Rattle.recover.proofs.HeadLaws.{has_head}

-- the index is that of the image
module _ (l : Geometry) (image : ℕ → ℕ) (c : ℕ) (share : Share) (is : IsShare l (all_entries l image) c share) where
  pub index_of : IsIndexOf l image c share.index
  index_of = record { others = is.others; known = is.known; standing = is.standing; room = is.room }

  -- and so is the allocator
  behind_is : (u : ℕ) (h : Result Head ℕ) → class_behind l u h ≡ option_and_then (start_in l u) (class_in h)
  behind_is u (Ok Free) = refl
  behind_is u (Ok (Log tail)) = refl
  behind_is u (Ok (Data class)) = refl
  behind_is u (Err rule) = refl

  some_class : (p : ℕ) (o : Option ℕ) (v : List ℕ) → value_by_class image p o ≡ Some v → not (is_none o) ≡ true
  some_class p None v held = absurd (cc held)
  some_class p (Some class) v held = refl

  module _ (layout : IsLayout l) (kept : KeepsRules l image) (heads : List Head) (count : length heads ≡ l.chunks) (are : AreHeads l image c heads) (a : Sets) (layout_is : a.layout ≡ l) (part_is : a.part ≡ c)
      (free : (j : ℕ) → chunk_is_free a j ≡ is_free_there (slice_get heads j)) (class : (j : ℕ) → chunk_class a j ≡ class_there (slice_get heads j)) (due : (j : ℕ) → chunk_is_due a j ≡ false)
      (used : (p : ℕ) → block_is_used a p ≡ (list_any (λ q. q == p) share.pointers.items && not (is_none (class_at a p)))) where
    free_is : (j : ℕ) → j < l.chunks → chunk_is_free a j ≡ is_free (head_at l image (chunk_first l c j))
    free_is j lt = let h = has_head l image c heads count are j lt in free j ∙ ap is_free_there h.1 ∙ ap is_free (sym h.2)

    class_is : (j : ℕ) → j < l.chunks → chunk_class a j ≡ class_in (head_at l image (chunk_first l c j))
    class_is j lt = let h = has_head l image c heads count are j lt in class j ∙ ap class_there h.1 ∙ ap class_in (sym h.2)

    class_here : (p : ℕ) → (leb 16 p && chunk_at l p / l.chunks == c) ≡ true → class_behind l (unit_at l p) (head_at l image (512 + chunk_at l p * chunk_words l)) ≡ option_and_then (start_in l (unit_at l p)) (chunk_class a (chunk_at l p % l.chunks))
    class_here p test =
        let part : chunk_at l p / l.chunks ≡ c = eqb-true (chunk_at l p / l.chunks) c (and_parts (leb 16 p) (chunk_at l p / l.chunks == c) test).1 in
        let many = (layout_numbers l layout).chunks in
        let low : chunk_at l p % l.chunks < l.chunks = omega (arith, many) in
        let split : l.chunks * (chunk_at l p / l.chunks) + chunk_at l p % l.chunks ≡ chunk_at l p = omega (arith, many) in
        let number : chunk_at l p ≡ c * l.chunks + chunk_at l p % l.chunks = sym split ∙ ap (λ n. l.chunks * n + chunk_at l p % l.chunks) part ∙ omega arith in
        ap (λ n. class_behind l (unit_at l p) (head_at l image (512 + n * chunk_words l))) number
        ∙ behind_is (unit_at l p) (head_at l image (chunk_first l c (chunk_at l p % l.chunks)))
        ∙ ap (option_and_then (start_in l (unit_at l p))) (sym (class_is (chunk_at l p % l.chunks) low))

    same_class : (p : ℕ) → block_class l image c p ≡ class_at a p
    same_class p = (elim (leb 16 p && chunk_at l p / l.chunks == c) as (λ b. (leb 16 p && chunk_at l p / l.chunks == c) ≡ b
        → cond b (class_behind l (unit_at l p) (head_at l image (512 + chunk_at l p * chunk_words l))) None ≡ cond b (option_and_then (start_in l (unit_at l p)) (chunk_class a (chunk_at l p % l.chunks))) None) [
          | true ↦ λ test. class_here p test
          | false ↦ λ test. refl
        ] refl)
        ∙ sym (λ i. cond (leb 16 p && chunk_at (layout_is i) p / (layout_is i).chunks == part_is i) (option_and_then (start_in (layout_is i) (unit_at (layout_is i) p)) (chunk_class a (chunk_at (layout_is i) p % (layout_is i).chunks))) None)

    pub allocator_of : IsAllocatorOf l image c a
    allocator_of = record {
      free = free_is;
      class = class_is;
      due = due;
      won = λ p t. (let w = is.points p (and_parts (list_any (λ q. q == p) share.pointers.items) (not (is_none (class_at a p))) (sym (used p) ∙ t)).0 in
          record { key = w.key; winner_is = w.winner_is; wins = w.wins; owned = w.owned; points = w.points });
      all = λ p w.
          let pointed : list_any (λ q. q == p) share.pointers.items ≡ true = is.pointed p (record { key = w.key; winner_is = w.winner_is; wins = w.wins; owned = w.owned; points = w.points }) in
          let holds = kept.holds w.key p w.winner_is w.wins w.points in
          let block : not (is_none (class_at a p)) ≡ true = ap (λ o. not (is_none o)) (sym (same_class p)) ∙ ap (λ n. not (is_none (block_class l image n p))) (sym w.owned) ∙ some_class p (block_class l image (owner l w.key) p) _ holds in
          used p ∙ and_from (list_any (λ q. q == p) share.pointers.items) (not (is_none (class_at a p))) pointed block;
    }
