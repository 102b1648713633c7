-- A block is put back, where there is one.
use Rattle.std.proofs.Common.{◌≡◌, ℕ, ◌==◌, not, true, false, Option, Some, None, refl, sym, ◌∙◌, ap, subst}
use Rattle.std.proofs.lemmas.Bool.{and_parts, and_from, eq-eqb, ne_eqb}
use Rattle.lazy_alloc.specs.Sets.{Sets, SameChunks, block_is_used, free_chunk_count}
use Rattle.core_worker.specs.Finishing.{PutsBackIf}

pub same_chunks : (a : Sets) → SameChunks a a
same_chunks a = record { layout_is = refl; part_is = refl; free = λ j. refl; classes = λ j. refl; due = λ j. refl }

pub put_chunks : (a b : Sets) (o : Option ℕ) → PutsBackIf a b o → SameChunks a b
put_chunks a b None p = subst (SameChunks a) (sym p) (same_chunks a)
put_chunks a b (Some r) p = p.chunks

pub put_count : (a b : Sets) (o : Option ℕ) → PutsBackIf a b o → free_chunk_count b ≡ free_chunk_count a
put_count a b None p = ap free_chunk_count p
put_count a b (Some r) p = p.chunk_count

pub put_less : (a b : Sets) (o : Option ℕ) → PutsBackIf a b o → (q : ℕ) → block_is_used b q ≡ true → block_is_used a q ≡ true
put_less a b None p q used = ap (λ (s : Sets). block_is_used s q) (sym p) ∙ used
put_less a b (Some r) p q used = (and_parts (block_is_used a q) (not (q == r)) (sym (p.used q) ∙ used)).0

pub put_gone : (a b : Sets) (o : Option ℕ) → PutsBackIf a b o → (q : ℕ) → o ≡ Some q → block_is_used b q ≡ true → ⊥
put_gone a b None p q e used = cc e
put_gone a b (Some r) p q e used =
    let same : r ≡ q = cc e in
    let off = (and_parts (block_is_used a q) (not (q == r)) (sym (p.used q) ∙ used)).1 in
    let on : not (q == r) ≡ false = ap not (eq-eqb q r (sym same)) in
    let both : true ≡ false = sym off ∙ on in cc both

pub put_kept : (a b : Sets) (o : Option ℕ) → PutsBackIf a b o → (q : ℕ) → block_is_used a q ≡ true → (o ≡ Some q → ⊥) → block_is_used b q ≡ true
put_kept a b None p q used off = ap (λ (s : Sets). block_is_used s q) p ∙ used
put_kept a b (Some r) p q used off = p.used q ∙ and_from (block_is_used a q) (not (q == r)) used (ap not (ne_eqb q r (λ e. off (ap Some (sym e)))))
