-- What a block that was taken changes of an allocator.
use Rattle.std.proofs.Common.{◌≡◌, ◌⊎◌, inl, inr, ⊎_elim, ℕ, ◌+◌, ◌%◌, ◌^◌, ◌≤◌, ◌==◌, ◌&&◌, ◌||◌, not, Bool, true, false, cond, Some, None, refl, sym, ◌∙◌, ap, subst, arith}
use Rattle.std.specs.Prelude.{is_some}
use Rattle.std.specs.Option.{option_and_then}
use Rattle.std.proofs.lemmas.Nat.{pow_pos}
use Rattle.std.proofs.lemmas.Bool.{and_parts, and_from, le-leb, eq-eqb, ne_eqb, eqb-true, eqb-false, or_cases, cases_eq}
use Rattle.log_entry.specs.declared.entry.Body.{Body}
use Rattle.log_entry.specs.declared.entry.Body.TheVariants as bodies
use Rattle.chunk_map.specs.Layouts.{is_class, has_class}
use Rattle.store_image.specs.Parts.{chunk_units, is_start}
use Rattle.lazy_alloc.specs.Sets.{Sets, AreSets, free_chunk_count, Takes, TakesBlock, Cuts, start_in, chunk_of, chunk_is_free, chunk_class, chunk_is_due, class_at, block_is_used}
use Rattle.lazy_alloc.specs.Form.{class_by}
use Rattle.lazy_alloc.proofs.Clients.{SamePart, same_part, class_same, free_block, lies_at, class_point, class_fits, placed_class}
use Rattle.core_worker.specs.KeyTies.{IsBlockFor}
use Rattle.core_worker.specs.OwnChunks.{IsFreeOrData, IsTaken}
use Rattle.core_worker.specs.Posting.{PointsNowhere}

-- The allocator has the block of a body more, of the class of a value of this length, where the body points to one.
pub record Allots (old new : Sets) (b : Body) (n : ℕ) : Type 0 where
  pub sets : AreSets new
  pub layout_is : new.layout ≡ old.layout
  pub part_is : new.part ≡ old.part
  pub still : (r k : ℕ) → IsBlockFor old r k → IsBlockFor new r k
  pub fresh : (q : ℕ) → b ≡ bodies.Pointer q → IsBlockFor new q n × (block_is_used old q ≡ false)
  pub only : (r : ℕ) → block_is_used new r ≡ true → (block_is_used old r ≡ true) ⊎ (b ≡ bodies.Pointer r)
  pub free : (j : ℕ) → chunk_is_free new j ≡ true → chunk_is_free old j ≡ true
  pub due : (j : ℕ) → chunk_is_due new j ≡ true → (chunk_is_due old j ≡ true) ⊎ (chunk_is_free old j ≡ true)
  pub cut : (j c : ℕ) → chunk_class new j ≡ Some c → chunk_is_due new j ≡ false → (chunk_class old j ≡ Some c) × (chunk_is_due old j ≡ false)
  pub chunk : (j : ℕ) → IsFreeOrData old j → IsFreeOrData new j
  pub few : free_chunk_count new ≤ free_chunk_count old
  pub taken : (j : ℕ) → IsTaken old j → IsTaken new j

pub allots_none : (a : Sets) (b : Body) (n : ℕ) → AreSets a → PointsNowhere b → Allots a a b n
allots_none a b n sets none = record {
  sets = sets;
  layout_is = refl;
  part_is = refl;
  still = λ r k is. is;
  fresh = λ q e. absurd (subst PointsNowhere e none);
  only = λ r used. inl used;
  free = λ j e. e;
  due = λ j e. inl e;
  cut = λ j c e d. (e, d);
  chunk = λ j e. e;
  few = omega arith;
  taken = λ j was. was;
}

or_false : (x y : Bool) → (x || y) ≡ false → (x ≡ false) × (y ≡ false)
or_false true y e = absurd (cc e)
or_false false y e = (refl, e)

module _ (old new : Sets) (sets : AreSets old) (sets' : AreSets new) (class q n : ℕ) (fits : is_class old.layout class ≡ true) (has : has_class n class ≡ true) where
  used_now : ((r : ℕ) → block_is_used new r ≡ (r == q || block_is_used old r)) → block_is_used new q ≡ true
  used_now used = used q ∙ ap (λ x. x || block_is_used old q) (eq-eqb q q refl)

  used_still : ((r : ℕ) → block_is_used new r ≡ (r == q || block_is_used old r)) → (r : ℕ) → block_is_used old r ≡ true → block_is_used new r ≡ true
  used_still used r e = used r ∙ by (r == q) e where
    by : (b : Bool) → block_is_used old r ≡ true → (b || block_is_used old r) ≡ true
    by true e = refl
    by false e = e

  only_new : ((r : ℕ) → block_is_used new r ≡ (r == q || block_is_used old r)) → (r : ℕ) → block_is_used new r ≡ true → (block_is_used old r ≡ true) ⊎ (bodies.Pointer q ≡ bodies.Pointer r)
  only_new used r e = ⊎_elim (λ here. inr (ap bodies.Pointer (sym (eqb-true r q here)))) (λ before. inl before) (or_cases (r == q) (block_is_used old r) (sym (used r) ∙ e))

  same_pointer : (r : ℕ) → bodies.Pointer q ≡ bodies.Pointer r → q ≡ r
  same_pointer r e = cc e

  block_still : ((r : ℕ) → block_is_used new r ≡ (r == q || block_is_used old r)) → ((r c : ℕ) → class_at old r ≡ Some c → class_at new r ≡ Some c) → (r k : ℕ) → IsBlockFor old r k → IsBlockFor new r k
  block_still used classes r k is = record { used = used_still used r is.used; class = is.class; class_is = classes r is.class is.class_is; fits = is.fits }

  fresh_block : ((r : ℕ) → block_is_used new r ≡ (r == q || block_is_used old r)) → class_at new q ≡ Some class → block_is_used old q ≡ false → (r : ℕ) → bodies.Pointer q ≡ bodies.Pointer r → IsBlockFor new r n × (block_is_used old r ≡ false)
  fresh_block used is unused r e = subst (λ (x : ℕ). IsBlockFor new x n × (block_is_used old x ≡ false)) (same_pointer r e) (record { used = used_now used; class = class; class_is = is; fits = has }, unused)

  allots_block : TakesBlock old new class q → Allots old new (bodies.Pointer q) n
  allots_block t =
      let was = free_block old class q t.was_free in
      let same = class_same old new (same_part old new t.chunks) t.chunks.classes in
      record {
        sets = sets';
        layout_is = t.chunks.layout_is;
        part_is = t.chunks.part_is;
        still = block_still t.used (λ r c e. same r ∙ e);
        fresh = fresh_block t.used (same q ∙ was.0) was.1;
        only = only_new t.used;
        free = λ j e. sym (t.chunks.free j) ∙ e;
        due = λ j e. inl (sym (t.chunks.due j) ∙ e);
        cut = λ j c e d. (sym (t.chunks.classes j) ∙ e, sym (t.chunks.due j) ∙ d);
        chunk = λ j. ⊎_elim (λ e. inl (t.chunks.free j ∙ e)) (λ e. inr (ap is_some (t.chunks.classes j) ∙ e));
        few = (let same = t.chunk_count in omega (arith, same));
        taken = λ j was. (t.chunks.free j ∙ was.0, t.chunks.classes j ∙ was.1);
      }

  first_start : is_start old.layout class 1 ≡ true
  first_start = and_from _ _ (and_from _ _ (le-leb 1 1 (omega arith)) (eq-eqb (0 % 2 ^ class) 0 (omega arith))) (le-leb (1 + 2 ^ class) (chunk_units old.layout) (class_fits old.layout class fits))

  allots_cut : (j : ℕ) → Cuts old new class j q → Allots old new (bodies.Pointer q) n
  allots_cut j t =
      let was = sets.free_in j t.was_free in
      let part : SamePart old new = record { layout_is = t.layout_is; part_is = t.part_is } in
      let many = class_fits old.layout class fits in
      let some = pow_pos class in
      let here : class_at new q ≡ Some class = (λ i. class_by (t.layout_is i) (t.part_is i) (chunk_class new) q)
      ∙ placed_class old.layout old.part j 1 q was.0 (omega (arith, many, some)) t.first (chunk_class new)
      ∙ ap (option_and_then (start_in old.layout 1)) t.cut ∙ ap (λ (b : Bool). cond b (Some class) None) first_start in
      record {
        sets = sets';
        layout_is = t.layout_is;
        part_is = t.part_is;
        still = block_still t.used (λ r c e.
            let l = lies_at old r c sets e in
            class_point old new r part (t.classes (chunk_of old r) (λ at. (let both : None ≡ Some c = sym was.1 ∙ ap (chunk_class old) (sym at) ∙ l.class_is in cc both))) ∙ e);
        fresh = fresh_block t.used here t.was_unused;
        only = only_new t.used;
        free = λ i e. (and_parts (chunk_is_free old i) (not (i == j)) (sym (t.free i) ∙ e)).0;
        due = λ i e. ⊎_elim (λ at. inr (ap (chunk_is_free old) (eqb-true i j at) ∙ t.was_free)) (λ before. inl before) (or_cases (i == j) (chunk_is_due old i) (sym (t.due i) ∙ e));
        cut = λ i c e d.
            let off = or_false (i == j) (chunk_is_due old i) (sym (t.due i) ∙ d) in
            (sym (t.classes i (eqb-false i j off.0)) ∙ e, off.1);
        chunk = λ i had. ⊎_elim
            (λ same. inr (ap is_some (ap (chunk_class new) same ∙ t.cut)))
            (λ ne. ⊎_elim (λ e. inl (t.free i ∙ and_from (chunk_is_free old i) (not (i == j)) e (ap not (ne_eqb i j ne)))) (λ e. inr (ap is_some (t.classes i ne) ∙ e)) had)
            (cases_eq i j);
        few = (let less = t.chunk_count in omega (arith, less));
        taken = λ i was. (t.free i ∙ ap (λ (b : Bool). b && not (i == j)) was.0, t.classes i (λ same. (let both : false ≡ true = sym was.0 ∙ ap (chunk_is_free old) same ∙ t.was_free in cc both)) ∙ was.1);
      }

  pub allots : (may : Bool) → Takes old new class may (Some q) → Allots old new (bodies.Pointer q) n
  allots may (inl t) = allots_block t
  allots may (inr t) = allots_cut t.1 t.2
