-- A key's replaced blocks are taken out.
use Rattle.std.proofs.Common.{◌≡◌, ℕ, Bool, true, cond, ◌&&◌, not, List, Option, Some, None, inl, inr, refl, sym, ap, ◌∙◌}
use Rattle.std.proofs.lemmas.Bool.{cases_Bool}
use Rattle.log_entry.specs.declared.entry.Body.{Body}
use Rattle.store_image.specs.Facts.{In}
use Rattle.group_laws.specs.declared.types.Block.{Block}
use Rattle.group_laws.specs.Steps.{is_of, points_at, only_own}

module _ (k : ℕ) (body : Body) (old new : ℕ → Option Block) (out : List ℕ)
    (only : (q : ℕ) → In q out → (is_of k (old q) && not (points_at body q)) ≡ true) (all : (q : ℕ) (b : Block) → old q ≡ Some b → (is_of k (Some b) && not (points_at body q)) ≡ true → In q out)
    (gone : (q : ℕ) → In q out → new q ≡ None) (kept : (q : ℕ) → (In q out → ⊥) → new q ≡ old q) where
  in_out : (q : ℕ) (o : Option Block) → old q ≡ o → (is_of k o && not (points_at body q)) ≡ true → In q out
  in_out q None e t = absurd (cc t)
  in_out q (Some b) e t = all q b e t

  pub own_left : (q : ℕ) → new q ≡ only_own k body old q
  own_left q = elim (cases_Bool (is_of k (old q) && not (points_at body q))) [
    | inl t ↦ gone q (in_out q (old q) refl t) ∙ sym (ap (λ (b : Bool). cond b None (old q)) t)
    | inr f ↦ kept q (λ i. let t = only q i in cc (t, f)) ∙ sym (ap (λ (b : Bool). cond b None (old q)) f)
  ]
