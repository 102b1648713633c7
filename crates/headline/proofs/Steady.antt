-- A store that hasn't stopped has answered no request `Stopped`.
use Rattle.std.proofs.Common.{◌≡◌, ℕ, List, [], ◌∷◌, length, refl, sym, ◌∙◌, ap, arith, ◌==◌, ◌||◌, true, false, Bool, cond, Option}
use Rattle.std.proofs.lemmas.Bool.{eq-eqb}
use Rattle.std.specs.List.{AllByRecursion, zip}
use Rattle.fs_model.specs.declared.model.Request.{Request}
use Rattle.fs_model.specs.declared.model.Reply.{Reply}
use Rattle.fs_model.specs.Cells.{key_of}
use Rattle.fs_model.specs.Lawful.{asked, stopped_of, is_stopped}
use Rattle.headline.specs.Headline.{Told}
use Rattle.headline.specs.Run.{Answered}

stays_stopped : (xs : List (Request × Reply)) → stopped_of true xs ≡ true
stays_stopped [] = refl
stays_stopped (x ∷ xs) = stays_stopped xs

-- what is said of the first reply to a key, and of those behind it
first_steady : (b : Bool) (xs : List (Request × Reply)) → stopped_of (false || b) xs ≡ false → (b ≡ false) × (stopped_of false xs ≡ false)
first_steady false xs h = (refl, h)
first_steady true xs h = absurd (both (stays_stopped xs)) where
  both : stopped_of true xs ≡ true → ⊥
  both t = cc (sym t ∙ h)

behind_steady : (k : ℕ) (q : Request) (x : Reply) (xs : List (Request × Reply)) (same : Bool) → stopped_of false (cond same ((q, x) ∷ xs) xs) ≡ false → stopped_of false xs ≡ false
behind_steady k q x xs true h = (first_steady (is_stopped x) xs h).1
behind_steady k q x xs false h = h

steady : (done : List Request) (replies : List Reply) → length replies ≡ length done → ((k : ℕ) → stopped_of false (asked k (zip done replies)) ≡ false) → AllByRecursion (λ x. is_stopped x ≡ false) replies
steady [] [] len none = tt
steady [] (x ∷ xs) len none = absurd (omega (arith, len))
steady (q ∷ qs) [] len none = absurd (omega (arith, len))
steady (q ∷ qs) (x ∷ xs) len none =
    let own : stopped_of false ((q, x) ∷ asked (key_of q) (zip qs xs)) ≡ false =
    sym (ap (λ b. stopped_of false (cond b ((q, x) ∷ asked (key_of q) (zip qs xs)) (asked (key_of q) (zip qs xs)))) (eq-eqb (key_of q) (key_of q) refl)) ∙ none (key_of q) in (
      (first_steady (is_stopped x) (asked (key_of q) (zip qs xs)) own).0,
      steady qs xs (omega (arith, len)) (λ k. behind_steady k q x (asked k (zip qs xs)) (key_of q == k) (none k)),
    )

pub none_stopped : (Known : Type 0) (start : ℕ → Option (List ℕ)) (done : List Request) (replies : List Reply) (r : Told) (now : ℕ) (cell : ℕ → Option (List ℕ)) → Answered Known start done replies r now cell → AllByRecursion (λ x. is_stopped x ≡ false) replies
none_stopped Known start done replies r now cell A = steady done replies A.count A.going
