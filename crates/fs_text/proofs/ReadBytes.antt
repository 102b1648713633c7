-- What is said of the bytes that were read is said of all that a source told.
use Rattle.std.proofs.Common.{◌≡◌, ℕ, ◌<◌, ◌⊎◌, inl, inr, List, [], ◌++◌, length, Option, Some, None, Result, Ok, Err, sym, ap, ◌∙◌, subst, arith, append-nil}
use Rattle.std.specs.Prelude.{IfSome, OnOk}
use Rattle.fs_text.specs.declared.line.Line.{Line}
use Rattle.fs_text.specs.declared.input.InputError.{InputError}
use Rattle.fs_text.specs.Input.{input_of}
use Rattle.fs_text.specs.Reading.{Answers}
use Rattle.fs_text.specs.Streams.{Gives, IsAtEnd, IsReadOut}
use Rattle.fs_text.proofs.Limits.{over, ok_no_error}

short_or_long : (n : ℕ) → (n < 67108865) ⊎ (67108864 < n)
short_or_long n = grind arith

-- all of it was read, or what is left doesn't matter
abbrev Same : {A : Type 0} → (List ℕ → A) → List ℕ → List ℕ → Type 0
Same f xs v = f v ≡ f xs

pub read_same : {A : Type 0} (f : List ℕ → A) (xs ys v : List ℕ) → xs ≡ v ++ ys → (length v < 67108865 → ys ≡ []) → (67108864 < length v → f v ≡ f (v ++ ys)) → f v ≡ f xs
read_same f xs ys v e end long = at_size (short_or_long (length v))
  where
    at_size : (length v < 67108865) ⊎ (67108864 < length v) → f v ≡ f xs
    at_size (inl h) = ap f (sym (append-nil v) ∙ ap (λ zs. v ++ zs) (sym (end h)) ∙ sym e)
    at_size (inr h) = long h ∙ ap f (sym e)

-- A reading that says something of the input came to its end, or past what an input may have.
pub read_out : (coming left : Option (List ℕ)) (v : List ℕ) → Gives coming left v → (length v < 67108865 → IsAtEnd left) → IsReadOut coming left
read_out coming left v gives end = at_size (short_or_long (length v))
  where
    at_size : (length v < 67108865) ⊎ (67108864 < length v) → IsReadOut coming left
    at_size (inl h) = (v, gives, inr (end h))
    at_size (inr h) = (v, gives, inl h)

pub told_input : (coming left : Option (List ℕ)) (v : List ℕ) (cores : ℕ) (r : Result (List Line) InputError)
    → Gives coming left v → (length v < 67108865 → IsAtEnd left) → Answers r (input_of cores v)
    → IfSome coming (λ bytes. Answers r (input_of cores bytes))
told_input None left v cores r h end said = tt
told_input (Some xs) None v cores r h end said = absurd h
told_input (Some xs) (Some ys) v cores r h end said =
    let same : input_of cores v ≡ input_of cores xs =
    read_same (λ zs. input_of cores zs) xs ys v h end (λ long. let (e, whole, front) = over cores v ys long in front ∙ sym whole) in
    subst (λ s. Answers r s) same said

pub ended_input : (left : Option (List ℕ)) (v : List ℕ) (cores : ℕ) (r : Result (List Line) InputError)
    → (length v < 67108865 → IsAtEnd left) → Answers r (input_of cores v) → OnOk r (IsAtEnd left)
ended_input left v cores (Err e) end said = tt
ended_input left v cores (Ok lines) end said = at_size (short_or_long (length v))
  where
    at_size : (length v < 67108865) ⊎ (67108864 < length v) → IsAtEnd left
    at_size (inl h) = end h
    at_size (inr h) = let (e, whole, front) = over cores v [] h in absurd (ok_no_error lines e (sym said ∙ front))
