-- How the lines of an input go on, and stop.
use Rattle.std.proofs.Common.{◌≡◌, ℕ, ◌+◌, Bool, List, [], ◌∷◌, ◌++◌, Result, Ok, Err, refl, sym, ap, append_assoc}
use Rattle.fs_text.specs.declared.line.Line.{Line}
use Rattle.fs_text.specs.Input.{Before, line_at, lines_from, with_front}
use Rattle.fs_text.specs.Reading.{numbered}

-- lines that were read, and what is said of the rest
abbrev pub with_lines : List Line → Result (List Line) (ℕ × ℕ) → Result (List Line) (ℕ × ℕ)
with_lines xs (Ok ys) = Ok (xs ++ ys)
with_lines xs (Err e) = Err e

pub with_none : (r : Result (List Line) (ℕ × ℕ)) → with_lines [] r ≡ r
with_none (Ok xs) = refl
with_none (Err e) = refl

with_more : (front : List Line) (x : Line) (r : Result (List Line) (ℕ × ℕ)) → with_lines front (with_front x r) ≡ with_lines (front ++ x ∷ []) r
with_more front x (Ok xs) = ap Ok (sym (append_assoc front (x ∷ []) xs))
with_more front x (Err e) = refl

un_numbered : (number : ℕ) (r : Result (Line × Before) ℕ) (y : Line × Before) → numbered number r ≡ Ok y → r ≡ Ok y
un_numbered number (Ok x) y h = cc h
un_numbered number (Err rule) y h = cc h

broken_at : (number : ℕ) (r : Result (Line × Before) ℕ) (e : ℕ × ℕ) → numbered number r ≡ Err e → (rule : ℕ) × (r ≡ Err rule) × ((number, rule) ≡ e)
broken_at number (Ok x) e h = cc h
broken_at number (Err rule) e h = (rule, refl, cc h)

pub goes_on_behind : (front : List Line) (cores number : ℕ) (b : Before) (x : List ℕ × Bool) (xs : List (List ℕ × Bool)) (y : Line × Before)
    → numbered number (line_at cores b x) ≡ Ok y
    → with_lines front (lines_from cores number b (x ∷ xs)) ≡ with_lines (front ++ y.0 ∷ []) (lines_from cores (number + 1) y.1 xs)
goes_on_behind front cores number b x xs y h =
    let e = un_numbered number (line_at cores b x) y h in
    rw (with_lines, e) (with_more front y.0 (lines_from cores (number + 1) y.1 xs))

pub stops_behind : (front : List Line) (cores number : ℕ) (b : Before) (x : List ℕ × Bool) (xs : List (List ℕ × Bool)) (stop : ℕ × ℕ)
    → numbered number (line_at cores b x) ≡ Err stop → with_lines front (lines_from cores number b (x ∷ xs)) ≡ Err stop
stops_behind front cores number b x xs stop h =
    let (rule, e, is) = broken_at number (line_at cores b x) stop h in
    rw (with_lines, e) (ap (λ (p : ℕ × ℕ). Err p) is)
