-- Past the bytes that an input may have nothing matters.
use Rattle.std.proofs.Common.{◌≡◌, ℕ, zero, suc, ◌+◌, ◌-◌, ◌<◌, ◌≤◌, inl, inr, Bool, true, false, List, [], ◌∷◌, ◌++◌, length, take, drop, Option, Some, None, Result, Ok, Err, refl, sym, ap, ◌∙◌, cond, subst, arith}
use Rattle.std.specs.Prelude.{nat_le, IfSome}
use Rattle.std.proofs.lemmas.Bool.{cond-false}
use Rattle.std.proofs.lemmas.List.{length-drop, length-take-le}
use Rattle.fs_text.specs.declared.input.InputError.{InputError}
use Rattle.fs_text.specs.Input.{lines_of, size_with, cut}
use Rattle.fs_text.specs.Reading.{Answers}
use Rattle.fs_text.specs.Streams.{Gives, IsAtEnd}
use Rattle.fs_text.proofs.Clients.{IsFirstAt, IsMissing, lines_at, lines_missing, guarded, le_true, gt_false, long_line, first_or_missing, first_below, first_append, read_same}
use Rattle.query_text.specs.declared.query.Query.{Query}
use Rattle.query_text.specs.Queries.{query_by, query_at, counted, queries_from, queries_of, with_front}

counted_ok : (number bytes : ℕ) (r : Result Query ℕ) (y : Query × ℕ) → counted number bytes r ≡ Ok y → y.1 ≡ bytes
counted_ok number bytes (Ok q) y h =
    let one = guarded (nat_le number 1000000) (Ok (q, bytes)) 25 y h in
    let is : y ≡ (q, bytes) = cc one.1 in ap (λ (z : Query × ℕ). z.1) is
counted_ok number bytes (Err rule) y h = cc h

-- a line that breaks no rule lies within the limit
pub query_at_ok : (number before : ℕ) (x : List ℕ × Bool) (y : Query × ℕ) → query_at number before x ≡ Ok y
    → (y.1 ≡ before + size_with x) × (before + size_with x ≤ 67108864)
query_at_ok number before x y h =
    let said = counted number (before + size_with x) (query_by (cut x.0)) in
    let inner = cond (nat_le (length x.0) 1048640) said (Err 2) in
    let one = guarded (nat_le (before + size_with x) 67108864) inner 1 y h in
    let two = guarded (nat_le (length x.0) 1048640) said 2 y one.1 in
    (counted_ok number (before + size_with x) (query_by (cut x.0)) y two.1, le_true (before + size_with x) 67108864 one.0)

-- a line past the limit breaks the first rule
breaks_first : (number before : ℕ) (x : List ℕ × Bool) → 67108864 < before + size_with x → query_at number before x ≡ Err 1
breaks_first number before x h = cond-false (nat_le (before + size_with x) 67108864) _ (Err 1) (gt_false (before + size_with x) 67108864 h)

goes_on : (number before : ℕ) (x : List ℕ × Bool) (xs : List (List ℕ × Bool)) (y : Query × ℕ)
    → query_at number before x ≡ Ok y → queries_from number before (x ∷ xs) ≡ with_front y.0 (queries_from (number + 1) y.1 xs)
goes_on number before x xs y e = rw (queries_from, e) refl

breaks : (number before : ℕ) (x : List ℕ × Bool) (xs : List (List ℕ × Bool)) (rule : ℕ)
    → query_at number before x ≡ Err rule → queries_from number before (x ∷ xs) ≡ Err (number, rule)
breaks number before x xs rule e = rw (queries_from, e) refl

-- With more behind it the text stops the reading in the same way.
abbrev BothStop : ℕ → ℕ → List ℕ → List ℕ → Type 0
BothStop number before p rest = (e : ℕ × ℕ)
    × (queries_from number before (lines_of (p ++ rest)) ≡ Err e) × (queries_from number before (lines_of p) ≡ Err e)

in_long_line : (number before : ℕ) (p rest : List ℕ) → 0 < length p → IsMissing 10 p → 67108864 < before + length p
    → BothStop number before p rest
in_long_line number before [] rest some h big = absurd (omega arith)
in_long_line number before (c ∷ p) rest some h big =
    let (x, xs, e, size) = long_line c p rest h.1 in
    let all : lines_of ((c ∷ p) ++ rest) ≡ x ∷ xs = rw h.0 e in
    let over : 67108864 < before + size_with x = omega arith in
    let alone : 67108864 < before + size_with (c ∷ p, false) = omega arith in (
      (number, 1),
      ap (λ ls. queries_from number before ls) all ∙ breaks number before x xs 1 (breaks_first number before x over),
      ap (λ ls. queries_from number before ls) (lines_missing c p h) ∙ breaks number before (c ∷ p, false) [] 1 (breaks_first number before (c ∷ p, false) alone),
    )

behind_first_line : (number before : ℕ) (p rest : List ℕ) (k : ℕ) → IsFirstAt 10 p k → 67108864 < before + length p
    → ((c : ℕ) → c ≤ 67108864 → 67108864 < c + length (drop (suc k) p) → BothStop (number + 1) c (drop (suc k) p) rest)
    → BothStop number before p rest
behind_first_line number before p rest k h big again =
    elim (query_at number before x) as (λ r. query_at number before x ≡ r → BothStop number before p rest) [
      | Ok y ↦ λ e. good y e
      | Err rule ↦ λ e. ((number, rule), longer ∙ breaks number before x (lines_of (drop (suc k) p ++ rest)) rule e, alone ∙ breaks number before x (lines_of (drop (suc k) p)) rule e)
    ] refl
  where
    x : List ℕ × Bool
    x = (take k p, true)

    longer : queries_from number before (lines_of (p ++ rest)) ≡ queries_from number before (x ∷ lines_of (drop (suc k) p ++ rest))
    longer =
        let (first, front, back) = first_append 10 p rest k h in
        let parts : lines_of (p ++ rest) ≡ x ∷ lines_of (drop (suc k) p ++ rest) = lines_at (p ++ rest) k first ∙ (rw (front, back) refl) in
        ap (λ ls. queries_from number before ls) parts

    alone : queries_from number before (lines_of p) ≡ queries_from number before (x ∷ lines_of (drop (suc k) p))
    alone = ap (λ ls. queries_from number before ls) (lines_at p k h)

    good : (y : Query × ℕ) → query_at number before x ≡ Ok y → BothStop number before p rest
    good y e =
        let sizes = query_at_ok number before x y e in
        let below = first_below 10 p k h in
        let size : length (take k p) ≡ k = length-take-le k p (omega arith) in
        let left : length (drop (suc k) p) ≡ length p - suc k = length-drop (suc k) p in
        let (stop, long, short) = again y.1 (omega arith) (omega arith) in (
          stop,
          longer ∙ goes_on number before x (lines_of (drop (suc k) p ++ rest)) y e ∙ ap (λ r. with_front y.0 r) long,
          alone ∙ goes_on number before x (lines_of (drop (suc k) p)) y e ∙ ap (λ r. with_front y.0 r) short,
        )

over_in : (n number before : ℕ) (p rest : List ℕ) → length p ≤ n → before ≤ 67108864 → 67108864 < before + length p
    → BothStop number before p rest
over_in zero number before p rest small within big = absurd (omega arith)
over_in (suc n) number before p rest small within big =
    elim (first_or_missing 10 p) [
      | inl (k, h) ↦ behind_first_line number before p rest k h big
          (λ c cw cb. over_in n (number + 1) c (drop (suc k) p) rest (omega (arith, length-drop (suc k) p, first_below 10 p k h)) cw cb)
      | inr h ↦ in_long_line number before p rest (omega arith) h big
    ]

-- A text that is too long breaks a rule, and what follows it doesn't matter.
over : (p rest : List ℕ) → 67108864 < length p → (e : ℕ × ℕ) × (queries_of (p ++ rest) ≡ Err e) × (queries_of p ≡ Err e)
unfolding queries_of
over p rest big = over_in (length p) 1 0 p rest (omega arith) (omega arith) (omega arith)

-- What is said of the bytes that were read is said of all that a source told.
pub told_queries : (coming left : Option (List ℕ)) (v : List ℕ) (r : Result (List Query) InputError)
    → Gives coming left v → (length v < 67108865 → IsAtEnd left) → Answers r (queries_of v)
    → IfSome coming (λ bytes. Answers r (queries_of bytes))
told_queries None left v r h end said = tt
told_queries (Some xs) None v r h end said = absurd h
told_queries (Some xs) (Some ys) v r h end said =
    let same : queries_of v ≡ queries_of xs =
    read_same queries_of xs ys v h end (λ long. let (e, whole, front) = over v ys long in front ∙ sym whole) in
    subst (λ s. Answers r s) same said
