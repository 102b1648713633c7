-- Parts of lists.
use Rattle.std.proofs.Common.{◌≡◌, ℕ, ◌+◌, ◌-◌, ◌≤◌, List, ◌++◌, length, take, drop, sym, ◌∙◌, ap, arith}
use Rattle.std.proofs.lemmas.List.{drop-drop, take-append-drop, length-take-le, take_at}

-- what was handed out, and what is left
pub handed_out : (xs back front : List ℕ) (at n : ℕ) → front ≡ take ((at + n) - at) (drop at xs) → n ≤ length (drop at xs)
    → drop at xs ≡ take n (front ++ back) ++ drop (at + n) xs
handed_out xs back front at n e fits =
    let count : (at + n) - at ≡ n = omega arith in
    let first : front ≡ take n (drop at xs) = e ∙ ap (λ k. take k (drop at xs)) count in
    let size : length front ≡ n = ap length first ∙ length-take-le n (drop at xs) fits in
    rw (take_at front back n size, ← drop-drop n at xs) (sym (rw first (take-append-drop n (drop at xs))))
