-- How many of a run of numbers pass a test.
use Rattle.std.proofs.Common.{◌≡◌, ◌≢◌, ⊎_elim, ℕ, zero, suc, ◌+◌, ◌≤◌, ◌<◌, Bool, true, false, cond, Some, None, map, count_by, length, refl, sym, ◌∙◌, ap, arith}
use Rattle.std.specs.Prelude.{slice_get}
use Rattle.std.specs.List.{list_all}
use Rattle.std.proofs.lemmas.Bool.{cases_eq, and_from, and_parts, and_cases}
use Rattle.std.proofs.lemmas.List.Sums.{sum_by-cons, count_by-le-length}
use Rattle.chunk_map.specs.Layouts.{numbers}

-- a list over a run, read at a place
pub read_in : {X : Type 0} (f : ℕ → X) (from n i : ℕ) → i < n → slice_get (map f (numbers from n)) i ≡ Some (f (from + i))
read_in f from zero i lt = absurd (omega arith)
read_in f from (suc n) zero lt = let e : from ≡ from + 0 = omega arith in ap (λ (x : ℕ). Some (f x)) e
read_in f from (suc n) (suc i) lt = let e : suc from + i ≡ from + suc i = omega arith in read_in f (suc from) n i (omega arith) ∙ ap (λ (x : ℕ). Some (f x)) e

pub read_past : {X : Type 0} (f : ℕ → X) (from n i : ℕ) → n ≤ i → slice_get (map f (numbers from n)) i ≡ None
read_past f from zero i le = refl
read_past f from (suc n) zero le = absurd (omega arith)
read_past f from (suc n) (suc i) le = read_past f (suc from) n i (omega arith)

pub one : (p : ℕ → Bool) (from n : ℕ) → count_by p (numbers from (suc n)) ≡ cond (p from) 1 0 + count_by p (numbers (suc from) n)
one p from n = sum_by-cons (λ x. cond (p x) 1 0) from (numbers (suc from) n)

pub count_same : (p q : ℕ → Bool) (from n : ℕ) → ((x : ℕ) → from ≤ x → x < from + n → p x ≡ q x) → count_by p (numbers from n) ≡ count_by q (numbers from n)
count_same p q from zero same = refl
count_same p q from (suc n) same =
    one p from n ∙ (λ i. cond (same from (omega arith) (omega arith) i) 1 0 + count_same p q (suc from) n (λ x low high. same x (omega arith) (omega arith)) i) ∙ sym (one q from n)

pub count_none : (p : ℕ → Bool) (from n : ℕ) → ((x : ℕ) → from ≤ x → x < from + n → p x ≡ false) → count_by p (numbers from n) ≡ 0
count_none p from zero none = refl
count_none p from (suc n) none =
    one p from n ∙ (λ i. cond (none from (omega arith) (omega arith) i) 1 0 + count_none p (suc from) n (λ x low high. none x (omega arith) (omega arith)) i)

pub count_split : (p : ℕ → Bool) (from m n : ℕ) → count_by p (numbers from (m + n)) ≡ count_by p (numbers from m) + count_by p (numbers (from + m) n)
count_split p from zero n =
    let e : 0 + n ≡ n = omega arith in
    let f : from ≡ from + 0 = omega arith in
    ap (λ (k : ℕ). count_by p (numbers from k)) e ∙ ap (λ (a : ℕ). count_by p (numbers a n)) f ∙ (let z : count_by p (numbers (from + 0) n) ≡ 0 + count_by p (numbers (from + 0) n) = omega arith in z)
count_split p from (suc m) n =
    let e : suc m + n ≡ suc (m + n) = omega arith in
    let f : suc from + m ≡ from + suc m = omega arith in
    let rest = count_split p (suc from) m n in
    let moved = ap (λ (a : ℕ). count_by p (numbers a n)) f in
    let first = one p from (m + n) in
    let second = one p from m in
    ap (λ (k : ℕ). count_by p (numbers from k)) e ∙ (let z : count_by p (numbers from (suc (m + n))) ≡ count_by p (numbers from (suc m)) + count_by p (numbers (from + suc m) n) = omega (arith, rest, moved, first, second) in z)

-- one number less passes
pub count_less : (p q : ℕ → Bool) (a from n : ℕ) → from ≤ a → a < from + n → p a ≡ true → q a ≡ false → ((x : ℕ) → x ≢ a → q x ≡ p x) → count_by p (numbers from n) ≡ count_by q (numbers from n) + 1
count_less p q a from zero low high was is same = absurd (omega arith)
count_less p q a from (suc n) low high was is same = ⊎_elim here (λ ne. later ne (count_less p q a (suc from) n (omega arith) (omega arith) was is same)) (cases_eq from a)
  where
    here : from ≡ a → count_by p (numbers from (suc n)) ≡ count_by q (numbers from (suc n)) + 1
    here e =
        let first : cond {A = ℕ} (p from) 1 0 ≡ 1 = ap (λ (x : ℕ). cond (p x) 1 0) e ∙ ap (λ (b : Bool). cond b 1 0) was in
        let then : cond {A = ℕ} (q from) 1 0 ≡ 0 = ap (λ (x : ℕ). cond (q x) 1 0) e ∙ ap (λ (b : Bool). cond b 1 0) is in
        let rest = count_same p q (suc from) n (λ x above below. sym (same x (λ eq. omega arith))) in
        let x = one p from n in
        let y = one q from n in
        omega (arith, first, then, rest, x, y)

    later : from ≢ a → count_by p (numbers (suc from) n) ≡ count_by q (numbers (suc from) n) + 1 → count_by p (numbers from (suc n)) ≡ count_by q (numbers from (suc n)) + 1
    later ne rest =
        let first : cond {A = ℕ} (q from) 1 0 ≡ cond {A = ℕ} (p from) 1 0 = ap (λ (b : Bool). cond b 1 0) (same from ne) in
        let x = one p from n in
        let y = one q from n in
        omega (arith, first, rest, x, y)

-- one number more
pub count_more : (p : ℕ → Bool) (from n : ℕ) → count_by p (numbers from (n + 1)) ≡ count_by p (numbers from n) + cond (p (from + n)) 1 0
count_more p from n =
    let split = count_split p from n 1 in
    let last = one p (from + n) 0 in
    omega (arith, split, last)

pub count_yes : (p : ℕ → Bool) (from n k : ℕ) → p k ≡ true → k ≡ from + n → count_by p (numbers from (n + 1)) ≡ count_by p (numbers from n) + 1
count_yes p from n k is at = let more = count_more p from n in let e : cond {A = ℕ} (p (from + n)) 1 0 ≡ 1 = ap (λ (x : ℕ). cond {A = ℕ} (p x) 1 0) (sym at) ∙ ap (λ (b : Bool). cond {A = ℕ} b 1 0) is in omega (arith, more, e)

pub count_no : (p : ℕ → Bool) (from n k : ℕ) → p k ≡ false → k ≡ from + n → count_by p (numbers from (n + 1)) ≡ count_by p (numbers from n)
count_no p from n k is at = let more = count_more p from n in let e : cond {A = ℕ} (p (from + n)) 1 0 ≡ 0 = ap (λ (x : ℕ). cond {A = ℕ} (p x) 1 0) (sym at) ∙ ap (λ (b : Bool). cond {A = ℕ} b 1 0) is in omega (arith, more, e)

pub length-numbers : (from n : ℕ) → length (numbers from n) ≡ n
length-numbers from zero = refl
length-numbers from (suc n) = ap suc (length-numbers (suc from) n)

pub count_small : (p : ℕ → Bool) (from n : ℕ) → count_by p (numbers from n) ≤ n
count_small p from n = let le = count_by-le-length p (numbers from n) in let long = length-numbers from n in omega (arith, le, long)

-- a test of all numbers of a run
pub all_run : (p : ℕ → Bool) (from n : ℕ) → ((x : ℕ) → from ≤ x → x < from + n → p x ≡ true) → list_all p (numbers from n) ≡ true
all_run p from zero all = refl
all_run p from (suc n) all = and_from (p from) (list_all p (numbers (suc from) n)) (all from (omega arith) (omega arith)) (all_run p (suc from) n (λ x low high. all x (omega arith) (omega arith)))

pub run_all : (p : ℕ → Bool) (from n : ℕ) → list_all p (numbers from n) ≡ true → (x : ℕ) → from ≤ x → x < from + n → p x ≡ true
run_all p from zero all x low high = absurd (omega arith)
run_all p from (suc n) all x low high =
    let both = and_parts (p from) (list_all p (numbers (suc from) n)) all in
    ⊎_elim (λ same. ap p same ∙ both.0) (λ ne. run_all p (suc from) n both.1 x (omega arith) (omega arith)) (cases_eq x from)

pub run_some : (p : ℕ → Bool) (from n : ℕ) → list_all p (numbers from n) ≡ false → (x : ℕ) × (from ≤ x) × (x < from + n) × (p x ≡ false)
run_some p from zero e = cc e
run_some p from (suc n) e = ⊎_elim
    (λ here. (from, omega arith, omega arith, here))
    (λ later. let r = run_some p (suc from) n later in (r.0, (let low = r.1 in omega arith), (let high = r.2 in omega arith), r.3))
    (and_cases (p from) (list_all p (numbers (suc from) n)) e)
