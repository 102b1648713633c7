-- The numbers of a window's requests, core by core.
use Rattle.std.proofs.Common.{◌≡◌, ℕ, zero, suc, ◌+◌, ◌-◌, ◌%◌, ◌<◌, ◌≤◌, ◌==◌, Bool, true, false, cond, List, [], ◌∷◌, ◌++◌, length, filter, slice_index_or, refl, ◌∙◌, ap, arith}
use Rattle.std.specs.List.{enumerate_from}
use Rattle.std.proofs.lemmas.Bool.{eqb-true}
use Rattle.fs_model.specs.declared.model.Request.{Request}
use Rattle.fs_model.specs.Cells.{key_of}
use Rattle.answer_queue.specs.Accounts.{once, times, AreAmong, numbers_from}
use Rattle.answer_queue.proofs.Clients.{times_append, run_joined, once_there}
use mathlib.Core.Logic.{dite}
use native.Mathlib.Decide.{ℕ_discrete}
use Rattle.answer_cores.specs.Passes.{numbers_in, all_numbers}
use Rattle.thread_engine.specs.declared.core_job.CoreJob.{CoreJob}
use Rattle.thread_engine.specs.Windows.{dealt_from}
use Rattle.thread_engine.specs.WindowJobs.{waiting_for}

abbrev Numbered : Type 0
Numbered = ℕ × Request

-- the requests of one core's keys, and of several cores' one after another
abbrev own : ℕ → ℕ → List Numbered → List Numbered
own cores c ys = filter (λ x. (key_of x.1 % cores) == c) ys

abbrev slices : ℕ → ℕ → ℕ → List Numbered → List (List ℕ)
slices cores a zero ys = []
slices cores a (suc k) ys = numbers_in (own cores a ys) ∷ slices cores (a + 1) k ys

-- how often a number is among them
abbrev often : ℕ → ℕ → ℕ → ℕ → List Numbered → ℕ
often cores m a k ys = times m (all_numbers (slices cores a k ys))

first_often : (cores m a k : ℕ) (ys : List Numbered) → often cores m a (suc k) ys ≡ times m (numbers_in (own cores a ys)) + often cores m (a + 1) k ys
first_often cores m a k ys = times_append m (numbers_in (own cores a ys)) (all_numbers (slices cores (a + 1) k ys))

-- one request more counts once at most, and not among the cores behind its own
one_more : (cores m a k : ℕ) (y : Numbered) (ys : List Numbered)
    → (often cores m a k (y ∷ ys) ≤ once m y.0 + often cores m a k ys) × ((key_of y.1 % cores) < a → often cores m a k (y ∷ ys) ≡ often cores m a k ys)
one_more cores m a zero y ys = (omega arith, λ behind. refl)
one_more cores m a (suc k) y ys = by ((key_of y.1 % cores) == a) refl (one_more cores m (a + 1) k y ys) where
  by : (b : Bool) → ((key_of y.1 % cores) == a) ≡ b → (often cores m (a + 1) k (y ∷ ys) ≤ once m y.0 + often cores m (a + 1) k ys) × ((key_of y.1 % cores) < a + 1 → often cores m (a + 1) k (y ∷ ys) ≡ often cores m (a + 1) k ys) → (often cores m a (suc k) (y ∷ ys) ≤ once m y.0 + often cores m a (suc k) ys) × ((key_of y.1 % cores) < a → often cores m a (suc k) (y ∷ ys) ≡ often cores m a (suc k) ys)
  by true e more = (
    (let here : times m (numbers_in (own cores a (y ∷ ys))) ≡ once m y.0 + times m (numbers_in (own cores a ys)) = ap (λ b. times m (numbers_in (cond b (y ∷ own cores a ys) (own cores a ys)))) e in
        let same = more.1 (let is = eqb-true (key_of y.1 % cores) a e in omega (arith, is)) in
        let p = first_often cores m a k (y ∷ ys) in
        let q = first_often cores m a k ys in
        omega (arith, here, same, p, q)),
    λ behind. absurd (let is = eqb-true (key_of y.1 % cores) a e in omega (arith, is, behind)),
  )
  by false e more = (
    (let here : times m (numbers_in (own cores a (y ∷ ys))) ≡ times m (numbers_in (own cores a ys)) = ap (λ b. times m (numbers_in (cond b (y ∷ own cores a ys) (own cores a ys)))) e in
        let less = more.0 in
        let p = first_often cores m a k (y ∷ ys) in
        let q = first_often cores m a k ys in
        omega (arith, here, less, p, q)),
    λ behind. (let here : times m (numbers_in (own cores a (y ∷ ys))) ≡ times m (numbers_in (own cores a ys)) = ap (λ b. times m (numbers_in (cond b (y ∷ own cores a ys) (own cores a ys)))) e in
        let same = more.1 (omega (arith, behind)) in
        let p = first_often cores m a k (y ∷ ys) in
        let q = first_often cores m a k ys in
        omega (arith, here, same, p, q)),
  )

none_often : (cores m a k : ℕ) → often cores m a k [] ≡ 0
none_often cores m a zero = refl
none_often cores m a (suc k) = none_often cores m (a + 1) k

all_often : (cores m a k : ℕ) (ys : List Numbered) → often cores m a k ys ≤ times m (numbers_in ys)
all_often cores m a k [] = (let e = none_often cores m a k in omega (arith, e))
all_often cores m a k (y ∷ ys) = (let one = (one_more cores m a k y ys).0 in let rest = all_often cores m a k ys in omega (arith, one, rest))

enumerated : (n : ℕ) (xs : List Request) → numbers_in (enumerate_from n xs) ≡ numbers_from n (length xs)
enumerated n [] = refl
enumerated n (x ∷ xs) = ap (λ l. n ∷ l) (enumerated (n + 1) xs)

-- where a number is one of a row
pub number_there : (m a k : ℕ) → 0 < times m (numbers_from a k) → (a ≤ m) × (m < a + k)
number_there m a zero some_ = absurd (omega (arith, some_))
number_there m a (suc k) some_ = dite (ℕ_discrete a m)
    (λ e. (omega (arith, e), omega (arith, e)))
    (λ ne. (let none = once_there m a ne in let r = number_there m (a + 1) k (omega (arith, none, some_)) in let low = r.0 in let high = r.1 in (omega (arith, low), omega (arith, high))))

-- the first of a row are among all of it
pub row_among : (a k l : ℕ) → k ≤ l → AreAmong (numbers_from a k) (numbers_from a l)
row_among a k l less m =
    let all : numbers_from a k ++ numbers_from (a + k) (l - k) ≡ numbers_from a (k + (l - k)) = run_joined a k (l - k) in
    let long : k + (l - k) ≡ l = omega (arith, less) in
    let both = times_append m (numbers_from a k) (numbers_from (a + k) (l - k)) in
    let same = ap (times m) (all ∙ ap (numbers_from a) long) in
    omega (arith, both, same)

module _ {B P : Type 0} where
  as_slices : (cores n : ℕ) (xs : List Request) (a : ℕ) (jobs : List (CoreJob B P)) → ((i : ℕ) (d : CoreJob B P) → i < length jobs → (slice_index_or jobs i d).queue.items ≡ dealt_from cores (a + i) n xs)
      → waiting_for jobs ≡ slices cores a (length jobs) (enumerate_from n xs)
  as_slices cores n xs a [] h = refl
  as_slices cores n xs a (j ∷ js) h =
      let z : a + 0 ≡ a = omega arith in
      (λ t. numbers_in ((h 0 j (omega arith) ∙ ap (λ c. dealt_from cores c n xs) z) t) ∷ as_slices cores n xs (a + 1) js (λ i d low. (let s : a + suc i ≡ a + 1 + i = omega arith in h (suc i) d (omega (arith, low)) ∙ ap (λ c. dealt_from cores c n xs) s)) t)

  -- each number once at most
  pub dealt_among : (n : ℕ) (xs : List Request) (jobs : List (CoreJob B P)) → ((i : ℕ) (d : CoreJob B P) → i < length jobs → (slice_index_or jobs i d).queue.items ≡ dealt_from (length jobs) i n xs) → AreAmong (all_numbers (waiting_for jobs)) (numbers_from n (length xs))
  dealt_among n xs jobs h m =
      let e = ap (λ nss. times m (all_numbers nss)) (as_slices (length jobs) n xs 0 jobs (λ i d low. (let z : i ≡ 0 + i = omega arith in h i d low ∙ ap (λ c. dealt_from (length jobs) c n xs) z))) in
      let less = all_often (length jobs) m 0 (length jobs) (enumerate_from n xs) in
      let f = ap (times m) (enumerated n xs) in
      omega (arith, e, less, f)
