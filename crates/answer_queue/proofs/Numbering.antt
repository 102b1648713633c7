-- How often a number stands in a list.
use Rattle.std.proofs.Common.{◌≡◌, ◌≢◌, ℕ, zero, suc, ◌+◌, ◌<◌, ◌≤◌, Bool, List, [], ◌∷◌, ◌++◌, length, sym, refl, ap, ap₂, ◌∙◌, subst, if◌then◌else◌, sum_by, IsPermutation, append_assoc, length-append, eq-eqb, ne_eqb, arith}
use Rattle.std.proofs.lemmas.List.Sums.{sum_by-cons}
use Rattle.std.proofs.lemmas.List.Sorted.{sum_by-IsPermutation}
use mathlib.Core.Logic.{dite}
use native.Mathlib.Decide.{ℕ_discrete}
use Rattle.answer_queue.specs.declared.window_sizes.TheConstants.{WINDOW}
use Rattle.core_worker.specs.declared.types.Answer.{Answer}
use Rattle.answer_queue.specs.declared.account.Account.{Account}
use Rattle.answer_queue.specs.Accounts.{once, times, without, without_all, numbers, AreAmong, AreDistinct, account, after_put, after_puts, numbers_from}

pub times_append : (n : ℕ) (xs ys : List ℕ) → times n (xs ++ ys) ≡ times n xs + times n ys
times_append n [] ys = omega arith
times_append n (x ∷ xs) ys = let h = times_append n xs ys in omega arith

pub numbers_append : (xs ys : List Answer) → numbers (xs ++ ys) ≡ numbers xs ++ numbers ys
numbers_append [] ys = refl
numbers_append (x ∷ xs) ys = ap (λ l. x.number ∷ l) (numbers_append xs ys)

pub numbers_length : (xs : List Answer) → length (numbers xs) ≡ length xs
numbers_length [] = refl
numbers_length (x ∷ xs) = ap suc (numbers_length xs)

pub once_here : (m x : ℕ) → x ≡ m → once m x ≡ 1
once_here m x e = ap (λ (b : Bool). if b then 1 else 0) (eq-eqb x m e)

pub once_there : (m x : ℕ) → x ≢ m → once m x ≡ 0
once_there m x n = ap (λ (b : Bool). if b then 1 else 0) (ne_eqb x m n)

without_here : (m x : ℕ) (xs : List ℕ) → x ≡ m → without m (x ∷ xs) ≡ xs
without_here m x xs e = ap (λ (b : Bool). if b then xs else (x ∷ without m xs)) (eq-eqb x m e)

without_there : (m x : ℕ) (xs : List ℕ) → x ≢ m → without m (x ∷ xs) ≡ x ∷ without m xs
without_there m x xs n = ap (λ (b : Bool). if b then xs else (x ∷ without m xs)) (ne_eqb x m n)

-- what is left of a list without a number, as often and as long
pub record Leaves (m : ℕ) (xs ys : List ℕ) : Type 0 where
  pub times_are : (n : ℕ) → times n ys + once n m ≡ times n xs
  pub length_is : length ys + 1 ≡ length xs

pub leaves : (m : ℕ) (xs : List ℕ) → 0 < times m xs → Leaves m xs (without m xs)
leaves m [] some_ = absurd (omega arith)
leaves m (x ∷ xs) some_ = dite (ℕ_discrete x m)
    (λ e. subst (Leaves m (x ∷ xs)) (sym (without_here m x xs e)) (record {
      times_are = λ n. (let h : once n x ≡ once n m = ap (once n) e in omega arith);
      length_is = omega arith;
    }))
    (λ ne. let z = once_there m x ne in let h = leaves m xs (omega arith) in
    subst (Leaves m (x ∷ xs)) (sym (without_there m x xs ne)) (record {
      times_are = λ n. (let t = h.times_are n in omega arith);
      length_is = (let l = h.length_is in omega arith);
    }))

-- the same of several
pub record LeavesAll (ms xs ys : List ℕ) : Type 0 where
  pub times_are : (n : ℕ) → times n ys + times n ms ≡ times n xs
  pub length_is : length ys + length ms ≡ length xs

-- the first of several stands there, and the others without it
pub among_first : (m : ℕ) (ms xs : List ℕ) → AreAmong (m ∷ ms) xs → 0 < times m xs
among_first m ms xs among = let a = among m in let o = once_here m m refl in omega arith

pub among_rest : (m : ℕ) (ms xs : List ℕ) → AreAmong (m ∷ ms) xs → AreAmong ms (without m xs)
among_rest m ms xs among n = let a = among n in let t = (leaves m xs (among_first m ms xs among)).times_are n in omega arith

pub leaves_all : (ms xs : List ℕ) → AreAmong ms xs → LeavesAll ms xs (without_all ms xs)
leaves_all [] xs among = record { times_are = λ n. omega arith; length_is = omega arith }
leaves_all (m ∷ ms) xs among =
    let one = leaves m xs (among_first m ms xs among) in
    let rest = leaves_all ms (without m xs) (among_rest m ms xs among) in
    record {
      times_are = λ n. (let t = one.times_are n in let r = rest.times_are n in omega arith);
      length_is = (let t = one.length_is in let r = rest.length_is in omega arith);
    }

-- in another order each number stands as often
times_sum : (n : ℕ) (xs : List Answer) → times n (numbers xs) ≡ sum_by (λ a. once n a.number) xs
times_sum n [] = refl
times_sum n (x ∷ xs) = let h = times_sum n xs in omega (arith, sum_by-cons (λ a. once n a.number) x xs)

pub times_permutation : (n : ℕ) (xs ys : List Answer) → IsPermutation xs ys → times n (numbers ys) ≡ times n (numbers xs)
times_permutation n xs ys p = times_sum n ys ∙ sum_by-IsPermutation (λ a. once n a.number) xs ys p ∙ sym (times_sum n xs)

pub distinct_permutation : (xs ys : List Answer) → IsPermutation xs ys → AreDistinct (numbers xs) → AreDistinct (numbers ys)
distinct_permutation xs ys p d n = let t = times_permutation n xs ys p in let e = d n in omega arith

-- to put a first one and then others is to put them all
pub puts_next : (v : Account) (x : Answer) (rest : List Answer) → after_puts v (x ∷ rest) ≡ after_puts (after_put v x) rest
puts_next v x rest = ap (λ (l : List Answer). account v.parts (without_all (numbers rest) (without x.number v.may)) l v.took) (sym (append_assoc v.put (x ∷ []) rest))

pub few_joined : (xs ys : List Answer) → length xs + length ys ≤ WINDOW → length (numbers (xs ++ ys)) ≤ WINDOW
few_joined xs ys few = omega (arith, numbers_length (xs ++ ys), length-append xs ys)

pub times_joined : (n : ℕ) (xs ys : List Answer) → times n (numbers (xs ++ ys)) ≡ times n (numbers xs) + times n (numbers ys)
times_joined n xs ys = ap (times n) (numbers_append xs ys) ∙ times_append n (numbers xs) (numbers ys)

pub among_joined : (xs ys : List Answer) → AreAmong (numbers xs) (numbers (xs ++ ys))
among_joined xs ys n = let j = times_joined n xs ys in omega arith

-- what is left for the second, when the first has taken its own
pub among_left : (xs ys : List Answer) → AreAmong (numbers ys) (without_all (numbers xs) (numbers (xs ++ ys)))
among_left xs ys n = let j = times_joined n xs ys in let l = (leaves_all (numbers xs) (numbers (xs ++ ys)) (among_joined xs ys)).times_are n in omega arith

-- numbers one after another
pub next_number : (a k : ℕ) → numbers_from a (suc k) ≡ numbers_from a k ++ (a + k) ∷ []
next_number a zero = ap (λ (x : ℕ). x ∷ []) (omega arith)
next_number a (suc k) = let e : (a + 1) + k ≡ a + suc k = omega arith in ap (λ l. a ∷ l) (next_number (a + 1) k ∙ ap (λ (x : ℕ). numbers_from (a + 1) k ++ x ∷ []) e)

pub run_joined : (a k l : ℕ) → numbers_from a k ++ numbers_from (a + k) l ≡ numbers_from a (k + l)
run_joined a zero l = ap₂ (λ (x y : ℕ). numbers_from x y) (omega arith) (omega arith)
run_joined a (suc k) l =
    let e : a + suc k ≡ (a + 1) + k = omega arith in
    let f : suc (k + l) ≡ suc k + l = omega arith in
    ap (λ (x : ℕ). a ∷ (numbers_from (a + 1) k ++ numbers_from x l)) e ∙ ap (λ m. a ∷ m) (run_joined (a + 1) k l) ∙ ap (numbers_from a) f

below_none : (n a k : ℕ) → n < a → times n (numbers_from a k) ≡ 0
below_none n a zero low = refl
below_none n a (suc k) low = let h = below_none n (a + 1) k (omega arith) in let z = once_there n a (λ e. absurd (omega arith)) in omega arith

-- each once
pub run_distinct : (a k : ℕ) → AreDistinct (numbers_from a k)
run_distinct a zero n = omega arith
run_distinct a (suc k) n = dite (ℕ_discrete a n)
    (λ e. let h = below_none n (a + 1) k (omega arith) in let o = once_here n a e in omega arith)
    (λ ne. let h = run_distinct (a + 1) k n in let z = once_there n a ne in omega arith)

pub run_length : (a k : ℕ) → length (numbers_from a k) ≡ k
run_length a zero = refl
run_length a (suc k) = let h = run_length (a + 1) k in omega arith

-- numbers that differ, each of which stands in the other list
pub among_members : (ns ms : List ℕ) → AreDistinct ns → ((n : ℕ) → 0 < times n ns → 0 < times n ms) → AreAmong ns ms
among_members ns ms d there n = dite (ℕ_discrete (times n ns) 0) (λ e. omega arith) (λ ne. let h = d n in let t = there n (omega arith) in omega arith)
