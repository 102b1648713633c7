-- The rule of the queue of answers: each answer that was put is in it or was taken, once, and no other is.
use Rattle.std.specs.Prelude.{◌≡◌, ℕ, zero, suc, ◌+◌, ◌-◌, ◌≤◌, ◌==◌, List, [], ◌∷◌, ◌++◌, length, IsPermutation, if◌then◌else◌}
use mathlib.Core.Option.{some}
use lib.ListN.{get_elem?}
use Rattle.answer_queue.specs.declared.window_sizes.TheConstants.{WINDOW, PARTS}
use Rattle.core_worker.specs.declared.types.Answer.{Answer}
use Rattle.answer_queue.specs.declared.account.Account.{Account}

abbrev pub account : ℕ → List ℕ → List Answer → List Answer → Account
account parts may put took = record { parts = parts; may = may; put = put; took = took }

abbrev pub once : ℕ → ℕ → ℕ
once n x = if x == n then 1 else 0

-- how often a number stands in a list
abbrev pub times : ℕ → List ℕ → ℕ
times n [] = 0
times n (x ∷ xs) = once n x + times n xs

-- no number stands there twice
abbrev pub AreDistinct : List ℕ → Type 0
AreDistinct ns = (n : ℕ) → times n ns ≤ 1

-- each number stands in the second list at least as often
abbrev pub AreAmong : List ℕ → List ℕ → Type 0
AreAmong ns ms = (n : ℕ) → times n ns ≤ times n ms

-- a list without a number, or without several
abbrev pub without : ℕ → List ℕ → List ℕ
without n [] = []
without n (x ∷ xs) = if x == n then xs else (x ∷ without n xs)

abbrev pub without_all : List ℕ → List ℕ → List ℕ
without_all [] xs = xs
without_all (n ∷ ns) xs = without_all ns (without n xs)

-- the numbers of answers
abbrev pub numbers : List Answer → List ℕ
numbers [] = []
numbers (a ∷ as_) = a.number ∷ numbers as_

-- so many numbers, one after another, from this one on
abbrev pub numbers_from : ℕ → ℕ → List ℕ
numbers_from a zero = []
numbers_from a (suc k) = a ∷ numbers_from (a + 1) k

-- of all passes together: a number of each added up, and a list of each joined
abbrev pub total : (Account → ℕ) → List Account → ℕ
total f [] = 0
total f (v ∷ vs) = f v + total f vs

abbrev pub gathered : (Account → List Answer) → List Account → List Answer
gathered f [] = []
gathered f (v ∷ vs) = f v ++ gathered f vs

-- a pass without a part has nothing
pub record IsIdle (v : Account) : Type 0 where
  pub may : v.may ≡ []
  pub put : v.put ≡ []
  pub took : v.took ≡ []

-- A pass with all parts, which has taken as many as were put: the queue is empty.
pub record IsClear (v : Account) : Type 0 where
  pub whole : v.parts ≡ PARTS
  pub level : length v.took ≡ length v.put

-- The rule.
pub record Once (items : List Answer) (views : List Account) : Type 0 where
  pub parts : total (λ v. v.parts) views ≡ PARTS
  -- what was put is what was taken and what the queue holds, in another order
  pub kept : IsPermutation (gathered (λ v. v.put) views) (gathered (λ v. v.took) views ++ items)
  -- those that came and those that may come are no more than the places
  pub few : total (λ v. length v.may + length v.put) views ≤ WINDOW
  -- and their numbers differ
  pub distinct : (n : ℕ) → total (λ v. times n v.may + times n (numbers v.put)) views ≤ 1
  pub idle : (port : ℕ) (v : Account) → get_elem? views port ≡ some v → v.parts ≡ 0 → IsIdle v

-- views: one that has nothing, one that may put answers of these numbers, and what becomes of two
abbrev pub spent : Account
spent = account 0 [] [] []

abbrev pub granted : List ℕ → Account
granted ns = account PARTS ns [] []

abbrev pub with_numbers : List ℕ → Account
with_numbers ns = account 1 ns [] []

abbrev pub without_numbers : List ℕ → Account → Account
without_numbers ns v = account (v.parts - 1) (without_all ns v.may) v.put v.took

abbrev pub joined : Account → Account → Account
joined v w = account (v.parts + w.parts) (v.may ++ w.may) (v.put ++ w.put) (v.took ++ w.took)

abbrev pub after_put : Account → Answer → Account
after_put v x = account v.parts (without x.number v.may) (v.put ++ x ∷ []) v.took

abbrev pub after_puts : Account → List Answer → Account
after_puts v xs = account v.parts (without_all (numbers xs) v.may) (v.put ++ xs) v.took

abbrev pub after_take : Account → Answer → Account
after_take v x = account v.parts v.may v.put (v.took ++ x ∷ [])

-- what the steps tell
abbrev pub PutsAs : Account → Answer → Account → Type 0
PutsAs v x w = w ≡ after_put v x

-- no more is ever taken than a window has
abbrev pub TakesAs : Account → Answer → Account → Type 0
TakesAs v x w = (w ≡ after_take v x) × (length w.took ≤ WINDOW)

-- there is a place for each answer that may come
abbrev pub HasRoomFor : Account → List Answer → Type 0
HasRoomFor v items = length items + length v.may ≤ WINDOW

-- What was taken is what was put, in another order, and the numbers differ.
pub record IsSettled (v : Account) : Type 0 where
  pub all : IsPermutation v.put v.took
  pub distinct : AreDistinct (numbers v.put)

-- with all parts: what was put is what was taken and what the queue holds
abbrev pub SettlesAs : Account → List Answer → Type 0
SettlesAs v items = v.parts ≡ PARTS
    → IsPermutation v.put (v.took ++ items) × AreDistinct (numbers v.put)
