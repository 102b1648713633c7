-- The passes of the cores of a run: dealt, used and taken in.
use Rattle.std.specs.Prelude.{◌≡◌, ℕ, List, [], ◌∷◌, ◌++◌, map}
use Rattle.std.specs.Global.{Global}
use Rattle.std.specs.declared.collections.VecDeque.{VecDeque}
use Rattle.crossbeam_queue.specs.Passes.{Pass}
use Rattle.fs_model.specs.declared.model.Request.{Request}
use Rattle.core_worker.specs.declared.types.Answer.{Answer}
use Rattle.answer_queue.specs.declared.window_sizes.TheConstants.{PARTS}
use Rattle.answer_queue.specs.declared.account.Account.{Account}
use Rattle.answer_queue.specs.declared.answer_queue.AnswerQueue.{AnswerQueue}
use Rattle.answer_queue.specs.Accounts.{with_numbers, without_numbers, after_puts, joined}
use Rattle.answer_queue.specs.Queues.{IsOf, account_of}

-- the numbers of requests
abbrev pub numbers_in : List (ℕ × Request) → List ℕ
numbers_in xs = map (λ x. x.0) xs

-- those of each core
abbrev pub numbers_of : List (VecDeque (ℕ × Request) Global) → List (List ℕ)
numbers_of waiting = map (λ q. numbers_in q.items) waiting

-- core by core in one list
abbrev pub all_numbers : List (List ℕ) → List ℕ
all_numbers [] = []
all_numbers (ns ∷ nss) = ns ++ all_numbers nss

abbrev pub all_answers : List (List Answer) → List Answer
all_answers [] = []
all_answers (xs ∷ xss) = xs ++ all_answers xss

-- a pass of the queue that has one part, and may put answers of these numbers and no other
pub record IsDealt (q : AnswerQueue) (ns : List ℕ) (p : Pass Answer Account) : Type 0 where
  pub of : IsOf q p
  pub may : account_of p ≡ with_numbers ns

-- one for each list of numbers
abbrev pub AllDealt : AnswerQueue → List (List ℕ) → List (Pass Answer Account) → Type 0
AllDealt q [] [] = Unit {0}
AllDealt q [] (p ∷ ps) = ⊥
AllDealt q (ns ∷ nss) [] = ⊥
AllDealt q (ns ∷ nss) (p ∷ ps) = IsDealt q ns p × AllDealt q nss ps

-- a pass of the queue that has put these answers since it knew so much
pub record HasPut (q : AnswerQueue) (v : Account) (xs : List Answer) (p : Pass Answer Account) : Type 0 where
  pub of : IsOf q p
  pub put : account_of p ≡ after_puts v xs

-- one for each list of numbers that was dealt, and of answers
abbrev pub AllPut : AnswerQueue → List (List ℕ) → List (List Answer) → List (Pass Answer Account) → Type 0
AllPut q [] [] [] = Unit {0}
AllPut q (ns ∷ nss) (xs ∷ xss) (p ∷ ps) = HasPut q (with_numbers ns) xs p × AllPut q nss xss ps
AllPut q nss xss ps = ⊥

abbrev pub AllOf : AnswerQueue → List (Pass Answer Account) → Type 0
AllOf q [] = Unit {0}
AllOf q (p ∷ ps) = IsOf q p × AllOf q ps

-- what a pass knows after it has dealt these numbers
abbrev pub after_deals : Account → List (List ℕ) → Account
after_deals v [] = v
after_deals v (ns ∷ nss) = after_deals (without_numbers ns v) nss

-- and after it took these passes in
abbrev pub joined_all : Account → List (Pass Answer Account) → Account
joined_all v [] = v
joined_all v (p ∷ ps) = joined_all (joined v (account_of p)) ps

-- It has all parts and has taken nothing, and these answers were put.
pub record IsWhole (xs : List Answer) (v : Account) : Type 0 where
  pub parts : v.parts ≡ PARTS
  pub took : v.took ≡ []
  pub put : v.put ≡ xs
