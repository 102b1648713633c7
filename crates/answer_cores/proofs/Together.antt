-- What the passes of all cores come to.
use Rattle.std.proofs.Common.{◌≡◌, ℕ, ◌+◌, ◌<◌, List, [], ◌∷◌, ◌++◌, length, sym, refl, ap, ◌∙◌, append_assoc, append-nil, arith}
use Rattle.crossbeam_queue.specs.Passes.{Pass}
use Rattle.core_worker.specs.declared.types.Answer.{Answer}
use Rattle.answer_queue.specs.declared.window_sizes.TheConstants.{PARTS}
use Rattle.answer_queue.specs.declared.account.Account.{Account}
use Rattle.answer_queue.specs.declared.answer_queue.AnswerQueue.{AnswerQueue}
use Rattle.answer_queue.specs.Accounts.{AreAmong, without_all, without_numbers, with_numbers, after_puts, joined, granted}
use Rattle.answer_queue.specs.Queues.{account_of}
use Rattle.answer_queue.proofs.Clients.{leaves_all, times_append}
use Rattle.answer_cores.specs.Passes.{IsDealt, AllDealt, AllPut, AllOf, all_answers, after_deals, joined_all, IsWhole}

-- one more is dealt
pub dealt_snoc : (q : AnswerQueue) (nss : List (List ℕ)) (ps : List (Pass Answer Account)) (ns : List ℕ) (p : Pass Answer Account) → AllDealt q nss ps → IsDealt q ns p → AllDealt q (nss ++ ns ∷ []) (ps ++ p ∷ [])
dealt_snoc q [] [] ns p all one = (one, tt)
dealt_snoc q [] (x ∷ ps) ns p all one = absurd all
dealt_snoc q (x ∷ nss) [] ns p all one = absurd all
dealt_snoc q (x ∷ nss) (y ∷ ps) ns p all one = (all.0, dealt_snoc q nss ps ns p all.1 one)

pub deals_snoc : (v : Account) (nss : List (List ℕ)) (ns : List ℕ) → after_deals v (nss ++ ns ∷ []) ≡ without_numbers ns (after_deals v nss)
deals_snoc v [] ns = refl
deals_snoc v (x ∷ nss) ns = deals_snoc (without_numbers x v) nss ns

-- the numbers of the first, and those of the rest without them
pub first_among : (ns ms may : List ℕ) → AreAmong (ns ++ ms) may → AreAmong ns may
first_among ns ms may among n = let a = among n in omega (arith, times_append n ns ms)

pub rest_among : (ns ms may : List ℕ) → AreAmong (ns ++ ms) may → AreAmong ms (without_all ns may)
rest_among ns ms may among n =
    let a = among n in
    let l = (leaves_all ns may (first_among ns ms may among)).times_are n in
    omega (arith, times_append n ns ms)

pub all_of : (q : AnswerQueue) (nss : List (List ℕ)) (xss : List (List Answer)) (ps : List (Pass Answer Account)) → AllPut q nss xss ps → AllOf q ps
all_of q [] [] [] all = tt
all_of q [] [] (p ∷ ps) all = absurd all
all_of q [] (xs ∷ xss) ps all = absurd all
all_of q (ns ∷ nss) [] ps all = absurd all
all_of q (ns ∷ nss) (xs ∷ xss) [] all = absurd all
all_of q (ns ∷ nss) (xs ∷ xss) (p ∷ ps) all = (all.0.of, all_of q nss xss ps all.1)

-- What a pass has after it has dealt.
pub record Dealt (v : Account) (parts : ℕ) (w : Account) : Type 0 where
  pub parts_are : w.parts + parts ≡ v.parts
  pub put : w.put ≡ v.put
  pub took : w.took ≡ v.took

pub deals_all : (nss : List (List ℕ)) (v : Account) → length nss < v.parts → Dealt v (length nss) (after_deals v nss)
deals_all [] v few = record { parts_are = omega arith; put = refl; took = refl }
deals_all (ns ∷ nss) v few =
    let rest = deals_all nss (without_numbers ns v) (omega arith) in
    record { parts_are = (let p = rest.parts_are in omega arith); put = rest.put; took = rest.took }

-- What a pass has after others joined it.
pub record Joined (v : Account) (xs : List Answer) (parts : ℕ) (w : Account) : Type 0 where
  pub parts_are : w.parts ≡ v.parts + parts
  pub put : w.put ≡ v.put ++ xs
  pub took : w.took ≡ v.took

pub joins_all : (q : AnswerQueue) (nss : List (List ℕ)) (xss : List (List Answer)) (ps : List (Pass Answer Account)) (v : Account) → AllPut q nss xss ps
    → Joined v (all_answers xss) (length nss) (joined_all v ps)
joins_all q [] [] [] v all = record { parts_are = omega arith; put = sym (append-nil v.put); took = refl }
joins_all q [] [] (p ∷ ps) v all = absurd all
joins_all q [] (xs ∷ xss) ps v all = absurd all
joins_all q (ns ∷ nss) [] ps v all = absurd all
joins_all q (ns ∷ nss) (xs ∷ xss) [] v all = absurd all
joins_all q (ns ∷ nss) (xs ∷ xss) (p ∷ ps) v all =
    let is : account_of p ≡ after_puts (with_numbers ns) xs = all.0.put in
    let w : Account = joined v (account_of p) in
    let rest = joins_all q nss xss ps w all.1 in
    let one : (account_of p).parts ≡ 1 = ap (λ (u : Account). u.parts) is in
    let own : (account_of p).put ≡ xs = ap (λ (u : Account). u.put) is in
    let none : (account_of p).took ≡ [] = ap (λ (u : Account). u.took) is in
    record {
      parts_are = (let k = rest.parts_are in omega arith);
      put = rest.put ∙ ap (λ (l : List Answer). (v.put ++ l) ++ all_answers xss) own ∙ append_assoc v.put xs (all_answers xss);
      took = rest.took ∙ ap (λ (l : List Answer). v.took ++ l) none ∙ append-nil v.took;
    }

-- a pass that had all parts, dealt them and took them in again has all that was put
pub whole : (q : AnswerQueue) (nss : List (List ℕ)) (xss : List (List Answer)) (ps : List (Pass Answer Account)) (may : List ℕ) (r : Account) → length nss < PARTS
    → r ≡ after_deals (granted may) nss → AllPut q nss xss ps → IsWhole (all_answers xss) (joined_all r ps)
whole q nss xss ps may r few rest all =
    let d = deals_all nss (granted may) few in
    let j = joins_all q nss xss ps r all in
    let parts : r.parts ≡ (after_deals (granted may) nss).parts = ap (λ (u : Account). u.parts) rest in
    record {
      parts = (let a = d.parts_are in let b = j.parts_are in omega arith);
      took = j.took ∙ ap (λ (u : Account). u.took) rest ∙ d.took;
      put = j.put ∙ ap (λ (u : Account). u.put ++ all_answers xss) rest ∙ ap (λ l. l ++ all_answers xss) d.put;
    }
