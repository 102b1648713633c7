-- Passes that are given to jobs and taken from them, one after another.
use Rattle.std.proofs.Common.{◌≡◌, ℕ, zero, suc, ◌<◌, ◌≤◌, List, [], ◌∷◌, ◌++◌, length, drop, Option, Some, slice_index_or, option_to_list, refl, ap, arith}
use Rattle.crossbeam_queue.specs.Passes.{Pass}
use Rattle.core_worker.specs.declared.types.Answer.{Answer}
use Rattle.answer_queue.specs.declared.account.Account.{Account}
use Rattle.answer_cores.specs.Passes.{numbers_in}
use Rattle.thread_engine.specs.declared.core_job.CoreJob.{CoreJob}
use Rattle.thread_engine.specs.WindowJobs.{waiting_for, passes_of}

module _ {B P : Type 0} where
  -- the numbers of the next one
  pub next_waiting : (jobs : List (CoreJob B P)) (i : ℕ) (d : CoreJob B P) → i < length jobs → drop i (waiting_for jobs) ≡ numbers_in (slice_index_or jobs i d).queue.items ∷ drop (suc i) (waiting_for jobs)
  next_waiting [] i d low = absurd (omega (arith, low))
  next_waiting (x ∷ xs) zero d low = refl
  next_waiting (x ∷ xs) (suc i) d low = next_waiting xs i d (omega (arith, low))

  -- the pass of the next one
  pub next_pass : (jobs : List (CoreJob B P)) (i : ℕ) (d : CoreJob B P) (p : Pass Answer Account) → i < length jobs → (slice_index_or jobs i d).pass ≡ Some p → passes_of (drop i jobs) ≡ p ∷ passes_of (drop (suc i) jobs)
  next_pass [] i d p low e = absurd (omega (arith, low))
  next_pass (x ∷ xs) zero d p low e = ap (λ (o : Option (Pass Answer Account)). option_to_list o ++ passes_of xs) e
  next_pass (x ∷ xs) (suc i) d p low e = next_pass xs i d p (omega (arith, low)) e

  pub none_behind : (jobs : List (CoreJob B P)) (i : ℕ) → length jobs ≤ i → (drop i (waiting_for jobs) ≡ []) × (passes_of (drop i jobs) ≡ [])
  none_behind [] zero past = (refl, refl)
  none_behind [] (suc i) past = (refl, refl)
  none_behind (x ∷ xs) zero past = absurd (omega (arith, past))
  none_behind (x ∷ xs) (suc i) past = none_behind xs i (omega (arith, past))
