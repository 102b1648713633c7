-- The answers that were taken out of the queues of windows, and what is kept of them.
use Rattle.std.specs.Prelude.{◌≡◌, ℕ, ◌+◌, ◌-◌, ◌<◌, ◌≤◌, List, [], ◌∷◌, ◌++◌, length, map, Option, IsPermutation}
use Rattle.store_image.specs.Facts.{In}
use Rattle.core_worker.specs.declared.types.Answer.{Answer}
use Rattle.answer_queue.specs.Accounts.{numbers, AreDistinct}
use Rattle.answer_cores.specs.Passes.{all_answers}
use Rattle.engine_core.specs.declared.types.Stamped.{Stamped}
use Rattle.engine_core.specs.Answers.{stored}
use Rattle.thread_engine.specs.Collected.{AreBlank}

-- core by core, those of one window and then those of another
abbrev pub both_outs : List (List Answer) → List (List Answer) → List (List Answer)
both_outs [] ys = ys
both_outs (x ∷ xs) [] = x ∷ xs
both_outs (x ∷ xs) (y ∷ ys) = (x ++ y) ∷ both_outs xs ys

-- What the cores handed over was taken, each answer once and no other, and is kept by number, with this stamp. The numbers are those from n on and below m, none of them twice.
pub record TakenAs (t n m : ℕ) (outs : List (List Answer)) (old new : List (Option Stamped)) : Type 0 where
  pub taken : List Answer
  pub all : IsPermutation (all_answers outs) taken
  pub distinct : AreDistinct (numbers taken)
  pub within : (a : Answer) → In a taken → (n ≤ a.number) × (a.number < m)
  pub kept : new ≡ stored taken t old

-- an answer by its number from n on
abbrev pub numbered_from : ℕ → Answer → Answer
numbered_from n a = record a { number = a.number - n }

-- The same, where only the places from number n on are at hand.
pub record TakenIn (n m : ℕ) (outs : List (List Answer)) (window : List (Option Stamped)) : Type 0 where
  pub taken : List Answer
  pub all : IsPermutation (all_answers outs) taken
  pub distinct : AreDistinct (numbers taken)
  pub within : (a : Answer) → In a taken → (n ≤ a.number) × (a.number < m)
  pub places : List (Option Stamped)
  pub blank : AreBlank places
  pub long : m ≤ n + length places
  pub kept : window ≡ stored (map (numbered_from n) taken) 0 places
