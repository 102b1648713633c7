-- What is kept of the answers, and how a run ended by its workers.
use Rattle.std.specs.Prelude.{◌≡◌, ℕ, zero, suc, List, [], ◌∷◌, length, map, Bool, true, false, Option, Some, None, if◌then◌else◌}
use Rattle.std.specs.List.{list_any, AllByRecursion}
use Rattle.core_worker.specs.declared.worker.Worker.{Worker}
use Rattle.answer_queue.specs.declared.window_sizes.TheConstants.{WINDOW}
use Rattle.engine_core.specs.declared.types.Stamped.{Stamped}
use Rattle.engine_core.specs.declared.run_outcome.End.{End}
use Rattle.engine_core.specs.declared.run_outcome.End.TheVariants as ends

-- nothing is answered yet
abbrev pub AreBlank : List (Option Stamped) → Type 0
AreBlank xs = AllByRecursion (λ x. x ≡ None) xs

-- so many places in which nothing is answered
abbrev pub blanks : ℕ → List (Option Stamped)
blanks zero = []
blanks (suc n) = None ∷ blanks n

-- the places of a window, before its first answer
pub record IsWindow (xs : List (Option Stamped)) : Type 0 where
  pub blank : AreBlank xs
  pub count : length xs ≡ WINDOW

-- what is kept, each answer with this stamp
abbrev pub with_stamp : ℕ → Option Stamped → Option Stamped
with_stamp t None = None
with_stamp t (Some x) = Some (record x { stamp = t })

-- all that is kept, each answer with this stamp
abbrev pub restamped : ℕ → List (Option Stamped) → List (Option Stamped)
restamped t ys = map (with_stamp t) ys

-- a worker has stopped
abbrev pub any_stopped : List Worker → Bool
any_stopped ws = list_any (λ w. w.stopped) ws

-- how a run ended, by whether there was memory for all requests and whether a worker has stopped
abbrev pub end_by : Bool → Bool → End
end_by all stopped = if all then (if stopped then ends.RegionFault else ends.Complete)
    else ends.Memory

-- there was memory for all
abbrev pub had_memory : End → Bool
had_memory ends.Complete = true
had_memory ends.RegionFault = true
had_memory ends.Memory = false
