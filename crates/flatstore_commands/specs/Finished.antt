-- The finishes that a report names, as a list.
use Rattle.std.specs.Prelude.{ℕ, ◌+◌, List, [], ◌∷◌, Bool, true, false}
use Rattle.engine_core.specs.declared.run_report.Finish.{Finish}
use Rattle.flatstore_commands.specs.declared.finishes.Finishes.{Finishes}
use Rattle.flatstore_commands.specs.declared.finishes.Finishes.TheVariants.{Each, Alike}

-- of the requests from number n on, those of which this says so, all with one stamp
abbrev pub finishes_from : ℕ → List Bool → ℕ → List Finish
finishes_from n [] t = []
finishes_from n (true ∷ bs) t = record { request = n; stamp = t } ∷ finishes_from (n + 1) bs t
finishes_from n (false ∷ bs) t = finishes_from (n + 1) bs t

abbrev pub finishes_of : Finishes → List Finish
finishes_of (Each finishes) = finishes.items
finishes_of (Alike finished stamp) = finishes_from 0 finished.items stamp
