-- The finishes that a run's notes name are those of its answers.
use Rattle.std.proofs.Common.{◌≡◌, ℕ, ◌+◌, List, [], ◌∷◌, ◌++◌, map, Bool, true, false, Option, Some, None, refl, ◌∙◌, ap}
use Rattle.std.specs.Prelude.{if◌then◌else◌}
use Rattle.fs_model.specs.Lawful.{is_finish}
use Rattle.pm_region.specs.State.{State}
use Rattle.engine_core.specs.declared.run_report.Finish.{Finish}
use Rattle.engine_core.specs.declared.types.Stamped.{Stamped}
use Rattle.engine_core.specs.Reports.{finishes_in}
use Rattle.thread_engine.specs.Collected.{restamped}
use Rattle.thread_engine.specs.Noted.{is_finished}
use Rattle.thread_engine.specs.RanApart.{ComesTo}
use Rattle.thread_engine.specs.declared.run_apart.RunOutcome.{RunOutcome}
use Rattle.flatstore_commands.specs.Finished.{finishes_from}

one_more : (n t : ℕ) (b : Bool) (bs : List Bool) → finishes_from n (b ∷ bs) t ≡ (if b then record { request = n; stamp = t } ∷ [] else []) ++ finishes_from (n + 1) bs t
one_more n t true bs = refl
one_more n t false bs = refl

all_alike : (n t : ℕ) (ks : List (Option Stamped)) → finishes_from n (map is_finished ks) t ≡ finishes_in n (restamped t ks)
all_alike n t [] = refl
all_alike n t (None ∷ ks) = all_alike (n + 1) t ks
all_alike n t (Some x ∷ ks) = one_more n t (is_finish x.reply) (map is_finished ks)
    ∙ ap (λ (l : List Finish). (if is_finish x.reply then record { request = n; stamp = t } ∷ [] else []) ++ l) (all_alike (n + 1) t ks)

pub finishes_noted : (t : State) (kept : List (Option Stamped)) (x : RunOutcome) → ComesTo t kept x → finishes_from 0 x.notes.finished.items x.stamp ≡ finishes_in 0 kept
finishes_noted t kept x C = (λ i. finishes_from 0 (C.noted.finished i) (C.stamp i)) ∙ all_alike 0 t.stamp kept ∙ ap (finishes_in 0) C.alike
