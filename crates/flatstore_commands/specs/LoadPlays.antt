-- What a load did once its region was attached.
use Rattle.std.specs.Prelude.{◌≡◌, ◌⊎◌, ℕ, ◌≤◌, List, Bool, true, false, Some}
use Rattle.fs_model.specs.declared.model.Reply.{Reply}
use Rattle.store_image.specs.declared.types.Fault.{Fault}
use Rattle.store_image.specs.Soundness.{first_fault}
use Rattle.engine_core.specs.declared.run_outcome.End.{End}
use Rattle.pm_region.specs.State.{State, Faulted, Rose}
use Rattle.pm_region.specs.Split.{Stays}
use Rattle.recover.specs.declared.types.Recovered.{Recovered}
use Rattle.engine_core.specs.RunStarts.{StandsAsFound}
use Rattle.load_requests.specs.Generated.{requests_of_load}
use Rattle.load_run.specs.declared.load.LoadRun.{LoadRun}
use Rattle.load_run.specs.Loaded.{RanLoad}
use Rattle.flatstore_commands.specs.Ends.{SinkUse}
use Rattle.flatstore_commands.specs.Loads.{TakesTally, TakesTallyFront}
use Rattle.flatstore_commands.specs.Played.{HasWritten, IsKeptBack, IsUnserved, is_ended}
use Rattle.flatstore_commands.specs.Statuses.{fault_status}
use Rattle.flatstore_commands.specs.declared.report.Status.{Status}
use Rattle.flatstore_commands.specs.declared.report.Status.TheVariants as statuses
use Rattle.flatstore_commands.specs.declared.run_threads.NotRun.{NotRun}
use Rattle.flatstore_commands.specs.declared.run_threads.NotRun.TheVariants.{Refused, Unsplit}

-- The cores ran over the requests of a load, from the region's state s to t, and each reply was counted.
pub record Loaded (s : State) (word : ℕ → ℕ) (refused : Bool) (start count : ℕ) (t : State)
    (x : LoadRun) : Type 0 where
  pub recovered : Recovered
  pub stands : StandsAsFound s word recovered
  pub ran : RanLoad s word refused recovered (requests_of_load start count) t x

-- What became of the tally of these replies behind a run that came to this end: it was written, or the beginning of it, and
-- the status says which. Or the words that the region reads break a rule, and nothing was written.
abbrev pub HasShownTally : ℕ → (ℕ → ℕ) → List Reply → End → SinkUse → Status → Type 0
HasShownTally bytes word replies end sink status =
    HasWritten (TakesTally word sink replies) (TakesTallyFront word sink replies) end sink status
    ⊎ ((sink.now ≡ sink.before) × (fault : Fault) × (status ≡ fault_status fault)
    × (first_fault bytes word ≡ Some fault))

-- the same, by whether the region was found in its place behind the run
abbrev pub HasTallied : ℕ → (ℕ → ℕ) → List Reply → End → SinkUse → Bool → Status → Type 0
HasTallied bytes word replies end sink true status =
    HasShownTally bytes word replies end sink status × (is_ended end ≡ true)
HasTallied bytes word replies end sink false status =
    (sink.now ≡ sink.before) × IsKeptBack end status

-- Why no core ran: the region breaks a rule, there was no memory, or the region was ready and a split of it failed.
abbrev pub WhyNotLoaded : State → (ℕ → ℕ) → State → NotRun → Type 0
WhyNotLoaded s word t (Refused status) =
    ((t ≡ s) × IsUnserved s status) ⊎ (status ≡ statuses.Memory)
WhyNotLoaded s word t Unsplit =
    (recovered : Recovered) × StandsAsFound s word recovered × Faulted s t
    × Rose s.frame.refusals t.frame.refusals

-- No core ran, and the region is as it was, but for its counts.
pub record IsNotLoaded (s : State) (word : ℕ → ℕ) (t : State) (why : NotRun) : Type 0 where
  pub stays : Stays s t
  pub later : s.faults ≤ t.faults
  pub cause : WhyNotLoaded s word t why
