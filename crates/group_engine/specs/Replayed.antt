-- What a replay of lines on a region comes to, whatever the region tells.
use Rattle.std.specs.Prelude.{◌≡◌, ◌≢◌, ℕ, ◌<◌, List, ◌++◌, length, false}
use Rattle.std.specs.List.{slice_get}
use Rattle.fs_model.specs.declared.model.Request.{Request}
use Rattle.fs_text.specs.declared.line.Line.{Line}
use Rattle.pm_region.specs.State.{State, IsTelling}
use Rattle.chunk_map.specs.Layouts.{layout_of}
use Rattle.recover.specs.declared.types.Recovered.{Recovered}
use Rattle.engine_laws.specs.Stands.{Origin, Stands}
use Rattle.engine_laws.specs.Promises.{HasStopped, Promised, IsDone}
use Rattle.engine_laws.specs.Ran.{Ran, asked_in}
use Rattle.engine_laws.specs.Ceasing.{HasCeased}
use Rattle.core_worker.specs.declared.worker.Worker.{Worker}
use Rattle.engine_core.specs.declared.run_outcome.End.TheVariants as ends
use Rattle.engine_core.specs.declared.run_outcome.Outcome.{Outcome}
use Rattle.engine_core.specs.Answers.{kept_at, ShowsAnswer}
use Rattle.engine_core.specs.Reports.{IsReport, ReportsOn}
use Rattle.engine_core.specs.RunStarts.{BeginsAt, AreNew}
use Rattle.engine_core.specs.Endings.{listed_in}
use Rattle.group_engine.specs.Runs.{RunState, CoreMoves, first_state, with_request}

-- Lines led from a region's state and words, of which recovery gave this, to its state t, and this is the outcome, by the run's last state.
pub record Replayed (s : State) (word : ℕ → ℕ) (r : Recovered) (lines : List Line) (t : State)
    (x : Outcome) : Type 0 where
  pub origin : Origin
  pub begins : BeginsAt s word origin
  pub last : RunState Worker
  -- Whatever the end: each part is licensed, and the promises hold, of the requests that were given, which are the first ones.
  pub region : last.engine.region ≡ t
  pub stands : Stands origin last.engine
  pub promised : Promised origin last.engine
  pub given : (more : List Request) × (asked_in lines ≡ last.engine.given ++ more)
  -- The outcome is made of the answers that are kept, by number: they are the state's, and so is the report.
  pub count : length last.answers ≡ length last.engine.given
  pub shown : (n : ℕ) → ShowsAnswer (IsTelling t) (slice_get last.engine.given n)
      (last.engine.answer n) (kept_at last.answers n)
  pub kept : IsReport last.answers (listed_in x)
  pub reports : ReportsOn t origin last.engine (listed_in x)
  -- With memory all lines ran, by moves of workers that were made of what recovery gave; everything is answered and nothing is under way.
  pub workers : List Worker
  pub opened : x.end ≢ ends.Memory → AreNew r.starts.items r.layout workers
  pub ran : x.end ≢ ends.Memory → Ran CoreMoves with_request (layout_of origin.found).cores lines
      (first_state origin workers) last
  pub done : x.end ≢ ends.Memory → IsDone origin last.engine
  -- Without it all cores were wound down: what was posted or taken is finished.
  pub ceased : x.end ≡ ends.Memory → HasCeased last.engine
  -- With memory a fault is told exactly where a core has stopped.
  pub fault : x.end ≡ ends.RegionFault → HasStopped last.engine
  pub complete : x.end ≡ ends.Complete → (c : ℕ) → c < last.engine.layout.cores
      → last.engine.stopped c ≡ false
