-- What a run of a load comes to.
use Rattle.std.specs.Prelude.{◌≡◌, ℕ, List, [], map, Bool, true}
use Rattle.fs_model.specs.declared.model.Request.{Request}
use Rattle.pm_region.specs.State.{State}
use Rattle.recover.specs.declared.types.Recovered.{Recovered}
use Rattle.engine_core.specs.Reports.{reply_in}
use Rattle.load_tally.specs.Tallied.{tally_of}
use Rattle.thread_engine.specs.Collected.{had_memory}
use Rattle.thread_engine.specs.RanApart.{RanApart, ComesTo}
use Rattle.load_run.specs.declared.load.LoadRun.{LoadRun}

-- It is a run of all of these requests, and each reply was counted once.
pub record RanLoad (s : State) (word : ℕ → ℕ) (refused : Bool) (r : Recovered) (asked : List Request)
    (t : State) (x : LoadRun) : Type 0 where
  pub ran : RanApart s word refused r asked t x.outcome.end
  pub comes : ComesTo t ran.kept x.outcome
  pub tally : had_memory x.outcome.end ≡ true → x.tally ≡ tally_of (map reply_in ran.kept) []
