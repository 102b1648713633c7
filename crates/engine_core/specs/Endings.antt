-- How a run ends, and what it comes to.
use Rattle.std.specs.Prelude.{Bool, Result, Ok, Err, if◌then◌else◌}
use Rattle.fs_model.specs.declared.memory.Memory.{Memory}
use Rattle.engine_core.specs.declared.run_report.Report.{Report}
use Rattle.engine_core.specs.Reports.{Listed}
use Rattle.engine_core.specs.declared.run_outcome.End.{End}
use Rattle.engine_core.specs.declared.run_outcome.End.TheVariants as ends
use Rattle.engine_core.specs.declared.run_outcome.Outcome.{Outcome}

-- how a run ended, by whether a core has stopped and by what it answered
abbrev pub end_by : Bool → Result (Unit {0}) Memory → End
end_by stopped (Ok x) = if stopped then ends.RegionFault else ends.Complete
end_by stopped (Err e) = ends.Memory

abbrev pub outcome_by : Report → End → Outcome
outcome_by r end = record {
  replies = r.replies;
  finishes = r.finishes;
  refusals = r.refusals;
  end = end;
}

abbrev pub listed_in : Outcome → Listed
listed_in x = record {
  replies = x.replies.items;
  finishes = x.finishes.items;
  refusals = x.refusals.items;
}
