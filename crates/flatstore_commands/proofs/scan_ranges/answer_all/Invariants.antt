use Rattle.std.proofs.Common.{◌≤◌, ℕ, List, take}
use Rattle.fs_model.specs.declared.model.Pair.{Pair}
use Rattle.pm_region.specs.Words.{lasts}
use Rattle.fs_text.specs.Streams.{Takes}
use Rattle.flatstore_commands.specs.Asking.{ListsLive}
use Rattle.flatstore_commands.specs.Scans.{answers_text}
use Rattle.flatstore_commands.proofs.scan_ranges.answer_all.Given as goal

-- the answers so far were written
abbrev pub invariant-loop-query : goal.invariant-loop-query
invariant-loop-query g l = record {
  sent : (pairs : List Pair) → ListsLive (lasts (g.R.Region.state l.region)) l.directory pairs
      → Takes (g.O.Sink.taken l.fn.sink) (g.O.Sink.taken l.sink) (answers_text pairs (take l.query-index l.queries));
  count : g.O.Sink.fault_count l.fn.sink ≤ g.O.Sink.fault_count l.sink;
}
