use Rattle.std.proofs.Common.{◌≡◌, ◌≤◌, false}
use Rattle.region_memory.specs.Steady.{steady_state}
use Rattle.core_log.specs.Log.{StandsIn}
use Rattle.core_log_tests.proofs.cleaning_tests.fill.Given as goal

abbrev pub invariant-loop-version : goal.invariant-loop-version
invariant-loop-version l = record {
  stands : StandsIn (record (steady_state l.stage.region.region) { told = λ t. false }) l.stage.log;
  chunks : l.stage.log.layout.chunks ≡ 4;
  room : 2176 ≤ l.stage.buffer.room;
}
