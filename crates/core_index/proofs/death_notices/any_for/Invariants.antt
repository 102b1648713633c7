use Rattle.std.proofs.Common.{take}
use Rattle.core_index.specs.Noted.{LacksHome}
use Rattle.core_index.proofs.death_notices.any_for.Given as goal

abbrev pub invariant-loop-i : goal.invariant-loop-i
invariant-loop-i l = LacksHome l.home (take l.i l.nodes)
