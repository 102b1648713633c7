use Rattle.std.proofs.Common.{◌≡◌, ◌≤◌, length}
use Rattle.core_index.specs.Index.{all_untold}
use Rattle.core_worker.proofs.HeardNames.{TellsSoFar}
use Rattle.core_worker.proofs.hearing.hear_own.Given as goal

abbrev pub invariant-loop-name : goal.invariant-loop-name
invariant-loop-name l = TellsSoFar l.core l.initial.index l.index l.initial.standing l.standing
    × (length l.standing.entries ≡ length l.initial.standing.entries) × (all_untold l.index ≤ all_untold l.initial.index)

abbrev pub decreases-loop-name : goal.decreases-loop-name
decreases-loop-name l = all_untold l.index
