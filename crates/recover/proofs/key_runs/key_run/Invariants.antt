use Rattle.recover.proofs.RunLaws.{RunSoFar}
use Rattle.recover.proofs.key_runs.key_run.Given as goal

-- the run so far
abbrev pub invariant-loop-i : goal.invariant-loop-i
invariant-loop-i l = RunSoFar l.sorted l.at l.winner l.i
