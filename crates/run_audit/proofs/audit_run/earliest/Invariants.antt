use Rattle.std.proofs.Common.{ℕ, List, Option}
use Rattle.fs_model.specs.declared.model.Request.{Request}
use Rattle.fs_model.specs.declared.model.Reply.{Reply}
use Rattle.run_audit.specs.Shares.{AreOfShares, IsFaultAmong, is_before}
use Rattle.run_audit.proofs.audit_run.earliest.Given as goal

abbrev pub invariant-loop-fault : goal.invariant-loop-fault
invariant-loop-fault l = (start : ℕ → Option (List ℕ)) (workers : ℕ) (xs : List (Request × Reply)) → AreOfShares start workers xs l.faults
    → IsFaultAmong start (is_before workers l.fault-index) xs l.least
