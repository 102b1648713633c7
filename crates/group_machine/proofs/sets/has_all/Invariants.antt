use Rattle.std.proofs.Common.{◌≡◌, ℕ, true, take}
use Rattle.group_laws.specs.Updates.{has}
use Rattle.group_machine.proofs.sets.has_all.Given as goal

abbrev pub invariant-loop-name : goal.invariant-loop-name
invariant-loop-name l = (k n : ℕ) → has (take l.name-index l.names) k n ≡ true → has l.list k n ≡ true
