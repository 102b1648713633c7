use Rattle.std.proofs.Common.{◌≡◌, ℕ, true, false, take}
use Rattle.group_laws.specs.Updates.{has}
use Rattle.group_machine.proofs.sets.names_but.Given as goal

abbrev pub invariant-loop-name : goal.invariant-loop-name
invariant-loop-name l = (k n : ℕ) → (has l.left.items k n ≡ true → (has (take l.name-index l.list) k n ≡ true) × (has l.out k n ≡ false)) × ((has (take l.name-index l.list) k n ≡ true) × (has l.out k n ≡ false) → has l.left.items k n ≡ true)
