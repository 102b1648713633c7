use Rattle.std.proofs.Common.{◌≡◌, ℕ, true, false, eqb, take}
use Rattle.group_laws.specs.Places.{owner}
use Rattle.group_laws.specs.Updates.{has}
use Rattle.group_machine.specs.Shows.{place_of}
use Rattle.group_machine.proofs.cleaning.foreign.Given as goal

abbrev pub invariant-loop-name : goal.invariant-loop-name
invariant-loop-name l = (k n : ℕ) → (has l.list.items k n ≡ true → (has (take l.name-index l.names) k n ≡ true) × (eqb (owner (place_of l.state) k) l.member ≡ false)) × ((has (take l.name-index l.names) k n ≡ true) × (eqb (owner (place_of l.state) k) l.member ≡ false) → has l.list.items k n ≡ true)
