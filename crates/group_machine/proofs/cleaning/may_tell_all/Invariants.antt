use Rattle.std.proofs.Common.{◌≡◌, ℕ, true, take}
use Rattle.group_laws.specs.Updates.{has}
use Rattle.group_machine.specs.Shows.{place_of}
use Rattle.group_machine.specs.Deaths.{MayTell}
use Rattle.group_machine.proofs.cleaning.may_tell_all.Given as goal

abbrev pub invariant-loop-name : goal.invariant-loop-name
invariant-loop-name l = (k n : ℕ) → has (take l.name-index l.names) k n ≡ true → MayTell (place_of l.state) l.member l.view l.to k n
