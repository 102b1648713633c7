use Rattle.std.proofs.Common.{◌≡◌, map, take}
use Rattle.recover.specs.Standing.{standee_at}
use Rattle.recover.proofs.key_standees.list_standees.Given as goal

abbrev pub invariant-loop-found : goal.invariant-loop-found
invariant-loop-found l = l.standing.items ≡ map (standee_at l.layout) (take l.found-index l.run)
