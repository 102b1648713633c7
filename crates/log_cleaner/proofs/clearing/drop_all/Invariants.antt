use Rattle.std.proofs.Common.{◌≡◌, ◌+◌, ◌≤◌, length, take}
use Rattle.log_cleaner.specs.Dropping.{lone_in, Drops}
use Rattle.log_cleaner.proofs.clearing.drop_all.Given as goal

abbrev pub invariant-loop-name : goal.invariant-loop-name
invariant-loop-name l = Drops l.fn.standing l.standing (take l.name-index l.names) × (length l.standing.entries + lone_in l.fn.standing (take l.name-index l.names) ≤ length l.fn.standing.entries) × (l.standing.room ≡ l.fn.standing.room) × (l.standing.floors ≡ l.fn.standing.floors)
