use Rattle.std.proofs.Common.{◌≡◌, length}
use Rattle.recover.specs.Shares.{AreEmpty}
use Rattle.recover.proofs.shares.no_shares.Given as goal

abbrev pub invariant-loop : goal.invariant-loop
invariant-loop l = record {
  count : length l.shares.items ≡ l.counter;
  empty : AreEmpty l.shares.items;
}
