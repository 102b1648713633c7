use Rattle.std.proofs.Common.{◌≡◌, take}
use Rattle.load_tally.specs.Tallied.{bytes_of}
use Rattle.load_tally.proofs.tallying.bytes_together.Given as goal

abbrev pub invariant-loop-pair : goal.invariant-loop-pair
invariant-loop-pair l = l.bytes ≡ bytes_of (take l.pair-index l.pairs)
