use Rattle.std.proofs.Common.{◌≡◌, ◌+◌, drop}
use Rattle.core_log.specs.Places.{place_of}
use Rattle.core_log.proofs.tails.place_of.Given as goal

abbrev pub invariant-loop-i : goal.invariant-loop-i
invariant-loop-i l = place_of l.chunks l.chunk ≡ l.i + place_of (drop l.i l.chunks) l.chunk
