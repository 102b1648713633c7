use Rattle.std.proofs.Common.{◌≡◌, drop}
use Rattle.core_log.specs.Log.{tail_of}
use Rattle.core_log_tests.proofs.cleaning_tests.has_chunk.Given as goal

abbrev pub invariant-loop-c : goal.invariant-loop-c
invariant-loop-c l = tail_of l.log.chunks l.chunk ≡ tail_of (drop l.c-index l.log.chunks) l.chunk
