-- Nothing was given yet.
use Rattle.std.proofs.Common.{◌≡◌, length}
use Rattle.std.specs.Io.KnownBytes.{Keeps}
use Rattle.fs_text.proofs.std_source.read_retrying.Given as goal

abbrev pub invariant-loop : goal.invariant-loop
invariant-loop g l = record {
  kept : Keeps (g.T.Read.remaining l.fn.reader) (g.T.Read.remaining l.reader);
  room : length l.buf ≡ length l.fn.buf;
}
