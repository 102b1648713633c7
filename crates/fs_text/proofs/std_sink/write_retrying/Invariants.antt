-- Nothing was taken yet.
use Rattle.std.specs.Io.KnownBytes.{Keeps}
use Rattle.fs_text.proofs.std_sink.write_retrying.Given as goal

abbrev pub invariant-loop : goal.invariant-loop
invariant-loop g l = record {
  kept : Keeps (g.T.Write.contents l.fn.writer) (g.T.Write.contents l.writer);
}
