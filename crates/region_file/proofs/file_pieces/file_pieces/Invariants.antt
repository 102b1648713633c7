use Rattle.region_file.specs.Calls.{AreReads}
use Rattle.region_file.specs.Files.{AreFileParts}
use Rattle.region_file.proofs.file_pieces.file_pieces.Given as goal

abbrev pub invariant-loop-i : goal.invariant-loop-i
invariant-loop-i g l = record {
  parts : AreFileParts l.path l.fn.words l.cuts l.stamp l.faults l.pieces.items l.i;
  reads : AreReads l.tried.made;
}
