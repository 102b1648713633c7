use Rattle.pm_region.specs.Bytes.{AreWords}
use Rattle.image_reader.proofs.image_bytes.words_of.Given as goal

abbrev pub invariant-loop-k : goal.invariant-loop-k
invariant-loop-k l = AreWords l.bytes l.words.items l.k
