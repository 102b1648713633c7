use Rattle.std.specs.Prelude.{slice_get}
use Rattle.recover.specs.Heads.{tail_there}
use Rattle.recover.proofs.LogLaws.{Collects, HasBelow}
use Rattle.recover.proofs.logs.log_chunks.Given as goal

-- the Log chunks below this one
abbrev pub invariant-loop-chunk : goal.invariant-loop-chunk
invariant-loop-chunk l = record {
  so_far : Collects l.layout l.chunk l.logs.items;
  below : HasBelow (λ j. tail_there (slice_get l.heads j)) l.chunk l.logs.items;
}
