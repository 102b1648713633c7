use Rattle.region_memory.specs.Image.{ArePicked}
use Rattle.region_memory.proofs.crash_image.pick_words.Given as goal

abbrev pub invariant-loop-k : goal.invariant-loop-k
invariant-loop-k l = ArePicked l.first l.start l.steps l.pick l.image.items l.k
