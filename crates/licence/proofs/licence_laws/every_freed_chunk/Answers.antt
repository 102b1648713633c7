use Rattle.licence.proofs.LogEvents.{free_licensed, free_outside, forgotten}
use Rattle.licence.proofs.licence_laws.every_freed_chunk.Goals as goal

pub returns : goal.returns
returns c = record {
  throughout = λ s t p m v log j begins spares frees. free_licensed s t p m v log begins j frees spares;
  outside = λ s t p m v log j begins frees. free_outside s t p m v log begins j frees;
  after = λ s p m v u log ns own vanished forgets telling licensed. forgotten s p m v u log ns own vanished forgets telling licensed;
}
