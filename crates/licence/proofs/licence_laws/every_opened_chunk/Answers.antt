use Rattle.licence.proofs.LogEvents.{open_licensed, open_outside}
use Rattle.licence.proofs.licence_laws.every_opened_chunk.Goals as goal

pub returns : goal.returns
returns c = record {
  throughout = λ s t p m v log j begins opens. open_licensed s t p m v log begins j opens;
  outside = λ s t p m v log j begins opens. open_outside s t p m v log begins j opens;
}
