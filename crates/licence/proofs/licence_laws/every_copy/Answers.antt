use Rattle.licence.proofs.LogEvents.{copy_licensed, append_outside}
use Rattle.licence.proofs.licence_laws.every_copy.Goals as goal

pub returns : goal.returns
returns c = record {
  throughout = λ s t p m v log es ws begins spelled appends certain. copy_licensed s t p m v log begins ws es spelled appends certain;
  outside = λ s t p m v log es ws begins spelled appends. append_outside s t p m v log begins ws es spelled appends;
}
