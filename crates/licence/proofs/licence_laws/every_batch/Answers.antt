use Rattle.licence.proofs.LogEvents.{batch_licensed, batch_committed, append_outside}
use Rattle.licence.proofs.licence_laws.every_batch.Goals as goal

pub returns : goal.returns
returns c = record {
  throughout = λ s t p m v log ws begins spelled appends. batch_licensed s t p m v log begins ws spelled appends;
  after = λ s t p m v u log end ws begins spelled appends appended commits telling. batch_committed s t p m v log begins ws spelled appends end appended u commits telling;
  outside = λ s t p m v log ws begins spelled appends. append_outside s t p m v log begins ws v.flying spelled appends;
}
