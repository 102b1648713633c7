use Rattle.pm_region.proofs.Clients.{at_exit}
use Rattle.licence.specs.Licence.{Licensed}
use Rattle.log_cleaner.proofs.Licences.{copies_licensed, copies_outside}
use Rattle.log_cleaner.proofs.cleaning_laws.every_copying.Goals as goal

pub returns : goal.returns
returns c = record {
  throughout = λ s t p m v log es begins copies. copies_licensed s t p m v log begins es copies;
  exit = λ s t p m v log es begins copies telling. at_exit s t (Licensed p m v) (copies_licensed s t p m v log begins es copies) telling;
  outside = λ s t p m v log es begins copies. copies_outside s t p m v log begins es copies;
}
