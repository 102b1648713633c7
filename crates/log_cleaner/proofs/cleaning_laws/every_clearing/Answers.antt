use Rattle.log_cleaner.proofs.Licences.{clear_licensed, clear_outside, clear_forgets, none_else}
use Rattle.log_cleaner.proofs.cleaning_laws.every_clearing.Goals as goal

pub returns : goal.returns
returns c = record {
  throughout = λ s t p m v log chunk names begins may gives. clear_licensed s t p m v log begins chunk names gives may;
  after = λ s t p m v u log new chunk names begins may others gives retired vanish forgets telling. clear_forgets s t p m v u log new chunk names begins may others gives retired vanish forgets telling;
  none = λ s t p m v log new chunk names begins others gives retired. none_else s t log new chunk names begins.stands gives retired others;
  outside = λ s t p m v log chunk names begins there gives. clear_outside s t p m v log begins chunk names gives there;
}
