use Rattle.group_laws.proofs.Clients.{licensed_words}
use Rattle.licence.proofs.Elsewhere.{narrowed, beside}
use Rattle.licence.proofs.licence_laws.every_part.Goals as goal

pub returns : goal.returns
returns c = record {
  image = λ p m v i j place same licensed. licensed_words p m v i j place same licensed;
  narrows = λ p m v old new narrows licensed. narrowed p m v old new narrows licensed;
  elsewhere = λ s t p m v from end licensed apart run. beside s t p m v from end licensed apart run;
}
