use Rattle.group_laws.proofs.PartWords.{licensed_words}
use Rattle.group_laws.proofs.machine_laws.every_licence.Goals as goal

pub returns : goal.returns
returns c p h v i j at same ok = licensed_words p h v i j at same ok
