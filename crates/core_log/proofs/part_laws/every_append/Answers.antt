use Rattle.core_log.proofs.LogWrites.{append_gains, appended_gains}
use Rattle.core_log.proofs.part_laws.every_append.Goals as goal

pub returns : goal.returns
returns c = record {
  throughout = λ s t log es ws stands words batch room outside run. append_gains s t log stands ws es words batch room outside run;
  after = λ s t log end es ws stands words batch room outside appended telling. appended_gains s t log stands ws es words batch room outside end appended telling;
}
