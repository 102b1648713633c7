use Rattle.core_worker.proofs.Filing.{FiledUpto}
use Rattle.core_worker.proofs.gone_mail.file_gone.Given as goal

abbrev pub invariant-loop-to : goal.invariant-loop-to
invariant-loop-to l = FiledUpto l.layout l.first l.core l.names l.to l.fn.boxes.items l.boxes.items
