use Rattle.std.proofs.Common.{◌≡◌, take}
use Rattle.core_worker.specs.GoneMail.{names_of, with_names}
use Rattle.core_worker.proofs.gone_mail.file_names.Given as goal

abbrev pub invariant-loop-name : goal.invariant-loop-name
invariant-loop-name l = l.gone ≡ with_names (names_of l.layout l.core (take l.name-index l.names)) l.fn.gone
