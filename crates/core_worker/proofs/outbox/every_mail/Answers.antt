use Rattle.core_worker.proofs.OutboxLaws.{noted, sendable, may_send, sent, still}
use Rattle.core_worker.proofs.outbox.every_mail.Goals as goal

pub returns-clause-notes : goal.returns-clause-notes
returns-clause-notes c p to v all es ix name t = noted p 0 to v all es ix name t

pub returns-clause-waits : goal.returns-clause-waits
returns-clause-waits c p m to v all ns es ix name t K own = sendable p m to v all es ix name t K own ns

pub returns-clause-may : goal.returns-clause-may
returns-clause-may c = may_send

pub returns-clause-sends : goal.returns-clause-sends
returns-clause-sends c = sent

pub returns-clause-others : goal.returns-clause-others
returns-clause-others c = still
