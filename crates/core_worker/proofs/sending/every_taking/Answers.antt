use Rattle.std.proofs.Common.{ℕ, List, ◌++◌, sym, subst}
use Rattle.log_entry.specs.declared.entry.EntryName.{EntryName}
use Rattle.core_index.specs.Index.{known_at}
use Rattle.core_worker.specs.KeyTies.{KnowsKey}
use Rattle.core_worker.specs.Outbox.{mailing, AreToSend}
use Rattle.core_worker.proofs.SendingLaws.{knows_all, waits_all}
use Rattle.core_worker.proofs.sending.every_taking.Goals as goal

pub returns-clause-knows : goal.returns-clause-knows
returns-clause-knows c p to v others old new es ix T K =
    subst (λ (xs : List EntryName). (k : ℕ) → KnowsKey p (mailing (xs ++ others) v) k (known_at ix k)) (sym T.list) (knows_all p 0 to v others T.names old es ix T.tells K)

pub returns-clause-waits : goal.returns-clause-waits
returns-clause-waits c p m to v others old new es ix T K own A =
    subst (AreToSend p m to v) (sym T.list) (waits_all p m to v others T.names old es ix T.tells K own A)
