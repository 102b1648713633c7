use Rattle.std.proofs.Common.{sym, subst}
use Rattle.flatstore_commands.specs.Audits.{IsUnreadAudit}
use Rattle.flatstore_commands.specs.Ends.{source_use}
use Rattle.flatstore_commands.proofs.AuditReading.{is_read, is_unread}
use Rattle.flatstore_commands.proofs.auditing.read.Goals as goal

pub returns-in-Ok-clause-ok : goal.returns-in-Ok-clause-ok
returns-in-Ok-clause-ok g c = is_read c.args.cores (source_use g.S.Source.coming g.S.Source.fault_count c.args.source.now c.read_audit.new.source) c.read_audit.result
    c.read_audit.ensures.exact c.read_audit.ensures.some c.read_audit.ensures.whole c.in-Ok.input c.in-Ok.is

pub returns-in-Err-clause-err : goal.returns-in-Err-clause-err
returns-in-Err-clause-err g c = subst (IsUnreadAudit (source_use g.S.Source.coming g.S.Source.fault_count c.args.source.now c.read_audit.new.source) c.args.cores) (sym c.unread.ensures)
    (is_unread c.args.cores (source_use g.S.Source.coming g.S.Source.fault_count c.args.source.now c.read_audit.new.source) c.read_audit.result
    c.read_audit.ensures.exact c.read_audit.ensures.some c.read_audit.ensures.whole c.in-Err.error c.in-Err.is c.read_audit.ensures.cause)
