-- What was read, or why nothing was.
use Rattle.flatstore_commands.proofs.Reading.{is_read, is_unread}
use Rattle.flatstore_commands.specs.Ends.{source_use}
use Rattle.flatstore_commands.specs.Reads.{IsUnread}
use Rattle.std.proofs.Common.{sym, subst}
use Rattle.flatstore_commands.proofs.replay.read.Goals as goal

pub returns-in-Ok-clause-ok : goal.returns-in-Ok-clause-ok
returns-in-Ok-clause-ok g c = is_read c.args.cores (source_use g.S.Source.coming g.S.Source.fault_count c.args.source.now c.read_input.new.source) c.read_input.result
    c.read_input.ensures.exact c.read_input.ensures.some c.read_input.ensures.whole c.in-Ok.input c.in-Ok.is

pub returns-in-Err-clause-err : goal.returns-in-Err-clause-err
returns-in-Err-clause-err g c = subst (IsUnread (source_use g.S.Source.coming g.S.Source.fault_count c.args.source.now c.read_input.new.source) c.args.cores) (sym c.unread.ensures)
    (is_unread c.args.cores (source_use g.S.Source.coming g.S.Source.fault_count c.args.source.now c.read_input.new.source) c.read_input.result
    c.read_input.ensures.exact c.read_input.ensures.some c.read_input.ensures.whole c.in-Err.error c.in-Err.is c.read_input.ensures.cause)
