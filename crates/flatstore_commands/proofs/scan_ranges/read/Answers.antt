-- The queries that were read, or why none were.
use Rattle.std.proofs.Common.{sym, subst}
use Rattle.flatstore_commands.specs.Ends.{source_use}
use Rattle.flatstore_commands.specs.Asking.{AreUnread}
use Rattle.flatstore_commands.proofs.Queried.{are_asked, are_unread}
use Rattle.flatstore_commands.proofs.scan_ranges.read.Goals as goal

pub returns-in-Ok-clause-ok : goal.returns-in-Ok-clause-ok
returns-in-Ok-clause-ok g c = are_asked (source_use g.S.Source.coming g.S.Source.fault_count c.args.source.now c.read_queries.new.source) c.read_queries.result
    c.read_queries.ensures.exact c.read_queries.ensures.some c.read_queries.ensures.whole c.in-Ok.queries c.in-Ok.is

pub returns-in-Err-clause-err : goal.returns-in-Err-clause-err
returns-in-Err-clause-err g c = subst (AreUnread (source_use g.S.Source.coming g.S.Source.fault_count c.args.source.now c.read_queries.new.source)) (sym c.unread.ensures)
    (are_unread (source_use g.S.Source.coming g.S.Source.fault_count c.args.source.now c.read_queries.new.source) c.read_queries.result
    c.read_queries.ensures.exact c.read_queries.ensures.some c.read_queries.ensures.whole c.in-Err.error c.in-Err.is c.read_queries.ensures.cause)
