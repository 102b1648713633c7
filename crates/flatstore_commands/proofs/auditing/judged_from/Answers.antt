-- What was read is judged from the cells of the words that the region reads.
use Rattle.std.proofs.Common.{inr, subst}
use Rattle.flatstore_commands.specs.Ends.{source_use}
use Rattle.flatstore_commands.specs.Audits.{IsUnreadAudit}
use Rattle.flatstore_commands.proofs.Judging.{cores_read, counted_read, is_judged, unread_apart}
use Rattle.flatstore_commands.proofs.auditing.judged_from.Goals as goal

pub returns-in-Err-read-clause-refused : goal.returns-in-Err-read-clause-refused
returns-in-Err-read-clause-refused g c =
    let s = g.R.Region.state c.args.region.now in
    let word = g.R.ReadRegion.word c.args.region.now in
    let source = source_use g.S.Source.coming g.S.Source.fault_count c.args.source.now c.read.new.source in
    inr (
      counted_read s word (λ w telling. g.met.R.ReadRegion.tells c.args.region.now w telling) c.args.recovered.now c.requires.stands,
      subst (λ cores. IsUnreadAudit source cores c.in-Err-read.status) (cores_read s word c.args.recovered.now c.requires.stands c.cores.result c.cores.ensures) c.in-Err-read.ensures.err,
    )

pub returns-in-Err-read-clause-unread : goal.returns-in-Err-read-clause-unread
returns-in-Err-read-clause-unread g c =
    unread_apart (source_use g.S.Source.coming g.S.Source.fault_count c.args.source.now c.read.new.source) c.cores.result c.in-Err-read.status c.in-Err-read.ensures.err

pub returns-in-Ok-verdict_on-clause-judged : goal.returns-in-Ok-verdict_on-clause-judged
returns-in-Ok-verdict_on-clause-judged g c =
    let s = g.R.Region.state c.args.region.now in
    let word = g.R.ReadRegion.word c.args.region.now in
    let counted = counted_read s word (λ w telling. g.met.R.ReadRegion.tells c.args.region.now w telling) c.args.recovered.now c.requires.stands in
    is_judged s word (source_use g.S.Source.coming g.S.Source.fault_count c.args.source.now c.read.new.source) c.cores.result c.in-Ok-read.input c.in-Ok.start.items c.in-Ok-verdict_on.verdict
    counted (cores_read s word c.args.recovered.now c.requires.stands c.cores.result c.cores.ensures) c.in-Ok-read.ensures.ok c.in-Ok.ensures c.in-Ok-verdict_on.ensures
