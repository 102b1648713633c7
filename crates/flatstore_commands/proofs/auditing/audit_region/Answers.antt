-- What was judged stands in the region as it was found.
use Rattle.std.proofs.Common.{refl, subst, ap, sym, ◌∙◌}
use Rattle.run_audit.specs.VerdictText.{verdict_text}
use Rattle.flatstore_commands.specs.Ends.{CountsFaults, sink_use, source_use}
use Rattle.flatstore_commands.specs.Ordering.{is_of_region, is_quiet}
use Rattle.flatstore_commands.specs.declared.report.Status.TheVariants as statuses
use Rattle.flatstore_commands.proofs.Judging.{both, unjudged_audits, judged_audits, unjudged_usage, unjudged_counts, shown_counts, shown_apart, shown_test}
use Rattle.flatstore_commands.proofs.Opened.{attaches_once, no_more}
use Rattle.flatstore_commands.proofs.auditing.audit_region.Goals as goal

pub returns-in-Err-clause-promise : goal.returns-in-Err-clause-promise
returns-in-Err-clause-promise g c =
    let old = g.R.Region.state c.args.region.now in
    let at = g.R.Region.state c.attach.new.self in
    let found = g.R.SplitRegion.found c.args.region.now in
    let word = g.R.ReadRegion.word c.attach.new.self in
    let tells = g.met.R.ReadRegion.tells c.attach.new.self in
    let source = source_use g.S.Source.coming g.S.Source.fault_count c.args.source.now c.judged.new.source in
    let sink = sink_use g.O.Sink.taken g.O.Sink.flushed g.O.Sink.fault_count c.args.sink.now c.args.sink.now in
    record {
      attaches = attaches_once old at at found c.attach.result _ c.in-Ok.is c.attach.ensures.cause c.in-Ok.ensures.ok c.attach.ensures.opens (no_more at) c.of-in-Err.result c.of-in-Err.ensures.attached;
      audits = λ attached. unjudged_audits old at found word c.in-Ok.ensures.ok tells source sink c.in-Err.status c.in-Err.ensures.refused c.of-in-Err.result c.of-in-Err.ensures.status c.of-in-Err.ensures.complete;
    }

pub returns-in-Ok-judged-clause-promise : goal.returns-in-Ok-judged-clause-promise
returns-in-Ok-judged-clause-promise g c =
    let old = g.R.Region.state c.args.region.now in
    let at = g.R.Region.state c.attach.new.self in
    let found = g.R.SplitRegion.found c.args.region.now in
    let word = g.R.ReadRegion.word c.attach.new.self in
    let tells = g.met.R.ReadRegion.tells c.attach.new.self in
    let source = source_use g.S.Source.coming g.S.Source.fault_count c.args.source.now c.judged.new.source in
    let sink = sink_use g.O.Sink.taken g.O.Sink.flushed g.O.Sink.fault_count c.args.sink.now c.write_audit.new.sink in
    record {
      attaches = attaches_once old at at found c.attach.result _ c.in-Ok.is c.attach.ensures.cause c.in-Ok.ensures.ok c.attach.ensures.opens (no_more at) c.write_audit.result c.write_audit.ensures.attached;
      audits = λ attached. judged_audits old at found word c.in-Ok.ensures.ok tells source sink c.in-Ok-judged.verdict c.in-Ok-judged.ensures.judged c.write_audit.result c.write_audit.ensures.written c.write_audit.ensures.complete;
    }

pub returns-in-Err-clause-faults : goal.returns-in-Err-clause-faults
returns-in-Err-clause-faults g c =
    let old = g.R.Region.state c.args.region.now in
    let at = g.R.Region.state c.attach.new.self in
    let source = source_use g.S.Source.coming g.S.Source.fault_count c.args.source.now c.judged.new.source in
    let sink = sink_use g.O.Sink.taken g.O.Sink.flushed g.O.Sink.fault_count c.args.sink.now c.args.sink.now in
    subst (λ status. CountsFaults old at source sink status) (sym c.of-in-Err.ensures.status) (unjudged_counts old at (g.R.ReadRegion.word c.attach.new.self) source sink c.in-Err.status c.in-Err.ensures.refused)

pub returns-in-Ok-judged-clause-faults : goal.returns-in-Ok-judged-clause-faults
returns-in-Ok-judged-clause-faults g c =
    let old = g.R.Region.state c.args.region.now in
    let at = g.R.Region.state c.attach.new.self in
    let source = source_use g.S.Source.coming g.S.Source.fault_count c.args.source.now c.judged.new.source in
    let sink = sink_use g.O.Sink.taken g.O.Sink.flushed g.O.Sink.fault_count c.args.sink.now c.write_audit.new.sink in
    shown_counts old at source (verdict_text c.in-Ok-judged.verdict) sink c.write_audit.result.status c.write_audit.ensures.written

pub returns-in-Err-clause-no_usage : goal.returns-in-Err-clause-no_usage
returns-in-Err-clause-no_usage g c = λ e.
    let at = g.R.Region.state c.attach.new.self in
    let source = source_use g.S.Source.coming g.S.Source.fault_count c.args.source.now c.judged.new.source in
    unjudged_usage at (g.R.ReadRegion.word c.attach.new.self) source c.in-Err.status c.in-Err.ensures.refused (sym c.of-in-Err.ensures.status ∙ e)

pub returns-in-Ok-judged-clause-no_usage : goal.returns-in-Ok-judged-clause-no_usage
returns-in-Ok-judged-clause-no_usage g c = λ e.
    let sink = sink_use g.O.Sink.taken g.O.Sink.flushed g.O.Sink.fault_count c.args.sink.now c.write_audit.new.sink in
    shown_apart (verdict_text c.in-Ok-judged.verdict) sink c.write_audit.result.status statuses.Usage (λ q. cc q) (λ q. cc q) (λ q. cc q) c.write_audit.ensures.written e

pub returns-in-Ok-judged-clause-unread : goal.returns-in-Ok-judged-clause-unread
returns-in-Ok-judged-clause-unread g c = λ broken.
    let sink = sink_use g.O.Sink.taken g.O.Sink.flushed g.O.Sink.fault_count c.args.sink.now c.write_audit.new.sink in
    both (is_of_region c.write_audit.result.status) broken
    (shown_test (verdict_text c.in-Ok-judged.verdict) sink c.write_audit.result.status is_of_region refl refl refl c.write_audit.ensures.written)

pub returns-in-Ok-judged-clause-sink_untouched : goal.returns-in-Ok-judged-clause-sink_untouched
returns-in-Ok-judged-clause-sink_untouched g c = λ quiet.
    let sink = sink_use g.O.Sink.taken g.O.Sink.flushed g.O.Sink.fault_count c.args.sink.now c.write_audit.new.sink in
    both (is_quiet c.write_audit.result.status) quiet
    (shown_test (verdict_text c.in-Ok-judged.verdict) sink c.write_audit.result.status is_quiet refl refl refl c.write_audit.ensures.written)
