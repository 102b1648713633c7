-- The promise, where the queries were answered and where nothing was.
use Rattle.std.proofs.Common.{ap}
use Rattle.flatstore_commands.specs.Ends.{sink_use, source_use}
use Rattle.flatstore_commands.specs.Ordering.{is_of_region, is_quiet}
use Rattle.flatstore_commands.specs.Scans.{answers_text}
use Rattle.flatstore_commands.proofs.Opened.{attaches_once, no_more}
use Rattle.flatstore_commands.proofs.Scanned.{refused_scans, written_scans, written_counts, keeps_all, shown_loud}
use Rattle.flatstore_commands.proofs.Texts.{both}
use Rattle.flatstore_commands.proofs.scan_ranges.scan_region.Goals as goal

pub returns-in-Err-clause-promise : goal.returns-in-Err-clause-promise
returns-in-Err-clause-promise g c =
    let old = g.R.Region.state c.args.region.now in
    let at = g.R.Region.state c.attach.new.self in
    let found = g.R.SplitRegion.found c.args.region.now in
    let word = g.R.ReadRegion.word c.attach.new.self in
    let tells = g.met.R.ReadRegion.tells c.attach.new.self in
    refused_scans old at found word c.in-Ok.ensures.ok tells (source_use g.S.Source.coming g.S.Source.fault_count c.args.source.now c.prepared.new.source)
    (sink_use g.O.Sink.taken g.O.Sink.flushed g.O.Sink.fault_count c.args.sink.now c.args.sink.now)
    c.in-Err.status c.in-Err.ensures.refused c.of-in-Err.result c.of-in-Err.ensures.status c.of-in-Err.ensures.complete
    (attaches_once old at at found c.attach.result _ c.in-Ok.is c.attach.ensures.cause c.in-Ok.ensures.ok c.attach.ensures.opens (no_more at) c.of-in-Err.result c.of-in-Err.ensures.attached)

pub returns-in-Ok-prepared-clause-promise : goal.returns-in-Ok-prepared-clause-promise
returns-in-Ok-prepared-clause-promise g c =
    let old = g.R.Region.state c.args.region.now in
    let at = g.R.Region.state c.attach.new.self in
    let found = g.R.SplitRegion.found c.args.region.now in
    let word = g.R.ReadRegion.word c.attach.new.self in
    let tells = g.met.R.ReadRegion.tells c.attach.new.self in
    let scan = c.in-Ok-prepared.scan in
    let ready = c.in-Ok-prepared.ensures.ready in
    written_scans old at found word c.in-Ok.ensures.ok tells (source_use g.S.Source.coming g.S.Source.fault_count c.args.source.now c.prepared.new.source)
    (sink_use g.O.Sink.taken g.O.Sink.flushed g.O.Sink.fault_count c.args.sink.now c.write_answers.new.sink)
    (keeps_all at word tells scan.recovered ready.stands) scan ready
    c.write_answers.result (c.write_answers.ensures.written ready.pairs.0 (ready.pairs.1, ready.pairs.2)) c.write_answers.ensures.complete
    (attaches_once old at at found c.attach.result _ c.in-Ok.is c.attach.ensures.cause c.in-Ok.ensures.ok c.attach.ensures.opens (no_more at) c.write_answers.result c.write_answers.ensures.attached)

pub returns-in-Ok-prepared-clause-faults : goal.returns-in-Ok-prepared-clause-faults
returns-in-Ok-prepared-clause-faults g c =
    let old = g.R.Region.state c.args.region.now in
    let at = g.R.Region.state c.attach.new.self in
    let found = g.R.SplitRegion.found c.args.region.now in
    let word = g.R.ReadRegion.word c.attach.new.self in
    let tells = g.met.R.ReadRegion.tells c.attach.new.self in
    let scan = c.in-Ok-prepared.scan in
    let ready = c.in-Ok-prepared.ensures.ready in
    written_counts old at found word c.in-Ok.ensures.ok tells (source_use g.S.Source.coming g.S.Source.fault_count c.args.source.now c.prepared.new.source)
    (sink_use g.O.Sink.taken g.O.Sink.flushed g.O.Sink.fault_count c.args.sink.now c.write_answers.new.sink)
    (keeps_all at word tells scan.recovered ready.stands) scan ready
    c.write_answers.result (c.write_answers.ensures.written ready.pairs.0 (ready.pairs.1, ready.pairs.2))

pub returns-in-Ok-prepared-clause-no_usage : goal.returns-in-Ok-prepared-clause-no_usage
returns-in-Ok-prepared-clause-no_usage g c = λ usage.
    let ready = c.in-Ok-prepared.ensures.ready in
    let loud = shown_loud (answers_text ready.pairs.0 c.in-Ok-prepared.scan.queries) (sink_use g.O.Sink.taken g.O.Sink.flushed g.O.Sink.fault_count c.args.sink.now c.write_answers.new.sink) c.write_answers.result.status (c.write_answers.ensures.written ready.pairs.0 (ready.pairs.1, ready.pairs.2)) in
    both (is_quiet c.write_answers.result.status) (ap is_quiet usage) loud.0

pub returns-in-Ok-prepared-clause-unread : goal.returns-in-Ok-prepared-clause-unread
returns-in-Ok-prepared-clause-unread g c = λ broken.
    let ready = c.in-Ok-prepared.ensures.ready in
    let loud = shown_loud (answers_text ready.pairs.0 c.in-Ok-prepared.scan.queries) (sink_use g.O.Sink.taken g.O.Sink.flushed g.O.Sink.fault_count c.args.sink.now c.write_answers.new.sink) c.write_answers.result.status (c.write_answers.ensures.written ready.pairs.0 (ready.pairs.1, ready.pairs.2)) in
    both (is_of_region c.write_answers.result.status) broken loud.1

pub returns-in-Ok-prepared-clause-sink_untouched : goal.returns-in-Ok-prepared-clause-sink_untouched
returns-in-Ok-prepared-clause-sink_untouched g c = λ quiet.
    let ready = c.in-Ok-prepared.ensures.ready in
    let loud = shown_loud (answers_text ready.pairs.0 c.in-Ok-prepared.scan.queries) (sink_use g.O.Sink.taken g.O.Sink.flushed g.O.Sink.fault_count c.args.sink.now c.write_answers.new.sink) c.write_answers.result.status (c.write_answers.ensures.written ready.pairs.0 (ready.pairs.1, ready.pairs.2)) in
    both (is_quiet c.write_answers.result.status) quiet loud.0
