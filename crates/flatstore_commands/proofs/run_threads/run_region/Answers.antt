-- The promise, where the cores ran and where none did.
use Rattle.std.proofs.Common.{refl, sym, ◌∙◌, ap}
use Rattle.flatstore_commands.specs.Ends.{sink_use, source_use}
use Rattle.flatstore_commands.specs.Ordering.{is_quiet}
use Rattle.flatstore_commands.proofs.Opened.{granted_by}
use Rattle.flatstore_commands.proofs.ThreadRunning.{attaches_then, not_asked, meanwhile, ran_on, run_counts, run_ends, run_loud, not_run, quiet_why}
use Rattle.flatstore_commands.proofs.Texts.{both}
use Rattle.flatstore_commands.proofs.run_threads.run_region.Goals as goal

pub returns-in-Err-clause-attaches : goal.returns-in-Err-clause-attaches
returns-in-Err-clause-attaches g c =
    let old = g.R.Region.state c.args.region.now in
    let s = g.R.Region.state c.attach.new.self in
    let t = g.R.Region.state c.run_cores.new.region in
    let r = c.report.result in
    attaches_then old s t (g.R.SplitRegion.found c.args.region.now) c.in-Ok.ensures.ok c.attach.ensures.opens (granted_by old s c.attach.result _ c.in-Ok.is c.attach.ensures.cause)
    c.in-Err.ensures.refused.stays.bytes r c.report.ensures.attached
    (not_asked s t c.in-Err.ensures.refused.stays c.run_cores.ensures.opens r c.report.ensures.complete c.report.ensures.in_place)

pub returns-in-Err-clause-run : goal.returns-in-Err-clause-run
returns-in-Err-clause-run g c = λ attached.
    let old = g.R.Region.state c.args.region.now in
    let s = g.R.Region.state c.attach.new.self in
    not_run old s (g.R.Region.state c.run_cores.new.region) (g.R.SplitRegion.found c.args.region.now) (g.R.ReadRegion.word c.attach.new.self) c.in-Ok.ensures.ok
    (λ w telling. g.met.R.ReadRegion.tells c.attach.new.self w telling) c.attach.ensures.cause.later (granted_by old s c.attach.result _ c.in-Ok.is c.attach.ensures.cause)
    (source_use g.S.Source.coming g.S.Source.fault_count c.args.source.now c.run_cores.new.source)
    c.in-Err.why c.in-Err.ensures.refused c.report.result c.report.ensures.finishes c.report.ensures.refusals c.report.ensures.complete c.report.ensures.in_place
    (sink_use g.O.Sink.taken g.O.Sink.flushed g.O.Sink.fault_count c.args.sink.now c.run_cores.new.sink) (ap g.O.Sink.taken c.in-Err.ensures.unwritten) (g.G.Gate.may_refuse c.args.gate.now) c.report.ensures.status c.report.ensures.began

pub returns-in-Ok-run_cores-clause-attaches : goal.returns-in-Ok-run_cores-clause-attaches
returns-in-Ok-run_cores-clause-attaches g c =
    let old = g.R.Region.state c.args.region.now in
    let s = g.R.Region.state c.attach.new.self in
    let t = g.R.Region.state c.run_cores.new.region in
    attaches_then old s t (g.R.SplitRegion.found c.args.region.now) c.in-Ok.ensures.ok c.attach.ensures.opens (granted_by old s c.attach.result _ c.in-Ok.is c.attach.ensures.cause)
    c.in-Ok-run_cores.ensures.played.ran.ran.rejoined.bytes c.report_of.result c.report_of.ensures.attached
    (meanwhile old s (g.R.Region.state c.run_cores.new.region) (g.R.SplitRegion.found c.args.region.now) (g.R.ReadRegion.word c.attach.new.self) c.in-Ok.ensures.ok
    c.attach.ensures.opens (granted_by old s c.attach.result _ c.in-Ok.is c.attach.ensures.cause) c.attach.ensures.cause.later (g.G.Gate.may_refuse c.args.gate.now)
    (source_use g.S.Source.coming g.S.Source.fault_count c.args.source.now c.run_cores.new.source) (sink_use g.O.Sink.taken g.O.Sink.flushed g.O.Sink.fault_count c.args.sink.now c.run_cores.new.sink)
    c.in-Ok-run_cores.ran c.in-Ok-run_cores.ensures.played c.report_of.result c.report_of.ensures.status c.report_of.ensures.in_place c.report_of.ensures.finishes c.report_of.ensures.refusals c.report_of.ensures.began c.report_of.ensures.complete)

pub returns-in-Ok-run_cores-clause-run : goal.returns-in-Ok-run_cores-clause-run
returns-in-Ok-run_cores-clause-run g c = λ attached.
    let old = g.R.Region.state c.args.region.now in
    let s = g.R.Region.state c.attach.new.self in
    ran_on old s (g.R.Region.state c.run_cores.new.region) (g.R.SplitRegion.found c.args.region.now) (g.R.ReadRegion.word c.attach.new.self) c.in-Ok.ensures.ok
    c.attach.ensures.opens (granted_by old s c.attach.result _ c.in-Ok.is c.attach.ensures.cause) c.attach.ensures.cause.later (g.G.Gate.may_refuse c.args.gate.now)
    (source_use g.S.Source.coming g.S.Source.fault_count c.args.source.now c.run_cores.new.source) (sink_use g.O.Sink.taken g.O.Sink.flushed g.O.Sink.fault_count c.args.sink.now c.run_cores.new.sink)
    c.in-Ok-run_cores.ran c.in-Ok-run_cores.ensures.played c.report_of.result c.report_of.ensures.status c.report_of.ensures.in_place c.report_of.ensures.finishes c.report_of.ensures.refusals c.report_of.ensures.began c.report_of.ensures.complete

pub returns-in-Ok-run_cores-clause-faults : goal.returns-in-Ok-run_cores-clause-faults
returns-in-Ok-run_cores-clause-faults g c =
    let old = g.R.Region.state c.args.region.now in
    let s = g.R.Region.state c.attach.new.self in
    run_counts old s (g.R.Region.state c.run_cores.new.region) (g.R.SplitRegion.found c.args.region.now) (g.R.ReadRegion.word c.attach.new.self) c.in-Ok.ensures.ok
    c.attach.ensures.opens (granted_by old s c.attach.result _ c.in-Ok.is c.attach.ensures.cause) c.attach.ensures.cause.later (g.G.Gate.may_refuse c.args.gate.now)
    (source_use g.S.Source.coming g.S.Source.fault_count c.args.source.now c.run_cores.new.source) (sink_use g.O.Sink.taken g.O.Sink.flushed g.O.Sink.fault_count c.args.sink.now c.run_cores.new.sink)
    c.in-Ok-run_cores.ran c.in-Ok-run_cores.ensures.played c.report_of.result c.report_of.ensures.status c.report_of.ensures.in_place c.report_of.ensures.finishes c.report_of.ensures.refusals c.report_of.ensures.began c.report_of.ensures.complete

pub returns-in-Ok-run_cores-clause-unsplit_unwritten : goal.returns-in-Ok-run_cores-clause-unsplit_unwritten
returns-in-Ok-run_cores-clause-unsplit_unwritten g c = λ failed cut.
    let old = g.R.Region.state c.args.region.now in
    let s = g.R.Region.state c.attach.new.self in
    both c.report_of.result.complete (run_ends old s (g.R.Region.state c.run_cores.new.region) (g.R.SplitRegion.found c.args.region.now) (g.R.ReadRegion.word c.attach.new.self) c.in-Ok.ensures.ok
    c.attach.ensures.opens (granted_by old s c.attach.result _ c.in-Ok.is c.attach.ensures.cause) c.attach.ensures.cause.later (g.G.Gate.may_refuse c.args.gate.now)
    (source_use g.S.Source.coming g.S.Source.fault_count c.args.source.now c.run_cores.new.source) (sink_use g.O.Sink.taken g.O.Sink.flushed g.O.Sink.fault_count c.args.sink.now c.run_cores.new.sink)
    c.in-Ok-run_cores.ran c.in-Ok-run_cores.ensures.played c.report_of.result c.report_of.ensures.status c.report_of.ensures.in_place c.report_of.ensures.finishes c.report_of.ensures.refusals c.report_of.ensures.began c.report_of.ensures.complete failed) cut

pub returns-in-Ok-run_cores-clause-sink_untouched : goal.returns-in-Ok-run_cores-clause-sink_untouched
returns-in-Ok-run_cores-clause-sink_untouched g c = λ quiet.
    let old = g.R.Region.state c.args.region.now in
    let s = g.R.Region.state c.attach.new.self in
    both (is_quiet c.report_of.result.status) quiet (run_loud old s (g.R.Region.state c.run_cores.new.region) (g.R.SplitRegion.found c.args.region.now) (g.R.ReadRegion.word c.attach.new.self) c.in-Ok.ensures.ok
    c.attach.ensures.opens (granted_by old s c.attach.result _ c.in-Ok.is c.attach.ensures.cause) c.attach.ensures.cause.later (g.G.Gate.may_refuse c.args.gate.now)
    (source_use g.S.Source.coming g.S.Source.fault_count c.args.source.now c.run_cores.new.source) (sink_use g.O.Sink.taken g.O.Sink.flushed g.O.Sink.fault_count c.args.sink.now c.run_cores.new.sink)
    c.in-Ok-run_cores.ran c.in-Ok-run_cores.ensures.played c.report_of.result c.report_of.ensures.status c.report_of.ensures.in_place c.report_of.ensures.finishes c.report_of.ensures.refusals c.report_of.ensures.began c.report_of.ensures.complete)

pub returns-in-Ok-run_cores-clause-region_untouched : goal.returns-in-Ok-run_cores-clause-region_untouched
returns-in-Ok-run_cores-clause-region_untouched g c = λ quiet attached.
    let old = g.R.Region.state c.args.region.now in
    let s = g.R.Region.state c.attach.new.self in
    both (is_quiet c.report_of.result.status) quiet (run_loud old s (g.R.Region.state c.run_cores.new.region) (g.R.SplitRegion.found c.args.region.now) (g.R.ReadRegion.word c.attach.new.self) c.in-Ok.ensures.ok
    c.attach.ensures.opens (granted_by old s c.attach.result _ c.in-Ok.is c.attach.ensures.cause) c.attach.ensures.cause.later (g.G.Gate.may_refuse c.args.gate.now)
    (source_use g.S.Source.coming g.S.Source.fault_count c.args.source.now c.run_cores.new.source) (sink_use g.O.Sink.taken g.O.Sink.flushed g.O.Sink.fault_count c.args.sink.now c.run_cores.new.sink)
    c.in-Ok-run_cores.ran c.in-Ok-run_cores.ensures.played c.report_of.result c.report_of.ensures.status c.report_of.ensures.in_place c.report_of.ensures.finishes c.report_of.ensures.refusals c.report_of.ensures.began c.report_of.ensures.complete)

pub returns-in-Ok-run_cores-clause-quiet_unbegun : goal.returns-in-Ok-run_cores-clause-quiet_unbegun
returns-in-Ok-run_cores-clause-quiet_unbegun g c = λ quiet.
    let old = g.R.Region.state c.args.region.now in
    let s = g.R.Region.state c.attach.new.self in
    both (is_quiet c.report_of.result.status) quiet (run_loud old s (g.R.Region.state c.run_cores.new.region) (g.R.SplitRegion.found c.args.region.now) (g.R.ReadRegion.word c.attach.new.self) c.in-Ok.ensures.ok
    c.attach.ensures.opens (granted_by old s c.attach.result _ c.in-Ok.is c.attach.ensures.cause) c.attach.ensures.cause.later (g.G.Gate.may_refuse c.args.gate.now)
    (source_use g.S.Source.coming g.S.Source.fault_count c.args.source.now c.run_cores.new.source) (sink_use g.O.Sink.taken g.O.Sink.flushed g.O.Sink.fault_count c.args.sink.now c.run_cores.new.sink)
    c.in-Ok-run_cores.ran c.in-Ok-run_cores.ensures.played c.report_of.result c.report_of.ensures.status c.report_of.ensures.in_place c.report_of.ensures.finishes c.report_of.ensures.refusals c.report_of.ensures.began c.report_of.ensures.complete)

pub returns-in-Err-clause-quiet_unbegun : goal.returns-in-Err-clause-quiet_unbegun
returns-in-Err-clause-quiet_unbegun g c = λ quiet. c.report.ensures.began ∙ quiet_why c.in-Err.why (sym (ap is_quiet c.report.ensures.status) ∙ quiet)
