-- The promise, where the cores ran and where none did.
use Rattle.std.proofs.Common.{refl, sym, ◌∙◌, ap}
use Rattle.flatstore_commands.specs.Ends.{sink_use}
use Rattle.flatstore_commands.proofs.Opened.{granted_by}
use Rattle.flatstore_commands.proofs.LoadServing.{loads_then, still_attached, why_usage, why_source, why_sink, why_fault, not_loaded, not_asked_behind, asked_behind, same_bytes, loads, load_usage, load_source, load_sink, load_fault}
use Rattle.flatstore_commands.proofs.loading.load_region.Goals as goal

pub returns-in-Err-clause-attaches : goal.returns-in-Err-clause-attaches
returns-in-Err-clause-attaches g c =
    let old = g.R.Region.state c.args.region.now in
    let s = g.R.Region.state c.attach.new.self in
    let t = g.R.Region.state c.load_cores.new.region in
    let found = g.R.SplitRegion.found c.args.region.now in
    let word = g.R.ReadRegion.word c.attach.new.self in
    loads_then old s t found c.in-Ok.ensures.ok c.attach.ensures.opens (granted_by old s c.attach.result _ c.in-Ok.is c.attach.ensures.cause) c.in-Err.ensures.refused.stays.bytes c.report.result c.report.ensures.attached
    (not_asked_behind s t c.in-Err.ensures.refused.stays c.load_cores.ensures.opens c.report.result c.report.ensures.complete)

pub returns-in-Err-clause-load : goal.returns-in-Err-clause-load
returns-in-Err-clause-load g c =
    λ attached.
    let old = g.R.Region.state c.args.region.now in
    let s = g.R.Region.state c.attach.new.self in
    let t = g.R.Region.state c.load_cores.new.region in
    let found = g.R.SplitRegion.found c.args.region.now in
    let word = g.R.ReadRegion.word c.attach.new.self in
    not_loaded old s t found word c.in-Ok.ensures.ok (λ w telling. g.met.R.ReadRegion.tells c.attach.new.self w telling) c.attach.ensures.cause.later (granted_by old s c.attach.result _ c.in-Ok.is c.attach.ensures.cause) c.in-Err.why c.in-Err.ensures.refused c.report.result c.report.ensures.status c.report.ensures.began c.report.ensures.finishes c.report.ensures.refusals c.report.ensures.complete c.report.ensures.in_place
    (sink_use g.O.Sink.taken g.O.Sink.flushed g.O.Sink.fault_count c.args.sink.now c.args.sink.now) refl (g.R.ReadRegion.word c.load_cores.new.region) (g.G.Gate.may_refuse c.args.gate.now) c.args.size.start c.args.size.count

pub returns-in-Err-clause-no_usage : goal.returns-in-Err-clause-no_usage
returns-in-Err-clause-no_usage g c =
    λ is.
    let old = g.R.Region.state c.args.region.now in
    let s = g.R.Region.state c.attach.new.self in
    let t = g.R.Region.state c.load_cores.new.region in
    let found = g.R.SplitRegion.found c.args.region.now in
    let word = g.R.ReadRegion.word c.attach.new.self in
    why_usage old s t found word c.in-Ok.ensures.ok (λ w telling. g.met.R.ReadRegion.tells c.attach.new.self w telling) c.attach.ensures.cause.later (granted_by old s c.attach.result _ c.in-Ok.is c.attach.ensures.cause) c.in-Err.why c.in-Err.ensures.refused (sym c.report.ensures.status ∙ is)

pub returns-in-Err-clause-no_source_fault : goal.returns-in-Err-clause-no_source_fault
returns-in-Err-clause-no_source_fault g c =
    λ is.
    let old = g.R.Region.state c.args.region.now in
    let s = g.R.Region.state c.attach.new.self in
    let t = g.R.Region.state c.load_cores.new.region in
    let found = g.R.SplitRegion.found c.args.region.now in
    let word = g.R.ReadRegion.word c.attach.new.self in
    why_source old s t found word c.in-Ok.ensures.ok (λ w telling. g.met.R.ReadRegion.tells c.attach.new.self w telling) c.attach.ensures.cause.later (granted_by old s c.attach.result _ c.in-Ok.is c.attach.ensures.cause) c.in-Err.why c.in-Err.ensures.refused (sym c.report.ensures.status ∙ is)

pub returns-in-Err-clause-region_fault : goal.returns-in-Err-clause-region_fault
returns-in-Err-clause-region_fault g c =
    λ is.
    let old = g.R.Region.state c.args.region.now in
    let s = g.R.Region.state c.attach.new.self in
    let t = g.R.Region.state c.load_cores.new.region in
    let found = g.R.SplitRegion.found c.args.region.now in
    let word = g.R.ReadRegion.word c.attach.new.self in
    why_fault old s t found word c.in-Ok.ensures.ok (λ w telling. g.met.R.ReadRegion.tells c.attach.new.self w telling) c.attach.ensures.cause.later (granted_by old s c.attach.result _ c.in-Ok.is c.attach.ensures.cause) c.in-Err.why c.in-Err.ensures.refused (sym c.report.ensures.status ∙ is)

pub returns-in-Err-clause-sink_fault : goal.returns-in-Err-clause-sink_fault
returns-in-Err-clause-sink_fault g c =
    λ is.
    let old = g.R.Region.state c.args.region.now in
    let s = g.R.Region.state c.attach.new.self in
    let t = g.R.Region.state c.load_cores.new.region in
    let found = g.R.SplitRegion.found c.args.region.now in
    let word = g.R.ReadRegion.word c.attach.new.self in
    absurd (why_sink old s t found word c.in-Ok.ensures.ok (λ w telling. g.met.R.ReadRegion.tells c.attach.new.self w telling) c.attach.ensures.cause.later (granted_by old s c.attach.result _ c.in-Ok.is c.attach.ensures.cause) c.in-Err.why c.in-Err.ensures.refused (sym c.report.ensures.status ∙ is))

pub returns-in-Err-clause-region_untouched : goal.returns-in-Err-clause-region_untouched
returns-in-Err-clause-region_untouched g c =
    λ unbegun attached.
    let old = g.R.Region.state c.args.region.now in
    let s = g.R.Region.state c.attach.new.self in
    let t = g.R.Region.state c.load_cores.new.region in
    let found = g.R.SplitRegion.found c.args.region.now in
    let word = g.R.ReadRegion.word c.attach.new.self in
    still_attached old s t found word c.in-Ok.ensures.ok (λ w telling. g.met.R.ReadRegion.tells c.attach.new.self w telling) c.attach.ensures.cause.later (granted_by old s c.attach.result _ c.in-Ok.is c.attach.ensures.cause) c.in-Err.why c.in-Err.ensures.refused

pub returns-in-Ok-load_cores-clause-attaches : goal.returns-in-Ok-load_cores-clause-attaches
returns-in-Ok-load_cores-clause-attaches g c =
    let old = g.R.Region.state c.args.region.now in
    let s = g.R.Region.state c.attach.new.self in
    let left = g.R.Region.state c.load_cores.new.region in
    let t = g.R.Region.state c.write_load.new.region in
    let found = g.R.SplitRegion.found c.args.region.now in
    let word = g.R.ReadRegion.word c.attach.new.self in
    let word' = g.R.ReadRegion.word c.write_load.new.region in
    let sink = sink_use g.O.Sink.taken g.O.Sink.flushed g.O.Sink.fault_count c.args.sink.now c.write_load.new.sink in
    loads_then old s t found c.in-Ok.ensures.ok c.attach.ensures.opens (granted_by old s c.attach.result _ c.in-Ok.is c.attach.ensures.cause)
    (same_bytes old s left t found word word' c.in-Ok.ensures.ok c.attach.ensures.opens (granted_by old s c.attach.result _ c.in-Ok.is c.attach.ensures.cause) c.attach.ensures.cause.later (g.G.Gate.may_refuse c.args.gate.now) c.args.size.start c.args.size.count sink c.in-Ok-load_cores.ran c.in-Ok-load_cores.ensures.loaded
    (λ w telling. g.met.R.ReadRegion.tells c.write_load.new.region w telling) c.write_load.result c.write_load.ensures.tallied c.write_load.ensures.asks c.write_load.ensures.finishes c.write_load.ensures.refusals c.write_load.ensures.began c.write_load.ensures.complete (λ gone. ap g.O.Sink.taken (c.write_load.ensures.untouched gone))) c.write_load.result c.write_load.ensures.attached
    (asked_behind old s left t found word word' c.in-Ok.ensures.ok c.attach.ensures.opens (granted_by old s c.attach.result _ c.in-Ok.is c.attach.ensures.cause) c.attach.ensures.cause.later (g.G.Gate.may_refuse c.args.gate.now) c.args.size.start c.args.size.count sink c.in-Ok-load_cores.ran c.in-Ok-load_cores.ensures.loaded
    (λ w telling. g.met.R.ReadRegion.tells c.write_load.new.region w telling) c.write_load.result c.write_load.ensures.tallied c.write_load.ensures.asks c.write_load.ensures.finishes c.write_load.ensures.refusals c.write_load.ensures.began c.write_load.ensures.complete (λ gone. ap g.O.Sink.taken (c.write_load.ensures.untouched gone)))

pub returns-in-Ok-load_cores-clause-load : goal.returns-in-Ok-load_cores-clause-load
returns-in-Ok-load_cores-clause-load g c =
    λ attached.
    let old = g.R.Region.state c.args.region.now in
    let s = g.R.Region.state c.attach.new.self in
    let left = g.R.Region.state c.load_cores.new.region in
    let t = g.R.Region.state c.write_load.new.region in
    let found = g.R.SplitRegion.found c.args.region.now in
    let word = g.R.ReadRegion.word c.attach.new.self in
    let word' = g.R.ReadRegion.word c.write_load.new.region in
    let sink = sink_use g.O.Sink.taken g.O.Sink.flushed g.O.Sink.fault_count c.args.sink.now c.write_load.new.sink in
    loads old s left t found word word' c.in-Ok.ensures.ok c.attach.ensures.opens (granted_by old s c.attach.result _ c.in-Ok.is c.attach.ensures.cause) c.attach.ensures.cause.later (g.G.Gate.may_refuse c.args.gate.now) c.args.size.start c.args.size.count sink c.in-Ok-load_cores.ran c.in-Ok-load_cores.ensures.loaded
    (λ w telling. g.met.R.ReadRegion.tells c.write_load.new.region w telling) c.write_load.result c.write_load.ensures.tallied c.write_load.ensures.asks c.write_load.ensures.finishes c.write_load.ensures.refusals c.write_load.ensures.began c.write_load.ensures.complete (λ gone. ap g.O.Sink.taken (c.write_load.ensures.untouched gone))

pub returns-in-Ok-load_cores-clause-no_usage : goal.returns-in-Ok-load_cores-clause-no_usage
returns-in-Ok-load_cores-clause-no_usage g c =
    λ is.
    let old = g.R.Region.state c.args.region.now in
    let s = g.R.Region.state c.attach.new.self in
    let left = g.R.Region.state c.load_cores.new.region in
    let t = g.R.Region.state c.write_load.new.region in
    let found = g.R.SplitRegion.found c.args.region.now in
    let word = g.R.ReadRegion.word c.attach.new.self in
    let word' = g.R.ReadRegion.word c.write_load.new.region in
    let sink = sink_use g.O.Sink.taken g.O.Sink.flushed g.O.Sink.fault_count c.args.sink.now c.write_load.new.sink in
    load_usage old s left t found word word' c.in-Ok.ensures.ok c.attach.ensures.opens (granted_by old s c.attach.result _ c.in-Ok.is c.attach.ensures.cause) c.attach.ensures.cause.later (g.G.Gate.may_refuse c.args.gate.now) c.args.size.start c.args.size.count sink c.in-Ok-load_cores.ran c.in-Ok-load_cores.ensures.loaded
    (λ w telling. g.met.R.ReadRegion.tells c.write_load.new.region w telling) c.write_load.result c.write_load.ensures.tallied c.write_load.ensures.asks c.write_load.ensures.finishes c.write_load.ensures.refusals c.write_load.ensures.began c.write_load.ensures.complete (λ gone. ap g.O.Sink.taken (c.write_load.ensures.untouched gone)) is

pub returns-in-Ok-load_cores-clause-no_source_fault : goal.returns-in-Ok-load_cores-clause-no_source_fault
returns-in-Ok-load_cores-clause-no_source_fault g c =
    λ is.
    let old = g.R.Region.state c.args.region.now in
    let s = g.R.Region.state c.attach.new.self in
    let left = g.R.Region.state c.load_cores.new.region in
    let t = g.R.Region.state c.write_load.new.region in
    let found = g.R.SplitRegion.found c.args.region.now in
    let word = g.R.ReadRegion.word c.attach.new.self in
    let word' = g.R.ReadRegion.word c.write_load.new.region in
    let sink = sink_use g.O.Sink.taken g.O.Sink.flushed g.O.Sink.fault_count c.args.sink.now c.write_load.new.sink in
    load_source old s left t found word word' c.in-Ok.ensures.ok c.attach.ensures.opens (granted_by old s c.attach.result _ c.in-Ok.is c.attach.ensures.cause) c.attach.ensures.cause.later (g.G.Gate.may_refuse c.args.gate.now) c.args.size.start c.args.size.count sink c.in-Ok-load_cores.ran c.in-Ok-load_cores.ensures.loaded
    (λ w telling. g.met.R.ReadRegion.tells c.write_load.new.region w telling) c.write_load.result c.write_load.ensures.tallied c.write_load.ensures.asks c.write_load.ensures.finishes c.write_load.ensures.refusals c.write_load.ensures.began c.write_load.ensures.complete (λ gone. ap g.O.Sink.taken (c.write_load.ensures.untouched gone)) is

pub returns-in-Ok-load_cores-clause-sink_fault : goal.returns-in-Ok-load_cores-clause-sink_fault
returns-in-Ok-load_cores-clause-sink_fault g c =
    λ is.
    let old = g.R.Region.state c.args.region.now in
    let s = g.R.Region.state c.attach.new.self in
    let left = g.R.Region.state c.load_cores.new.region in
    let t = g.R.Region.state c.write_load.new.region in
    let found = g.R.SplitRegion.found c.args.region.now in
    let word = g.R.ReadRegion.word c.attach.new.self in
    let word' = g.R.ReadRegion.word c.write_load.new.region in
    let sink = sink_use g.O.Sink.taken g.O.Sink.flushed g.O.Sink.fault_count c.args.sink.now c.write_load.new.sink in
    load_sink old s left t found word word' c.in-Ok.ensures.ok c.attach.ensures.opens (granted_by old s c.attach.result _ c.in-Ok.is c.attach.ensures.cause) c.attach.ensures.cause.later (g.G.Gate.may_refuse c.args.gate.now) c.args.size.start c.args.size.count sink c.in-Ok-load_cores.ran c.in-Ok-load_cores.ensures.loaded
    (λ w telling. g.met.R.ReadRegion.tells c.write_load.new.region w telling) c.write_load.result c.write_load.ensures.tallied c.write_load.ensures.asks c.write_load.ensures.finishes c.write_load.ensures.refusals c.write_load.ensures.began c.write_load.ensures.complete (λ gone. ap g.O.Sink.taken (c.write_load.ensures.untouched gone)) is

pub returns-in-Ok-load_cores-clause-region_fault : goal.returns-in-Ok-load_cores-clause-region_fault
returns-in-Ok-load_cores-clause-region_fault g c =
    λ is.
    let old = g.R.Region.state c.args.region.now in
    let s = g.R.Region.state c.attach.new.self in
    let left = g.R.Region.state c.load_cores.new.region in
    let t = g.R.Region.state c.write_load.new.region in
    let found = g.R.SplitRegion.found c.args.region.now in
    let word = g.R.ReadRegion.word c.attach.new.self in
    let word' = g.R.ReadRegion.word c.write_load.new.region in
    let sink = sink_use g.O.Sink.taken g.O.Sink.flushed g.O.Sink.fault_count c.args.sink.now c.write_load.new.sink in
    load_fault old s left t found word word' c.in-Ok.ensures.ok c.attach.ensures.opens (granted_by old s c.attach.result _ c.in-Ok.is c.attach.ensures.cause) c.attach.ensures.cause.later (g.G.Gate.may_refuse c.args.gate.now) c.args.size.start c.args.size.count sink c.in-Ok-load_cores.ran c.in-Ok-load_cores.ensures.loaded
    (λ w telling. g.met.R.ReadRegion.tells c.write_load.new.region w telling) c.write_load.result c.write_load.ensures.tallied c.write_load.ensures.asks c.write_load.ensures.finishes c.write_load.ensures.refusals c.write_load.ensures.began c.write_load.ensures.complete (λ gone. ap g.O.Sink.taken (c.write_load.ensures.untouched gone)) is
