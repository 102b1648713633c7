-- What was read stands in the region as it was found.
use Rattle.flatstore_commands.specs.Ends.{sink_use}
use Rattle.flatstore_commands.specs.ShownTexts.{IsTextOf, text_of}
use Rattle.flatstore_commands.proofs.Shown.{shows_none, shows_text}
use Rattle.flatstore_commands.proofs.Opened.{attaches_once, no_more}
use Rattle.flatstore_commands.proofs.showing.show_region.Goals as goal

pub returns-in-Err-clause-promise : goal.returns-in-Err-clause-promise
returns-in-Err-clause-promise g c =
    let old = g.R.Region.state c.args.region.now in
    let at = g.R.Region.state c.attach.new.self in
    let found = g.R.SplitRegion.found c.args.region.now in
    let word = g.R.ReadRegion.word c.attach.new.self in
    let tells = g.met.R.ReadRegion.tells c.attach.new.self in
    shows_none (IsTextOf c.args.what word) old at found word c.in-Ok.ensures.ok tells (sink_use g.O.Sink.taken g.O.Sink.flushed g.O.Sink.fault_count c.args.sink.now c.args.sink.now)
    c.in-Err.status c.in-Err.ensures.err c.of-in-Err.result c.of-in-Err.ensures.status c.of-in-Err.ensures.complete
    (attaches_once old at at found c.attach.result _ c.in-Ok.is c.attach.ensures.cause c.in-Ok.ensures.ok c.attach.ensures.opens (no_more at) c.of-in-Err.result c.of-in-Err.ensures.attached)

pub returns-in-Ok-items_of-clause-promise : goal.returns-in-Ok-items_of-clause-promise
returns-in-Ok-items_of-clause-promise g c =
    let old = g.R.Region.state c.args.region.now in
    let at = g.R.Region.state c.attach.new.self in
    let found = g.R.SplitRegion.found c.args.region.now in
    let word = g.R.ReadRegion.word c.attach.new.self in
    let tells = g.met.R.ReadRegion.tells c.attach.new.self in
    let sink = sink_use g.O.Sink.taken g.O.Sink.flushed g.O.Sink.fault_count c.args.sink.now c.show_items.new.sink in
    shows_text (IsTextOf c.args.what word) old at found word c.in-Ok.ensures.ok tells sink (text_of c.in-Ok-items_of.items)
    c.in-Ok-items_of.ensures.ok.1 c.in-Ok-items_of.ensures.ok.0 c.show_items.result c.show_items.ensures.written c.show_items.ensures.complete
    (attaches_once old at at found c.attach.result _ c.in-Ok.is c.attach.ensures.cause c.in-Ok.ensures.ok c.attach.ensures.opens (no_more at) c.show_items.result c.show_items.ensures.attached)
