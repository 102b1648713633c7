-- The promise, where the lines were run and where nothing was read.
use Rattle.std.proofs.Common.{List, ℕ, Bool, refl, sym, ap, subst}
use Rattle.flatstore_commands.specs.Attaching.{Asks}
use Rattle.flatstore_commands.specs.Ends.{sink_use, source_use}
use Rattle.flatstore_commands.specs.Ordering.{is_quiet}
use Rattle.flatstore_commands.specs.Promise.{IsInput, Replays, TakesReplies, TakesFront}
use Rattle.flatstore_commands.proofs.Opened.{granted_by, attaches_to_run, no_more}
use Rattle.flatstore_commands.proofs.Replaying.{promise, replay_counts, onward}
use Rattle.flatstore_commands.proofs.Refused.{refused_replays}
use Rattle.flatstore_commands.proofs.Texts.{both}
use Rattle.flatstore_commands.proofs.Written.{ended_so, answered_loud}
use Rattle.flatstore_commands.proofs.playing.replay_region.Goals as goal

pub returns-in-Err-clause-attaches : goal.returns-in-Err-clause-attaches
returns-in-Err-clause-attaches g c =
    let old = g.R.Region.state c.args.region.now in
    let at = g.R.Region.state c.attach.new.self in
    let now = g.R.Region.state c.replay.new.region in
    let r = c.of-in-Err.result in
    attaches_to_run old at at now (g.R.SplitRegion.found c.args.region.now) c.attach.result _ c.in-Ok.is c.attach.ensures.cause c.in-Ok.ensures.ok c.attach.ensures.opens (no_more at)
    r c.of-in-Err.ensures.attached (subst (λ (b : Bool). Asks b r.in_place at now) (sym c.of-in-Err.ensures.complete) (ap g.R.Region.state c.in-Err.ensures.untouched))

pub returns-in-Ok-replay-clause-attaches : goal.returns-in-Ok-replay-clause-attaches
returns-in-Ok-replay-clause-attaches g c =
    let old = g.R.Region.state c.args.region.now in
    let at = g.R.Region.state c.attach.new.self in
    let left = g.R.Region.state c.replay.new.region in
    let now = g.R.Region.state c.write_outcome.new.region in
    let found = g.R.SplitRegion.found c.args.region.now in
    let granted = granted_by old at c.attach.result _ c.in-Ok.is c.attach.ensures.cause in
    attaches_to_run old at left now found c.attach.result _ c.in-Ok.is c.attach.ensures.cause c.in-Ok.ensures.ok c.attach.ensures.opens
    (onward old at left found (g.R.ReadRegion.word c.attach.new.self) c.in-Ok.ensures.ok c.attach.ensures.opens granted c.attach.ensures.cause.later
    (source_use g.S.Source.coming g.S.Source.fault_count c.args.source.now c.replay.new.source) c.in-Ok-replay.outcome c.in-Ok-replay.ensures.played)
    c.write_outcome.result c.write_outcome.ensures.attached c.write_outcome.ensures.asks

pub returns-in-Err-clause-replay : goal.returns-in-Err-clause-replay
returns-in-Err-clause-replay g c = λ attached.
    let old = g.R.Region.state c.args.region.now in
    let found = g.R.SplitRegion.found c.args.region.now in
    let source = source_use g.S.Source.coming g.S.Source.fault_count c.args.source.now c.replay.new.source in
    let sink = sink_use g.O.Sink.taken g.O.Sink.flushed g.O.Sink.fault_count c.args.sink.now c.args.sink.now in
    subst (λ s. (input : List ℕ) × (cores : ℕ) × IsInput source.coming input × Replays old s found source cores input sink c.of-in-Err.result) (ap g.R.Region.state (sym c.in-Err.ensures.untouched))
    (refused_replays old (g.R.Region.state c.attach.new.self) found c.in-Ok.ensures.ok source c.in-Err.status c.in-Err.ensures.refused
    c.of-in-Err.result c.of-in-Err.ensures.status c.of-in-Err.ensures.finishes c.of-in-Err.ensures.refusals c.of-in-Err.ensures.began c.of-in-Err.ensures.complete c.of-in-Err.ensures.in_place sink refl)

pub returns-in-Ok-replay-clause-replay : goal.returns-in-Ok-replay-clause-replay
returns-in-Ok-replay-clause-replay g c = λ attached.
    promise (g.R.Region.state c.args.region.now) (g.R.Region.state c.attach.new.self) (g.R.Region.state c.replay.new.region) (g.R.SplitRegion.found c.args.region.now) (g.R.ReadRegion.word c.attach.new.self) c.in-Ok.ensures.ok
    c.attach.ensures.opens (granted_by (g.R.Region.state c.args.region.now) (g.R.Region.state c.attach.new.self) c.attach.result _ c.in-Ok.is c.attach.ensures.cause) c.attach.ensures.cause.later
    (source_use g.S.Source.coming g.S.Source.fault_count c.args.source.now c.replay.new.source) c.in-Ok-replay.outcome c.in-Ok-replay.ensures.played
    (g.R.Region.state c.write_outcome.new.region) (sink_use g.O.Sink.taken g.O.Sink.flushed g.O.Sink.fault_count c.args.sink.now c.write_outcome.new.sink)
    c.write_outcome.result c.write_outcome.ensures.answered c.write_outcome.ensures.asks c.write_outcome.ensures.finishes c.write_outcome.ensures.refusals c.write_outcome.ensures.began c.write_outcome.ensures.complete

pub returns-in-Ok-replay-clause-faults : goal.returns-in-Ok-replay-clause-faults
returns-in-Ok-replay-clause-faults g c =
    replay_counts (g.R.Region.state c.args.region.now) (g.R.Region.state c.attach.new.self) (g.R.Region.state c.replay.new.region) (g.R.SplitRegion.found c.args.region.now) (g.R.ReadRegion.word c.attach.new.self) c.in-Ok.ensures.ok
    c.attach.ensures.opens (granted_by (g.R.Region.state c.args.region.now) (g.R.Region.state c.attach.new.self) c.attach.result _ c.in-Ok.is c.attach.ensures.cause) c.attach.ensures.cause.later
    (source_use g.S.Source.coming g.S.Source.fault_count c.args.source.now c.replay.new.source) c.in-Ok-replay.outcome c.in-Ok-replay.ensures.played
    (g.R.Region.state c.write_outcome.new.region) (sink_use g.O.Sink.taken g.O.Sink.flushed g.O.Sink.fault_count c.args.sink.now c.write_outcome.new.sink)
    c.write_outcome.result c.write_outcome.ensures.answered c.write_outcome.ensures.asks c.write_outcome.ensures.finishes c.write_outcome.ensures.refusals c.write_outcome.ensures.began c.write_outcome.ensures.complete

pub returns-in-Ok-replay-clause-region_untouched : goal.returns-in-Ok-replay-clause-region_untouched
returns-in-Ok-replay-clause-region_untouched g c = λ quiet attached.
    let sink = sink_use g.O.Sink.taken g.O.Sink.flushed g.O.Sink.fault_count c.args.sink.now c.write_outcome.new.sink in
    let r = c.write_outcome.result in
    let ended = ended_so c.in-Ok-replay.outcome sink r.status r.in_place c.write_outcome.ensures.answered in
    both (is_quiet r.status) quiet (answered_loud (TakesReplies sink c.in-Ok-replay.outcome.replies.items) (TakesFront sink c.in-Ok-replay.outcome.replies.items) c.in-Ok-replay.outcome.end sink r.status r.in_place ended)

pub returns-in-Ok-replay-clause-quiet_unbegun : goal.returns-in-Ok-replay-clause-quiet_unbegun
returns-in-Ok-replay-clause-quiet_unbegun g c = λ quiet.
    let sink = sink_use g.O.Sink.taken g.O.Sink.flushed g.O.Sink.fault_count c.args.sink.now c.write_outcome.new.sink in
    let r = c.write_outcome.result in
    let ended = ended_so c.in-Ok-replay.outcome sink r.status r.in_place c.write_outcome.ensures.answered in
    both (is_quiet r.status) quiet (answered_loud (TakesReplies sink c.in-Ok-replay.outcome.replies.items) (TakesFront sink c.in-Ok-replay.outcome.replies.items) c.in-Ok-replay.outcome.end sink r.status r.in_place ended)
