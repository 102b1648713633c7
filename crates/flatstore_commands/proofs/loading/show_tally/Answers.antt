-- The tally was written, or no pairs were found.
use Rattle.std.proofs.Common.{◌≡◌, List, subst}
use Rattle.fs_model.specs.declared.model.Pair.{Pair}
use Rattle.load_tally.specs.Tallied.{tally_of}
use Rattle.flatstore_commands.specs.Ends.{sink_use}
use Rattle.flatstore_commands.proofs.LoadServing.{tally_shown}
use Rattle.flatstore_commands.proofs.loading.show_tally.Goals as goal

pub returns-clause-shown : goal.returns-clause-shown
returns-clause-shown g c = λ replies is.
    tally_shown (g.R.Region.state c.args.region.now).frame.bytes (g.R.ReadRegion.word c.args.region.now) replies c.add_pairs.new.tally c.in-Ok.pairs.items c.args.end
    (sink_use g.O.Sink.taken g.O.Sink.flushed g.O.Sink.fault_count c.args.sink.now c.write_counts.new.sink) c.write_counts.result
    c.in-Ok.ensures.ok.1 (subst (λ (ps : List Pair). c.add_pairs.new.tally ≡ tally_of replies ps) c.deref.ensures.value (c.add_pairs.ensures replies is)) c.write_counts.ensures.written
