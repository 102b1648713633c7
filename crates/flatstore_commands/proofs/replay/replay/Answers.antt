-- The lines name cores of the region, and the engine ran over them.
use Rattle.flatstore_commands.proofs.Inputs.{names_cores}
use Rattle.flatstore_commands.proofs.Standing.{some_cores}
use Rattle.flatstore_commands.proofs.replay.replay.Goals as goal

pub replay-requires-clause-lines : goal.replay-requires-clause-lines
replay-requires-clause-lines g c =
    let s = g.R.Region.state c.args.region.now in
    let word = g.R.ReadRegion.word c.args.region.now in
    names_cores c.in-Ok.recovered.layout.cores (some_cores s word c.in-Ok.recovered c.in-Ok.ensures.ready.stands) c.in-Ok.input c.in-Ok.ensures.ready.within.each

pub returns-in-Ok-clause-played : goal.returns-in-Ok-clause-played
returns-in-Ok-clause-played g c =
    let s = g.R.Region.state c.args.region.now in
    let word = g.R.ReadRegion.word c.args.region.now in
    record {
      recovered = c.in-Ok.recovered;
      lines = c.in-Ok.input;
      ready = c.in-Ok.ensures.ready;
      ran = c.replay.ensures;
    }
