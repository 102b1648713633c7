-- A region that is recovered, queries that were read, and the directory of its live keys.
use Rattle.std.proofs.Common.{List, inr, subst}
use Rattle.recover.specs.declared.types.CoreStart.{CoreStart}
use Rattle.range_scan.specs.LiveKeys.{AreLiveKeys}
use Rattle.flatstore_commands.proofs.Scanned.{keeps_all, starts_found}
use Rattle.flatstore_commands.proofs.scan_ranges.prepared.Goals as goal

pub returns-in-Err-read-clause-refused : goal.returns-in-Err-read-clause-refused
returns-in-Err-read-clause-refused g c =
    let s = g.R.Region.state c.args.region.now in
    let word = g.R.ReadRegion.word c.args.region.now in
    inr (keeps_all s word (λ w telling. g.met.R.ReadRegion.tells c.args.region.now w telling) c.in-Ok.recovered c.in-Ok.ensures.ok, c.in-Err-read.ensures.err)

pub returns-in-Ok-build-clause-ready : goal.returns-in-Ok-build-clause-ready
returns-in-Ok-build-clause-ready g c =
    let s = g.R.Region.state c.args.region.now in
    let word = g.R.ReadRegion.word c.args.region.now in
    record {
      stands = c.in-Ok.ensures.ok;
      asked = c.in-Ok-read.ensures.ok;
      live = subst (λ (xs : List CoreStart). AreLiveKeys xs c.in-Ok-build.directory) c.deref.ensures.value c.in-Ok-build.ensures.live;
      pairs = c.in-Ok-build.ensures.pairs word (starts_found s word c.in-Ok.recovered c.in-Ok.ensures.ok c.deref.result.now c.deref.ensures.value);
    }
