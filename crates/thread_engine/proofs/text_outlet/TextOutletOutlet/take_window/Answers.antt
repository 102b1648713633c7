use Rattle.std.proofs.Common.{arith}
use Rattle.thread_engine.proofs.Looks.{asked_astray}
use Rattle.thread_engine.proofs.text_outlet.TextOutletOutlet.take_window.Goals as goal

pub returns-in-Err-clause-asked : goal.returns-in-Err-clause-asked
returns-in-Err-clause-asked g c =
    let read = c.faults-faults.ensures in
    let small = c.faults-faults.type_inv in
    asked_astray (g.R.Region.state c.args.region.now) (g.R.Region.state c.revalidate.new.self) (omega (arith, read, small)) c.in-Err.ensures.err
