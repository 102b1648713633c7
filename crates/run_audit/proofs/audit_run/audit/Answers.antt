use Rattle.run_audit.specs.FirstFault.{cells_in}
use Rattle.run_audit.proofs.Merging.{judged_fault, judged_short}
use Rattle.run_audit.proofs.audit_run.audit.Goals as goal

pub returns-in-Some : goal.returns-in-Some
returns-in-Some g c =
    let fault = rw c.in-Some.is at c.in_ok-request.ensures in
    judged_fault (cells_in c.args.start.now) c.args.trace.now c.args.replies.now c.in-Some.request fault

pub returns : goal.returns
returns g c =
    let none = rw c.in_default.is at c.in_ok-request.ensures in
    rw c.min-request.ensures (judged_short (cells_in c.args.start.now) c.args.trace.now c.args.replies.now none c.if-trace-replies.false)
