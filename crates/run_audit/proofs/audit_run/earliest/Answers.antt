use Rattle.std.proofs.Common.{◌+◌, ◌<◌, length, sym, ◌∙◌, Ok, None}
use Rattle.std.proofs.lemmas.List.{get_or_default}
use Rattle.run_audit.specs.Shares.{is_of, is_before}
use Rattle.run_audit.proofs.Merging.{join_faults, before_more}
use Rattle.run_audit.proofs.audit_run.earliest.Goals as goal

pub loop-fault-preserved : goal.loop-fault-preserved
loop-fault-preserved c = λ start workers xs h.
    let i = c.loop-fault.fault-index in
    let x = c.in_ok-fault.field-0 in
    let low : i < length c.args.faults.now = c.loop-fault-test.true in
    let said = h i (Ok x) low (sym c.in_ok-fault.was ∙ get_or_default c.args.faults.now i (Ok None) (Ok x) low) in
    rw c.earlier-least.ensures (join_faults start (is_before workers (i + 1)) (is_before workers i) (is_of workers i) xs c.loop-fault.least c.in_ok-fault.field-0 (before_more workers i) (c.loop-fault.invariant start workers xs h) said)
