use Rattle.std.proofs.Common.{◌≡◌, None, Some, sym, subst}
use Rattle.pm_region.specs.State.{IsTelling}
use Rattle.pm_region.specs.Words.{lasts}
use Rattle.store_image.specs.Soundness.{first_fault}
use Rattle.store_image.proofs.Clients.{none_tells}
use Rattle.recover.specs.Causes.{HasCause}
use Rattle.recover.proofs.recover_region.first_fault.Goals as goal

pub returns-in-Ok : goal.returns-in-Ok
returns-in-Ok g c =
    let image = lasts (g.R.Region.state c.args.region.now) in
    let first : IsTelling (g.R.Region.state c.args.region.now) → None ≡ first_fault c.args.bytes image = λ telling. sym (c.in-Ok.ensures telling) in
    record { first = first; sound = λ telling. none_tells c.args.bytes image None (first telling) }

pub returns-in-Err-Fault : goal.returns-in-Err-Fault
returns-in-Err-Fault g c =
    let image = lasts (g.R.Region.state c.args.region.now) in
    let fault = c.in-Err-Fault.fault in
    let first : IsTelling (g.R.Region.state c.args.region.now) → Some fault ≡ first_fault c.args.bytes image = λ telling.
    sym (subst (HasCause (first_fault c.args.bytes image)) c.in-Err-Fault.field-0-is (c.in-Err-Fault.ensures telling)) in
    record { first = first; sound = λ telling. none_tells c.args.bytes image (Some fault) (first telling) }
