use Rattle.std.proofs.Common.{ℕ, slice_index, Some}
use Rattle.store_image.specs.declared.types.Fault.TheVariants.{NotARegion}
use Rattle.store_image.proofs.Clients.{judged, not_a_region, none_tells}
use Rattle.image_yardstick.proofs.faults.first_fault.Goals as goal

pub returns-in-Err : goal.returns-in-Err
returns-in-Err c =
    let image : ℕ → ℕ = λ w. slice_index c.args.words.now w in
    let first = not_a_region c.args.bytes image c.in-Err.rule c.in-Err.ensures.rule in
    record { first = first; sound = none_tells c.args.bytes image (Some (NotARegion c.in-Err.rule)) first }

pub returns-in_ok-fault-in-Ok : goal.returns-in_ok-fault-in-Ok
returns-in_ok-fault-in-Ok c =
    let image : ℕ → ℕ = λ w. slice_index c.args.words.now w in
    let first = judged c.args.bytes image c.in-Ok.layout c.in_ok-fault-in-Ok.fault c.in-Ok.ensures.rule c.in-Ok.ensures.layout.0 c.in_ok-fault-in-Ok.ensures in
    record { first = first; sound = none_tells c.args.bytes image c.in_ok-fault-in-Ok.fault first }
