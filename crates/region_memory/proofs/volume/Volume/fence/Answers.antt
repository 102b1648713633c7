use Rattle.std.proofs.Common.{ℕ, subst}
use Rattle.pm_region.specs.Cell.{fence_range}
use Rattle.region_memory.specs.Moves.{Moves}
use Rattle.region_memory.proofs.Framed.{volume_goes}
use Rattle.region_memory.proofs.volume.Volume.fence.Goals as goal

pub returns : goal.returns
returns c = λ r n n' le.
    let v = c.args.self.now in
    volume_goes v.history _ v.attached v.parted v.cuts.items v.bytes v.opens v.validations r n n' _ (subst (λ (k : ℕ). Moves v.history c.fence.new.self (fence_range 0 k)) c.words-words.ensures c.fence.ensures) le
