use Rattle.std.proofs.Common.{ℕ, subst}
use Rattle.pm_region.specs.Cell.{fence_range}
use Rattle.region_memory.specs.Moves.{Moves}
use Rattle.region_memory.proofs.Framed.{part_goes}
use Rattle.region_memory.proofs.memory_piece.MemoryPieceRegion.fence.Goals as goal

pub returns-in-Err-clause-err : goal.returns-in-Err-clause-err
returns-in-Err-clause-err g c = part_goes c.args.self.now.history _ _ _ _ c.stand.ensures c.fence.ensures.later

pub returns-clause-ok : goal.returns-clause-ok
returns-clause-ok g c =
    let h = c.args.self.now.history in
    part_goes h _ _ _ _ (subst (λ (n : ℕ). Moves h c.fence-2.new.self (fence_range h.first n)) c.len-words.ensures c.fence-2.ensures) c.fence.ensures.later
