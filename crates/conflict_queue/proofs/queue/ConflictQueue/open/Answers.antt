use Rattle.std.proofs.Common.{◌≤◌, Some, arith}
use Rattle.std.specs.Vec.{vec_capacity}
use Rattle.conflict_queue.proofs.QueueLaws.{opened}
use Rattle.conflict_queue.proofs.queue.ConflictQueue.open.Goals as goal

pub invariant_of-result : goal.invariant_of-result
invariant_of-result c =
    let exact = c.in_ok-chains.ensures.exact in
    let room : 64 ≤ vec_capacity c.in_ok-chains.chains = omega (arith, exact) in
    opened c.in_ok-nodes.nodes.items c.in_ok-chains.chains.items (Some 63) (vec_capacity c.in_ok-chains.chains) c.in_ok-nodes.ensures.free c.in_ok-nodes.ensures.length c.in_ok-chains.ensures.items room
