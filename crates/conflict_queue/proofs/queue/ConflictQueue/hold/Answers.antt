use Rattle.std.proofs.Common.{rules, ◌≡◌, length, get_or, ap, arith, vec_len}
use Rattle.std.proofs.lemmas.List.{get_or_read}
use Rattle.conflict_queue.specs.declared.nodes.Node.{Node}
use Rattle.conflict_queue.specs.Waiting.{held_with}
use Rattle.conflict_queue.specs.Chains.{bare, all_held}
use Rattle.conflict_queue.proofs.QueueLaws.{front, front_free, none_free, chains_short, held_queue}
use Rattle.conflict_queue.proofs.queue.ConflictQueue.hold.Goals as goal

pub returns-in_default-clause-full : goal.returns-in_default-clause-full
returns-in_default-clause-full c =
    let q = c.self.inside in
    let none = none_free q.nodes.items q.free c.self.invariant.unused c.in_default.is c.self.invariant.chain in
    let count = c.self.invariant.free_nodes in
    let all = c.self.invariant.together in
    let seen : length (all_held q.nodes.items q.chains.items) ≡ length c.args.self.now = ap length c.self.view_is in
    omega (arith, none, count, all, seen)

pub index-requires : goal.index-requires
index-requires c =
    let q = c.self.inside in
    let f = front q.nodes.items q.free c.in-Some.node c.self.invariant.unused c.in-Some.is c.self.invariant.chain in
    let lt = f.chain.1 in
    let len : vec_len q.nodes ≡ length q.nodes.items = search rules in
    omega (arith, lt, len)

pub add_last-requires-clause-node : goal.add_last-requires-clause-node
add_last-requires-clause-node c =
    let q = c.self.inside in
    let f = front q.nodes.items q.free c.in-Some.node c.self.invariant.unused c.in-Some.is c.self.invariant.chain in
    let lt = f.chain.1 in
    let len : vec_len q.nodes ≡ length q.nodes.items = search rules in
    omega (arith, lt, len)

pub add_last-requires-clause-free : goal.add_last-requires-clause-free
add_last-requires-clause-free c =
    let q = c.self.inside in
    front_free q.nodes.items c.in-Some.node c.self.invariant.unused (front q.nodes.items q.free c.in-Some.node c.self.invariant.unused c.in-Some.is c.self.invariant.chain)

pub add_last-requires-clause-room : goal.add_last-requires-clause-room
add_last-requires-clause-room c =
    let q = c.self.inside in
    let is = c.self.invariant in
    let f = front q.nodes.items q.free c.in-Some.node is.unused c.in-Some.is is.chain in
    let n = f.numbers in
    let count = is.free_nodes in
    let all = is.together in
    let room = is.room in
    let short = chains_short q.nodes.items q.chains.items is.table.chains in
    let len : vec_len q.chains ≡ length q.chains.items = search rules in
    omega (arith, n, count, all, room, short, len)

pub add_last-requires-clause-below : goal.add_last-requires-clause-below
add_last-requires-clause-below c =
    let q = c.self.inside in
    let is = c.self.invariant in
    let f = front q.nodes.items q.free c.in-Some.node is.unused c.in-Some.is is.chain in
    let n = f.numbers in
    let count = is.free_nodes in
    let all = is.together in
    let nodes = is.nodes in
    omega (arith, n, count, all, nodes)

pub invariant_of-self : goal.invariant_of-self
invariant_of-self c =
    let q = c.self.inside in
    let ns = q.nodes.items in
    let i = c.in-Some.node in
    let f = front ns q.free i c.self.invariant.unused c.in-Some.is c.self.invariant.chain in
    let read : c.index.result.now ≡ get_or ns i bare = get_or_read ns i c.index.result.now f.chain.1 c.index.ensures bare in
    held_queue ns c.add_last.new.nodes.items q.chains.items c.add_last.new.chains.items q.free c.index.result.now.next q.free_nodes _ _ i (held_with c.args.number c.args.request) c.self.invariant c.in-Some.is c.add_last.ensures.extends (ap (λ (n : Node). n.next) read) c.add_last.ensures.capacity
