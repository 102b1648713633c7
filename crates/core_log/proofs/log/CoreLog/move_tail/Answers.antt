use Rattle.std.proofs.Common.{◌≡◌, ◌≤◌, List, length, vec_len, sym, subst, arith, rules}
use Rattle.core_log.specs.declared.types.LogChunk.{LogChunk}
use Rattle.core_log.specs.Log.{LogState, IsOwn, IsChunkOf, chunk_with}
use Rattle.core_log.proofs.LogLaws.{has_place, own_set}
use Rattle.core_log.proofs.log.CoreLog.move_tail.Goals as goal

pub set_tail-requires : goal.set_tail-requires
set_tail-requires c =
    let log : LogState = record { layout = c.self.inside.layout; part = c.self.inside.part; chunks = c.self.inside.chunks.items; opened = c.self.inside.opened } in
    let short : length c.self.inside.chunks.items ≤ c.self.inside.layout.chunks = has_place log c.self.invariant.0 in
    let long : vec_len c.self.inside.chunks ≡ length c.self.inside.chunks.items = search rules in
    omega (arith, short, long, c.self.invariant.1)

pub invariant_of-self : goal.invariant_of-self
invariant_of-self c =
    let log : LogState = record { layout = c.self.inside.layout; part = c.self.inside.part; chunks = c.self.inside.chunks.items; opened = c.self.inside.opened } in
    let same : c.args.self.now ≡ log = sym c.self.view_is in
    let is : IsChunkOf log.layout (chunk_with c.args.chunk c.args.tail) = subst (λ (g : LogState). IsChunkOf g.layout (chunk_with c.args.chunk c.args.tail)) same c.requires in
    let capacity = c.set_tail.ensures.capacity in (
      subst (λ (cs : List LogChunk). IsOwn (record log { chunks = cs })) (sym c.set_tail.ensures.items) (own_set log c.args.chunk c.args.tail c.self.invariant.0 is),
      omega (arith, capacity, c.self.invariant.1),
    )
