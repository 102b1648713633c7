use Rattle.std.proofs.Common.{◌≡◌, ◌≤◌, ◌<◌, Some, length, vec_len, sym, subst, arith, rules}
use Rattle.core_log.specs.declared.types.LogChunk.{LogChunk}
use Rattle.std.proofs.Common.{List}
use Rattle.core_log.specs.Log.{LogState, IsOwn}
use Rattle.core_log.proofs.LogLaws.{has_place, own_open}
use Rattle.core_log.proofs.log.CoreLog.begin_chunk.Goals as goal

pub set_tail-requires : goal.set_tail-requires
set_tail-requires c =
    let log : LogState = record { layout = c.self.inside.layout; part = c.self.inside.part; chunks = c.self.inside.chunks.items; opened = c.self.inside.opened } in
    let short : length c.self.inside.chunks.items ≤ c.self.inside.layout.chunks = has_place log c.self.invariant.0 in
    let long : vec_len c.self.inside.chunks ≡ length c.self.inside.chunks.items = search rules in
    omega (arith, short, long, c.self.invariant.1)

pub invariant_of-self : goal.invariant_of-self
invariant_of-self c =
    let log : LogState = record { layout = c.self.inside.layout; part = c.self.inside.part; chunks = c.self.inside.chunks.items; opened = c.self.inside.opened } in
    let lt : c.args.chunk < c.self.inside.layout.chunks = search rules in
    let capacity = c.set_tail.ensures.capacity in (
      subst (λ (cs : List LogChunk). IsOwn (record { layout = log.layout; part = log.part; chunks = cs; opened = Some c.args.chunk })) (sym c.set_tail.ensures.items) (own_open log c.args.chunk c.self.invariant.0 lt),
      omega (arith, capacity, c.self.invariant.1),
    )
