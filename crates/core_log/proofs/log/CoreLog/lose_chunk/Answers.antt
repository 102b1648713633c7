use Rattle.std.proofs.Common.{◌≡◌, ◌≢◌, List, Some, true, is_some, sym, subst, arith}
use Rattle.core_log.specs.declared.types.LogChunk.{LogChunk}
use Rattle.core_log.specs.Log.{LogState, IsOwn, tail_of}
use Rattle.core_log.proofs.RetireLaws.{own_without}
use Rattle.core_log.proofs.log.CoreLog.lose_chunk.Goals as goal

pub invariant_of-self : goal.invariant_of-self
invariant_of-self c =
    let log : LogState = record { layout = c.self.inside.layout; part = c.self.inside.part; chunks = c.self.inside.chunks.items; opened = c.self.inside.opened } in
    let same : c.args.self.now ≡ log = sym c.self.view_is in
    let has : is_some (tail_of log.chunks c.args.chunk) ≡ true = subst (λ (g : LogState). is_some (tail_of g.chunks c.args.chunk) ≡ true) same c.requires.has in
    let closed : log.opened ≢ Some c.args.chunk = subst (λ (g : LogState). g.opened ≢ Some c.args.chunk) same c.requires.closed in
    let items = c.take_out.ensures.items has c.self.invariant.0.rising in
    let capacity = c.take_out.ensures.capacity in (
      subst (λ (cs : List LogChunk). IsOwn (record log { chunks = cs })) (sym items) (own_without log c.args.chunk c.self.invariant.0 closed),
      omega (arith, capacity, c.self.invariant.1),
    )
