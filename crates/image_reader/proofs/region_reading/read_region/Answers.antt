use Rattle.std.proofs.Common.{subst, List, rules}
use Rattle.fs_model.specs.declared.model.Pair.{Pair}
use Rattle.fs_text.specs.Output.{pairs_text}
use Rattle.fs_text.specs.Streams.{Takes, TakesPrefix}
use Rattle.image_reader.proofs.region_reading.read_region.Goals as goal

pub returns-in-Ok-write_pairs-clause-tells : goal.returns-in-Ok-write_pairs-clause-tells
returns-in-Ok-write_pairs-clause-tells g c = (
  c.in-Ok.bytes.items,
  (c.in-Ok.ensures.gives, c.in-Ok.ensures.end),
  (
    c.in-Ok-Sound.pairs,
    search rules,
    subst (λ (ps : List Pair). Takes (g.O.Sink.taken c.args.sink.now) (g.O.Sink.taken c.write_pairs.new.sink) (pairs_text ps)) c.deref-in-Ok-Sound.ensures.value c.in-Ok-write_pairs.ensures.ok,
  ),
)

pub returns-in-Err-SinkFault-clause-tells : goal.returns-in-Err-SinkFault-clause-tells
returns-in-Err-SinkFault-clause-tells g c = (
  c.in-Ok.bytes.items,
  (c.in-Ok.ensures.gives, c.in-Ok.ensures.end),
  (
    c.in-Ok-Sound.pairs,
    search rules,
    subst (λ (ps : List Pair). TakesPrefix (g.O.Sink.taken c.args.sink.now) (g.O.Sink.taken c.write_pairs.new.sink) (pairs_text ps)) c.deref-in-Ok-Sound.ensures.value c.in-Err-SinkFault.ensures.err,
  ),
)
