use Rattle.std.proofs.Common.{arith}
use Rattle.chunk_map.proofs.LayoutLaws.{chunk_fits}
use Rattle.chunk_map.proofs.layouts.Layout.chunk_first.Goals as goal

pub overflow_mul-result-2 : goal.overflow_mul-result-2
overflow_mul-result-2 c = let fits = chunk_fits (record { cores = c.self.inside.cores; group = c.self.inside.group; chunks = c.self.inside.chunks; chunk_bytes = c.self.inside.chunk_bytes }) c.args.part c.args.chunk c.self.invariant (omega (arith, c.ranges.part)) (omega (arith, c.ranges.chunk)) in omega (arith, fits)

pub overflow_add-result-2 : goal.overflow_add-result-2
overflow_add-result-2 c = let fits = chunk_fits (record { cores = c.self.inside.cores; group = c.self.inside.group; chunks = c.self.inside.chunks; chunk_bytes = c.self.inside.chunk_bytes }) c.args.part c.args.chunk c.self.invariant (omega (arith, c.ranges.part)) (omega (arith, c.ranges.chunk)) in omega (arith, fits)
