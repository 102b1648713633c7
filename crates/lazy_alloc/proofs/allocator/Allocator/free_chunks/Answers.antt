use Rattle.std.proofs.Common.{◌∙◌, ap}
use Rattle.lazy_alloc.specs.Sets.{free_chunk_count}
use Rattle.lazy_alloc.proofs.FormLaws.{free_counted}
use Rattle.lazy_alloc.proofs.allocator.Allocator.free_chunks.Goals as goal

pub returns : goal.returns
returns c = let a = c.self.inside in c.count.ensures ∙ free_counted a.layout a.part a.free a.due a.classes.items a.bits.items c.self.invariant.form ∙ ap free_chunk_count c.self.view_is
