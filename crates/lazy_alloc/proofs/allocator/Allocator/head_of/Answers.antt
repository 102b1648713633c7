use Rattle.std.proofs.Common.{◌∙◌, ap}
use Rattle.chunk_map.specs.Layouts.{chunk_first}
use Rattle.lazy_alloc.specs.Sets.{Sets}
use Rattle.lazy_alloc.specs.Written.{head_of}
use Rattle.lazy_alloc.proofs.allocator.Allocator.head_of.Goals as goal

pub returns : goal.returns
returns c =
    let a = c.self.inside in
    c.chunk_first.ensures ∙ ap (chunk_first a.layout a.part) c.chunk_in.ensures.value ∙ ap (λ (s : Sets). head_of s c.args.pointer) c.self.view_is
