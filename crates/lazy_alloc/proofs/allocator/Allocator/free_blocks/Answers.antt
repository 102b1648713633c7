use Rattle.std.proofs.Common.{ℕ, List, length, get_or, ◌∙◌, ap, arith}
use Rattle.chunk_map.specs.Layouts.{is_class}
use Rattle.lazy_alloc.specs.Sets.{Sets, free_block_count}
use Rattle.lazy_alloc.proofs.OpenLaws.{class_bound}
use Rattle.lazy_alloc.proofs.allocator.Allocator.free_blocks.Goals as goal

pub count_of-requires : goal.count_of-requires
count_of-requires c =
    let a = c.self.inside in
    let le = class_bound a.layout c.args.class (ap (λ (s : Sets). is_class s.layout c.args.class) c.self.view_is ∙ c.requires) in
    let many = ap (length {A = ℕ}) c.deref.ensures.value ∙ c.self.invariant.counts_many in
    omega (arith, le, many)

pub returns : goal.returns
returns c =
    let a = c.self.inside in
    let le = class_bound a.layout c.args.class (ap (λ (s : Sets). is_class s.layout c.args.class) c.self.view_is ∙ c.requires) in
    c.count_of.ensures ∙ ap (λ (ns : List ℕ). get_or ns c.args.class 0) c.deref.ensures.value ∙ c.self.invariant.counted c.args.class le ∙ ap (λ (s : Sets). free_block_count s c.args.class) c.self.view_is
