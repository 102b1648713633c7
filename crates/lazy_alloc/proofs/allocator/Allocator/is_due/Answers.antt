use Rattle.std.proofs.Common.{sym, ◌∙◌, ap, arith}
use Rattle.chunk_map.proofs.Clients.{numbers_of}
use Rattle.lazy_alloc.specs.Bits.{has}
use Rattle.lazy_alloc.specs.Sets.{Sets, chunk_is_due, chunk_of}
use Rattle.lazy_alloc.specs.Form.{chunk_in}
use Rattle.lazy_alloc.proofs.FormLaws.{due_is}
use Rattle.lazy_alloc.proofs.allocator.Allocator.is_due.Goals as goal

pub has-requires : goal.has-requires
has-requires c = let n = (numbers_of c.self.inside.layout c.self.invariant.form.layout).chunks_high in let w = c.chunk_in.ensures.within in omega arith

pub returns : goal.returns
returns c =
    let a = c.self.inside in
    c.has.ensures ∙ ap (has a.due) c.chunk_in.ensures.value ∙ sym (due_is a.layout a.part a.free a.due a.classes.items a.bits.items c.self.invariant.form (chunk_in a.layout c.args.pointer)) ∙ ap (λ (s : Sets). chunk_is_due s (chunk_of s c.args.pointer)) c.self.view_is
