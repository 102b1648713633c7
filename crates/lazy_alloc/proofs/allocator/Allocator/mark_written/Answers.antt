use Rattle.std.proofs.Common.{◌&&◌, ◌==◌, not, refl, sym, ◌∙◌, subst, arith}
use Rattle.chunk_map.proofs.Clients.{numbers_of}
use Rattle.lazy_alloc.specs.Sets.{Sets}
use Rattle.lazy_alloc.specs.Steps.{WritesHead}
use Rattle.lazy_alloc.specs.Form.{sets_of}
use Rattle.lazy_alloc.proofs.FormLaws.{are_sets, free_is, class_is, due_is}
use Rattle.lazy_alloc.proofs.KeptLaws.{kept_again}
use Rattle.lazy_alloc.proofs.StepLaws.{written_form}
use Rattle.lazy_alloc.proofs.allocator.Allocator.mark_written.Goals as goal

pub without-self-inside-requires : goal.without-self-inside-requires
without-self-inside-requires c = let n = (numbers_of c.self.inside.layout c.self.invariant.form.layout).chunks_high in let w = c.chunk_in.ensures.within in omega arith

pub invariant_of-self : goal.invariant_of-self
invariant_of-self c =
    let a = c.self.inside in
    kept_again a.layout a.part a.free a.due a.free c.without-self-inside.result a.classes.items a.bits.items a.counts.items a.chains.firsts.items a.chains.nexts.items c.self.invariant
    (written_form a.layout a.part a.free a.due c.without-self-inside.result a.classes.items a.bits.items c.self.invariant.form c.chunk_in.result c.without-self-inside.ensures)

pub returns-clause-sets : goal.returns-clause-sets
returns-clause-sets c = let a = c.self.inside in are_sets a.layout a.part a.free c.without-self-inside.result a.classes.items a.bits.items (invariant_of-self c).form

pub returns-clause-written : goal.returns-clause-written
returns-clause-written c =
    let a = c.self.inside in
    let due' = c.without-self-inside.result in
    let is = c.self.invariant.form in
    let is' = (invariant_of-self c).form in
    subst (λ (s : Sets). WritesHead s (sets_of a.layout a.part a.free due' a.classes.items a.bits.items) c.args.pointer) c.self.view_is (record {
      layout_is = refl;
      part_is = refl;
      free = λ i. free_is a.layout a.part a.free due' a.classes.items a.bits.items is' i ∙ sym (free_is a.layout a.part a.free a.due a.classes.items a.bits.items is i);
      classes = λ i. class_is a.layout a.part a.free due' a.classes.items a.bits.items is' i ∙ sym (class_is a.layout a.part a.free a.due a.classes.items a.bits.items is i);
      due = λ i. due_is a.layout a.part a.free due' a.classes.items a.bits.items is' i ∙ c.without-self-inside.ensures i ∙ (λ t. sym (due_is a.layout a.part a.free a.due a.classes.items a.bits.items is i) t && not (i == c.chunk_in.ensures.value t));
      used = λ q. refl;
    })
