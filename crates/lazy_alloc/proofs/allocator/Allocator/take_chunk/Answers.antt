use Rattle.std.proofs.Common.{◌&&◌, ◌==◌, not, Bool, refl, sym, ◌∙◌, ap, subst}
use Rattle.lazy_alloc.specs.Sets.{Sets, AreSets, TakesChunk, chunk_is_free}
use Rattle.lazy_alloc.specs.Form.{sets_of}
use Rattle.lazy_alloc.proofs.FormLaws.{are_sets, free_is, class_is, due_is}
use Rattle.lazy_alloc.proofs.KeptLaws.{kept_again}
use Rattle.lazy_alloc.proofs.StepLaws.{taken_form}
use Rattle.lazy_alloc.proofs.SetLaws.{takes_chunk}
use Rattle.lazy_alloc.proofs.allocator.Allocator.take_chunk.Goals as goal

pub returns-in_default-clause-takes : goal.returns-in_default-clause-takes
returns-in_default-clause-takes c =
    let a = c.self.inside in
    (λ j. ap (λ (s : Sets). chunk_is_free s j) (sym c.self.view_is) ∙ free_is a.layout a.part a.free a.due a.classes.items a.bits.items c.self.invariant.form j ∙ c.in_default.ensures.lowest j, refl)

pub returns-in_default-clause-sets : goal.returns-in_default-clause-sets
returns-in_default-clause-sets c =
    let a = c.self.inside in
    subst AreSets c.self.view_is (are_sets a.layout a.part a.free a.due a.classes.items a.bits.items c.self.invariant.form)

pub invariant_of-self : goal.invariant_of-self
invariant_of-self c =
    let a = c.self.inside in
    kept_again a.layout a.part a.free a.due c.without-self-inside.result a.due a.classes.items a.bits.items a.counts.items a.chains.firsts.items a.chains.nexts.items c.self.invariant
    (taken_form a.layout a.part a.free c.without-self-inside.result a.due a.due a.classes.items a.bits.items c.self.invariant.form c.in-Some.chunk c.without-self-inside.ensures)

pub returns-clause-sets : goal.returns-clause-sets
returns-clause-sets c = let a = c.self.inside in are_sets a.layout a.part c.without-self-inside.result a.due a.classes.items a.bits.items (invariant_of-self c).form

pub returns-clause-takes : goal.returns-clause-takes
returns-clause-takes c =
    let a = c.self.inside in
    let j = c.in-Some.chunk in
    let free' = c.without-self-inside.result in
    let old = sets_of a.layout a.part a.free a.due a.classes.items a.bits.items in
    let new = sets_of a.layout a.part free' a.due a.classes.items a.bits.items in
    let is = c.self.invariant.form in
    let is' = (invariant_of-self c).form in
    subst (λ (s : Sets). TakesChunk s new j) c.self.view_is
    (takes_chunk old new j (are_sets a.layout a.part a.free a.due a.classes.items a.bits.items is) (record { layout_is = refl; part_is = refl })
    (free_is a.layout a.part a.free a.due a.classes.items a.bits.items is j ∙ c.in-Some.ensures.lowest.0)
    (λ i lt. free_is a.layout a.part a.free a.due a.classes.items a.bits.items is i ∙ c.in-Some.ensures.lowest.1 i lt)
    (λ i. free_is a.layout a.part free' a.due a.classes.items a.bits.items is' i ∙ c.without-self-inside.ensures i ∙ ap (λ (b : Bool). b && not (i == j)) (sym (free_is a.layout a.part a.free a.due a.classes.items a.bits.items is i)))
    (λ i. class_is a.layout a.part free' a.due a.classes.items a.bits.items is' i ∙ sym (class_is a.layout a.part a.free a.due a.classes.items a.bits.items is i))
    (λ i. due_is a.layout a.part free' a.due a.classes.items a.bits.items is' i ∙ sym (due_is a.layout a.part a.free a.due a.classes.items a.bits.items is i))
    (λ q. refl))
