use Rattle.std.proofs.Common.{◌≡◌, ◌<◌, ◌||◌, ◌==◌, Bool, None, refl, sym, ◌∙◌, ap, subst}
use Rattle.lazy_alloc.specs.Sets.{Sets, GivesChunk, chunk_is_free, chunk_class}
use Rattle.lazy_alloc.specs.Form.{sets_of, class_in}
use Rattle.lazy_alloc.proofs.FormLaws.{are_sets, free_is, class_is, due_is}
use Rattle.lazy_alloc.proofs.KeptLaws.{kept_again}
use Rattle.lazy_alloc.proofs.StepLaws.{given_form}
use Rattle.lazy_alloc.proofs.SetLaws.{gives_chunk}
use Rattle.lazy_alloc.proofs.allocator.Allocator.give_chunk.Goals as goal

pub invariant_of-self : goal.invariant_of-self
invariant_of-self c =
    let a = c.self.inside in
    let lt : c.args.chunk < a.layout.chunks = subst (λ (s : Sets). c.args.chunk < s.layout.chunks) (sym c.self.view_is) c.requires.within in
    let none : class_in a.classes.items c.args.chunk ≡ None = sym (class_is a.layout a.part a.free a.due a.classes.items a.bits.items c.self.invariant.form c.args.chunk) ∙ ap (λ (s : Sets). chunk_class s c.args.chunk) c.self.view_is ∙ c.requires.uncut in
    kept_again a.layout a.part a.free a.due c.with-self-inside.result a.due a.classes.items a.bits.items a.counts.items a.chains.firsts.items a.chains.nexts.items c.self.invariant
    (given_form a.layout a.part a.free c.with-self-inside.result a.due a.due a.classes.items a.bits.items c.self.invariant.form c.args.chunk lt none c.with-self-inside.ensures)

pub returns-clause-sets : goal.returns-clause-sets
returns-clause-sets c = let a = c.self.inside in are_sets a.layout a.part c.with-self-inside.result a.due a.classes.items a.bits.items (invariant_of-self c).form

pub returns-clause-gives : goal.returns-clause-gives
returns-clause-gives c =
    let a = c.self.inside in
    let j = c.args.chunk in
    let free' = c.with-self-inside.result in
    let old = sets_of a.layout a.part a.free a.due a.classes.items a.bits.items in
    let new = sets_of a.layout a.part free' a.due a.classes.items a.bits.items in
    let is = c.self.invariant.form in
    let is' = (invariant_of-self c).form in
    subst (λ (s : Sets). GivesChunk s new j) c.self.view_is
    (gives_chunk old new j (record { layout_is = refl; part_is = refl }) (subst (λ (s : Sets). j < s.layout.chunks) (sym c.self.view_is) c.requires.within)
    (ap (λ (s : Sets). chunk_is_free s j) c.self.view_is ∙ c.requires.taken)
    (λ i. free_is a.layout a.part free' a.due a.classes.items a.bits.items is' i ∙ c.with-self-inside.ensures i ∙ ap (λ (b : Bool). i == j || b) (sym (free_is a.layout a.part a.free a.due a.classes.items a.bits.items is i)))
    (λ i. class_is a.layout a.part free' a.due a.classes.items a.bits.items is' i ∙ sym (class_is a.layout a.part a.free a.due a.classes.items a.bits.items is i))
    (λ i. due_is a.layout a.part free' a.due a.classes.items a.bits.items is' i ∙ sym (due_is a.layout a.part a.free a.due a.classes.items a.bits.items is i))
    (λ q. refl))
