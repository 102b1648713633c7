use Rattle.std.proofs.Common.{◌≡◌, ℕ, List, length, Some, sym, ◌∙◌, ap, arith}
use Rattle.lazy_alloc.specs.Bits.{has_bit}
use Rattle.lazy_alloc.specs.Sets.{Sets, class_at, block_is_used}
use Rattle.lazy_alloc.specs.Form.{class_of_block}
use Rattle.lazy_alloc.proofs.FormLaws.{class_at_is, unused_at, marked_at}
use Rattle.lazy_alloc.proofs.StepLaws.{bit_in_room}
use Rattle.lazy_alloc.proofs.allocator.Allocator.is_allocated.Goals as goal

pub is_set-requires : goal.is_set-requires
is_set-requires c =
    let a = c.self.inside in
    let at : class_of_block a.layout a.part a.classes.items c.args.pointer ≡ Some c.in-Some.class =
    sym (class_at_is a.layout a.part a.free a.due a.classes.items a.bits.items c.self.invariant.form c.args.pointer) ∙ ap (λ (s : Sets). class_at s c.args.pointer) c.self.view_is ∙ sym c.in-Some.ensures.class in
    let room = bit_in_room a.layout a.part a.free a.due a.classes.items a.bits.items c.self.invariant.form c.args.pointer c.in-Some.class at in
    let long = ap (length {A = ℕ}) c.deref.ensures.value in
    let is = c.bit_of.ensures in
    omega (arith, room, long, is)

pub returns-in-None : goal.returns-in-None
returns-in-None c =
    let a = c.self.inside in
    sym (ap (λ (s : Sets). block_is_used s c.args.pointer) (sym c.self.view_is) ∙ unused_at a.layout a.part a.free a.due a.classes.items a.bits.items c.self.invariant.form c.args.pointer (ap (λ (s : Sets). class_at s c.args.pointer) c.self.view_is ∙ sym c.in-None.ensures.class))

pub returns-in-Some : goal.returns-in-Some
returns-in-Some c =
    let a = c.self.inside in
    let at : class_of_block a.layout a.part a.classes.items c.args.pointer ≡ Some c.in-Some.class =
    sym (class_at_is a.layout a.part a.free a.due a.classes.items a.bits.items c.self.invariant.form c.args.pointer) ∙ ap (λ (s : Sets). class_at s c.args.pointer) c.self.view_is ∙ sym c.in-Some.ensures.class in
    c.is_set.ensures ∙ ap (λ (ws : List ℕ). has_bit ws c.bit_of.result) c.deref.ensures.value ∙ ap (has_bit a.bits.items) c.bit_of.ensures
    ∙ sym (marked_at a.layout a.part a.free a.due a.classes.items a.bits.items c.self.invariant.form c.args.pointer c.in-Some.class at) ∙ ap (λ (s : Sets). block_is_used s c.args.pointer) c.self.view_is
