use Rattle.std.proofs.Common.{◌≡◌, ◌||◌, ◌==◌, ◌*◌, ◌<◌, ℕ, length, Some, refl, sym, ◌∙◌, ap, subst, arith}
use Rattle.lazy_alloc.specs.Bits.{has_bit}
use Rattle.lazy_alloc.specs.Chains.{Removes}
use Rattle.lazy_alloc.specs.Sets.{Sets, Uses, class_at, block_is_used}
use Rattle.lazy_alloc.specs.Form.{sets_of, class_of_block, chunk_in, is_full, is_open}
use Rattle.lazy_alloc.proofs.StepLaws.{marked_used, bit_in_room}
use Rattle.lazy_alloc.proofs.FormLaws.{are_sets, class_at_is}
use Rattle.lazy_alloc.proofs.KeptLaws.{kept_marked, was_open, some_left, class_le}
use Rattle.lazy_alloc.proofs.allocator.Allocator.mark.Goals as goal

pub set-requires : goal.set-requires
set-requires c =
    let a = c.self.inside in
    let at : class_of_block a.layout a.part a.classes.items c.args.pointer ≡ Some c.unwrap-class.result =
    sym (class_at_is a.layout a.part a.free a.due a.classes.items a.bits.items c.self.invariant.form c.args.pointer) ∙ ap (λ (s : Sets). class_at s c.args.pointer) c.self.view_is ∙ sym c.class_at.ensures.class ∙ c.unwrap-class.ensures in
    subst (λ (i : ℕ). i < 64 * length a.bits.items) (sym c.bit_of.ensures) (bit_in_room a.layout a.part a.free a.due a.classes.items a.bits.items c.self.invariant.form c.args.pointer c.unwrap-class.result at)

pub is_full-is_full-requires-clause-bits : goal.is_full-is_full-requires-clause-bits
is_full-is_full-requires-clause-bits c =
    let a = c.self.inside in
    ap (length {A = ℕ}) c.deref.ensures.value ∙ c.set.ensures.long ∙ c.self.invariant.form.room

pub take_from-requires-clause-class : goal.take_from-requires-clause-class
take_from-requires-clause-class c =
    let a = c.self.inside in
    let at : class_of_block a.layout a.part a.classes.items c.args.pointer ≡ Some c.unwrap-class.result =
    sym (class_at_is a.layout a.part a.free a.due a.classes.items a.bits.items c.self.invariant.form c.args.pointer) ∙ ap (λ (s : Sets). class_at s c.args.pointer) c.self.view_is ∙ sym c.class_at.ensures.class ∙ c.unwrap-class.ensures in
    let le = class_le a.layout a.part a.free a.due a.classes.items a.bits.items a.counts.items a.chains.firsts.items a.chains.nexts.items c.self.invariant c.args.pointer c.unwrap-class.result at in
    let many = c.self.invariant.counts_many in
    omega arith

pub take_from-requires-clause-some : goal.take_from-requires-clause-some
take_from-requires-clause-some c =
    let a = c.self.inside in
    let at : class_of_block a.layout a.part a.classes.items c.args.pointer ≡ Some c.unwrap-class.result =
    sym (class_at_is a.layout a.part a.free a.due a.classes.items a.bits.items c.self.invariant.form c.args.pointer) ∙ ap (λ (s : Sets). class_at s c.args.pointer) c.self.view_is ∙ sym c.class_at.ensures.class ∙ c.unwrap-class.ensures in
    some_left a.layout a.part a.free a.due a.classes.items a.bits.items a.counts.items a.chains.firsts.items a.chains.nexts.items c.self.invariant c.args.pointer c.unwrap-class.result at (ap (λ (s : Sets). block_is_used s c.args.pointer) c.self.view_is ∙ c.requires.unused) c.set.new.words.items c.set.ensures.long (λ i. c.set.ensures.each i ∙ ap (λ (n : ℕ). i == n || has_bit a.bits.items i) c.bit_of.ensures)

pub unlink_if-requires-clause-class : goal.unlink_if-requires-clause-class
unlink_if-requires-clause-class c =
    let a = c.self.inside in
    let at : class_of_block a.layout a.part a.classes.items c.args.pointer ≡ Some c.unwrap-class.result =
    sym (class_at_is a.layout a.part a.free a.due a.classes.items a.bits.items c.self.invariant.form c.args.pointer) ∙ ap (λ (s : Sets). class_at s c.args.pointer) c.self.view_is ∙ sym c.class_at.ensures.class ∙ c.unwrap-class.ensures in
    let le = class_le a.layout a.part a.free a.due a.classes.items a.bits.items a.counts.items a.chains.firsts.items a.chains.nexts.items c.self.invariant c.args.pointer c.unwrap-class.result at in
    let many = c.self.invariant.firsts_many in
    omega arith

pub unlink_if-requires-clause-holds : goal.unlink_if-requires-clause-holds
unlink_if-requires-clause-holds c =
    let a = c.self.inside in
    let at : class_of_block a.layout a.part a.classes.items c.args.pointer ≡ Some c.unwrap-class.result =
    sym (class_at_is a.layout a.part a.free a.due a.classes.items a.bits.items c.self.invariant.form c.args.pointer) ∙ ap (λ (s : Sets). class_at s c.args.pointer) c.self.view_is ∙ sym c.class_at.ensures.class ∙ c.unwrap-class.ensures in
    λ full. record { has = is_open a.layout a.classes.items a.bits.items; linked = c.self.invariant.linked; holds = ap (is_open a.layout a.classes.items a.bits.items c.unwrap-class.result) c.chunk_in-chunk.ensures.value ∙ was_open a.layout a.part a.free a.due a.classes.items a.bits.items a.counts.items a.chains.firsts.items a.chains.nexts.items c.self.invariant c.args.pointer c.unwrap-class.result at (ap (λ (s : Sets). block_is_used s c.args.pointer) c.self.view_is ∙ c.requires.unused) }

pub invariant_of-self : goal.invariant_of-self
invariant_of-self c =
    let a = c.self.inside in
    let at : class_of_block a.layout a.part a.classes.items c.args.pointer ≡ Some c.unwrap-class.result =
    sym (class_at_is a.layout a.part a.free a.due a.classes.items a.bits.items c.self.invariant.form c.args.pointer) ∙ ap (λ (s : Sets). class_at s c.args.pointer) c.self.view_is ∙ sym c.class_at.ensures.class ∙ c.unwrap-class.ensures in
    let e : is_full a.layout c.set.new.words.items (chunk_in a.layout c.args.pointer) c.unwrap-class.result ≡ c.is_full-is_full.result =
    sym (c.is_full-is_full.ensures ∙ (λ t. is_full a.layout (c.deref.ensures.value t) (c.chunk_in-chunk.ensures.value t) c.unwrap-class.result)) in
    kept_marked a.layout a.part a.free a.due a.classes.items a.bits.items a.counts.items a.chains.firsts.items a.chains.nexts.items c.self.invariant c.args.pointer c.unwrap-class.result at (ap (λ (s : Sets). block_is_used s c.args.pointer) c.self.view_is ∙ c.requires.unused) c.set.new.words.items c.take_from.new.counts.items c.unlink_if.new.self.firsts.items c.unlink_if.new.self.nexts.items c.set.ensures.long (λ i. c.set.ensures.each i ∙ ap (λ (n : ℕ). i == n || has_bit a.bits.items i) c.bit_of.ensures) c.take_from.ensures c.unlink_if.ensures.firsts c.unlink_if.ensures.nexts
    (λ has has' linked removes same. c.unlink_if.ensures.linked has has' linked (λ on. subst (λ (j : ℕ). Removes has has' c.unwrap-class.result j) (sym c.chunk_in-chunk.ensures.value) (removes (e ∙ on))) (λ off. same (e ∙ off)))

pub returns-clause-sets : goal.returns-clause-sets
returns-clause-sets c =
    let a = c.self.inside in
    are_sets a.layout a.part a.free a.due a.classes.items c.set.new.words.items (invariant_of-self c).form

pub returns-clause-used : goal.returns-clause-used
returns-clause-used c =
    let a = c.self.inside in
    let at : class_of_block a.layout a.part a.classes.items c.args.pointer ≡ Some c.unwrap-class.result =
    sym (class_at_is a.layout a.part a.free a.due a.classes.items a.bits.items c.self.invariant.form c.args.pointer) ∙ ap (λ (s : Sets). class_at s c.args.pointer) c.self.view_is ∙ sym c.class_at.ensures.class ∙ c.unwrap-class.ensures in
    subst (λ (s : Sets). Uses s (sets_of a.layout a.part a.free a.due a.classes.items c.set.new.words.items) c.args.pointer) c.self.view_is
    (marked_used a.layout a.part a.free a.due a.classes.items a.bits.items c.set.new.words.items c.self.invariant.form c.args.pointer c.unwrap-class.result at (λ x b. x || b) (λ b. refl) c.set.ensures.long (λ i. c.set.ensures.each i ∙ ap (λ (n : ℕ). i == n || has_bit a.bits.items i) c.bit_of.ensures))
