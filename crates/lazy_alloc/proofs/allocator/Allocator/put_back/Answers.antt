use Rattle.std.proofs.Common.{◌≡◌, ◌&&◌, ◌==◌, not, ◌*◌, ◌<◌, ℕ, true, length, Some, refl, sym, ◌∙◌, ap, subst, arith}
use Rattle.lazy_alloc.specs.Bits.{has_bit}
use Rattle.lazy_alloc.specs.Chains.{Adds, Lacks}
use Rattle.lazy_alloc.specs.Sets.{Sets, Releases, SameChunks, class_at, block_is_used, AreSets}
use Rattle.lazy_alloc.specs.Form.{sets_of, class_of_block, chunk_in, is_full}
use Rattle.lazy_alloc.proofs.StepLaws.{marked_used, bit_in_room}
use Rattle.lazy_alloc.proofs.FormLaws.{are_sets, class_at_is}
use Rattle.lazy_alloc.proofs.KeptLaws.{kept_released, class_le, full_lacks, count_fits}
use Rattle.lazy_alloc.proofs.BitLaws.{and_true}
use Rattle.lazy_alloc.proofs.SetLaws.{puts_back}
use Rattle.lazy_alloc.proofs.allocator.Allocator.put_back.Goals as goal

pub is_full-was_full-requires-clause-bits : goal.is_full-was_full-requires-clause-bits
is_full-was_full-requires-clause-bits c =
    let a = c.self.inside in
    ap (length {A = ℕ}) c.deref.ensures.value ∙ c.self.invariant.form.room

pub clear-requires : goal.clear-requires
clear-requires c =
    let a = c.self.inside in
    let at : class_of_block a.layout a.part a.classes.items c.args.pointer ≡ Some c.unwrap-class.result =
    sym (class_at_is a.layout a.part a.free a.due a.classes.items a.bits.items c.self.invariant.form c.args.pointer) ∙ ap (λ (s : Sets). class_at s c.args.pointer) c.self.view_is ∙ sym c.class_at.ensures.class ∙ c.unwrap-class.ensures in
    subst (λ (i : ℕ). i < 64 * length a.bits.items) (sym c.bit_of.ensures) (bit_in_room a.layout a.part a.free a.due a.classes.items a.bits.items c.self.invariant.form c.args.pointer c.unwrap-class.result at)

pub add_to-requires-clause-class : goal.add_to-requires-clause-class
add_to-requires-clause-class c =
    let a = c.self.inside in
    let at : class_of_block a.layout a.part a.classes.items c.args.pointer ≡ Some c.unwrap-class.result =
    sym (class_at_is a.layout a.part a.free a.due a.classes.items a.bits.items c.self.invariant.form c.args.pointer) ∙ ap (λ (s : Sets). class_at s c.args.pointer) c.self.view_is ∙ sym c.class_at.ensures.class ∙ c.unwrap-class.ensures in
    let le = class_le a.layout a.part a.free a.due a.classes.items a.bits.items a.counts.items a.chains.firsts.items a.chains.nexts.items c.self.invariant c.args.pointer c.unwrap-class.result at in
    let many = c.self.invariant.counts_many in
    omega arith

pub add_to-requires-clause-fits : goal.add_to-requires-clause-fits
add_to-requires-clause-fits c =
    let a = c.self.inside in
    let at : class_of_block a.layout a.part a.classes.items c.args.pointer ≡ Some c.unwrap-class.result =
    sym (class_at_is a.layout a.part a.free a.due a.classes.items a.bits.items c.self.invariant.form c.args.pointer) ∙ ap (λ (s : Sets). class_at s c.args.pointer) c.self.view_is ∙ sym c.class_at.ensures.class ∙ c.unwrap-class.ensures in
    let le = class_le a.layout a.part a.free a.due a.classes.items a.bits.items a.counts.items a.chains.firsts.items a.chains.nexts.items c.self.invariant c.args.pointer c.unwrap-class.result at in
    let n = c.self.invariant.counted c.unwrap-class.result le in
    let small = count_fits a.layout a.part a.free a.due a.classes.items a.bits.items c.unwrap-class.result c.self.invariant.form.layout in
    omega (arith, n, small)

pub link_if-requires-clause-class : goal.link_if-requires-clause-class
link_if-requires-clause-class c =
    let a = c.self.inside in
    let at : class_of_block a.layout a.part a.classes.items c.args.pointer ≡ Some c.unwrap-class.result =
    sym (class_at_is a.layout a.part a.free a.due a.classes.items a.bits.items c.self.invariant.form c.args.pointer) ∙ ap (λ (s : Sets). class_at s c.args.pointer) c.self.view_is ∙ sym c.class_at.ensures.class ∙ c.unwrap-class.ensures in
    let le = class_le a.layout a.part a.free a.due a.classes.items a.bits.items a.counts.items a.chains.firsts.items a.chains.nexts.items c.self.invariant c.args.pointer c.unwrap-class.result at in
    let many = c.self.invariant.firsts_many in
    omega arith

pub link_if-requires-clause-chunk : goal.link_if-requires-clause-chunk
link_if-requires-clause-chunk c =
    let a = c.self.inside in
    let within = c.chunk_in-chunk.ensures.within in
    let many = c.self.invariant.nexts_many in
    omega arith

pub link_if-requires-clause-lacks : goal.link_if-requires-clause-lacks
link_if-requires-clause-lacks c =
    let a = c.self.inside in
    let at : class_of_block a.layout a.part a.classes.items c.args.pointer ≡ Some c.unwrap-class.result =
    sym (class_at_is a.layout a.part a.free a.due a.classes.items a.bits.items c.self.invariant.form c.args.pointer) ∙ ap (λ (s : Sets). class_at s c.args.pointer) c.self.view_is ∙ sym c.class_at.ensures.class ∙ c.unwrap-class.ensures in
    let e : is_full a.layout a.bits.items (chunk_in a.layout c.args.pointer) c.unwrap-class.result ≡ c.is_full-was_full.result =
    sym (c.is_full-was_full.ensures ∙ (λ t. is_full a.layout (c.deref.ensures.value t) (c.chunk_in-chunk.ensures.value t) c.unwrap-class.result)) in
    λ full. subst (λ (j : ℕ). Lacks a.chains.firsts.items a.chains.nexts.items j) (sym c.chunk_in-chunk.ensures.value) (full_lacks a.layout a.part a.free a.due a.classes.items a.bits.items a.counts.items a.chains.firsts.items a.chains.nexts.items c.self.invariant c.args.pointer c.unwrap-class.result at (e ∙ full))

pub invariant_of-self : goal.invariant_of-self
invariant_of-self c =
    let a = c.self.inside in
    let at : class_of_block a.layout a.part a.classes.items c.args.pointer ≡ Some c.unwrap-class.result =
    sym (class_at_is a.layout a.part a.free a.due a.classes.items a.bits.items c.self.invariant.form c.args.pointer) ∙ ap (λ (s : Sets). class_at s c.args.pointer) c.self.view_is ∙ sym c.class_at.ensures.class ∙ c.unwrap-class.ensures in
    let e : is_full a.layout a.bits.items (chunk_in a.layout c.args.pointer) c.unwrap-class.result ≡ c.is_full-was_full.result =
    sym (c.is_full-was_full.ensures ∙ (λ t. is_full a.layout (c.deref.ensures.value t) (c.chunk_in-chunk.ensures.value t) c.unwrap-class.result)) in
    kept_released a.layout a.part a.free a.due a.classes.items a.bits.items a.counts.items a.chains.firsts.items a.chains.nexts.items c.self.invariant c.args.pointer c.unwrap-class.result at (ap (λ (s : Sets). block_is_used s c.args.pointer) c.self.view_is ∙ c.requires.used) c.clear.new.words.items c.clear.ensures.long (λ i. c.clear.ensures.each i ∙ ap (λ (n : ℕ). has_bit a.bits.items i && not (i == n)) c.bit_of.ensures) c.add_to.new.counts.items c.link_if.new.self.firsts.items c.link_if.new.self.nexts.items c.add_to.ensures c.link_if.ensures.firsts c.link_if.ensures.nexts
    (λ has has' linked adds same. c.link_if.ensures.linked has has' linked (λ on. subst (λ (j : ℕ). Adds has has' c.unwrap-class.result j) (sym c.chunk_in-chunk.ensures.value) (adds (e ∙ on))) (λ off. same (e ∙ off)))

pub returns-clause-sets : goal.returns-clause-sets
returns-clause-sets c =
    let a = c.self.inside in
    are_sets a.layout a.part a.free a.due a.classes.items c.clear.new.words.items (invariant_of-self c).form

pub returns-clause-puts : goal.returns-clause-puts
returns-clause-puts c =
    let a = c.self.inside in
    let at : class_of_block a.layout a.part a.classes.items c.args.pointer ≡ Some c.unwrap-class.result =
    sym (class_at_is a.layout a.part a.free a.due a.classes.items a.bits.items c.self.invariant.form c.args.pointer) ∙ ap (λ (s : Sets). class_at s c.args.pointer) c.self.view_is ∙ sym c.class_at.ensures.class ∙ c.unwrap-class.ensures in
    let new = sets_of a.layout a.part a.free a.due a.classes.items c.clear.new.words.items in
    puts_back c.args.self.now new c.args.pointer (subst AreSets c.self.view_is (are_sets c.self.inside.layout c.self.inside.part c.self.inside.free c.self.inside.due c.self.inside.classes.items c.self.inside.bits.items c.self.invariant.form)) (returns-clause-sets c)
    (subst (λ (s : Sets). SameChunks s new) c.self.view_is (record { layout_is = refl; part_is = refl; free = λ j. refl; classes = λ j. refl; due = λ j. refl })) c.requires.used
    (subst (λ (s : Sets). Releases s new c.args.pointer) c.self.view_is
    (marked_used a.layout a.part a.free a.due a.classes.items a.bits.items c.clear.new.words.items c.self.invariant.form c.args.pointer c.unwrap-class.result at (λ x b. b && not x) (λ b. and_true b true refl) c.clear.ensures.long (λ i. c.clear.ensures.each i ∙ ap (λ (n : ℕ). has_bit a.bits.items i && not (i == n)) c.bit_of.ensures)))
