use Rattle.std.proofs.Common.{◌≡◌, ◌<◌, ◌+◌, ℕ, true, false, None, Some, set, get_or, sym, ◌∙◌, ap, subst, arith}
use Rattle.chunk_map.specs.Layouts.{is_class}
use Rattle.lazy_alloc.specs.Bits.{has}
use Rattle.lazy_alloc.specs.Sets.{Sets, chunk_is_free, chunk_class}
use Rattle.lazy_alloc.specs.Steps.{CutsChunk}
use Rattle.lazy_alloc.specs.Form.{sets_of, class_in}
use Rattle.lazy_alloc.proofs.FormLaws.{are_sets, free_is, class_is}
use Rattle.lazy_alloc.proofs.StepLaws.{cuts_chunk}
use Rattle.lazy_alloc.proofs.OpenLaws.{class_bound}
use Rattle.lazy_alloc.proofs.KeptLaws.{kept_cut, uncut_lacks, count_fits}
use Rattle.lazy_alloc.proofs.allocator.Allocator.cut.Goals as goal

pub add_to-requires-clause-class : goal.add_to-requires-clause-class
add_to-requires-clause-class c =
    let a = c.self.inside in
    let j = c.args.chunk in
    let ok : is_class a.layout c.args.class ≡ true = ap (λ (s : Sets). is_class s.layout c.args.class) c.self.view_is ∙ c.requires.class in
    let le = class_bound a.layout c.args.class ok in
    let many = c.self.invariant.counts_many in
    omega arith

pub add_to-requires-clause-fits : goal.add_to-requires-clause-fits
add_to-requires-clause-fits c =
    let a = c.self.inside in
    let j = c.args.chunk in
    let ok : is_class a.layout c.args.class ≡ true = ap (λ (s : Sets). is_class s.layout c.args.class) c.self.view_is ∙ c.requires.class in
    let n = c.self.invariant.counted c.args.class (class_bound a.layout c.args.class ok) in
    let small = count_fits a.layout a.part a.free a.due a.classes.items a.bits.items c.args.class c.self.invariant.form.layout in
    let blocks = c.blocks_in-blocks.ensures.small in
    omega (arith, n, small, blocks)

pub link-requires-clause-class : goal.link-requires-clause-class
link-requires-clause-class c =
    let a = c.self.inside in
    let j = c.args.chunk in
    let ok : is_class a.layout c.args.class ≡ true = ap (λ (s : Sets). is_class s.layout c.args.class) c.self.view_is ∙ c.requires.class in
    let le = class_bound a.layout c.args.class ok in
    let many = c.self.invariant.firsts_many in
    omega arith

pub link-requires-clause-chunk : goal.link-requires-clause-chunk
link-requires-clause-chunk c =
    let a = c.self.inside in
    let j = c.args.chunk in
    let ok : is_class a.layout c.args.class ≡ true = ap (λ (s : Sets). is_class s.layout c.args.class) c.self.view_is ∙ c.requires.class in
    let lt : j < a.layout.chunks = subst (λ (s : Sets). j < s.layout.chunks) (sym c.self.view_is) c.requires.within in
    let taken : has a.free j ≡ false = sym (free_is a.layout a.part a.free a.due a.classes.items a.bits.items c.self.invariant.form j) ∙ ap (λ (s : Sets). chunk_is_free s j) c.self.view_is ∙ c.requires.taken in
    let none : class_in a.classes.items j ≡ None = sym (class_is a.layout a.part a.free a.due a.classes.items a.bits.items c.self.invariant.form j) ∙ ap (λ (s : Sets). chunk_class s j) c.self.view_is ∙ c.requires.uncut in
    let many = c.self.invariant.nexts_many in
    omega arith

pub link-requires-clause-lacks : goal.link-requires-clause-lacks
link-requires-clause-lacks c =
    let a = c.self.inside in
    let j = c.args.chunk in
    let ok : is_class a.layout c.args.class ≡ true = ap (λ (s : Sets). is_class s.layout c.args.class) c.self.view_is ∙ c.requires.class in
    let lt : j < a.layout.chunks = subst (λ (s : Sets). j < s.layout.chunks) (sym c.self.view_is) c.requires.within in
    let taken : has a.free j ≡ false = sym (free_is a.layout a.part a.free a.due a.classes.items a.bits.items c.self.invariant.form j) ∙ ap (λ (s : Sets). chunk_is_free s j) c.self.view_is ∙ c.requires.taken in
    let none : class_in a.classes.items j ≡ None = sym (class_is a.layout a.part a.free a.due a.classes.items a.bits.items c.self.invariant.form j) ∙ ap (λ (s : Sets). chunk_class s j) c.self.view_is ∙ c.requires.uncut in
    uncut_lacks a.layout a.part a.free a.due a.classes.items a.bits.items a.counts.items a.chains.firsts.items a.chains.nexts.items c.self.invariant c.with_if-self-inside.result j c.args.class c.args.is_due lt taken none ok c.with_if-self-inside.ensures

pub invariant_of-self : goal.invariant_of-self
invariant_of-self c =
    let a = c.self.inside in
    let j = c.args.chunk in
    let ok : is_class a.layout c.args.class ≡ true = ap (λ (s : Sets). is_class s.layout c.args.class) c.self.view_is ∙ c.requires.class in
    let lt : j < a.layout.chunks = subst (λ (s : Sets). j < s.layout.chunks) (sym c.self.view_is) c.requires.within in
    let taken : has a.free j ≡ false = sym (free_is a.layout a.part a.free a.due a.classes.items a.bits.items c.self.invariant.form j) ∙ ap (λ (s : Sets). chunk_is_free s j) c.self.view_is ∙ c.requires.taken in
    let none : class_in a.classes.items j ≡ None = sym (class_is a.layout a.part a.free a.due a.classes.items a.bits.items c.self.invariant.form j) ∙ ap (λ (s : Sets). chunk_class s j) c.self.view_is ∙ c.requires.uncut in
    kept_cut a.layout a.part a.free a.due a.classes.items a.bits.items a.counts.items a.chains.firsts.items a.chains.nexts.items c.self.invariant c.with_if-self-inside.result j c.args.class c.args.is_due lt taken none ok c.with_if-self-inside.ensures c.add_to.new.counts.items c.link.new.self.firsts.items c.link.new.self.nexts.items (c.add_to.ensures ∙ ap (λ (n : ℕ). set a.counts.items c.args.class (get_or a.counts.items c.args.class 0 + n)) c.blocks_in-blocks.ensures.value) c.link.ensures.firsts c.link.ensures.nexts c.link.ensures.linked

pub returns-clause-sets : goal.returns-clause-sets
returns-clause-sets c =
    let a = c.self.inside in
    are_sets a.layout a.part a.free c.with_if-self-inside.result (set a.classes.items c.args.chunk (Some c.args.class)) a.bits.items (invariant_of-self c).form

pub returns-clause-cuts : goal.returns-clause-cuts
returns-clause-cuts c =
    let a = c.self.inside in
    let j = c.args.chunk in
    let ok : is_class a.layout c.args.class ≡ true = ap (λ (s : Sets). is_class s.layout c.args.class) c.self.view_is ∙ c.requires.class in
    let lt : j < a.layout.chunks = subst (λ (s : Sets). j < s.layout.chunks) (sym c.self.view_is) c.requires.within in
    let taken : has a.free j ≡ false = sym (free_is a.layout a.part a.free a.due a.classes.items a.bits.items c.self.invariant.form j) ∙ ap (λ (s : Sets). chunk_is_free s j) c.self.view_is ∙ c.requires.taken in
    let none : class_in a.classes.items j ≡ None = sym (class_is a.layout a.part a.free a.due a.classes.items a.bits.items c.self.invariant.form j) ∙ ap (λ (s : Sets). chunk_class s j) c.self.view_is ∙ c.requires.uncut in
    subst (λ (s : Sets). CutsChunk s (sets_of a.layout a.part a.free c.with_if-self-inside.result (set a.classes.items j (Some c.args.class)) a.bits.items) j c.args.class c.args.is_due) c.self.view_is
    (cuts_chunk a.layout a.part a.free a.due c.with_if-self-inside.result a.classes.items a.bits.items c.self.invariant.form j c.args.class c.args.is_due lt taken none ok c.with_if-self-inside.ensures)
