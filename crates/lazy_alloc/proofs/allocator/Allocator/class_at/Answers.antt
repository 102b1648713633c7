use Rattle.std.proofs.Common.{◌≡◌, ◌∙◌, sym, subst, None, Some, arith}
use Rattle.lazy_alloc.specs.Sets.{Sets, class_at, AreSets}
use Rattle.lazy_alloc.specs.Form.{chunk_in}
use Rattle.lazy_alloc.proofs.FormLaws.{class_found, no_class, no_start, has_start, class_bounds, are_sets}
use Rattle.lazy_alloc.proofs.allocator.Allocator.class_at.Goals as goal

pub is_start-requires-clause-class : goal.is_start-requires-clause-class
is_start-requires-clause-class c =
    let a = c.self.inside in
    let many = c.self.invariant.form.many in
    let found = class_found a.classes.items c.chunk_in.result (chunk_in a.layout c.args.pointer) c.index.result.now c.index.ensures c.chunk_in.ensures.value (let w = c.chunk_in.ensures.within in omega (arith, many, w)) ∙ c.in-Some.is in
    (class_bounds a.layout a.part a.free a.due a.classes.items a.bits.items c.self.invariant.form (chunk_in a.layout c.args.pointer) c.in-Some.class found).1

pub returns-then-is_start-clause-class : goal.returns-then-is_start-clause-class
returns-then-is_start-clause-class c =
    let a = c.self.inside in
    let many = c.self.invariant.form.many in
    let found = class_found a.classes.items c.chunk_in.result (chunk_in a.layout c.args.pointer) c.index.result.now c.index.ensures c.chunk_in.ensures.value (let w = c.chunk_in.ensures.within in omega (arith, many, w)) ∙ c.in-Some.is in
    subst (λ (s : Sets). Some c.in-Some.class ≡ class_at s c.args.pointer) c.self.view_is (sym (has_start a.layout a.part a.free a.due a.classes.items a.bits.items c.self.invariant.form c.args.pointer c.in-Some.class (sym c.is_in_part.ensures ∙ c.if-not-is_in_part.false) found (sym c.is_start.ensures ∙ c.if-is_start.true)))

pub returns-then-is_start-clause-small : goal.returns-then-is_start-clause-small
returns-then-is_start-clause-small c =
    let a = c.self.inside in
    let many = c.self.invariant.form.many in
    let found = class_found a.classes.items c.chunk_in.result (chunk_in a.layout c.args.pointer) c.index.result.now c.index.ensures c.chunk_in.ensures.value (let w = c.chunk_in.ensures.within in omega (arith, many, w)) ∙ c.in-Some.is in
    class_bounds a.layout a.part a.free a.due a.classes.items a.bits.items c.self.invariant.form (chunk_in a.layout c.args.pointer) c.in-Some.class found

pub returns-else-is_start-clause-class : goal.returns-else-is_start-clause-class
returns-else-is_start-clause-class c =
    let a = c.self.inside in
    let many = c.self.invariant.form.many in
    let found = class_found a.classes.items c.chunk_in.result (chunk_in a.layout c.args.pointer) c.index.result.now c.index.ensures c.chunk_in.ensures.value (let w = c.chunk_in.ensures.within in omega (arith, many, w)) ∙ c.in-Some.is in
    subst (λ (s : Sets). None ≡ class_at s c.args.pointer) c.self.view_is (sym (no_start a.layout a.part a.free a.due a.classes.items a.bits.items c.self.invariant.form c.args.pointer c.in-Some.class found (sym c.is_start.ensures ∙ c.if-is_start.false)))

pub returns-in_default-clause-class : goal.returns-in_default-clause-class
returns-in_default-clause-class c =
    let a = c.self.inside in
    let many = c.self.invariant.form.many in
    let found = class_found a.classes.items c.chunk_in.result (chunk_in a.layout c.args.pointer) c.index.result.now c.index.ensures c.chunk_in.ensures.value (let w = c.chunk_in.ensures.within in omega (arith, many, w)) ∙ c.in_default.is in
    subst (λ (s : Sets). None ≡ class_at s c.args.pointer) c.self.view_is (sym (no_class a.layout a.part a.free a.due a.classes.items a.bits.items c.self.invariant.form c.args.pointer found))

pub returns-then-not-is_in_part-clause-sets : goal.returns-then-not-is_in_part-clause-sets
returns-then-not-is_in_part-clause-sets c =
    let a = c.self.inside in
    subst AreSets c.self.view_is (are_sets a.layout a.part a.free a.due a.classes.items a.bits.items c.self.invariant.form)

pub returns-then-is_start-clause-sets : goal.returns-then-is_start-clause-sets
returns-then-is_start-clause-sets c =
    let a = c.self.inside in
    subst AreSets c.self.view_is (are_sets a.layout a.part a.free a.due a.classes.items a.bits.items c.self.invariant.form)

pub returns-else-is_start-clause-sets : goal.returns-else-is_start-clause-sets
returns-else-is_start-clause-sets c =
    let a = c.self.inside in
    subst AreSets c.self.view_is (are_sets a.layout a.part a.free a.due a.classes.items a.bits.items c.self.invariant.form)

pub returns-in_default-clause-sets : goal.returns-in_default-clause-sets
returns-in_default-clause-sets c =
    let a = c.self.inside in
    subst AreSets c.self.view_is (are_sets a.layout a.part a.free a.due a.classes.items a.bits.items c.self.invariant.form)
