use Rattle.std.proofs.Common.{◌≡◌, ◌<◌, ℕ, length, Option, None, Some, sym, ◌∙◌, ap, subst, arith}
use Rattle.chunk_map.specs.Layouts.{is_class}
use Rattle.lazy_alloc.specs.Chains.{LeastFrom}
use Rattle.lazy_alloc.specs.Sets.{Sets, chunk_class, AreSets}
use Rattle.lazy_alloc.specs.Steps.{LowestIn, LowestBlock}
use Rattle.lazy_alloc.specs.Form.{chunk_in, is_open, sets_of}
use Rattle.lazy_alloc.proofs.FormLaws.{are_sets, class_is, there}
use Rattle.lazy_alloc.proofs.SetLaws.{lowest_some}
use Rattle.lazy_alloc.proofs.OpenLaws.{class_bound, open_parts}
use Rattle.lazy_alloc.proofs.KeptLaws.{closed_none, open_lowest}
use Rattle.lazy_alloc.proofs.allocator.Allocator.lowest_block.Goals as goal

pub first-requires : goal.first-requires
first-requires c =
    let a = c.self.inside in
    let l = a.layout in
    let k = c.args.class in
    let le = class_bound l k (ap (λ (s : Sets). is_class s.layout k) c.self.view_is ∙ c.requires.class) in
    let many = c.self.invariant.firsts_many in
    let low : k < length a.chains.firsts.items = omega arith in
    low

pub returns-in-None-clause-lowest : goal.returns-in-None-clause-lowest
returns-in-None-clause-lowest c =
    let a = c.self.inside in
    let l = a.layout in
    let k = c.args.class in
    let le = class_bound l k (ap (λ (s : Sets). is_class s.layout k) c.self.view_is ∙ c.requires.class) in
    let many = c.self.invariant.firsts_many in
    let low : k < length a.chains.firsts.items = omega arith in
    let first : LeastFrom (is_open l a.classes.items a.bits.items k) 0 None = subst (λ (o : Option ℕ). LeastFrom (is_open l a.classes.items a.bits.items k) 0 o) (sym c.in-None.ensures) (c.self.invariant.linked.first k low) in
    subst (λ (s : Sets). LowestBlock s k None) c.self.view_is (λ q. closed_none a.layout a.part a.free a.due a.classes.items a.bits.items a.counts.items a.chains.firsts.items a.chains.nexts.items c.self.invariant k q (first (chunk_in l q) (omega arith)))

pub lowest_in-requires-clause-within : goal.lowest_in-requires-clause-within
lowest_in-requires-clause-within c =
    let a = c.self.inside in
    let l = a.layout in
    let k = c.args.class in
    let le = class_bound l k (ap (λ (s : Sets). is_class s.layout k) c.self.view_is ∙ c.requires.class) in
    let many = c.self.invariant.firsts_many in
    let low : k < length a.chains.firsts.items = omega arith in
    let first : LeastFrom (is_open l a.classes.items a.bits.items k) 0 (Some c.in-Some.chunk) = subst (λ (o : Option ℕ). LeastFrom (is_open l a.classes.items a.bits.items k) 0 o) (sym c.in-Some.ensures) (c.self.invariant.linked.first k low) in
    let parts = open_parts l a.classes.items a.bits.items k c.in-Some.chunk first.1 in
    let within = there a.classes.items c.in-Some.chunk k parts.0 in
    let size = c.self.invariant.form.many in
    subst (λ (s : Sets). c.in-Some.chunk < s.layout.chunks) c.self.view_is (omega (arith, within, size))

pub lowest_in-requires-clause-cut : goal.lowest_in-requires-clause-cut
lowest_in-requires-clause-cut c =
    let a = c.self.inside in
    let l = a.layout in
    let k = c.args.class in
    let le = class_bound l k (ap (λ (s : Sets). is_class s.layout k) c.self.view_is ∙ c.requires.class) in
    let many = c.self.invariant.firsts_many in
    let low : k < length a.chains.firsts.items = omega arith in
    let first : LeastFrom (is_open l a.classes.items a.bits.items k) 0 (Some c.in-Some.chunk) = subst (λ (o : Option ℕ). LeastFrom (is_open l a.classes.items a.bits.items k) 0 o) (sym c.in-Some.ensures) (c.self.invariant.linked.first k low) in
    let parts = open_parts l a.classes.items a.bits.items k c.in-Some.chunk first.1 in
    subst (λ (s : Sets). chunk_class s c.in-Some.chunk ≡ Some k) c.self.view_is (class_is a.layout a.part a.free a.due a.classes.items a.bits.items c.self.invariant.form c.in-Some.chunk ∙ parts.0)

pub returns-in-Some-clause-lowest : goal.returns-in-Some-clause-lowest
returns-in-Some-clause-lowest c =
    let a = c.self.inside in
    let l = a.layout in
    let k = c.args.class in
    let le = class_bound l k (ap (λ (s : Sets). is_class s.layout k) c.self.view_is ∙ c.requires.class) in
    let many = c.self.invariant.firsts_many in
    let low : k < length a.chains.firsts.items = omega arith in
    let first : LeastFrom (is_open l a.classes.items a.bits.items k) 0 (Some c.in-Some.chunk) = subst (λ (o : Option ℕ). LeastFrom (is_open l a.classes.items a.bits.items k) 0 o) (sym c.in-Some.ensures) (c.self.invariant.linked.first k low) in
    let parts = open_parts l a.classes.items a.bits.items k c.in-Some.chunk first.1 in
    let within = there a.classes.items c.in-Some.chunk k parts.0 in
    let size = c.self.invariant.form.many in
    let found : LowestIn (sets_of l a.part a.free a.due a.classes.items a.bits.items) k c.in-Some.chunk c.lowest_in.result = subst (λ (s : Sets). LowestIn s k c.in-Some.chunk c.lowest_in.result) (sym c.self.view_is) c.lowest_in.ensures in
    let some = open_lowest a.layout a.part a.free a.due a.classes.items a.bits.items a.counts.items a.chains.firsts.items a.chains.nexts.items c.self.invariant k c.in-Some.chunk c.lowest_in.result (omega (arith, within, size)) first.1 found in
    subst (λ (s : Sets). LowestBlock s k c.lowest_in.result) c.self.view_is
    (lowest_some (sets_of l a.part a.free a.due a.classes.items a.bits.items) k c.in-Some.chunk c.lowest_in.result (are_sets a.layout a.part a.free a.due a.classes.items a.bits.items c.self.invariant.form) some (λ q less. closed_none a.layout a.part a.free a.due a.classes.items a.bits.items a.counts.items a.chains.firsts.items a.chains.nexts.items c.self.invariant k q (first.2 (chunk_in l q) (omega arith) less)) found)

pub returns-in-None-clause-sets : goal.returns-in-None-clause-sets
returns-in-None-clause-sets c =
    let a = c.self.inside in
    subst AreSets c.self.view_is (are_sets a.layout a.part a.free a.due a.classes.items a.bits.items c.self.invariant.form)

pub returns-in-Some-clause-sets : goal.returns-in-Some-clause-sets
returns-in-Some-clause-sets c =
    let a = c.self.inside in
    subst AreSets c.self.view_is (are_sets a.layout a.part a.free a.due a.classes.items a.bits.items c.self.invariant.form)
