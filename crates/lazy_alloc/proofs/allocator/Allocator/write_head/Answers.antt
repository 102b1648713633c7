use Rattle.std.proofs.Common.{◌+◌, ◌*◌, Ok, OnOk, sym, ◌∙◌, subst, arith, ℕ}
use Rattle.pm_region.specs.State.{During, IsTelling, cell_now}
use Rattle.pm_region.specs.Words.{EachIn, KeepsOutside, Surely}
use Rattle.chunk_map.specs.declared.heads.Head.TheVariants.{Free, Data}
use Rattle.chunk_map.specs.Setting.{HeadLies, HasEitherHead, HasHead as ReadsHead}
use Rattle.lazy_alloc.proofs.WriteLaws.{lie, head_lies, due_outside, was_free, due_head, written_outside, written_head}
use Rattle.lazy_alloc.proofs.allocator.Allocator.write_head.Goals as goal

pub is_due-requires : goal.is_due-requires
is_due-requires g c =
    let is = lie c.args.self.now c.args.pointer c.args.class c.requires.rules c.requires.sets c.requires.at in
    let low = is.low in
    let first = is.first in
    omega arith

pub head_of-at-requires : goal.head_of-at-requires
head_of-at-requires g c =
    let is = lie c.args.self.now c.args.pointer c.args.class c.requires.rules c.requires.sets c.requires.at in
    let low = is.low in
    let first = is.first in
    omega arith

pub set_head-requires : goal.set_head-requires
set_head-requires g c =
    let a = c.args.self.now in
    let is = lie a c.args.pointer c.args.class c.requires.rules c.requires.sets c.requires.at in
    subst (λ (at : ℕ). HeadLies (g.R.Region.state c.args.region.now).frame at) (sym c.head_of-at.ensures) (head_lies (g.R.Region.state c.args.region.now).frame a c.args.pointer c.args.class is c.requires.rules c.requires.lies)

pub returns-then-is_due-clause-outside : goal.returns-then-is_due-clause-outside
returns-then-is_due-clause-outside g c =
    let a = c.args.self.now in
    let s = g.R.Region.state c.args.region.now in
    let t = g.R.Region.state c.set_head.new.region in
    let is = lie a c.args.pointer c.args.class c.requires.rules c.requires.sets c.requires.at in
    due_outside a c.args.pointer c.args.class s t is (sym c.is_due.ensures ∙ c.if-is_due.true) c.requires.head (subst (λ (at : ℕ). During s t (KeepsOutside (cell_now s) at (at + 8))) c.head_of-at.ensures c.set_head.ensures.outside)

pub returns-then-is_due-clause-head : goal.returns-then-is_due-clause-head
returns-then-is_due-clause-head g c =
    let a = c.args.self.now in
    let p = c.args.pointer in
    let s = g.R.Region.state c.args.region.now in
    let t = g.R.Region.state c.set_head.new.region in
    let is = lie a p c.args.class c.requires.rules c.requires.sets c.requires.at in
    let due = sym c.is_due.ensures ∙ c.if-is_due.true in
    let old = was_free a p c.args.class s t is due c.requires.head in
    due_head a p c.args.class s t is due c.requires.head
    (subst (λ (at : ℕ). During s t (EachIn at (at + 2) (HasEitherHead a.layout at (Ok Free) (Data c.args.class)))) c.head_of-at.ensures
    (c.set_head.ensures.heads a.layout (Ok Free) is.fits (subst (λ (at : ℕ). IsTelling s → EachIn at (at + 2) (ReadsHead a.layout at (Ok Free)) (cell_now s)) (sym c.head_of-at.ensures) old)))

pub returns-then-is_due-clause-ok : goal.returns-then-is_due-clause-ok
returns-then-is_due-clause-ok g c =
    let t = g.R.Region.state c.set_head.new.region in
    subst (λ (at : ℕ). OnOk c.set_head.result (IsTelling t → Surely (cell_now t at) (2 + 256 * c.args.class))) c.head_of-at.ensures c.set_head.ensures.ok

pub returns-else-is_due-clause-outside : goal.returns-else-is_due-clause-outside
returns-else-is_due-clause-outside g c =
    let a = c.args.self.now in
    let is = lie a c.args.pointer c.args.class c.requires.rules c.requires.sets c.requires.at in
    written_outside a c.args.pointer c.args.class (g.R.Region.state c.args.region.now) is (sym c.is_due.ensures ∙ c.if-is_due.false) c.requires.head

pub returns-else-is_due-clause-head : goal.returns-else-is_due-clause-head
returns-else-is_due-clause-head g c =
    let a = c.args.self.now in
    let is = lie a c.args.pointer c.args.class c.requires.rules c.requires.sets c.requires.at in
    written_head a c.args.pointer c.args.class (g.R.Region.state c.args.region.now) is (sym c.is_due.ensures ∙ c.if-is_due.false) c.requires.head

pub returns-else-is_due-clause-ok : goal.returns-else-is_due-clause-ok
returns-else-is_due-clause-ok g c = c.requires.head.written (sym c.is_due.ensures ∙ c.if-is_due.false)
