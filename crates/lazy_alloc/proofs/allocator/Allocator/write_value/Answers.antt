use Rattle.std.proofs.Common.{◌≡◌, ◌+◌, ℕ, Some, sym, ◌∙◌, ap, subst, arith}
use Rattle.pm_region.specs.State.{During, cell_now, Frame}
use Rattle.pm_region.specs.Words.{EachIn}
use Rattle.store_image.proofs.Clients.{class_room}
use Rattle.lazy_alloc.specs.Sets.{class_at}
use Rattle.lazy_alloc.specs.Written.{head_of, KeepsOthers, HeadTurnsTo, WroteValue}
use Rattle.lazy_alloc.proofs.WriteLaws.{lie, value_outside, value_head, wrote}
use Rattle.lazy_alloc.proofs.allocator.Allocator.write_value.Goals as goal

pub write_head-requires-clause-at : goal.write_head-requires-clause-at
write_head-requires-clause-at g c = sym c.class_at.ensures.class ∙ c.unwrap-class.ensures

pub write_head-requires-clause-head : goal.write_head-requires-clause-head
write_head-requires-clause-head g c = (c.requires.class c.unwrap-class.result (sym c.class_at.ensures.class ∙ c.unwrap-class.ensures)).1

pub write_block-requires : goal.write_block-requires
write_block-requires g c =
    let a = c.args.self.now in
    let p = c.args.pointer in
    let k = c.unwrap-class.result in
    let at : class_at a p ≡ Some k = sym c.class_at.ensures.class ∙ c.unwrap-class.ensures in
    let is = lie a p k c.class_at.ensures.rules c.class_at.ensures.sets at in
    let room = class_room _ k (c.requires.class k at).0 in
    let same = c.write_head.ensures.outside.frame in
    let frame = ap (λ (f : Frame). f.first) same in
    let words = ap (λ (f : Frame). f.words) same in
    record {
      low = omega (arith, frame, is.low, is.first, c.requires.lies.low);
      high = omega (arith, words, frame, room, is.high, is.last, c.requires.lies.high);
      fits = omega (arith, room, is.high, is.last, c.requires.lies.high, c.requires.lies.fits);
    }

pub mark_written-requires : goal.mark_written-requires
mark_written-requires g c =
    let a = c.args.self.now in
    let p = c.args.pointer in
    let k = c.unwrap-class.result in
    let st = g.R.Region.state in
    let at : class_at a p ≡ Some k = sym c.class_at.ensures.class ∙ c.unwrap-class.ensures in
    let is = lie a p k c.class_at.ensures.rules c.class_at.ensures.sets at in
    let low = is.low in
    let first = is.first in
    omega arith

pub returns-in_err-write_head-clause-outside : goal.returns-in_err-write_head-clause-outside
returns-in_err-write_head-clause-outside g c = λ class e.
    let a = c.args.self.now in
    let p = c.args.pointer in
    let k = c.unwrap-class.result in
    let st = g.R.Region.state in
    let at : class_at a p ≡ Some k = sym c.class_at.ensures.class ∙ c.unwrap-class.ensures in
    let own : k ≡ class = (let two : Some k ≡ Some class = sym at ∙ e in cc two) in
    subst (λ (n : ℕ). During (st c.args.region.now) (st c.write_head.new.region) (KeepsOthers a p n (cell_now (st c.args.region.now)))) own c.write_head.ensures.outside

pub returns-in_err-write_head-clause-head : goal.returns-in_err-write_head-clause-head
returns-in_err-write_head-clause-head g c = λ class e.
    let a = c.args.self.now in
    let p = c.args.pointer in
    let k = c.unwrap-class.result in
    let st = g.R.Region.state in
    let at : class_at a p ≡ Some k = sym c.class_at.ensures.class ∙ c.unwrap-class.ensures in
    let own : k ≡ class = (let two : Some k ≡ Some class = sym at ∙ e in cc two) in
    subst (λ (n : ℕ). During (st c.args.region.now) (st c.write_head.new.region) (EachIn (head_of a p) (head_of a p + 2) (HeadTurnsTo a p n))) own c.write_head.ensures.head

pub returns-in_err-write_block-clause-outside : goal.returns-in_err-write_block-clause-outside
returns-in_err-write_block-clause-outside g c = λ class e.
    let a = c.args.self.now in
    let p = c.args.pointer in
    let k = c.unwrap-class.result in
    let st = g.R.Region.state in
    let at : class_at a p ≡ Some k = sym c.class_at.ensures.class ∙ c.unwrap-class.ensures in
    let is = lie a p k c.class_at.ensures.rules c.class_at.ensures.sets at in
    let own : k ≡ class = (let two : Some k ≡ Some class = sym at ∙ e in cc two) in
    subst (λ (n : ℕ). During (st c.args.region.now) (st c.write_block.new.region) (KeepsOthers a p n (cell_now (st c.args.region.now)))) own
    (value_outside a p k c.args.value.now (st c.args.region.now) (st c.write_head.new.region) (st c.write_block.new.region) is (c.requires.class k at).0 c.write_head.ensures.outside c.write_block.ensures.run)

pub returns-in_err-write_block-clause-head : goal.returns-in_err-write_block-clause-head
returns-in_err-write_block-clause-head g c = λ class e.
    let a = c.args.self.now in
    let p = c.args.pointer in
    let k = c.unwrap-class.result in
    let st = g.R.Region.state in
    let at : class_at a p ≡ Some k = sym c.class_at.ensures.class ∙ c.unwrap-class.ensures in
    let is = lie a p k c.class_at.ensures.rules c.class_at.ensures.sets at in
    let own : k ≡ class = (let two : Some k ≡ Some class = sym at ∙ e in cc two) in
    subst (λ (n : ℕ). During (st c.args.region.now) (st c.write_block.new.region) (EachIn (head_of a p) (head_of a p + 2) (HeadTurnsTo a p n))) own
    (value_head a p k c.args.value.now (st c.args.region.now) (st c.write_head.new.region) (st c.write_block.new.region) is (c.requires.class k at).0 c.write_head.ensures.outside c.write_block.ensures.run c.in_ok-write_head.ensures.ok c.write_head.ensures.head)

pub returns-clause-outside : goal.returns-clause-outside
returns-clause-outside g c = λ class e.
    let a = c.args.self.now in
    let p = c.args.pointer in
    let k = c.unwrap-class.result in
    let st = g.R.Region.state in
    let at : class_at a p ≡ Some k = sym c.class_at.ensures.class ∙ c.unwrap-class.ensures in
    let is = lie a p k c.class_at.ensures.rules c.class_at.ensures.sets at in
    let own : k ≡ class = (let two : Some k ≡ Some class = sym at ∙ e in cc two) in
    subst (λ (n : ℕ). During (st c.args.region.now) (st c.write_block.new.region) (KeepsOthers a p n (cell_now (st c.args.region.now)))) own
    (value_outside a p k c.args.value.now (st c.args.region.now) (st c.write_head.new.region) (st c.write_block.new.region) is (c.requires.class k at).0 c.write_head.ensures.outside c.write_block.ensures.run)

pub returns-clause-head : goal.returns-clause-head
returns-clause-head g c = λ class e.
    let a = c.args.self.now in
    let p = c.args.pointer in
    let k = c.unwrap-class.result in
    let st = g.R.Region.state in
    let at : class_at a p ≡ Some k = sym c.class_at.ensures.class ∙ c.unwrap-class.ensures in
    let is = lie a p k c.class_at.ensures.rules c.class_at.ensures.sets at in
    let own : k ≡ class = (let two : Some k ≡ Some class = sym at ∙ e in cc two) in
    subst (λ (n : ℕ). During (st c.args.region.now) (st c.write_block.new.region) (EachIn (head_of a p) (head_of a p + 2) (HeadTurnsTo a p n))) own
    (value_head a p k c.args.value.now (st c.args.region.now) (st c.write_head.new.region) (st c.write_block.new.region) is (c.requires.class k at).0 c.write_head.ensures.outside c.write_block.ensures.run c.in_ok-write_head.ensures.ok c.write_head.ensures.head)

pub returns-clause-ok : goal.returns-clause-ok
returns-clause-ok g c = λ class e.
    let a = c.args.self.now in
    let p = c.args.pointer in
    let k = c.unwrap-class.result in
    let st = g.R.Region.state in
    let at : class_at a p ≡ Some k = sym c.class_at.ensures.class ∙ c.unwrap-class.ensures in
    let is = lie a p k c.class_at.ensures.rules c.class_at.ensures.sets at in
    let own : k ≡ class = (let two : Some k ≡ Some class = sym at ∙ e in cc two) in
    subst (λ (n : ℕ). WroteValue (st c.write_block.new.region) a c.mark_written.new.self p n c.args.value.now) own
    (wrote a p k c.args.value.now (st c.args.region.now) (st c.write_head.new.region) (st c.write_block.new.region) is (c.requires.class k at).0 c.write_head.ensures.outside c.write_block.ensures.run c.in_ok-write_head.ensures.ok c.mark_written.new.self
    (λ i. let byte = c.type_inv.value i in omega (arith, byte)) c.mark_written.ensures.written c.in_ok-write_block.ensures.ok)
