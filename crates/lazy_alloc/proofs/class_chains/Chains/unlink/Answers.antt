use Rattle.std.proofs.Common.{◌∙◌, set, ap}
use Rattle.lazy_alloc.specs.Chains.{link_at}
use Rattle.lazy_alloc.proofs.LinkLaws.{removed_first, removed_behind, first_has, none_below, linked_at}
use Rattle.lazy_alloc.proofs.class_chains.Chains.unlink.Goals as goal

pub before-at-requires-clause-holds : goal.before-at-requires-clause-holds
before-at-requires-clause-holds c =
    let a = c.args.self.now in
    let h = c.requires.holds in
    record { class = c.args.class; holds = record { has = h.has; linked = h.linked; holds = first_has a.firsts.items a.nexts.items h.has h.linked c.args.class c.in-Some.first c.requires.class c.in-Some.ensures.0 } }

pub set_next-requires : goal.set_next-requires
set_next-requires c =
    let a = c.args.self.now in
    let h = c.requires.holds in
    h.linked.within c.args.class c.before-at.result (c.before-at.ensures.in_chain h.has c.args.class h.linked (first_has a.firsts.items a.nexts.items h.has h.linked c.args.class c.in-Some.first c.requires.class c.in-Some.ensures.0))

pub returns-in-Some-clause-linked : goal.returns-in-Some-clause-linked
returns-in-Some-clause-linked c = λ has has' linked removes.
    let a = c.args.self.now in
    let at = c.before-at.result in
    let there = c.before-at.ensures.in_chain has c.args.class linked (first_has a.firsts.items a.nexts.items has linked c.args.class c.in-Some.first c.requires.class c.in-Some.ensures.0) in
    linked_at a.firsts.items c.set_next.new.self.firsts.items (set a.nexts.items at (link_at a.nexts.items c.args.chunk)) c.set_next.new.self.nexts.items has' c.set_next.ensures.firsts (c.set_next.ensures.nexts ∙ ap (set a.nexts.items at) c.next-next.ensures)
    (removed_behind a.firsts.items a.nexts.items has has' linked c.args.class c.args.chunk c.requires.class removes at there c.before-at.ensures.below c.before-at.ensures.last)

pub returns-in-None-clause-linked : goal.returns-in-None-clause-linked
returns-in-None-clause-linked c = λ has has' linked removes.
    let a = c.args.self.now in
    let j = c.args.chunk in
    let k = c.args.class in
    linked_at (set a.firsts.items k (link_at a.nexts.items j)) c.set_first.new.self.firsts.items a.nexts.items c.set_first.new.self.nexts.items has' (c.set_first.ensures.firsts ∙ ap (set a.firsts.items k) c.next-next.ensures) c.set_first.ensures.nexts
    (removed_first a.firsts.items a.nexts.items has has' linked k j c.requires.class removes (none_below a.firsts.items a.nexts.items has linked k j c.requires.class c.in-None.ensures))
