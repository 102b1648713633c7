use Rattle.std.proofs.Common.{◌≡◌, ◌∙◌, ℕ, List, Option, Some, set, ap}
use Rattle.lazy_alloc.specs.Chains.{link_at}
use Rattle.lazy_alloc.proofs.LinkLaws.{added_first, added_behind, first_has, none_below, none_at, linked_at}
use Rattle.lazy_alloc.proofs.class_chains.Chains.link.Goals as goal

pub before-at-requires-clause-holds : goal.before-at-requires-clause-holds
before-at-requires-clause-holds c =
    let a = c.args.self.now in
    let l = c.requires.lacks in
    record { class = c.args.class; holds = record { has = l.has; linked = l.linked; holds = first_has a.firsts.items a.nexts.items l.has l.linked c.args.class c.in-Some.first c.requires.class c.in-Some.ensures.0 } }

pub next-requires : goal.next-requires
next-requires c =
    let a = c.args.self.now in
    let l = c.requires.lacks in
    l.linked.within c.args.class c.before-at.result (c.before-at.ensures.in_chain l.has c.args.class l.linked (first_has a.firsts.items a.nexts.items l.has l.linked c.args.class c.in-Some.first c.requires.class c.in-Some.ensures.0))

pub returns-in-Some-clause-linked : goal.returns-in-Some-clause-linked
returns-in-Some-clause-linked c = λ has has' linked adds.
    let a = c.args.self.now in
    let at = c.before-at.result in
    let there = c.before-at.ensures.in_chain has c.args.class linked (first_has a.firsts.items a.nexts.items has linked c.args.class c.in-Some.first c.requires.class c.in-Some.ensures.0) in
    let nexts : c.set_next-in-Some.new.self.nexts.items ≡ set (set a.nexts.items c.args.chunk (link_at a.nexts.items at)) at (Some c.args.chunk) =
    c.set_next-in-Some.ensures.nexts ∙ ap (λ (n : List (Option ℕ)). set n at (Some c.args.chunk)) (c.set_next.ensures.nexts ∙ ap (set a.nexts.items c.args.chunk) c.next.ensures) in
    linked_at a.firsts.items c.set_next-in-Some.new.self.firsts.items (set (set a.nexts.items c.args.chunk (link_at a.nexts.items at)) at (Some c.args.chunk)) c.set_next-in-Some.new.self.nexts.items has' (c.set_next-in-Some.ensures.firsts ∙ c.set_next.ensures.firsts) nexts
    (added_behind a.firsts.items a.nexts.items has has' linked c.args.class c.args.chunk c.requires.class c.requires.chunk adds at there c.before-at.ensures.below c.before-at.ensures.last)

pub returns-in-None-clause-linked : goal.returns-in-None-clause-linked
returns-in-None-clause-linked c = λ has has' linked adds.
    let a = c.args.self.now in
    let j = c.args.chunk in
    let k = c.args.class in
    let least = none_at has k j (none_below a.firsts.items a.nexts.items has linked k j c.requires.class c.in-None.ensures) (adds.was k) in
    linked_at (set a.firsts.items k (Some j)) c.set_first.new.self.firsts.items (set a.nexts.items j (link_at a.firsts.items k)) c.set_first.new.self.nexts.items has'
    (c.set_first.ensures.firsts ∙ ap (λ (f : List (Option ℕ)). set f k (Some j)) c.set_next-in-None.ensures.firsts) (c.set_first.ensures.nexts ∙ c.set_next-in-None.ensures.nexts ∙ ap (set a.nexts.items j) c.first.ensures)
    (added_first a.firsts.items a.nexts.items has has' linked k j c.requires.class c.requires.chunk adds least)
