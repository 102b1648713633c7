use Rattle.std.proofs.Common.{◌≡◌, ◌+◌, ◌-◌, ◌<◌, ℕ, List, Option, Some, sym, ◌∙◌, ap, subst, arith}
use Rattle.core_index.specs.Records.{KeyRecord, settled, last_of, block_of}
use Rattle.core_index.specs.Slots.{Place}
use Rattle.core_index.specs.Index.{place_at, room_in, known_at, room_at, all_places, all_untold, Changes}
use Rattle.core_index.proofs.PlaceLaws.{known_there, room_both, room_place, settled_untold}
use Rattle.core_index.proofs.IndexLaws.{settled_index, settled_change}
use Rattle.core_index.proofs.index.CoreIndex.settle.Goals as goal

pub settle_at-settled-requires-clause-room : goal.settle_at-settled-requires-clause-room
settle_at-settled-requires-clause-room c =
    let es = c.self.inside.slots.entries in
    let a = c.self.inside.start in
    let k = c.args.entry.key in
    let same : room_at (all_places es a) k ≡ room_at c.args.self.now k = ap (λ (xs : List (ℕ × Place)). room_at xs k) c.self.view_is in
    let both = room_both es a k in
    let some = c.requires.room in
    let room : 0 < room_at es k = omega (arith, same, both, some) in
    room

pub settle_at-settled-requires-clause-next : goal.settle_at-settled-requires-clause-next
settle_at-settled-requires-clause-next c =
    let es = c.self.inside.slots.entries in
    let a = c.self.inside.start in
    let k = c.args.entry.key in
    let same : room_at (all_places es a) k ≡ room_at c.args.self.now k = ap (λ (xs : List (ℕ × Place)). room_at xs k) c.self.view_is in
    let both = room_both es a k in
    let some = c.requires.room in
    let room : 0 < room_at es k = omega (arith, same, both, some) in
    let there = room_place (place_at es k) room in
    let known = known_there es a k there.0 there.1 in
    c.requires.next ∙ ap (λ (xs : List (ℕ × Place)). last_of (known_at xs k) + 1) (sym c.self.view_is) ∙ ap (λ (o : Option KeyRecord). last_of o + 1) known

pub invariant_of-self : goal.invariant_of-self
invariant_of-self c =
    let es = c.self.inside.slots.entries in
    let a = c.self.inside.start in
    let k = c.args.entry.key in
    let same : room_at (all_places es a) k ≡ room_at c.args.self.now k = ap (λ (xs : List (ℕ × Place)). room_at xs k) c.self.view_is in
    let both = room_both es a k in
    let some = c.requires.room in
    let room : 0 < room_at es k = omega (arith, same, both, some) in
    let there = room_place (place_at es k) room in
    let known = known_there es a k there.0 there.1 in
    let s = c.settle_at-settled.ensures in
    let n = c.note_dead.ensures in
    let g = c.give_back.ensures in
    settled_index es c.settle_at-settled.new.slots.entries a c.self.inside.notices c.give_back.new.self k there.0 _ c.settle_at-settled.result.dead c.settle_at-settled.result.spared c.self.invariant there.1 s.step s.dead s.mortal (λ v h died. g.kept h _ (n.added v h died)) (λ h m noted. g.kept h m (n.kept h m noted)) (let a = g.spare in let b = n.spare in omega (arith, a, b))

pub returns-clause-settled : goal.returns-clause-settled
returns-clause-settled c =
    let es = c.self.inside.slots.entries in
    let a = c.self.inside.start in
    let k = c.args.entry.key in
    let same : room_at (all_places es a) k ≡ room_at c.args.self.now k = ap (λ (xs : List (ℕ × Place)). room_at xs k) c.self.view_is in
    let both = room_both es a k in
    let some = c.requires.room in
    let room : 0 < room_at es k = omega (arith, same, both, some) in
    let there = room_place (place_at es k) room in
    let known = known_there es a k there.0 there.1 in
    let fs = c.settle_at-settled.new.slots.entries in
    let e = c.args.entry in
    let change = settled_change es fs a k _ c.settle_at-settled.ensures.step in
    subst (λ (xs : List (ℕ × Place)). Changes xs (all_places fs a) k (Some (settled (known_at xs k) e.version e.body c.args.home))) c.self.view_is
    (subst (λ (o : Option KeyRecord). Changes (all_places es a) (all_places fs a) k (Some (settled o e.version e.body c.args.home))) (sym known) change)

pub returns-clause-replaced : goal.returns-clause-replaced
returns-clause-replaced c =
    let es = c.self.inside.slots.entries in
    let a = c.self.inside.start in
    let k = c.args.entry.key in
    let same : room_at (all_places es a) k ≡ room_at c.args.self.now k = ap (λ (xs : List (ℕ × Place)). room_at xs k) c.self.view_is in
    let both = room_both es a k in
    let some = c.requires.room in
    let room : 0 < room_at es k = omega (arith, same, both, some) in
    let there = room_place (place_at es k) room in
    let known = known_there es a k there.0 there.1 in
    c.settle_at-settled.ensures.replaced ∙ ap block_of (sym known) ∙ ap (λ (xs : List (ℕ × Place)). block_of (known_at xs k)) c.self.view_is

pub returns-clause-room : goal.returns-clause-room
returns-clause-room c =
    let es = c.self.inside.slots.entries in
    let a = c.self.inside.start in
    let k = c.args.entry.key in
    let same : room_at (all_places es a) k ≡ room_at c.args.self.now k = ap (λ (xs : List (ℕ × Place)). room_at xs k) c.self.view_is in
    let both = room_both es a k in
    let some = c.requires.room in
    let room : 0 < room_at es k = omega (arith, same, both, some) in
    let fs = c.settle_at-settled.new.slots.entries in
    let now = room_both fs a k in
    let less : room_at fs k ≡ room_at es k - 1 = ap room_in c.settle_at-settled.ensures.step.here in
    omega (arith, same, both, room, now, less)

pub returns-clause-others : goal.returns-clause-others
returns-clause-others c = λ j ne.
    let es = c.self.inside.slots.entries in
    let a = c.self.inside.start in
    room_both c.settle_at-settled.new.slots.entries a j ∙ ap room_in (c.settle_at-settled.ensures.step.others j ne) ∙ sym (room_both es a j) ∙ ap (λ (xs : List (ℕ × Place)). room_at xs j) c.self.view_is

pub returns-clause-untold : goal.returns-clause-untold
returns-clause-untold c =
    settled_untold c.self.inside.slots.entries c.settle_at-settled.new.slots.entries c.self.inside.start c.args.entry.key c.args.entry.version c.args.home _ c.args.entry.body c.settle_at-settled.ensures.step ∙ ap (λ (xs : List (ℕ × Place)). all_untold xs + 1) c.self.view_is
