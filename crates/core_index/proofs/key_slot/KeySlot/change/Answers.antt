use Rattle.std.proofs.Common.{◌≡◌, ◌+◌, ◌++◌, ◌∷◌, [], false, Option, Some, sym, ◌∙◌, ap, subst}
use Rattle.core_index.specs.Records.{KeyRecord, standing_with, last_of}
use Rattle.core_index.specs.Slots.{Place, change_in, known_with, alive_at, dead_by, OnlyDead}
use Rattle.core_index.proofs.SlotLaws.{settled_only}
use Rattle.core_index.proofs.key_slot.KeySlot.change.Goals as goal

pub returns-clause-dead : goal.returns-clause-dead
returns-clause-dead c =
    let o = change_in c.self.inside.head in
    let ss = c.self.inside.standing.items in
    let n = c.args.version in
    let home = c.args.home in
    let old : known_with o ss ≡ c.args.self.now.known = ap (λ (p : Place). p.known) c.self.view_is in
    let next : n ≡ last_of (known_with o ss) + 1 = c.requires.next ∙ ap (λ (k : Option KeyRecord). last_of k + 1) (sym old) in
    let now = known_with (change_in c.head_of.result) c.push.new.self.items in
    let new : now ≡ Some (record { version = n; body = c.args.body; standing = ss ++ standing_with n home false ∷ [] }) = λ i. known_with (c.head_of.ensures i) (c.push.ensures.items i) in
    let only = settled_only o ss c.args.body n home c.self.invariant.below next in
    subst (λ (k : Option KeyRecord). OnlyDead k now (dead_by n home (last_of k) (alive_at k) (alive_at now))) old
    (subst (λ (k : Option KeyRecord). OnlyDead (known_with o ss) k (dead_by n home (last_of (known_with o ss)) (alive_at (known_with o ss)) (alive_at k))) (sym new) only)
