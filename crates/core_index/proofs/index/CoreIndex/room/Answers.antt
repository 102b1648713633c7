use Rattle.std.proofs.Common.{ℕ, List, sym, ◌∙◌, ap}
use Rattle.core_index.specs.Slots.{Place}
use Rattle.core_index.specs.Index.{room_in, room_at}
use Rattle.core_index.proofs.PlaceLaws.{room_both}
use Rattle.core_index.proofs.index.CoreIndex.room.Goals as goal

pub returns-in-None : goal.returns-in-None
returns-in-None c =
    let es = c.self.inside.slots.entries in
    let k = c.args.key in
    sym (ap (λ (xs : List (ℕ × Place)). room_at xs k) (sym c.self.view_is) ∙ room_both es c.self.inside.start k ∙ ap room_in (sym c.in-None.ensures.value))

pub returns-in-Some : goal.returns-in-Some
returns-in-Some c =
    let es = c.self.inside.slots.entries in
    let k = c.args.key in
    c.room.ensures ∙ sym (ap (λ (xs : List (ℕ × Place)). room_at xs k) (sym c.self.view_is) ∙ room_both es c.self.inside.start k ∙ ap room_in (sym c.in-Some.ensures.value))
