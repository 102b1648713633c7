use Rattle.std.proofs.Common.{◌≡◌, ℕ, List, Option, Some, None, sym, ◌∙◌, ap}
use Rattle.core_index.specs.Records.{KeyRecord, is_dead_in}
use Rattle.core_index.specs.Slots.{Place}
use Rattle.core_index.specs.Index.{known_at, known_in, place_at}
use Rattle.core_index.proofs.PlaceLaws.{known_there, known_else}
use Rattle.core_index.proofs.index.CoreIndex.is_dead.Goals as goal

pub returns-in-None : goal.returns-in-None
returns-in-None c =
    let es = c.self.inside.slots.entries in
    let k = c.args.name.key in
    let none : place_at es k ≡ None = sym c.in-None.ensures.value in
    c.is_dead.ensures ∙ ap (λ (o : Option KeyRecord). is_dead_in o c.args.name.version) (sym (known_else es c.self.inside.start k none) ∙ ap (λ (ps : List (ℕ × Place)). known_at ps k) c.self.view_is)

pub returns-in-Some : goal.returns-in-Some
returns-in-Some c =
    let es = c.self.inside.slots.entries in
    let k = c.args.name.key in
    let some : place_at es k ≡ Some c.in-Some.slot.now = sym c.in-Some.ensures.value in
    c.is_dead-in-Some.ensures ∙ ap (λ (o : Option KeyRecord). is_dead_in o c.args.name.version) (ap (λ (o : Option Place). known_in o) (sym some) ∙ sym (known_there es c.self.inside.start k c.in-Some.slot.now some) ∙ ap (λ (ps : List (ℕ × Place)). known_at ps k) c.self.view_is)
