use Rattle.std.proofs.Common.{ℕ, List, Option, sym, ◌∙◌, ap, subst}
use Rattle.core_index.specs.Records.{KeyRecord, Shows}
use Rattle.core_index.specs.Slots.{Place}
use Rattle.core_index.specs.Index.{known_in, known_at}
use Rattle.core_index.proofs.PlaceLaws.{place_there, known_else}
use Rattle.core_index.proofs.index.CoreIndex.look.Goals as goal

pub returns-in-None : goal.returns-in-None
returns-in-None c =
    let es = c.self.inside.slots.entries in
    let k = c.args.key in
    subst (λ (o : Option KeyRecord). Shows o c.look.result) (sym (known_else es c.self.inside.start k (sym c.in-None.ensures.value)) ∙ ap (λ (xs : List (ℕ × Place)). known_at xs k) c.self.view_is) c.look.ensures

pub returns-in-Some : goal.returns-in-Some
returns-in-Some c =
    let es = c.self.inside.slots.entries in
    let k = c.args.key in
    subst (λ (o : Option KeyRecord). Shows o c.look-in-Some.result) (sym (ap known_in (place_there es c.self.inside.start k c.in-Some.slot.now (sym c.in-Some.ensures.value))) ∙ ap (λ (xs : List (ℕ × Place)). known_at xs k) c.self.view_is) c.look-in-Some.ensures
