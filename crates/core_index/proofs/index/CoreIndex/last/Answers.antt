use Rattle.std.proofs.Common.{ℕ, List, sym, ◌∙◌, ap}
use Rattle.core_index.specs.Records.{last_of}
use Rattle.core_index.specs.Slots.{Place}
use Rattle.core_index.specs.Index.{known_in, known_at}
use Rattle.core_index.proofs.PlaceLaws.{place_there, known_else}
use Rattle.core_index.proofs.index.CoreIndex.last.Goals as goal

pub returns-in-None : goal.returns-in-None
returns-in-None c =
    let es = c.self.inside.slots.entries in
    let k = c.args.key in
    c.last.ensures ∙ ap last_of (sym (known_else es c.self.inside.start k (sym c.in-None.ensures.value))) ∙ ap (λ (xs : List (ℕ × Place)). last_of (known_at xs k)) c.self.view_is

pub returns-in-Some : goal.returns-in-Some
returns-in-Some c =
    let es = c.self.inside.slots.entries in
    let k = c.args.key in
    c.last-in-Some.ensures ∙ ap last_of (sym (ap known_in (place_there es c.self.inside.start k c.in-Some.slot.now (sym c.in-Some.ensures.value)))) ∙ ap (λ (xs : List (ℕ × Place)). last_of (known_at xs k)) c.self.view_is
