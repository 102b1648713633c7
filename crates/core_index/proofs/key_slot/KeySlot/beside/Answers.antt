use Rattle.std.proofs.Common.{◌∷◌, [], option_map, ◌∙◌, sym, ap, arith, subst}
use Rattle.core_index.specs.Records.{last_of}
use Rattle.core_index.specs.Slots.{Place, change_in, known_with}
use Rattle.core_index.specs.Starts.{OfLast, joined}
use Rattle.core_index.proofs.TwinLaws.{only_rises, beside_slot, beside_known}
use Rattle.core_index.proofs.key_slot.KeySlot.beside.Goals as goal

pub of_two-requires : goal.of_two-requires
of_two-requires c =
    let last = c.last.ensures in
    let below = c.requires.below in
    only_rises c.self.inside.standing.items c.last.result c.args.older c.find-only.result c.find-only.ensures (omega (arith, last, below))

pub invariant_of-result : goal.invariant_of-result
invariant_of-result c =
    let last = c.last.ensures in
    let below = c.requires.below in
    let made = c.in_ok-of_two.ensures in
    beside_slot (change_in c.self.inside.head) c.self.inside.standing.items c.in_ok-of_two.field-0 c.args.older c.find-only.result c.last.result (last ∙ ap (λ (p : Place). last_of p.known) (sym c.self.view_is)) (omega (arith, last, below)) c.find-only.ensures made.items made.top

pub returns : goal.returns
returns c =
    let made = c.in_ok-of_two.ensures in
    let lone : OfLast (known_with (change_in c.self.inside.head) c.self.inside.standing.items) = subst (λ (p : Place). OfLast p.known) (sym c.self.view_is) c.requires.lone in
    let known = beside_known (change_in c.self.inside.head) c.self.inside.standing.items c.in_ok-of_two.field-0.items c.args.older c.find-only.result c.last.result (c.last.ensures ∙ ap (λ (p : Place). last_of p.known) (sym c.self.view_is)) lone c.find-only.ensures made.items in
    (λ i. record { known = known i; room = made.room i }) ∙ ap (λ (p : Place). record { known = option_map (joined (c.args.older ∷ [])) p.known; room = 1 }) c.self.view_is
