use Rattle.std.proofs.Common.{◌≡◌, Option, Some, false, sym, ◌∙◌, ap, subst, rules}
use Rattle.core_index.specs.Records.{KeyRecord, Awaits, dies_of, standing_at}
use Rattle.core_index.specs.Slots.{Place, change_in, known_with}
use Rattle.core_index.proofs.SlotLaws.{waits_found, waiting_dies}
use Rattle.core_index.proofs.key_slot.KeySlot.awaits.Goals as goal

pub returns-then-not-entry : goal.returns-then-not-entry
returns-then-not-entry c =
    let o = change_in c.self.inside.head in
    let ss = c.self.inside.standing.items in
    let v = c.args.version in
    let known : known_with o ss ≡ c.args.self.now.known = ap (λ (p : Place). p.known) c.self.view_is in
    let at : standing_at ss v ≡ Some c.in-Some.entry = sym c.find.ensures ∙ c.in-Some.is in
    let home : c.in-Some.entry.home ≡ c.args.home = search rules in
    let told : c.in-Some.entry.told ≡ false = search rules in
    let dies : dies_of (known_with o ss) v ≡ c.dies.result = ap (λ (k : Option KeyRecord). dies_of k v) known ∙ sym c.dies.ensures in (
      λ is. subst (λ (k : Option KeyRecord). Awaits k c.args.home v) known (waits_found o ss v c.args.home c.in-Some.entry c.self.invariant.below at home told (dies ∙ is)),
      λ waits. sym dies ∙ waiting_dies o ss v c.args.home (subst (λ (k : Option KeyRecord). Awaits k c.args.home v) (sym known) waits),
    )
