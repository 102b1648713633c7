use Rattle.std.proofs.Common.{◌≡◌, ℕ, ◌+◌, ◌/◌, ◌==◌, get_or, sym, ◌∙◌, ap, arith}
use Rattle.std.proofs.lemmas.Bool.{cond-true}
use Rattle.std.proofs.lemmas.Bool.Decides.{nat_tests}
use Rattle.region_file.specs.Slots.{slot_at}
use Rattle.region_file.proofs.pages.Pages.rest.Goals as goal

pub returns-then-slot-eq0-clause-bytes : goal.returns-then-slot-eq0-clause-bytes
returns-then-slot-eq0-clause-bytes c = λ j lt.
    let s = c.args.self.now in
    let page : (c.args.at + j) / 32768 ≡ c.args.at / 32768 = omega (arith, lt, c.zeros_at.ensures.page) in
    let none : slot_at s.slots.items (c.args.at + j) ≡ 0 = ap (λ (g : ℕ). get_or s.slots.items g 0) page ∙ sym c.slot-slot.ensures ∙ c.if-slot-eq0.true in
    c.zeros_at.ensures.zeros j ∙ sym (cond-true (slot_at s.slots.items (c.args.at + j) == 0) _ _ (grind (arith, nat_tests)))
