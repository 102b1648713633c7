use Rattle.std.proofs.Common.{◌≡◌, ℕ, ◌+◌, ◌-◌, ◌*◌, ◌/◌, ◌%◌, ◌<◌, List, get_or, ◌∙◌, ap, subst, arith}
use Rattle.std.proofs.lemmas.List.{with_items_is}
use Rattle.pm_region.specs.Bytes.{word_at}
use Rattle.region_file.specs.Slots.{slot_at}
use Rattle.region_file.proofs.Paging.{same_slot}
use Rattle.region_file.proofs.pages.Pages.set_word.Goals as goal

pub returns-clause-others : goal.returns-clause-others
returns-clause-others c = λ k ne.
    let s = c.args.self.now in
    let slot : slot_at s.slots.items (8 * c.args.place) ≡ c.index-slot.result.now =
    let page : 8 * c.args.place / 32768 ≡ c.args.place / 4096 = omega arith in
    ap (λ (g : ℕ). get_or s.slots.items g 0) page ∙ same_slot s.slots.items (c.args.place / 4096) c.index-slot.result.now (subst (λ (g : ℕ). 0 < get_or s.slots.items g 0) page c.requires) c.index-slot.ensures in
    let at : 4096 * c.from.result + c.args.place % 4096 ≡ 4096 * (slot_at s.slots.items (8 * c.args.place) - 1) + c.args.place % 4096 = omega (arith, slot, c.from.ensures) in
    let items = with_items_is c.args.self.now.bytes c.set_word.new.bytes (c.set_word.auto.bytes ∙ c.deref_mut.ensures.len) in
    ap (λ (l : List ℕ). word_at l k) items ∙ c.set_word.ensures.others k (λ e. ne (e ∙ at)) ∙ ap (λ (l : List ℕ). word_at l k) c.deref_mut.ensures.value
