use Rattle.std.proofs.Common.{◌≡◌, ℕ, List, ap, subst, arith}
use Rattle.core_index.specs.Records.{opened_with}
use Rattle.core_index.specs.Slots.{Place}
use Rattle.core_index.specs.Index.{all_places, EntersAs}
use Rattle.log_entry.specs.declared.entry.EntryName.{EntryName}
use Rattle.core_index.specs.Noted.{Noted}
use Rattle.core_index.proofs.IndexLaws.{entered_index, enters_as}
use Rattle.core_index.proofs.index.CoreIndex.enter_known.Goals as goal

pub invariant_of-self-2 : goal.invariant_of-self-2
invariant_of-self-2 c =
    let p : Place = c.in_ok-slot.slot in
    let none : p.room ≡ 0 = ap (λ (x : Place). x.room) c.in_ok-slot.ensures in
    let kept : (h : ℕ) (n : EntryName) → Noted c.self.inside.notices h n → Noted c.note_dead.new.notices h n = λ h n noted. c.note_dead.ensures.kept h n (c.in_ok-reserve.ensures.kept h n noted) in
    let count = c.names.ensures in
    let more = c.in_ok-reserve.ensures.ok in
    let less = c.note_dead.ensures.spare in
    entered_index c.self.inside.slots.entries c.enter_at.new.slots.entries c.self.inside.start c.clear.new.self c.self.inside.notices c.note_dead.new.notices c.args.key p c.self.invariant c.in_ok-enter_at.ensures.ok c.clear.ensures.turns none c.note_dead.ensures.noted kept (omega (arith, count, more, less))

pub returns : goal.returns
returns c =
    let es = c.self.inside.slots.entries in
    let a = c.self.inside.start in
    let fs = c.enter_at.new.slots.entries in
    let k = c.args.key in
    subst (λ (xs : List (ℕ × Place)). EntersAs xs (all_places fs c.clear.new.self) k (opened_with c.args.version c.args.body c.args.standing.now)) c.self.view_is (enters_as es fs a c.clear.new.self k c.in_ok-slot.slot (opened_with c.args.version c.args.body c.args.standing.now) c.in_ok-slot.ensures c.in_ok-enter_at.ensures.ok c.clear.ensures.turns)
