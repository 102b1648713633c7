use Rattle.std.proofs.Common.{◌≡◌, ℕ, ◌+◌, ◌<◌, List, refl, sym, ◌∙◌, ap, subst, arith}
use Rattle.std.specs.Prelude.{Option, Some}
use Rattle.region_file.specs.Pages.{byte_in, byte_under, stored_byte, items_in}
use Rattle.region_file.specs.Slots.{slot_at}
use Rattle.region_file.specs.declared.pages.Pages.{Pages}
use Rattle.region_file.specs.declared.shared_bytes.SharedBytes.{SharedBytes}
use Rattle.region_file.proofs.Paging.{in_under, same_items, item_is, count_is}
use Rattle.region_file.proofs.file_bytes.FileBytes.share.Goals as goal

-- what is shared has the bytes that stood here
moved : (own whole p : Pages) (base : Option SharedBytes) (n k : ℕ) → p ≡ whole → ((i : ℕ) → i < n → stored_byte whole i ≡ byte_in own base i) → k < n → stored_byte p (0 + k) ≡ byte_in own base k
moved own whole p base n k is alone lt =
    let at : 0 + k ≡ k = omega arith in
    ap (stored_byte p) at ∙ ap (λ (q : Pages). stored_byte q k) is ∙ alone k lt

-- and stands under what is here now
stays : (own room : Pages) (base base' : Option SharedBytes) (len : ℕ) → ((i : ℕ) → slot_at room.slots.items i ≡ 0) → ((k : ℕ) → k < len → byte_under base' k ≡ byte_in own base k) → items_in room base' len ≡ items_in own base len
stays own room base base' len none same = same_items own room base base' len (λ k lt. in_under room base' k (none k) ∙ same k lt)

pub returns-in_err-again-in-Ok-clause-kept : goal.returns-in_err-again-in-Ok-clause-kept
returns-in_err-again-in-Ok-clause-kept c =
    let s = c.self.inside in
    let none : (k : ℕ) → slot_at c.replace.new.dest.slots.items k ≡ 0 = subst (λ (p : Pages). (k : ℕ) → slot_at p.slots.items k ≡ 0) (sym c.replace.ensures.after) c.in_ok-room.ensures.none in
    let base : SharedBytes = record { whole = c.in-Ok.whole; from = 0; lined = refl; low = omega arith } in
    ap (λ (l : List ℕ). record { items = l }) (stays s.own c.replace.new.dest s.base (Some base) s.len none (λ k lt. moved s.own c.stand_alone.new.own _ s.base _ k (c.in-Ok.ensures.ok ∙ c.replace.ensures.value) c.stand_alone.ensures.alone (omega (arith, lt, c.self.invariant.all))))
    ∙ c.self.view_is

pub returns-in_ok-again-in-Ok-clause-kept : goal.returns-in_ok-again-in-Ok-clause-kept
returns-in_ok-again-in-Ok-clause-kept c =
    let s = c.self.inside in
    let none : (k : ℕ) → slot_at c.replace.new.dest.slots.items k ≡ 0 = subst (λ (p : Pages). (k : ℕ) → slot_at p.slots.items k ≡ 0) (sym c.replace.ensures.after) c.in_ok-room.ensures.none in
    let base : SharedBytes = record { whole = c.in-Ok.whole; from = 0; lined = refl; low = omega arith } in
    ap (λ (l : List ℕ). record { items = l }) (stays s.own c.replace.new.dest s.base (Some base) s.len none (λ k lt. moved s.own c.stand_alone.new.own _ s.base _ k (c.in-Ok.ensures.ok ∙ c.replace.ensures.value) c.stand_alone.ensures.alone (omega (arith, lt, c.self.invariant.all))))
    ∙ c.self.view_is

pub returns-in_ok-again-in-Ok-clause-shares : goal.returns-in_ok-again-in-Ok-clause-shares
returns-in_ok-again-in-Ok-clause-shares c =
    let s = c.self.inside in
    let n = count_is _ s.own s.base s.len c.self.view_is in
    record {
      first = refl;
      bytes = λ k lt. moved s.own c.stand_alone.new.own _ s.base _ k (c.in_ok-again-in-Ok.ensures ∙ c.in-Ok.ensures.ok ∙ c.replace.ensures.value) c.stand_alone.ensures.alone (omega (arith, lt, n, c.self.invariant.all))
          ∙ sym (item_is _ s.own s.base s.len k c.self.view_is (omega (arith, lt, n)));
    }
