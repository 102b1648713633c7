use Rattle.std.proofs.Common.{◌≡◌, ℕ, refl, false, None, length, ap, ◌∙◌, sym}
use Rattle.std.specs.BTreeMap.{get}
use Rattle.group_machine.specs.Shows.{group_of, of, pair_cmp}
use Rattle.group_machine.specs.declared.state.MemberView.{MemberView}
use Rattle.group_machine.proofs.Made.{view_at}
use Rattle.group_machine.proofs.Pairs.{none_there, nothing_there, no_items}
use Rattle.group_machine.proofs.leader_steps.may_lock.Goals as goal

pub returns-then-not-view : goal.returns-then-not-view
returns-then-not-view c =
    let g = c.args.state.now in
    let v = c.index-view.result.now in
    let low = c.if-not-has_member.ensures.0 refl in
    let at = view_at g c.args.member v low c.index-view.ensures in
    let taken : (a s : ℕ) → (group_of g).taken c.args.member a s ≡ get pair_cmp v.taken (a, s) = λ a s. ap (of (λ (v : MemberView). get pair_cmp v.taken (a, s)) None) at in (
      λ t. record { member = low; not_held = ap (of (λ (v : MemberView). v.holds) false) at ∙ c.if-not-view.true; gave_back = λ a s. taken a s ∙ none_there v.taken (no_items v.taken.entries (c.is_empty.ensures.0 t)) a s },
      λ can. c.is_empty.ensures.1 (ap length (nothing_there v.taken (λ a s. sym (taken a s) ∙ can.gave_back a s))),
    )

pub returns-else-not-view : goal.returns-else-not-view
returns-else-not-view c =
    let g = c.args.state.now in
    let v = c.index-view.result.now in
    let low = c.if-not-has_member.ensures.0 refl in
    let at = view_at g c.args.member v low c.index-view.ensures in
    let held = ap (of (λ (v : MemberView). v.holds) false) at in
    (λ t. absurd (let q = c.if-not-view.false in cc (t, q)), λ can. absurd (let q = c.if-not-view.false in let f = can.not_held in cc (held, q, f)))
