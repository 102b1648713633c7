use Rattle.std.proofs.Common.{◌≡◌, refl, Some, ap, ◌∙◌, subst, ℕ, List, ◌∷◌, [], ◌++◌}
use Rattle.std.specs.Ordering.{nat_cmp}
use Rattle.std.specs.BTreeMap.{get, Updates}
use Rattle.log_entry.specs.declared.entry.Entry.{Entry}
use Rattle.group_laws.specs.declared.types.Slot.TheVariants.{Posted}
use Rattle.group_laws.specs.Steps.{with_block}
use Rattle.group_machine.specs.Shows.{place_of, pair_cmp}
use Rattle.group_machine.proofs.Made.{view_at}
use Rattle.group_machine.proofs.Owners.{post_is}
use Rattle.group_machine.proofs.post_step.post.Goals as goal

pub returns : goal.returns
returns c =
    let g = c.args.state.now in
    let m = c.args.member in
    let s = c.args.slot in
    let e = c.args.entry.now in
    let v = c.index_mut-view.result.now in
    let can = c.if-not-may_post.ensures.0 refl in
    let at = view_at g m v can.slot.0 c.index_mut-view.ensures.value in
    let slot_set = subst (λ (x : Entry). Updates pair_cmp g.slots c.insert.new.self (m, s) (Some (Posted x))) c.in_ok-offered.ensures c.in_ok-insert.ensures.updates in
    let pending_set = subst (λ (x : Entry). Updates nat_cmp v.pending c.insert-2.new.self e.key (Some (record { entry = x; slot = Some s }))) c.in_ok-waiting.ensures c.in_ok-insert-2.ensures.updates in
    let block_added : (q : ℕ) → get nat_cmp c.add_block.new.blocks q ≡ with_block e.key c.args.value.now e.body (get nat_cmp v.blocks) q = λ q. c.in_ok-add_block.ensures q ∙ ap (λ (bytes : List ℕ). with_block e.key bytes e.body (get nat_cmp v.blocks) q) c.in_ok-bytes.ensures in (
      can,
      post_is (place_of g) g.holder g.mail g.views.items m v at g.slots c.insert.new.self s e c.args.value.now c.insert-2.new.self c.add_block.new.blocks c.push.new.self c.clear.new.self
          can.own slot_set pending_set block_added
          (c.in_ok-push.ensures.items ∙ ap (λ (x : Entry). v.posted.items ++ x ∷ []) c.in_ok-posted.ensures) c.clear.ensures.items,
    )
