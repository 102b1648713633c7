use Rattle.std.proofs.Common.{◌≡◌, ℕ, cond, ◌&&◌, not, None, List, ◌++◌, ap, ◌∙◌}
use Rattle.std.specs.BTreeMap.{get}
use Rattle.log_entry.specs.declared.entry.EntryName.{EntryName}
use Rattle.group_laws.specs.Updates.{has}
use Rattle.group_board.specs.Mailing.{notices_of}
use Rattle.group_machine.specs.Shows.{place_of, pair_cmp}
use Rattle.group_machine.proofs.Made.{view_at}
use Rattle.group_machine.proofs.Cleaners.{receive_is}
use Rattle.group_machine.proofs.cleaning.hear.Goals as goal

pub returns : goal.returns
returns c =
    let g = c.args.state.now in
    let m = c.args.member in
    let n = notices_of c.args.notices.now in
    let v = c.index_mut-view.result.now in
    let at = view_at g m v c.requires c.index_mut-view.ensures.value in
    let told = c.in_ok-view.field-0 in
    let dead_more = c.in_ok-extend_from_slice.ensures.items ∙ ap (λ (xs : List EntryName). v.dead.items ++ xs) c.names.ensures in
    let told_set : (k j : ℕ) → has told.items k j ≡ (has v.told.items k j && not (has n.gone k j)) = λ k j. c.in_ok-view.ensures k j
    ∙ ap (λ (xs : List EntryName). has xs k j && not (has c.names-2.result.now k j)) c.deref.ensures.value
    ∙ ap (λ (xs : List EntryName). has v.told.items k j && not (has xs k j)) c.names-2.ensures in
    let present_set : (k j : ℕ) → get pair_cmp c.take_out.new.present (k, j) ≡ cond (has n.gone k j) None (get pair_cmp v.present (k, j)) = λ k j. c.take_out.ensures k j ∙ ap (λ (xs : List EntryName). cond (has xs k j) None (get pair_cmp v.present (k, j))) c.names-3.ensures in
    receive_is (place_of g) g.holder g.slots g.views.items m v at g.mail c.remove.new.self c.args.from n c.clear.new.self c.take_out.new.present told c.extend_from_slice.new.self
    c.remove.ensures.updates dead_more present_set told_set c.clear.ensures.items
