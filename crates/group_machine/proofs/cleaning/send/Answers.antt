use Rattle.std.proofs.Common.{◌≡◌, ℕ, ◌&&◌, not, List, ◌++◌, refl, ap, ◌∙◌}
use Rattle.log_entry.specs.declared.entry.EntryName.{EntryName}
use Rattle.group_laws.specs.Updates.{has}
use Rattle.group_board.specs.Mailing.{notices_of}
use Rattle.group_machine.specs.Shows.{place_of}
use Rattle.group_machine.proofs.Made.{view_at}
use Rattle.group_machine.proofs.Cleaners.{send_is}
use Rattle.group_machine.proofs.cleaning.send.Goals as goal

pub returns : goal.returns
returns c =
    let g = c.args.state.now in
    let m = c.args.member in
    let n = notices_of c.args.notices.now in
    let v = c.index_mut-view.result.now in
    let can = c.if-not-may_send.ensures.0 refl in
    let at = view_at g m v can.member c.index_mut-view.ensures.value in
    let leaving = c.in_ok-view.field-0 in
    let told_more = c.in_ok-extend_from_slice.ensures.items ∙ ap (λ (xs : List EntryName). v.told.items ++ xs) c.names.ensures in
    let leaving_set : (k j : ℕ) → has leaving.items k j ≡ (has v.leaving.items k j && not (has n.gone k j)) = λ k j. c.in_ok-view.ensures k j
    ∙ ap (λ (xs : List EntryName). has xs k j && not (has c.names-2.result.now k j)) c.deref.ensures.value
    ∙ ap (λ (xs : List EntryName). has v.leaving.items k j && not (has xs k j)) c.names-2.ensures in (
      can,
      send_is (place_of g) g.holder g.slots g.views.items m v at g.mail c.insert.new.self c.args.to c.in_ok-mailed.mailed c.in_ok-sent.sent n c.clear.new.self c.extend_from_slice.new.self leaving c.insert-2.new.self
          c.in_ok-sent.ensures c.in_ok-mailed.ensures c.in_ok-insert.ensures.updates c.in_ok-insert-2.ensures.updates told_more (λ k j t. (can.dead k j t).0) leaving_set c.clear.ensures.items,
    )
