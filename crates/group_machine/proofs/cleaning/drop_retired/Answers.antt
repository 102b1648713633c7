use Rattle.std.proofs.Common.{◌≡◌, ℕ, ◌&&◌, not, List, ◌++◌, ap, ◌∙◌}
use Rattle.log_entry.specs.declared.entry.EntryName.{EntryName}
use Rattle.group_laws.specs.Updates.{has, without}
use Rattle.group_machine.specs.Shows.{place_of}
use Rattle.group_machine.proofs.Made.{view_at}
use Rattle.group_machine.proofs.Cleaners.{retire_is}
use Rattle.group_machine.proofs.cleaning.drop_retired.Goals as goal

pub returns : goal.returns
returns c =
    let g = c.args.state.now in
    let m = c.args.member in
    let ns = c.args.names.now in
    let v = c.index_mut-view.result.now in
    let at = view_at g m v c.requires c.index_mut-view.ensures.value in
    let kept = c.in_ok-view.field-0 in
    let dead = c.in_ok-view-2.field-0 in
    let doomed = c.in_ok-view-3.field-0 in
    let told = c.in_ok-view-4.field-0 in
    let left = c.in_ok-view.ensures ∙ ap (without ns) c.deref.ensures.value in
    let dead_set : (k n : ℕ) → has dead.items k n ≡ (has v.dead.items k n && not (has ns k n)) = λ k n. c.in_ok-view-2.ensures k n ∙ ap (λ (xs : List EntryName). has xs k n && not (has ns k n)) c.deref-2.ensures.value in
    let doomed_set : (k n : ℕ) → has doomed.items k n ≡ (has v.doomed.items k n && not (has ns k n)) = λ k n. c.in_ok-view-3.ensures k n ∙ ap (λ (xs : List EntryName). has xs k n && not (has ns k n)) c.deref-3.ensures.value in
    let told_set : (k n : ℕ) → has told.items k n ≡ (has v.told.items k n && not (has ns k n)) = λ k n. c.in_ok-view-4.ensures k n ∙ ap (λ (xs : List EntryName). has xs k n && not (has ns k n)) c.deref-4.ensures.value in
    let leaving_set = c.in_ok-extend_from_slice.ensures.items ∙ ap (λ (xs : List EntryName). v.leaving.items ++ xs) c.deref-5.ensures.value in
    retire_is (place_of g) g.holder g.slots g.views.items m v at g.mail ns c.in_ok-away.away.items kept c.clear.new.self c.take_out.new.present told dead doomed c.extend_from_slice.new.self
    left c.take_out.ensures told_set dead_set doomed_set leaving_set c.in_ok-away.ensures c.clear.ensures.items
