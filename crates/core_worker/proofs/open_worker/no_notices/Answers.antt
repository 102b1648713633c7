use Rattle.std.proofs.Common.{◌+◌, List, [], ◌∷◌, ◌++◌, length, length-append, sym, ◌∙◌, ap, subst, arith}
use Rattle.std.specs.List.{AllByRecursion}
use Rattle.log_entry.specs.declared.entry.EntryName.{EntryName}
use Rattle.group_board.specs.declared.names.Notices.{Notices}
use Rattle.core_worker.specs.Outbox.{HasSpare, TellsNothing}
use Rattle.core_worker.proofs.open_worker.no_notices.Goals as goal

more : (P : Notices → Type 0) (ns : List Notices) (n : Notices) → AllByRecursion P ns → P n → AllByRecursion P (ns ++ n ∷ [])
more P [] n all one = (one, tt)
more P (x ∷ ns) n all one = (all.0, more P ns n all.1 one)

pub loop-preserved : goal.loop-preserved
loop-preserved c =
    let items = c.in_ok-push.ensures.items in
    let kept = c.loop.invariant in
    let none = ap (λ (xs : List EntryName). length xs) c.in_ok-dead.ensures.empty in
    let room = c.in_ok-dead.ensures.room in (
      ap length items ∙ (length-append c.loop.notices.items _ ∙ ap (λ n. n + 1) kept.0),
      subst (AllByRecursion TellsNothing) (sym items) (more TellsNothing c.loop.notices.items _ kept.1 (c.in_ok-dead.ensures.empty, c.in_ok-gone.ensures.empty)),
      subst (AllByRecursion HasSpare) (sym items) (more HasSpare c.loop.notices.items _ kept.2 (omega (arith, none, room))),
    )
