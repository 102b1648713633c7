use Rattle.std.proofs.Common.{◌≡◌, ℕ, ◌+◌, List, Option, length, length-append, get_or, option_map, [], ◌∷◌, ap, sym, subst, ◌∙◌, refl}
use Rattle.std.specs.Prelude.{None}
use Rattle.group_board.specs.declared.names.Notices.{Notices}
use Rattle.group_board.specs.Mailing.{notices_of}
use Rattle.group_board.proofs.Picks.{all_push}
use Rattle.group_board.proofs.local_board.empty_mail.Goals as goal

pub loop-preserved : goal.loop-preserved
loop-preserved c =
    let items = c.in_ok-push.ensures.items in
    let kept = c.loop.invariant in (
      ap length items ∙ (length-append c.loop.mail.items (None ∷ []) ∙ ap (λ n. n + 1) kept.0),
      subst (λ (l : List (Option Notices)). (i : ℕ) → option_map notices_of (get_or l i None) ≡ None) (sym items) (all_push (option_map notices_of) c.loop.mail.items None None None refl kept.1 refl),
    )
