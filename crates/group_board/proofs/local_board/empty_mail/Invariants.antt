use Rattle.std.proofs.Common.{◌≡◌, ℕ, length, get_or, option_map}
use Rattle.std.specs.Prelude.{None}
use Rattle.group_board.specs.Mailing.{notices_of}
use Rattle.group_board.proofs.local_board.empty_mail.Given as goal

abbrev pub invariant-loop : goal.invariant-loop
invariant-loop l = (length l.mail.items ≡ l.counter) × ((i : ℕ) → option_map notices_of (get_or l.mail.items i None) ≡ None)
