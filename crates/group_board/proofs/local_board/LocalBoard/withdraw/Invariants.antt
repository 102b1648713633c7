use Rattle.group_board.specs.declared.board_journal.Act.TheVariants.{Withdraw}
use Rattle.group_board.specs.Journals.{note_of}
use Rattle.group_board.proofs.local_board.LocalBoard.withdraw.Given as goal

abbrev pub ghosts-note : goal.ghosts-note
ghosts-note a = record { wish = note_of a._about.now.0 (Withdraw a._about.now.1 a._about.now.2.now) }
