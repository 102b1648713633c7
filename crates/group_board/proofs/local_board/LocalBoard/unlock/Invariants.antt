use Rattle.group_board.specs.declared.board_journal.Act.TheVariants.{Unlock}
use Rattle.group_board.specs.Journals.{note_of}
use Rattle.group_board.proofs.local_board.LocalBoard.unlock.Given as goal

abbrev pub ghosts-note : goal.ghosts-note
ghosts-note a = record { wish = note_of a._about.now Unlock }
