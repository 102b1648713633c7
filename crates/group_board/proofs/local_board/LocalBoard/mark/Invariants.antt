use Rattle.group_board.specs.declared.board_journal.Act.TheVariants.{Mark}
use Rattle.group_board.specs.Journals.{note_of}
use Rattle.group_board.proofs.local_board.LocalBoard.mark.Given as goal

abbrev pub ghosts-note : goal.ghosts-note
ghosts-note a = record { wish = note_of a._about.now.0 (Mark a._about.now.1 a._about.now.2 a._about.now.3.now) }
