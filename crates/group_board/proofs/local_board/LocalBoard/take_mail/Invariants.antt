use Rattle.group_board.specs.declared.board_journal.Act.TheVariants.{Receive}
use Rattle.group_board.specs.Journals.{note_of}
use Rattle.group_board.proofs.local_board.LocalBoard.take_mail.Given as goal

abbrev pub ghosts-note : goal.ghosts-note
ghosts-note a = record { wish = note_of a._about.now.0 (Receive a._about.now.1 a._about.now.2.now.dead.names a._about.now.2.now.gone.names) }
