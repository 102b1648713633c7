use Rattle.group_board.specs.Journals.{note_of, lock_act}
use Rattle.group_board.proofs.local_board.LocalBoard.try_lock.Given as goal

abbrev pub ghosts-note : goal.ghosts-note
ghosts-note a = record { wish = note_of a._about.now.0 (lock_act a._about.now.1) }
