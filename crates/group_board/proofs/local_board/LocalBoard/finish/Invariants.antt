use Rattle.group_board.specs.Journals.{note_of, finish_act}
use Rattle.group_board.proofs.local_board.LocalBoard.finish.Given as goal

abbrev pub ghosts-note : goal.ghosts-note
ghosts-note a = record { wish = note_of a._about.now.0 (finish_act a._about.now.1 a._about.now.2.now.entry a._about.now.2.now.home) }
