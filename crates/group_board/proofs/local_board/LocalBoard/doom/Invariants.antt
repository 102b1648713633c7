use Rattle.group_board.specs.declared.board_journal.Act.TheVariants.{Doom}
use Rattle.group_board.specs.Journals.{note_of}
use Rattle.group_board.proofs.local_board.LocalBoard.doom.Given as goal

abbrev pub ghosts-note : goal.ghosts-note
ghosts-note g a = record { wish = note_of a._about.now.0 (Doom a._about.now.1.now (g.R.Region.state a._about.now.2.now).stamp) }
