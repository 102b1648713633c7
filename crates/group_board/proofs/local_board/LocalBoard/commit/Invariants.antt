use Rattle.group_board.specs.declared.board_journal.Act.TheVariants.{Commit}
use Rattle.group_board.specs.Journals.{note_of}
use Rattle.group_board.proofs.local_board.LocalBoard.commit.Given as goal

abbrev pub ghosts-note : goal.ghosts-note
ghosts-note g a = record { wish = note_of a._about.now.0 (Commit (g.R.Region.state a._about.now.1.now).stamp) }
