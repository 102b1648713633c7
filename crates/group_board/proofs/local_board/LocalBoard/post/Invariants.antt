use Rattle.group_board.specs.declared.board_journal.Act.TheVariants.{Post}
use Rattle.group_board.specs.Journals.{note_of}
use Rattle.group_board.proofs.local_board.LocalBoard.post.Given as goal

abbrev pub ghosts-note : goal.ghosts-note
ghosts-note g a = record { wish = note_of a._about.now.0 (Post a._about.now.1 a._about.now.2.now a._about.now.3.now (g.R.Region.state a._about.now.4.now).stamp) }
