use Rattle.group_board.specs.declared.board_journal.Act.TheVariants.{Found}
use Rattle.group_laws.specs.declared.types.Seen.TheVariants as loads
use Rattle.group_board.specs.Journals.{note_of}
use Rattle.group_board.proofs.local_board.LocalBoard.look_at_mail.Given as goal

abbrev pub ghosts-note : goal.ghosts-note
ghosts-note a = record { wish = note_of a._about.now.0 (Found (loads.Mail a._about.now.1 a._about.now.2 a._about.now.3)) }
