use Rattle.atomic_board.proofs.table.join_one.Given as goal

abbrev pub ghosts-gives_back : goal.ghosts-gives_back
ghosts-gives_back a = record { origin = a.shared.now.key.me.0 }
