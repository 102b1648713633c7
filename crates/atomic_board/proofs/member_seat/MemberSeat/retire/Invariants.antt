use Rattle.atomic_board.proofs.member_seat.MemberSeat.retire.Given as goal

abbrev pub ghosts-retires : goal.ghosts-retires
ghosts-retires g a = record { names = a._names.now; at = (g.R.Region.state a._region.now).stamp }
