use Rattle.atomic_board.proofs.member_seat.MemberSeat.doom.Given as goal

abbrev pub ghosts-dooms : goal.ghosts-dooms
ghosts-dooms g a = record { names = a._names.now; at = (g.R.Region.state a._region.now).stamp }
