use Rattle.atomic_board.proofs.member_seat.MemberSeat.commit.Given as goal

abbrev pub ghosts-commits : goal.ghosts-commits
ghosts-commits g a = record { at = (g.R.Region.state a._region.now).stamp }
