use Rattle.atomic_board.proofs.member_seat.MemberSeat.post.Given as goal

abbrev pub ghosts-offer : goal.ghosts-offer
ghosts-offer g a = record { value = a._value.now; at = (g.R.Region.state a._region.now).stamp }
