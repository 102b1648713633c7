-- What a member's seat says of its member.
use Rattle.std.specs.Prelude.{◌≡◌, List}
use Rattle.group_laws.specs.Places.{Place}
use Rattle.group_laws.specs.MemberViews.{View}
use Rattle.group_board.specs.Seats.{SeatAt}
use Rattle.group_board.specs.Trails.{TrailStep}
use Rattle.atomic_board.specs.declared.seat_data.Origin.{Origin}
use Rattle.atomic_board.specs.declared.seat_data.Deed.{Deed}
use Rattle.atomic_board.specs.declared.member_seat.MemberSeat.{MemberSeat}
use Rattle.atomic_board.specs.Deeds.{place_of}
use Rattle.atomic_board.specs.StepTells.{origin_in, view_in, done_in, trail_in}

-- what the member's group opened on
abbrev pub origin_at : MemberSeat → Origin
origin_at t = origin_in t.seat.me.0

abbrev pub place_at : MemberSeat → Place
place_at t = place_of (origin_at t)

-- what the member has
abbrev pub view_at : MemberSeat → View
view_at t = view_in t.seat.me.0

-- what the member did, the newest first
abbrev pub done_at : MemberSeat → List Deed
done_at t = done_in t.seat.me.0

-- the steps that the member made, the newest first, each with its view after it
abbrev pub trail_at : MemberSeat → List TrailStep
trail_at t = trail_in t.seat.me.0

-- where the seat is
abbrev pub seat_of : MemberSeat → SeatAt
seat_of t = record { number = t.member; place = place_at t; table = t.seat.table_id; handle = 0 }

-- A step moves no seat: it stays that member's, at that table.
abbrev pub Stays : MemberSeat → MemberSeat → Type 0
Stays t u = (u.seat.table_id ≡ t.seat.table_id) × (u.member ≡ t.member) × (u.members ≡ t.members)
    × (origin_at u ≡ origin_at t)
