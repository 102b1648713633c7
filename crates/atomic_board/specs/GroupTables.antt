-- What a group's table says of the group.
use Rattle.atomic_table.specs.Seated.{TableId}
use Rattle.group_laws.specs.Places.{Place}
use Rattle.atomic_board.specs.declared.seat_data.Origin.{Origin}
use Rattle.atomic_board.specs.declared.group_table.GroupTable.{GroupTable}
use Rattle.atomic_board.specs.Deeds.{place_of}

-- which table it is
abbrev pub id_of : GroupTable → TableId
id_of t = t.table.shared.table_id

-- what the group opened on
abbrev pub origin_of : GroupTable → Origin
origin_of t = t.table.shared.key.me.0

-- where the group stands
abbrev pub group_place : GroupTable → Place
group_place t = place_of (origin_of t)
