-- Two proofs that tables or views are the same are equal, and so are two of what holds of the value of an option.
use Rattle.std.specs.Prelude.{◌≡◌, Option, Some, None, IfSome}
use Rattle.std.specs.Coded.{Coded-set}
use Rattle.atomic_table.specs.Seated.{TableId, table_id_coded}
use Rattle.atomic_board.specs.declared.seat_data.SeatData.{SeatData}
use Rattle.atomic_board.specs.contracts.seat_data.SeatData.{the_row}

pub TableId-set : (a b : TableId) → IsProp (a ≡ b)
TableId-set = Coded-set table_id_coded

pub SeatData-set : (a b : SeatData) → IsProp (a ≡ b)
SeatData-set = Coded-set the_row.coded

pub if_some_prop : {X : Type 0} (o : Option X) (P : X → Type 0) → ((x : X) → IsProp (P x))
    → IsProp (IfSome o P)
if_some_prop None P props x y i = tt
if_some_prop (Some v) P props x y i = props v x y i
