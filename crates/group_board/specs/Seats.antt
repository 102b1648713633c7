-- Where a seat is.
use Rattle.std.specs.Prelude.{ℕ}
use Rattle.atomic_table.specs.Seated.{TableId}
use Rattle.group_laws.specs.Places.{Place}

-- Which member it serves, where the member's group stands, which table it is a seat of, and which reference to a board it holds.
pub record SeatAt : Type 0 where
  pub number : ℕ
  pub place : Place
  pub table : TableId
  pub handle : ℕ
