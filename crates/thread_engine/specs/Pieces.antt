-- A core's piece of a region: the words of its part.
use Rattle.std.specs.Prelude.{◌≡◌, ℕ, ◌+◌, List, slice_index}
use Rattle.pm_region.specs.State.{State}
use Rattle.pm_region.specs.Split.{IsPiece}
use Rattle.group_laws.specs.Places.{Place}
use Rattle.licence.specs.Licence.{part_at, part_end}

-- A split made the piece so, at cuts that are the ends of the member's part.
pub record IsPieceOf (p : Place) (m : ℕ) (s t : State) : Type 0 where
  pub cuts : List ℕ
  pub at : ℕ
  pub piece : IsPiece s cuts at t
  pub low : slice_index cuts at ≡ part_at p m
  pub high : slice_index cuts (at + 1) ≡ part_end p m

-- the state's range is the member's part
pub record HasPart (p : Place) (m : ℕ) (t : State) : Type 0 where
  pub low : t.frame.first ≡ part_at p m
  pub high : t.frame.first + t.frame.words ≡ part_end p m
