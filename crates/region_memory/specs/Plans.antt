-- Which calls of a region are to fail.
use Rattle.std.specs.Prelude.{ℕ, ◌+◌, ◌≡◌, ◌==◌, Bool, true, if◌then◌else◌, List, [], ◌∷◌}
use Rattle.std.specs.List.{list_any}
use Rattle.pm_region.specs.State.{counted}
use Rattle.region_memory.specs.declared.plan.FenceNumber.{FenceNumber}

-- the number is one of them
abbrev pub is_one_of : ℕ → List ℕ → Bool
is_one_of n numbers = list_any (λ y. y == n) numbers

-- the numbers of the fences of one piece
abbrev pub numbers_in : ℕ → List FenceNumber → List ℕ
numbers_in piece [] = []
numbers_in piece (f ∷ fs) = if f.piece == piece then f.number ∷ numbers_in piece fs
    else numbers_in piece fs

-- Calls of one kind: how many were made, and the numbers of those that are to fail, counted from 1.
pub record Calls : Type 0 where
  pub made : ℕ
  pub failing : List ℕ

-- the next one is to fail
abbrev pub NextFails : Calls → Type 0
NextFails calls = is_one_of (counted calls.made) calls.failing ≡ true

-- one more was made
abbrev pub one_more : Calls → Calls
one_more calls = record calls { made = counted calls.made }

-- none was made yet
abbrev pub from_the_start : Calls → Calls
from_the_start calls = record calls { made = 0 }

-- none was made yet, and those with these numbers are to fail
abbrev pub calls_to_fail : List ℕ → Calls
calls_to_fail numbers = record { made = 0; failing = numbers }

-- The plan of a region: its calls of attach, create, split and revalidate together, its own fences since it was attached
-- or created,
-- and the fences that are to fail in the pieces of a split.
pub record Plan : Type 0 where
  pub opens : Calls
  pub fences : Calls
  pub in_pieces : List FenceNumber

-- How many calls have failed, and how many of attach, create and split among them.
pub record FaultCounts : Type 0 where
  pub faults : ℕ
  pub refusals : ℕ

-- none has failed
abbrev pub no_faults : FaultCounts
no_faults = record { faults = 0; refusals = 0 }

-- after one more call of attach, create, split or revalidate
abbrev pub opened : Plan → Plan
opened p = record p { opens = one_more p.opens }

-- its fences are counted anew
abbrev pub restarted : Plan → Plan
restarted p = record p { fences = from_the_start p.fences }

-- after an attach or create that was answered
abbrev pub begun : Plan → Plan
begun p = restarted (opened p)

-- after one more fence
abbrev pub fenced_once : Plan → Plan
fenced_once p = record p { fences = one_more p.fences }

-- the fences of a piece, by its number, as a split hands them out
abbrev pub fences_in : Plan → ℕ → Calls
fences_in p number = calls_to_fail (numbers_in number p.in_pieces)

-- the same by its place
abbrev pub piece_calls : Plan → ℕ → Calls
piece_calls p i = fences_in p (i + 1)

-- the plan by which nothing fails
abbrev pub nothing_fails : Plan
nothing_fails = record {
  opens = record { made = 0; failing = [] };
  fences = record
      { made = 0; failing = [] };
  in_pieces = [];
}
