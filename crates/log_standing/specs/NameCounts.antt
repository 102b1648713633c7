-- Which names stand in a log, as a finite map: of each in how many chunks, and whether it was told dead. A name is a key and a version.
use Rattle.std.specs.Prelude.{slice_index_or, ◌-◌, ◌≡◌, ℕ, zero, suc, ◌+◌, ◌^◌, ◌<◌, ◌≤◌, ◌&&◌, ◌==◌, not, Bool, true, false, List, Option, Some, None, option_map, if◌then◌else◌}
use Rattle.std.specs.List.{count_by}
use Rattle.std.specs.Map.{lookup}
use Rattle.log_entry.specs.declared.entry.EntryName.{EntryName}
use Rattle.log_standing.specs.declared.types.Copies.{Copies}
use Rattle.log_standing.specs.declared.types.Amount.{Amount}
use Rattle.log_standing.specs.declared.types.Settled.{Settled}
use Rattle.log_standing.specs.declared.types.Spot.{Spot}
use Rattle.log_standing.specs.declared.types.TheConstants.{NOWHERE}
use Rattle.log_standing.specs.Tallies.{TallyState, less}
pub use Rattle.log_standing.specs.Names.{name_eq}

-- The names with what they have, and how many reserved places there are. For a cleaning: a place of a chunk up to which it has read, where it has; what is left of the chunk that it copies; and of each chunk that a search has counted how much at least is still to be copied.
pub record StandingState : Type 0 where
  pub entries : List ((ℕ × ℕ) × Copies)
  pub room : ℕ
  pub settled : Option Settled
  pub tally : Option TallyState
  pub floors : List (Option Amount)

-- what a name has; none where it doesn't stand
abbrev pub copies_at : StandingState → ℕ → ℕ → Option Copies
copies_at s k v = lookup (name_eq (k, v)) s.entries

abbrev pub count_in : Option Copies → ℕ
count_in None = 0
count_in (Some c) = c.count

abbrev pub told_in : Option Copies → Bool
told_in None = false
told_in (Some c) = c.dead

-- in how many copies a name stands, and whether it was told dead
abbrev pub count_of : StandingState → ℕ → ℕ → ℕ
count_of s k v = count_in (copies_at s k v)

abbrev pub is_told : StandingState → ℕ → ℕ → Bool
is_told s k v = told_in (copies_at s k v)

abbrev pub nowhere : Spot
nowhere = NOWHERE

abbrev pub copies_with : ℕ → Bool → Spot → Copies
copies_with n dead spot = record { count = n; dead = dead; spot = spot }

-- where a search found the name's entry
abbrev pub spot_in : Option Copies → Spot
spot_in None = nowhere
spot_in (Some c) = c.spot

abbrev pub spot_of : StandingState → ℕ → ℕ → Spot
spot_of s k v = spot_in (copies_at s k v)

abbrev pub found_at : Spot → Copies → Copies
found_at spot c = record c { spot = spot }

-- how much of a chunk is still to be copied at least; none where no search has counted it
abbrev pub floor_in : List (Option Amount) → ℕ → Option Amount
floor_in fs j = slice_index_or fs j None

abbrev pub floor_at : StandingState → ℕ → Option Amount
floor_at s j = floor_in s.floors j

-- so many copies, none where there is none
abbrev pub living : ℕ → Option Copies
living zero = None
living (suc n) = Some (copies_with (suc n) false nowhere)

-- a name that wasn't told dead and stands in one chunk alone
abbrev pub wants : StandingState → ℕ → ℕ → Bool
wants st k v = count_of st k v == 1 && not (is_told st k v)

-- what is left of the chunk that is copied, once a name is wanted no more
abbrev pub tally_without : StandingState → ℕ → ℕ → Option TallyState
tally_without st k v = if wants st k v then option_map (less k v) st.tally else st.tally

-- less by an entry of so many words
abbrev pub less_entry : ℕ → Amount → Amount
less_entry words a = record { entries = a.entries - 1; words = a.words - words }

-- less is left at least of the chunk in which its entry was found
abbrev pub Lowers : List (Option Amount) → List (Option Amount) → Spot → Type 0
Lowers old new spot = (j : ℕ) → floor_in new j ≡ (if spot.chunk == j
    then option_map (less_entry spot.words) (floor_in old j) else floor_in old j)

-- how much is left at least of each chunk, once a name is wanted no more
pub record LowersFloors (old new : StandingState) (k v : ℕ) : Type 0 where
  pub wanted : wants old k v ≡ true → Lowers old.floors new.floors (spot_of old k v)
  pub unwanted : wants old k v ≡ false → new.floors ≡ old.floors

-- one copy more, and told dead
abbrev pub one_more : Option Copies → Copies
one_more None = copies_with 1 false nowhere
one_more (Some c) = record c { count = c.count + 1 }

abbrev pub killed : Copies → Copies
killed c = record c { dead = true }

-- one copy less
abbrev pub one_fewer : Copies → Copies
one_fewer c = record c { count = c.count - 1 }

abbrev pub bit : Bool → ℕ
bit true = 1
bit false = 0

-- how often a name stands in a list
abbrev pub times_in : List EntryName → ℕ → ℕ → ℕ
times_in ns k v = count_by (λ n. name_eq (n.key, n.version) (k, v)) ns

-- the name has this now, and every other name what it had
abbrev pub Changes : StandingState → StandingState → ℕ → ℕ → Option Copies → Type 0
Changes old new k v now = (j w : ℕ)
    → copies_at new j w ≡ (if name_eq (k, v) (j, w) then now else copies_at old j w)

-- every name has what it had
abbrev pub SameCopies : StandingState → StandingState → Type 0
SameCopies old new = (j w : ℕ) → copies_at new j w ≡ copies_at old j w

-- What is true of the fields between two calls: there is a place for each reserved one, and no count passes a bound that has room for the reserved ones.
pub record IsStanding (entries : List ((ℕ × ℕ) × Copies)) (spare most room : ℕ) : Type 0 where
  pub places : room ≤ spare
  pub fits : most + room < 2 ^ 64
  pub two : 2 ≤ most
  pub each : (k v : ℕ) (c : Copies) → lookup (name_eq (k, v)) entries ≡ Some c → (0 < c.count)
      × (c.count ≤ most)
