-- What the helpers of the tests ask and leave. Each member puts one byte under its own number as key, again and again, always in slot 0.
use Rattle.std.specs.Prelude.{◌≡◌, ◌≢◌, ℕ, ◌+◌, ◌<◌, Bool, false, List, [], ◌∷◌, Some, None}
use Rattle.log_entry.specs.declared.entry.Body.TheVariants.{Embedded}
use Rattle.log_entry.specs.declared.entry.Entry.{Entry}
use Rattle.chunk_map.specs.Layouts.{magic}
use Rattle.group_board.specs.declared.change.Change.{Change}
use Rattle.group_laws.specs.Places.{members, owner}
use Rattle.group_laws.specs.State.{Group}
use Rattle.group_laws.specs.MemberViews.{View, view_of}
use Rattle.group_laws.specs.OpeningImages.{opened}
use Rattle.group_board.specs.Journals.{image_of, place_in}
use Rattle.group_board.specs.Seats.{SeatAt}
use Rattle.atomic_table.specs.Seated.{TableId}
use Rattle.atomic_board.specs.declared.token.SeatToken.{SeatToken}
use Rattle.atomic_board.specs.MemberSeats.{seat_of, view_at}
use Rattle.atomic_board.specs.Tokens.{member_at}

-- the superblock of a region of two cores in one group, with 4 chunks of 4096 bytes each; zeros follow
abbrev pub pair_words : List ℕ
pair_words = magic ∷ 1 ∷ 2 ∷ 2 ∷ 4 ∷ 4096 ∷ []

-- the group that opens on such words
abbrev pub began_on : List ℕ → Group
began_on ws = opened (place_in 0 ws) (image_of ws)

-- member m's put, as the change of this version
abbrev pub entry_of : ℕ → ℕ → Entry
entry_of m n = record { key = m; version = n; body = Embedded (97 ∷ []) }

abbrev pub put_of : ℕ → ℕ → Change
put_of m n = record { entry = entry_of m n; home = None }

-- The member has nothing under way and leads nobody. Its next change is the n-th.
pub record Rests (s : SeatAt) (n : ℕ) (v : View) : Type 0 where
  pub member : s.number < members s.place
  pub own : owner s.place s.number ≡ s.number
  pub holds : v.holds ≡ false
  pub whole : v.broken ≡ false
  pub empty : (a t : ℕ) → v.taken a t ≡ None
  pub last : v.last s.number + 1 ≡ n
  pub idle : (k : ℕ) → v.pending k ≡ None

-- Its n-th change is in slot 0 or on its way back, and it has no change in hand. It leads where `leads` says so.
pub record Waits (s : SeatAt) (n : ℕ) (leads : Bool) (v : View) : Type 0 where
  pub member : s.number < members s.place
  pub own : owner s.place s.number ≡ s.number
  pub holds : v.holds ≡ leads
  pub whole : v.broken ≡ false
  pub empty : (a t : ℕ) → v.taken a t ≡ None
  pub last : v.last s.number + 1 ≡ n
  pub out : v.pending s.number ≡ Some (record { entry = entry_of s.number n; slot = Some 0 })
  pub others : (k : ℕ) → k ≢ s.number → v.pending k ≡ None

-- member k's token, at a table of a group that just opened on these words
abbrev pub IsStart : List ℕ → TableId → ℕ → SeatToken → Type 0
IsStart ws z k t = (seat_of t.own ≡ member_at z (place_in 0 ws) k)
    × (view_at t.own ≡ view_of (began_on ws) k)
