-- The tokens of a table's seats, and what the table shows at its end.
use Rattle.std.specs.Prelude.{◌≡◌, ℕ, ◌≤◌, true, List, []}
use mathlib.Core.Option.{some}
use lib.ListN.{get_elem?}
use Rattle.std.specs.VecDeque.{deque_capacity}
use Rattle.std.specs.declared.collections.VecDeque.{VecDeque}
use Rattle.atomic_table.specs.Seated.{TableId}
use Rattle.group_laws.specs.Places.{Place}
use Rattle.group_laws.specs.MemberViews.{view_of}
use Rattle.group_board.specs.Seats.{SeatAt}
use Rattle.atomic_board.specs.declared.seat_data.Origin.{Origin}
use Rattle.atomic_board.specs.declared.seat_data.SeatData.{SeatData}
use Rattle.atomic_board.specs.declared.seat_data.SeatData.TheVariants.{Store}
use Rattle.atomic_board.specs.declared.seat_data.Deed.{Deed}
use Rattle.atomic_board.specs.declared.table_words.TheConstants.{MOST_SLOTS}
use Rattle.atomic_board.specs.declared.token.SeatToken.{SeatToken}
use Rattle.atomic_board.specs.Deeds.{began, view_by, trail_by}
use Rattle.atomic_board.specs.ShownState.{TableState, ShowsLawful, views_of, is_back, deeds_in, deeds_at}
use Rattle.atomic_board.specs.MemberSeats.{seat_of, view_at, trail_at, done_at}

-- the seat of member k at a table
abbrev pub member_at : TableId → Place → ℕ → SeatAt
member_at z p k = record { number = k; place = p; table = z; handle = 0 }

-- tokens of the seats of a table, by rising member
abbrev pub AreTokens : TableId → Place → List SeatToken → Type 0
AreTokens z p ts = (k : ℕ) (t : SeatToken) → get_elem? ts k ≡ some t
    → seat_of t.own ≡ member_at z p k

-- each member has the view with which the group opened
abbrev pub AreFresh : Origin → List SeatToken → Type 0
AreFresh b ts = (k : ℕ) (t : SeatToken) → get_elem? ts k ≡ some t
    → view_at t.own ≡ view_of (began b) k

-- each member did nothing yet
abbrev pub AreIdle : List SeatToken → Type 0
AreIdle ts = (k : ℕ) (t : SeatToken) → get_elem? ts k ≡ some t → done_at t.own ≡ []

-- The words show a lawful state that the machine's steps lead to, in which each member has the view of its token, and did just what its token tells. Its steps are those of its deeds.
pub record Ended (b : Origin) (ts : List SeatToken) (ws : List ℕ) : Type 0 where
  pub table : TableState
  pub shows : ShowsLawful b table
  pub words : table.words ≡ ws
  pub views : (k : ℕ) (t : SeatToken) → get_elem? ts k ≡ some t
      → views_of b table.views k ≡ view_at t.own
  pub deeds : (k : ℕ) (t : SeatToken) → get_elem? ts k ≡ some t
      → deeds_at table.views k ≡ done_at t.own
  pub trails : (k : ℕ) (t : SeatToken) → get_elem? ts k ≡ some t
      → trail_at t.own ≡ trail_by b k (deeds_at table.views k)

-- nothing in them, and room for the numbers of all slots
abbrev pub AreEmptyHands : {A : Type 0} → List (VecDeque ℕ A) → Type 0
AreEmptyHands hs = (k : ℕ) (h : VecDeque ℕ _) → get_elem? hs k ≡ some h → (h.items ≡ [])
    × (MOST_SLOTS ≤ deque_capacity h)

-- the store has the deeds of the tokens from the j-th on
abbrev pub HasFrom : Origin → List SeatToken → ℕ → SeatData → Type 0
HasFrom b ts j d =
    (c : Origin) × (n : ℕ) × (back : List (ℕ × List Deed)) × (d ≡ Store n c back)
    × ((k : ℕ) (t : SeatToken) → j ≤ k → get_elem? ts k ≡ some t → (is_back back k ≡ true)
    × (view_by b k (deeds_in back k) ≡ view_at t.own)
    × (deeds_in back k ≡ done_at t.own)
    × (trail_at t.own ≡ trail_by b k (deeds_in back k)))
