-- The tables of all groups, and the tokens of their members by core.
use Rattle.std.specs.Prelude.{◌≡◌, ℕ, ◌+◌, ◌*◌, ◌<◌, ◌≤◌, List, [], ◌∷◌, ◌++◌, length, Some, Vec, vec_capacity}
use Rattle.std.specs.Global.{Global}
use Rattle.std.specs.List.{slice_get, AllByRecursion}
use Rattle.chunk_map.specs.Layouts.{layout_of}
use Rattle.group_laws.specs.Places.{members}
use Rattle.group_laws.specs.Regions.{place_at}
use Rattle.group_laws.specs.MemberViews.{view_of}
use Rattle.group_laws.specs.OpeningImages.{opened}
use Rattle.atomic_board.specs.declared.group_table.GroupTable.{GroupTable}
use Rattle.atomic_board.specs.declared.token.SeatToken.{SeatToken}
use Rattle.atomic_board.specs.Deeds.{began}
use Rattle.atomic_board.specs.GroupTables.{id_of, origin_of, group_place}
use Rattle.atomic_board.specs.MemberSeats.{seat_of, view_at, done_at}
use Rattle.atomic_board.specs.Tokens.{AreTokens, AreFresh, AreIdle, member_at, Ended}

-- A token for each member of the table stands behind those that there were.
pub record AddsTokens (t : GroupTable) (old new : List SeatToken) : Type 0 where
  pub own : List SeatToken
  pub added : new ≡ old ++ own
  pub count : length own ≡ t.members
  pub tokens : AreTokens (id_of t) (group_place t) own
  pub fresh : AreFresh (origin_of t) own
  pub idle : AreIdle own

-- Each table is of its group, as it opens on this image; the tokens are those of its members, with the views that they have then, and no step made.
pub record HaveTokens (image : ℕ → ℕ) (ts : List GroupTable) (tokens : List SeatToken) : Type 0 where
  pub count : length tokens ≡ length ts * (layout_of image).group
  pub sizes : (g : ℕ) (t : GroupTable) → slice_get ts g ≡ Some t
      → t.members ≡ (layout_of image).group
  pub opened_on : (g : ℕ) (t : GroupTable) → slice_get ts g ≡ Some t
      → began (origin_of t) ≡ opened (place_at (layout_of image) g) image
  pub seats : (g m : ℕ) (t : GroupTable) (x : SeatToken) → slice_get ts g ≡ Some t
      → m < (layout_of image).group → slice_get tokens (g * (layout_of image).group + m) ≡ Some x
      → seat_of x.own ≡ member_at (id_of t) (place_at (layout_of image) g) m
  pub views : (g m : ℕ) (t : GroupTable) (x : SeatToken) → slice_get ts g ≡ Some t
      → m < (layout_of image).group → slice_get tokens (g * (layout_of image).group + m) ≡ Some x
      → view_at x.own ≡ view_of (opened (place_at (layout_of image) g) image) m
  pub idle : (g m : ℕ) (t : GroupTable) (x : SeatToken) → slice_get ts g ≡ Some t
      → m < (layout_of image).group → slice_get tokens (g * (layout_of image).group + m) ≡ Some x
      → done_at x.own ≡ []

-- the tokens of each table, one table's after another's
abbrev pub AreTokensOf : ℕ → List GroupTable → List SeatToken → Type 0
AreTokensOf members [] tokens = tokens ≡ []
AreTokensOf members (t ∷ ts) tokens = (own : List SeatToken) × (rest : List SeatToken)
    × (tokens ≡ own ++ rest) × (t.members ≡ members) × (length own ≡ members)
    × AreTokens (id_of t) (group_place t) own × AreTokensOf members ts rest

-- so many lists with nothing in them, each with room for so many tokens
pub record AreTokenRooms (members count : ℕ) (rooms : List (Vec SeatToken Global)) : Type 0 where
  pub count_is : length rooms ≡ count
  pub each : AllByRecursion (λ h. (h.items ≡ []) × (members ≤ vec_capacity h)) rooms

-- Each table was closed with its members' tokens, which stand one table's after another's.
abbrev pub AllEnded : List GroupTable → List SeatToken → Type 0
AllEnded [] tokens = Unit {0}
AllEnded (t ∷ ts) tokens = (own : List SeatToken) × (rest : List SeatToken) × (tokens ≡ own ++ rest)
    × (length own ≡ t.members) × (words : List ℕ) × Ended (origin_of t) own words × AllEnded ts rest
