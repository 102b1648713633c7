-- What the helpers of the tests ask and leave: a member's one change, in slot 0, at the board of a small empty group.
use Rattle.std.specs.Prelude.{◌≡◌, ℕ, ◌<◌, true, false, List, [], ◌∷◌, Some, None}
use Rattle.log_entry.specs.declared.entry.Entry.{Entry}
use Rattle.log_entry.specs.declared.entry.Body.TheVariants.{Pointer, Embedded}
use Rattle.group_board.specs.declared.change.Change.{Change}
use Rattle.store_image.specs.Facts.{In}
use Rattle.chunk_map.specs.Layouts.{magic}
use Rattle.group_laws.specs.Places.{Place, members}
use Rattle.group_laws.specs.State.{Group}
use Rattle.group_laws.specs.OpeningImages.{opened}
use Rattle.group_board.specs.Journals.{image_of, place_in}
use Rattle.group_laws.specs.MemberViews.{View}

-- the superblock of a region of three cores in one group, with 4 chunks of 4096 bytes each; zeros follow
abbrev pub small_words : List ℕ
small_words = magic ∷ 1 ∷ 3 ∷ 3 ∷ 4 ∷ 4096 ∷ []

abbrev pub fresh : Group
fresh = opened (place_in 0 small_words) (image_of small_words)

-- m is the leader, and its log is whole
pub record Leads (p : Place) (m : ℕ) (v : View) : Type 0 where
  pub member : m < members p
  pub holds : v.holds ≡ true
  pub whole : v.broken ≡ false

-- m is the leader, and has its own change
pub record Has (p : Place) (m : ℕ) (v : View) (e : Entry) : Type 0 where
  pub member : m < members p
  pub holds : v.holds ≡ true
  pub whole : v.broken ≡ false
  pub taken : v.taken m 0 ≡ Some e
  pub flying : In e v.flying

-- a put of the byte 97 under key 1, which is member 1's
abbrev pub first_put : Change
first_put = record {
  entry = record { key = 1; version = 1; body = Embedded (97 ∷ []) };
  home = None;
}

-- a put of a value with a block under key 1, in the second chunk of member 1's part
abbrev pub long_put : Change
long_put = record { entry = record { key = 1; version = 1; body = Pointer 98 }; home = None }
