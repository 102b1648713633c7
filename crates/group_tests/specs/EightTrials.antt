-- What the test of a full batch asks and leaves: each of eight members of an empty group posts eight changes, and one leads.
use Rattle.std.specs.Prelude.{◌≡◌, ℕ, ◌+◌, ◌*◌, ◌/◌, ◌%◌, ◌≤◌, false, List, [], ◌∷◌, None}
use Rattle.chunk_map.specs.Layouts.{magic}
use Rattle.group_laws.specs.Places.{Place}
use Rattle.group_laws.specs.State.{Group}
use Rattle.group_laws.specs.MemberViews.{View, view_of}
use Rattle.group_laws.specs.OpeningImages.{opened}
use Rattle.group_board.specs.Journals.{image_of, place_in}
use Rattle.group_board.specs.Conditions.{IsFree}
use Rattle.batch_leader.specs.declared.states.Batch.{Batch}
use Rattle.batch_leader.specs.Leading.{IsBatchAt}
use Rattle.group_tests.specs.LeadTrials.{IsUnwritten, FitsFresh}

-- the superblock of a region of eight cores in one group, with 4 chunks of 4096 bytes each; zeros follow
abbrev pub eight_words : List ℕ
eight_words = magic ∷ 1 ∷ 8 ∷ 8 ∷ 4 ∷ 4096 ∷ []

abbrev pub eight_place : Place
eight_place = place_in 0 eight_words

abbrev pub eight_fresh : Group
eight_fresh = opened eight_place (image_of eight_words)

-- Post number i is that of member i / 8 in slot i % 8, of this key, which is the member's.
abbrev pub key_at : ℕ → ℕ
key_at i = 8 * (i % 8) + i / 8

-- a member that has nothing certain, nothing in its hands, and finished nothing
pub record IsNew (v : View) : Type 0 where
  pub whole : v.broken ≡ false
  pub last : (k : ℕ) → v.last k ≡ 0
  pub holds : v.holds ≡ false
  pub taken : (a s : ℕ) → v.taken a s ≡ None
  pub flying : v.flying ≡ []
  pub unwritten : IsUnwritten v

-- The posts from number n on are still to be made, and no member did anything but post.
pub record IsPosted (n : ℕ) (w : Group) : Type 0 where
  pub place : w.place ≡ eight_place
  pub each : (m : ℕ) → IsNew (view_of w m)
  pub free : (i : ℕ) → n ≤ i → IsFree (view_of w (i / 8)) (i % 8)
  pub idle : (i : ℕ) → n ≤ i → (view_of w (i / 8)).pending (key_at i) ≡ None

-- member 0 has a batch
pub record HasBatch (u : Group) (b : Batch) : Type 0 where
  pub place : u.place ≡ eight_place
  pub batch : IsBatchAt u.place 0 (view_of u 0) b
  pub fits : FitsFresh b
  pub unwritten : IsUnwritten (view_of u 0)
