-- What the helpers of the tests ask and leave: members of a small empty group, each with one change in slot 0.
use Rattle.std.specs.Prelude.{◌≡◌, ◌≢◌, ℕ, ◌≤◌, [], ◌∷◌, Option, Some, None, IfSome, IsSomeAnd}
use Rattle.pm_region.specs.Cell.{certain}
use Rattle.pm_region.specs.State.{State, IsTelling, InRange, cell_now, During}
use Rattle.pm_region.specs.Words.{KeepsOutside, lines_for}
use Rattle.log_entry.specs.declared.entry.Body.TheVariants.{Embedded}
use Rattle.core_log.specs.declared.types.Room.{Room}
use Rattle.group_board.specs.declared.change.Change.{Change}
use Rattle.chunk_map.specs.declared.layouts.Geometry.{Geometry}
use Rattle.core_log.specs.Log.{LogState, IsOwn, tail_of}
use Rattle.group_laws.specs.Places.{Place, members}
use Rattle.group_laws.specs.State.{Group}
use Rattle.group_laws.specs.MemberViews.{View, view_of}
use Rattle.group_board.specs.Journals.{place_in}
use Rattle.group_board.specs.Conditions.{MayPost, MayLock}
use Rattle.group_tests.specs.BoardTrials.{small_words}
use Rattle.licence.specs.Licence.{part_at, part_end}
use Rattle.licence.specs.Writes.{Begins}
use Rattle.batch_leader.specs.declared.states.Batch.{Batch}
use Rattle.batch_leader.specs.Leading.{IsBatchAt}
use Rattle.batch_leader.specs.Persisting.{HasRoom}
use Rattle.batch_leader.specs.Rounds.{words_taken}

-- a put of the byte 97 under a key
abbrev pub put_of : ℕ → Change
put_of k = record {
  entry = record { key = k; version = 1; body = Embedded (97 ∷ []) };
  home = None;
}

-- an empty part of 4 chunks
abbrev pub empty_room : Room
empty_room = record { open_lines = 0; free_chunks = 4; pledged_lines = 1; payload_lines = 60 }

-- Nothing of what a licence asks is there yet.
pub record IsUnwritten (v : View) : Type 0 where
  pub kept : v.kept ≡ []
  pub blocks : (q : ℕ) → v.blocks q ≡ None

-- the batch fits in a fresh chunk
abbrev pub FitsFresh : Batch → Type 0
FitsFresh b = lines_for (words_taken b.changes.taken.items) ≤ 60

-- what members other than m have stays
abbrev pub KeepsOthers : Group → Group → ℕ → Type 0
KeepsOthers w u m = (n : ℕ) → n ≢ m → view_of u n ≡ view_of w n

abbrev pub LeavesOthers : Option Group → Option Group → ℕ → Type 0
LeavesOthers before after m = IfSome before (λ w. IsSomeAnd after (λ u. KeepsOthers w u m))

-- the place of a group of three cores
abbrev pub small_place : Place
small_place = place_in 0 small_words

-- a region of so many words with nothing in them
pub record IsBlank (n : ℕ) (s : State) : Type 0 where
  pub first : s.frame.first ≡ 0
  pub words : s.frame.words ≡ n
  pub zeros : (w : ℕ) → InRange s.frame w → IsTelling s → cell_now s w ≡ certain 0

-- a region of three parts with nothing in them
abbrev pub IsBlankRegion : State → Type 0
IsBlankRegion s = IsBlank 6656 s

-- the log of core m in a region of this layout, with no chunk yet
pub record IsEmptyLogOf (l : Geometry) (log : LogState) (m : ℕ) : Type 0 where
  pub own : IsOwn log
  pub layout : log.layout ≡ l
  pub part : log.part ≡ m
  pub none : (j : ℕ) → tail_of log.chunks j ≡ None

-- the same in a region of three cores
abbrev pub IsEmptyLog : LogState → ℕ → Type 0
IsEmptyLog log m = IsEmptyLogOf small_place.layout log m

-- Member m may post this change in slot 0, and then lead.
pub record MayGather (p : Place) (m : ℕ) (v : View) (c : Change) : Type 0 where
  pub post : MayPost p m v 0 c []
  pub lock : MayLock p m v
  pub idle : v.flying ≡ []
  pub group : members p ≤ 8
  pub put : (k : ℕ) × (c ≡ put_of k)

-- It has a batch of what it posted.
pub record Gathered (w u : Group) (m : ℕ) (b : Batch) : Type 0 where
  pub place : u.place ≡ w.place
  pub batch : IsBatchAt u.place m (view_of u m) b
  pub fits : FitsFresh b
  pub others : KeepsOthers w u m
  pub unwritten : IsUnwritten (view_of w m) → IsUnwritten (view_of u m)

-- It may write the batch into chunk 2 of its part.
pub record MayWrite (p : Place) (m : ℕ) (v : View) (s : State) (log : LogState)
    (b : Batch) : Type 0 where
  pub batch : IsBatchAt p m v b
  pub begins : Begins s p m v log
  pub room : HasRoom s log (words_taken b.changes.taken.items) (Some 2)

-- It wrote nothing else, and left what the others have.
pub record Wrote (w u : Group) (m : ℕ) (s t : State) : Type 0 where
  pub place : u.place ≡ w.place
  pub others : KeepsOthers w u m
  pub outside : During s t (KeepsOutside (cell_now s) (part_at w.place m) (part_end w.place m))

-- Of the state u, members 0 and 1 each have a batch of what they posted.
pub record HaveBatches (u : Group) (first second : Batch) : Type 0 where
  pub place : u.place ≡ small_place
  pub zero : IsBatchAt u.place 0 (view_of u 0) first
  pub one : IsBatchAt u.place 1 (view_of u 1) second
  pub fits : FitsFresh first × FitsFresh second
  pub unwritten : IsUnwritten (view_of u 0) × IsUnwritten (view_of u 1)
