-- What a call or a move does to what a core has free, and which changes it begins and posts.
use Rattle.std.specs.Prelude.{◌≡◌, ◌⊎◌, ℕ, ◌≤◌, List, [], ◌∷◌, ◌++◌, length, true, false, Option, Some}
use Rattle.pm_region.specs.Words.{lines_for}
use Rattle.fs_model.specs.declared.model.Request.{Request}
use Rattle.fs_model.specs.declared.model.Reply.TheVariants.{Full}
use Rattle.fs_model.specs.Cells.{key_of}
use Rattle.log_entry.specs.declared.entry.Entry.{Entry}
use Rattle.log_entry.specs.Spelling.{words_of}
use Rattle.chunk_map.specs.declared.layouts.Geometry.{Geometry}
use Rattle.chunk_map.specs.Layouts.{owner}
use Rattle.store_image.specs.Facts.{In}
use Rattle.headline.specs.Ample.{lines_of}
use Rattle.engine_laws.specs.Parts.{group_of, member_of}
use Rattle.engine_laws.specs.WorkerMoves.{Placed, Fixed, asked, fixed_of, requests_for, CleansIn}
use Rattle.engine_laws.specs.Engine.{Engine}
pub use Rattle.engine_laws.specs.WorkerMoves.{BeginsIn, PostsIn, SpendsIn}
pub use Rattle.engine_laws.specs.StockChanges.{lines_in, one_if, is_cut_for, puts_in, Spends}

-- The change y, which waited or was accepted, stands in a place now.
pub record Begins (l : Geometry) (e f : Engine) (c : ℕ) (accepted : List (ℕ × Request))
    (y : ℕ × Request) : Type 0 where
  pub own : owner l (key_of y.1) ≡ c
  pub waits : In y (e.waits (key_of y.1) ++ requests_for (key_of y.1) accepted)
  pub place : f.place (key_of y.1) ≡ Some (record { number = y.0; request = y.1; posted = false })

pub record PostsOne (l : Geometry) (e f : Engine) (c : ℕ) : Type 0 where
  pub change : Placed
  pub own : owner l (key_of change.request) ≡ c
  pub was : e.place (key_of change.request) ≡ Some change
  pub staged : change.posted ≡ false
  pub now : f.place (key_of change.request) ≡ Some (record {
    number = change.number;
    request = change.request;
    posted = true;
  })
  pub entry : Entry
  pub more : (f.group (group_of l c)).posted (member_of l c)
      ≡ (e.group (group_of l c)).posted (member_of l c) ++ entry ∷ []
  pub few : lines_for (length (words_of entry)) ≤ lines_of l change.request

pub record SpendsRoom (l : Geometry) (e f : Engine) (c : ℕ) (accepted : List (ℕ × Request))
    (fixed : List Fixed) : Type 0 where
  -- only a core that runs answers Full, to a request that waited or was accepted
  pub runs : (x : Fixed) → In x fixed → x.reply ≡ Full → (e.stopped c ≡ false)
      × In (asked x) (e.waits (key_of x.request) ++ requests_for (key_of x.request) accepted)
  -- a change stays in its place until it is answered, and posted once it is
  pub stays : (k : ℕ) (y : Placed) → owner l k ≡ c → e.place k ≡ Some y → fixed_of k fixed ≡ []
      → (z : Placed) × (f.place k ≡ Some z) × (z.number ≡ y.number)
      × (y.posted ≡ true → z.posted ≡ true)
  pub begun : Option (ℕ × Request)
  pub begins : (y : ℕ × Request) → begun ≡ Some y → Begins l e f c accepted y
  pub posts : ((f.group (group_of l c)).posted (member_of l c)
      ≡ (e.group (group_of l c)).posted (member_of l c)) ⊎ PostsOne l e f c
  pub spends : f.stopped c ≡ false
      → Spends l ((e.group (group_of l c)).took (member_of l c))
      ((e.group (group_of l c)).flying (member_of l c))
      ((f.group (group_of l c)).took (member_of l c))
      ((f.group (group_of l c)).flying (member_of l c)) (e.stock c) (f.stock c) begun
      ⊎ CleansIn l (e.stock c) (f.stock c) accepted fixed
