-- What the cores of a run have spent of their room, by the requests that they began.
use Rattle.std.specs.Prelude.{◌≡◌, ◌≢◌, ℕ, ◌+◌, ◌-◌, ◌*◌, ◌≤◌, ◌<◌, ◌==◌, ◌&&◌, ◌||◌, List, [], ◌++◌, Bool, true, false, Option, Some, None, is_some, if◌then◌else◌, count_by, sum_by}
use Rattle.std.specs.List.{enumerate_from}
use Rattle.fs_model.specs.declared.model.Request.{Request}
use Rattle.fs_model.specs.declared.model.Reply.TheVariants.{Full}
use Rattle.fs_model.specs.Cells.{key_of}
use Rattle.chunk_map.specs.declared.layout_sizes.TheConstants.{GREATEST_CLASS}
use Rattle.chunk_map.specs.declared.layouts.Geometry.{Geometry}
use Rattle.chunk_map.specs.Chunks.{blocks_in}
use Rattle.chunk_map.specs.Layouts.{layout_of, owner, numbers, payload_lines, is_class}
use Rattle.headline.specs.Ample.{lines_of, is_put_of, IsAmpleFor}
use Rattle.headline.specs.Limits.{IsAsked}
use Rattle.engine_laws.specs.FreeStock.{lines_left_over}
use Rattle.engine_laws.specs.Parts.{group_of, member_of}
use Rattle.engine_laws.specs.WorkerMoves.{Placed}
use Rattle.engine_laws.specs.Engine.{Engine, Answer}
use Rattle.engine_laws.specs.Origins.{Origin, stock_found}
use Rattle.engine_laws.specs.Spending.{lines_in}

-- the change in a place has this number; and it is posted
abbrev pub is_numbered : ℕ → Option Placed → Bool
is_numbered n None = false
is_numbered n (Some y) = y.number == n

abbrev pub is_posted_as : ℕ → Option Placed → Bool
is_posted_as n None = false
is_posted_as n (Some y) = y.number == n && y.posted

-- a numbered request is answered, or stands in a place; or is answered, or posted
abbrev pub is_begun : Engine → ℕ × Request → Bool
is_begun e x = is_some (e.answer x.0) || is_numbered x.0 (e.place (key_of x.1))

abbrev pub is_out : Engine → ℕ × Request → Bool
is_out e x = is_some (e.answer x.0) || is_posted_as x.0 (e.place (key_of x.1))

-- how many puts of a class core c began
abbrev pub begun_puts : Geometry → Engine → ℕ → ℕ → ℕ
begun_puts l e c class = count_by (λ x. is_put_of l c class x.1 && is_begun e x)
    (enumerate_from 0 e.given)

-- the lines that the changes of core c need which were posted
abbrev pub out_lines : Geometry → Engine → ℕ → ℕ
out_lines l e c = sum_by (λ x. if owner l (key_of x.1) == c && is_out e x then lines_of l x.1 else
    0) (enumerate_from 0 e.given)

-- Since the beginning core c opened so many chunks for its log, and cut so many for each class.
pub record HasRoom (l : Geometry) (o : Origin) (e : Engine) (c : ℕ) : Type 0 where
  pub opened : ℕ
  pub cuts : ℕ → ℕ
  pub chunks : (stock_found o c).chunks ≤ (e.stock c).chunks
      + (opened + sum_by cuts (numbers 1 GREATEST_CLASS))
  -- all lines of each that it opened are filled but those left over, but for the open one
  pub lines : opened * (payload_lines l - lines_left_over) + lines_in
      ((e.group (group_of l c)).flying (member_of l c))
      ≤ lines_in ((e.group (group_of l c)).took (member_of l c)) + (e.stock c).lines
  pub small : (e.stock c).lines ≤ payload_lines l
  -- so many puts were begun as there are blocks in the chunks that were cut, but for those that are free; in each but the last that was cut all were taken
  pub blocks : (k : ℕ) → cuts k * blocks_in l k ≤ (e.stock c).blocks k + begun_puts l e c k
  pub last : (k : ℕ) → cuts k ≢ 0 → cuts k * blocks_in l k + 1 ≤ begun_puts l e c k + blocks_in l k
  pub class : (k : ℕ) → cuts k ≢ 0 → is_class l k ≡ true

pub record Rooms (o : Origin) (e : Engine) : Type 0 where
  -- as long as the input is ample for its part a core has not cleaned, and has its room
  pub room : (c : ℕ) → c < (layout_of o.found).cores → e.stopped c ≡ false → (more : List Request)
      → IsAmpleFor (layout_of o.found) o.found (e.given ++ more) c → HasRoom (layout_of o.found) o e c
  pub small : (c : ℕ) → c < (layout_of o.found).cores → e.stopped c ≡ false
      → (e.stock c).lines ≤ payload_lines (layout_of o.found)
  -- the entries that a core posted take no more lines than its changes that are out
  pub posted : (c : ℕ) → c < (layout_of o.found).cores
      → lines_in ((e.group (group_of (layout_of o.found) c)).posted
      (member_of (layout_of o.found) c)) ≤ out_lines (layout_of o.found) e c
  pub strangers : (g m : ℕ) → (layout_of o.found).group ≤ m → (e.group g).posted m ≡ []
  -- a change is refused for want of room only where the input is not ample for the part of its key's owner
  pub full : (n k : ℕ) (a : Answer) → e.answer n ≡ Some a → a.reply ≡ Full → IsAsked e.given n k
      → (more : List Request)
      → IsAmpleFor (layout_of o.found) o.found (e.given ++ more) (owner (layout_of o.found) k) → ⊥
