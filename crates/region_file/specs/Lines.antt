-- What the calls of a set of lines do.
use Rattle.std.specs.Prelude.{◌≡◌, ◌≢◌, ℕ, ◌+◌, Bool, true, false, length, slice_index_or}
use Rattle.region_file.specs.declared.line_set.LineSet.{LineSet}

abbrev pub has_line : LineSet → ℕ → Bool
has_line s k = slice_index_or s.marks.items k false

-- none of so many lines
pub record HasNone (count : ℕ) (s : LineSet) : Type 0 where
  pub count_is : length s.marks.items ≡ count
  pub none : (k : ℕ) → has_line s k ≡ false

pub record Adds (old new : LineSet) (line : ℕ) : Type 0 where
  pub count : length new.marks.items ≡ length old.marks.items
  pub this : has_line new line ≡ true
  pub others : (k : ℕ) → k ≢ line → has_line new k ≡ has_line old k

-- the lines of another set came in, each at a place so much higher
pub record AddsAll (old new other : LineSet) (by : ℕ) : Type 0 where
  pub count : length new.marks.items ≡ length old.marks.items
  pub keeps : (k : ℕ) → has_line old k ≡ true → has_line new k ≡ true
  pub takes : (k : ℕ) → has_line other k ≡ true → has_line new (by + k) ≡ true
