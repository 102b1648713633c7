-- What a call spends of what a core has free: chunks that it takes, a block of the change that it begins, and lines of the log.
use Rattle.std.specs.Prelude.{◌≡◌, ℕ, ◌+◌, ◌≤◌, ◌==◌, List, length, Bool, true, false, Option, Some, None, is_some, if◌then◌else◌, sum_by}
use Rattle.pm_region.specs.Words.{lines_for}
use Rattle.fs_model.specs.declared.model.Request.{Request}
use Rattle.log_entry.specs.declared.entry.Entry.{Entry}
use Rattle.log_entry.specs.Spelling.{words_of}
use Rattle.chunk_map.specs.declared.layouts.Geometry.{Geometry}
use Rattle.chunk_map.specs.Chunks.{blocks_in}
use Rattle.chunk_map.specs.Layouts.{payload_lines, is_class}
pub use Rattle.headline.specs.Ample.{lines_of, parts_of}
use Rattle.engine_laws.specs.FreeStock.{Stock, is_put_in, lines_left_over}

-- the lines that entries take, each by itself
abbrev pub lines_in : List Entry → ℕ
lines_in es = sum_by (λ e. lines_for (length (words_of e))) es

abbrev pub one_if : Bool → ℕ
one_if b = if b then 1 else 0

-- a chunk was cut for this class
abbrev pub is_cut_for : Option ℕ → ℕ → Bool
is_cut_for None c = false
is_cut_for (Some d) c = d == c

-- whether the change that was begun is a put of the class
abbrev pub puts_in : Geometry → ℕ → Option (ℕ × Request) → ℕ
puts_in l c None = 0
puts_in l c (Some y) = one_if (is_put_in l c y.1)

-- What is free goes from s to t where so much more was taken into batches, and this change was begun: a chunk is taken for a batch only where no longest entry fits in the free lines, and one is cut only for a block of the change, where none of its class is free.
pub record Spends (l : Geometry) (took flying took' flying' : List Entry) (s t : Stock)
    (begun : Option (ℕ × Request)) : Type 0 where
  pub opened : Bool
  pub cut : Option ℕ
  pub chunks : s.chunks ≤ t.chunks + (one_if opened + one_if (is_some cut))
  pub lines : (if opened then payload_lines l else s.lines) + (lines_in took + lines_in flying')
      ≤ t.lines + (lines_in took' + lines_in flying)
  pub late : opened ≡ true → s.lines ≤ lines_left_over
  pub small : t.lines ≤ payload_lines l
  pub blocks : (c : ℕ) → s.blocks c + (if is_cut_for cut c then blocks_in l c else 0) ≤ t.blocks c
      + puts_in l c begun
  pub none : (c : ℕ) → cut ≡ Some c → s.blocks c ≡ 0
  pub puts : (c : ℕ) → cut ≡ Some c → puts_in l c begun ≡ 1
  pub class : (c : ℕ) → cut ≡ Some c → is_class l c ≡ true
