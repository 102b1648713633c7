-- What the rules leave of an input.
use Rattle.std.specs.Prelude.{ℕ, ◌-◌, ◌≤◌, List, length}
use Rattle.std.specs.List.{AllByRecursion, filter_map, sum_by}
use Rattle.fs_model.specs.declared.model.Request.{Request}
use Rattle.fs_model.specs.declared.model.Request.TheVariants.{Put, Get, Delete}
use Rattle.fs_text.specs.declared.input_limits.TheConstants.{LONGEST_LINE, MOST_LINE_TURNS, MOST_REQUESTS, MOST_TURNS}
use Rattle.fs_text.specs.declared.line.Line.{Line}
use Rattle.fs_text.specs.declared.line.Line.TheVariants.{Ask, Go}
use Rattle.fs_text.specs.Input.{request_in}

-- a value is no longer than a line may be
abbrev pub IsShort : Request → Type 0
IsShort (Put k v) = length v ≤ LONGEST_LINE
IsShort (Get k) = Unit {0}
IsShort (Delete k) = Unit {0}

-- cores isn't 0
abbrev pub IsLine : ℕ → Line → Type 0
IsLine cores (Ask q) = IsShort q
IsLine cores (Go core turns) = (core ≤ cores - 1) × (1 ≤ turns) × (turns ≤ MOST_LINE_TURNS)

abbrev pub turns_in : Line → ℕ
turns_in (Ask q) = 0
turns_in (Go core turns) = turns

pub record IsWithin (cores : ℕ) (lines : List Line) : Type 0 where
  pub each : AllByRecursion (IsLine cores) lines
  pub requests : length (filter_map request_in lines) ≤ MOST_REQUESTS
  pub turns : sum_by turns_in lines ≤ MOST_TURNS
