-- The queries of an input, or the first line that breaks a rule.
use Rattle.std.specs.Prelude.{ℕ, ◌+◌, nat_le, List, [], ◌∷◌, length, Bool, Option, Some, None, Result, Ok, Err, if◌then◌else◌, bytes_eq, codes}
use Rattle.fs_text.specs.declared.input_limits.TheConstants.{LONGEST_LINE, MOST_INPUT_BYTES}
use Rattle.fs_text.specs.Input.{lines_of, size_with, cut, number_of, within}
use Rattle.query_text.specs.declared.query.Query.{Query}
use Rattle.query_text.specs.declared.query.Query.TheVariants.{Range, Count}
use Rattle.query_text.specs.declared.query.TheConstants.{MOST_PAIRS, MOST_QUERIES}

-- rule 23
abbrev pub bound_at : List ℕ → Result ℕ ℕ
bound_at bs = within 0 18446744073709551615 23 (number_of bs)

-- rule 24
abbrev pub limit_at : List ℕ → Result ℕ ℕ
limit_at bs = within 1 MOST_PAIRS 24 (number_of bs)

abbrev pub count_by : Result ℕ ℕ → Result ℕ ℕ → Result Query ℕ
count_by (Ok lo) (Ok hi) = Ok (Count lo hi)
count_by (Ok lo) (Err rule) = Err rule
count_by (Err rule) hi = Err rule

abbrev pub range_limited : ℕ → ℕ → Result ℕ ℕ → Result Query ℕ
range_limited lo hi (Ok limit) = Ok (Range lo hi limit)
range_limited lo hi (Err rule) = Err rule

abbrev pub range_by : Result ℕ ℕ → Result ℕ ℕ → Result ℕ ℕ → Result Query ℕ
range_by (Ok lo) (Ok hi) limit = range_limited lo hi limit
range_by (Ok lo) (Err rule) limit = Err rule
range_by (Err rule) hi limit = Err rule

-- What follows the word, parted by spaces: two fields
abbrev pub count_last : List ℕ → List ℕ × Option (List ℕ) → Result Query ℕ
count_last lo (hi, None) = count_by (bound_at lo) (bound_at hi)
count_last lo (hi, Some more) = Err 22

abbrev pub count_fields : List ℕ × Option (List ℕ) → Result Query ℕ
count_fields (lo, None) = Err 22
count_fields (lo, Some more) = count_last lo (cut more)

abbrev pub count_line : Option (List ℕ) → Result Query ℕ
count_line None = Err 22
count_line (Some bs) = count_fields (cut bs)

-- or three
abbrev pub range_last : List ℕ → List ℕ → List ℕ × Option (List ℕ) → Result Query ℕ
range_last lo hi (limit, None) = range_by (bound_at lo) (bound_at hi) (limit_at limit)
range_last lo hi (limit, Some more) = Err 22

abbrev pub range_more : List ℕ → List ℕ × Option (List ℕ) → Result Query ℕ
range_more lo (hi, None) = Err 22
range_more lo (hi, Some more) = range_last lo hi (cut more)

abbrev pub range_fields : List ℕ × Option (List ℕ) → Result Query ℕ
range_fields (lo, None) = Err 22
range_fields (lo, Some more) = range_more lo (cut more)

abbrev pub range_line : Option (List ℕ) → Result Query ℕ
range_line None = Err 22
range_line (Some bs) = range_fields (cut bs)

-- rules 21 to 24
abbrev pub query_by : List ℕ × Option (List ℕ) → Result Query ℕ
query_by (word, rest) =
    if bytes_eq word (codes "range") then range_line rest
    else (if bytes_eq word (codes "count") then count_line rest else Err 21)

-- rule 25, beside the bytes up to and with the line
abbrev pub counted : ℕ → ℕ → Result Query ℕ → Result (Query × ℕ) ℕ
counted number bytes (Ok q) = if nat_le number MOST_QUERIES then Ok (q, bytes) else Err 25
counted number bytes (Err rule) = Err rule

-- A line with this number, behind so many bytes.
abbrev pub query_at : ℕ → ℕ → List ℕ × Bool → Result (Query × ℕ) ℕ
query_at number before x =
    if nat_le (before + size_with x) MOST_INPUT_BYTES then
    (if nat_le (length x.0) LONGEST_LINE then
    counted number (before + size_with x) (query_by (cut x.0)) else Err 2) else Err 1

-- all queries, or the number of the first line that breaks a rule and the rule
abbrev pub with_front : Query → Result (List Query) (ℕ × ℕ) → Result (List Query) (ℕ × ℕ)
with_front q (Ok qs) = Ok (q ∷ qs)
with_front q (Err e) = Err e

abbrev pub queries_from : ℕ → ℕ → List (List ℕ × Bool) → Result (List Query) (ℕ × ℕ)
queries_from number before [] = Ok []
queries_from number before (x ∷ xs) =
    elim (query_at number before x) [
      | Ok y ↦ with_front y.0 (queries_from (number + 1) y.1 xs)
      | Err rule ↦ Err (number, rule)
    ]

unfoldable pub queries_of : List ℕ → Result (List Query) (ℕ × ℕ)
queries_of bytes = queries_from 1 0 (lines_of bytes)
