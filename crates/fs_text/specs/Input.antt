-- The lines of an input, or the first that breaks a rule.
use Rattle.std.specs.Prelude.{ℕ, ◌+◌, ◌-◌, ◌*◌, ◌==◌, ◌&&◌, not, nat_le, List, [], ◌∷◌, length, fold, Bool, true, false, Option, Some, None, Result, Ok, Err, if◌then◌else◌, bytes_eq, codes}
use Rattle.std.specs.List.{list_all, filter_map}
use Rattle.fs_model.specs.declared.model.Request.{Request}
use Rattle.fs_model.specs.declared.model.Request.TheVariants.{Put, Get, Delete}
use Rattle.fs_text.specs.declared.input_limits.TheConstants.{LONGEST_LINE, MOST_INPUT_BYTES, MOST_LINE_TURNS, MOST_REQUESTS, MOST_TURNS}
use Rattle.fs_text.specs.declared.line.Line.{Line}
use Rattle.fs_text.specs.declared.line.Line.TheVariants.{Ask, Go}

-- a line without its newline, and whether it has one
abbrev pub on_front : ℕ → List (List ℕ × Bool) → List (List ℕ × Bool)
on_front b [] = (b ∷ [], false) ∷ []
on_front b (x ∷ xs) = (b ∷ x.0, x.1) ∷ xs

abbrev pub lines_of : List ℕ → List (List ℕ × Bool)
lines_of [] = []
lines_of (b ∷ bs) = if b == 10 then ([], true) ∷ lines_of bs else on_front b (lines_of bs)

-- the bytes before the first space, and those after it where there is one
abbrev pub push_front : ℕ → List ℕ × Option (List ℕ) → List ℕ × Option (List ℕ)
push_front b x = (b ∷ x.0, x.1)

abbrev pub cut : List ℕ → List ℕ × Option (List ℕ)
cut [] = ([], None)
cut (b ∷ bs) = if b == 32 then ([], Some bs) else push_front b (cut bs)

-- a decimal number without a sign and without a leading zero
abbrev pub is_digit : ℕ → Bool
is_digit b = nat_le 48 b && nat_le b 57

abbrev pub starts_well : List ℕ → Bool
starts_well [] = false
starts_well (b ∷ []) = true
starts_well (b ∷ c ∷ bs) = not (b == 48)

abbrev pub number_of : List ℕ → Option ℕ
number_of bs = if starts_well bs && list_all is_digit bs
    then Some (fold (λ n b. 10 * n + (b - 48)) 0 bs) else None

-- the number where it is from low to high, else the rule
abbrev pub within : ℕ → ℕ → ℕ → Option ℕ → Result ℕ ℕ
within low high rule None = Err rule
within low high rule (Some n) = if nat_le low n && nat_le n high then Ok n else Err rule

abbrev pub map_ok : {A B : Type 0} → (A → B) → Result A ℕ → Result B ℕ
map_ok f (Ok x) = Ok (f x)
map_ok f (Err rule) = Err rule

abbrev pub key_at : List ℕ → Result ℕ ℕ
key_at bs = within 0 18446744073709551615 5 (number_of bs)

-- what follows the first word, where nothing follows the field
abbrev pub field_alone : List ℕ × Option (List ℕ) → Option (List ℕ)
field_alone (bs, None) = Some bs
field_alone (bs, Some more) = None

abbrev pub lone_key : Option (List ℕ) → Result ℕ ℕ
lone_key None = Err 4
lone_key (Some bs) = key_at bs

abbrev pub key_line : (ℕ → Request) → Option (List ℕ) → Result Line ℕ
key_line ask field = map_ok (λ k. Ask (ask k)) (lone_key field)

abbrev pub lone_field : Option (List ℕ) → Option (List ℕ)
lone_field None = None
lone_field (Some bs) = field_alone (cut bs)

abbrev pub put_fields : List ℕ × Option (List ℕ) → Result Line ℕ
put_fields (bs, None) = Err 4
put_fields (bs, Some value) = map_ok (λ k. Ask (Put k value)) (key_at bs)

abbrev pub put_line : Option (List ℕ) → Result Line ℕ
put_line None = Err 4
put_line (Some bs) = put_fields (cut bs)

abbrev pub go_turns : ℕ → Result ℕ ℕ → Result Line ℕ
go_turns core (Ok turns) = Ok (Go core turns)
go_turns core (Err rule) = Err rule

abbrev pub go_core : Result ℕ ℕ → Result ℕ ℕ → Result Line ℕ
go_core (Ok core) turns = go_turns core turns
go_core (Err rule) turns = Err rule

-- cores isn't 0
abbrev pub core_at : ℕ → List ℕ → Result ℕ ℕ
core_at cores bs = within 0 (cores - 1) 6 (number_of bs)

abbrev pub go_rest : ℕ → List ℕ → List ℕ × Option (List ℕ) → Result Line ℕ
go_rest cores core (turns, None) = go_core (core_at cores core)
    (within 1 MOST_LINE_TURNS 7 (number_of turns))
go_rest cores core (turns, Some more) = Err 4

abbrev pub go_fields : ℕ → List ℕ × Option (List ℕ) → Result Line ℕ
go_fields cores (core, None) = go_core (core_at cores core) (Ok 1)
go_fields cores (core, Some more) = go_rest cores core (cut more)

abbrev pub go_line : ℕ → Option (List ℕ) → Result Line ℕ
go_line cores None = Err 4
go_line cores (Some bs) = go_fields cores (cut bs)

-- rules 3 to 7
abbrev pub line_by : ℕ → List ℕ × Option (List ℕ) → Result Line ℕ
line_by cores (word, rest) =
    if bytes_eq word (codes "put") then put_line rest
    else (if bytes_eq word (codes "get") then key_line (λ k. Get k) (lone_field rest)
    else (if bytes_eq word (codes "delete") then key_line (λ k. Delete k) (lone_field rest)
    else (if bytes_eq word (codes "go") then go_line cores rest else Err 3)))

-- what stood before a line: bytes, requests and turns
pub record Before : Type 0 where
  pub bytes : ℕ
  pub requests : ℕ
  pub turns : ℕ

abbrev pub with_line : Before → ℕ → Line → Before
with_line b size (Ask q) = record {
  bytes = b.bytes + size;
  requests = b.requests + 1;
  turns =
      b.turns;
}
with_line b size (Go core turns) = record {
  bytes = b.bytes + size;
  requests = b.requests;
  turns =
      b.turns + turns;
}

-- rules 8 and 9, of what stands up to and with the line
abbrev pub counted : Before → Line → Result (Line × Before) ℕ
counted b line = if nat_le b.requests MOST_REQUESTS then
    (if nat_le b.turns MOST_TURNS then Ok (line, b)
    else Err 9) else Err 8

abbrev pub count_line : Before → ℕ → Result Line ℕ → Result (Line × Before) ℕ
count_line b size (Ok line) = counted (with_line b size line) line
count_line b size (Err rule) = Err rule

-- how many bytes a line takes with its newline
abbrev pub size_with : List ℕ × Bool → ℕ
size_with x = length x.0 + (if x.1 then 1 else 0)

abbrev pub line_at : ℕ → Before → List ℕ × Bool → Result (Line × Before) ℕ
line_at cores b x =
    if nat_le (b.bytes + size_with x) MOST_INPUT_BYTES then
    (if nat_le (length x.0) LONGEST_LINE then count_line b (size_with x) (line_by cores (cut x.0))
    else Err 2) else Err 1

-- all lines, or the number of the first that breaks a rule and the rule; number is that of the next line
abbrev pub with_front : Line → Result (List Line) (ℕ × ℕ) → Result (List Line) (ℕ × ℕ)
with_front x (Ok xs) = Ok (x ∷ xs)
with_front x (Err e) = Err e

abbrev pub lines_from : ℕ → ℕ → Before → List (List ℕ × Bool) → Result (List Line) (ℕ × ℕ)
lines_from cores number b [] = Ok []
lines_from cores number b (x ∷ xs) =
    elim (line_at cores b x) [
      | Ok y ↦ with_front y.0 (lines_from cores (number + 1) y.1 xs)
      | Err rule ↦ Err (number, rule)
    ]

unfoldable pub input_of : ℕ → List ℕ → Result (List Line) (ℕ × ℕ)
input_of cores bytes = lines_from cores 1 (record { bytes = 0; requests = 0; turns = 0 })
    (lines_of bytes)

abbrev pub request_in : Line → Option Request
request_in (Ask q) = Some q
request_in (Go core turns) = None

-- the trace of an input; none where it breaks a rule
abbrev pub trace_in : Result (List Line) (ℕ × ℕ) → List Request
trace_in (Ok lines) = filter_map request_in lines
trace_in (Err e) = []

abbrev pub trace_of : ℕ → List ℕ → List Request
trace_of cores bytes = trace_in (input_of cores bytes)
