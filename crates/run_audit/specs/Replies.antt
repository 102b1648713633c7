-- The replies of an audit's input: the texts that its lines may have, and the rules for them.
use Rattle.std.specs.Prelude.{◌≡◌, ℕ, ◌+◌, nat_le, List, [], ◌∷◌, length, take, drop, Bool, Option, Some, None, Result, Ok, Err, if◌then◌else◌, bytes_eq, codes}
use Rattle.std.specs.List.{filter_map, sum_by}
use Rattle.fs_model.specs.declared.model.Request.{Request}
use Rattle.fs_model.specs.declared.model.Reply.{Reply}
use Rattle.fs_model.specs.declared.model.Reply.TheVariants.{Stored, Value, Absent, Deleted, Full, VersionsSpent, TooLong, Stopped}
use Rattle.fs_text.specs.declared.input_limits.TheConstants.{LONGEST_LINE, MOST_INPUT_BYTES, MOST_READ}
use Rattle.fs_text.specs.declared.line.Line.{Line}
use Rattle.fs_text.specs.Input.{lines_of, lines_from, size_with, request_in}
use Rattle.fs_text.specs.Output.{reply_line}
use Rattle.run_audit.specs.declared.reply_lines.TheConstants.{MOST_REPLIES}

-- the reply whose text this is
abbrev pub value_of : List ℕ → Option Reply
value_of text = if bytes_eq (take 6 text) (codes "value ") then Some (Value (drop 6 text)) else None

abbrev pub reply_of : List ℕ → Option Reply
reply_of text =
    if bytes_eq text (codes "stored") then Some Stored
    else (if bytes_eq text (codes "absent") then Some Absent
    else (if bytes_eq text (codes "deleted") then Some Deleted
    else (if bytes_eq text (codes "full") then Some Full
    else (if bytes_eq text (codes "versions spent") then Some VersionsSpent
    else (if bytes_eq text (codes "too long") then Some TooLong
    else (if bytes_eq text (codes "stopped") then Some Stopped else value_of text))))))

-- The text is that of the reply, or of none.
abbrev pub IsTextOf : Option Reply → List ℕ → Type 0
IsTextOf (Some r) text = reply_line r ≡ text
IsTextOf None text = (r : Reply) → reply_line r ≡ text → ⊥

-- rule 32
abbrev pub known : Option Reply → Result Reply ℕ
known None = Err 32
known (Some r) = Ok r

-- Rules 1, 2, 33 and 32, of a line with so many bytes of the input up to and with it, and so many replies.
abbrev pub reply_at : ℕ → ℕ → List ℕ → Result Reply ℕ
reply_at bytes replies text =
    if nat_le bytes MOST_INPUT_BYTES then
    (if nat_le (length text) LONGEST_LINE then
    (if nat_le replies MOST_REPLIES then known (reply_of text)
    else Err 33) else Err 2) else Err 1

abbrev pub with_reply : Reply → Result (List Reply) (ℕ × ℕ) → Result (List Reply) (ℕ × ℕ)
with_reply r (Ok rs) = Ok (r ∷ rs)
with_reply r (Err e) = Err e

-- The replies of lines, or the number of the first that breaks a rule and the rule. The first has this number, and so
-- many bytes and replies stand before it.
abbrev pub replies_from : ℕ → ℕ → ℕ → List (List ℕ × Bool) → Result (List Reply) (ℕ × ℕ)
replies_from number bytes replies [] = Ok []
replies_from number bytes replies (x ∷ xs) =
    elim (reply_at (bytes + size_with x) (replies + 1) x.0) [
      | Ok r ↦ with_reply r (replies_from (number + 1) (bytes + size_with x) (replies + 1) xs)
      | Err rule ↦ Err (number, rule)
    ]

-- the lines before the first line `replies`, and those from it on
abbrev pub is_replies : List ℕ × Bool → Bool
is_replies x = bytes_eq x.0 (codes "replies")

abbrev pub before_replies : List (List ℕ × Bool) → List (List ℕ × Bool)
before_replies [] = []
before_replies (x ∷ xs) = if is_replies x then [] else x ∷ before_replies xs

abbrev pub from_replies : List (List ℕ × Bool) → List (List ℕ × Bool)
from_replies [] = []
from_replies (x ∷ xs) = if is_replies x then x ∷ xs else from_replies xs

-- Rule 31, and the rules for the lines from `replies` on, behind those of a trace.
abbrev pub replies_behind : List (List ℕ × Bool) → List (List ℕ × Bool)
    → Result (List Reply) (ℕ × ℕ)
replies_behind front [] = Err (length front + 1, 31)
replies_behind front (x ∷ xs) =
    if nat_le (sum_by size_with front + size_with x) MOST_INPUT_BYTES
    then replies_from (length front + 2) (sum_by size_with front + size_with x) 0 xs
    else Err (length front + 1, 1)

abbrev pub beside : List Request → Result (List Reply) (ℕ × ℕ)
    → Result (List Request × List Reply) (ℕ × ℕ)
beside trace (Ok rs) = Ok (trace, rs)
beside trace (Err e) = Err e

-- The trace's lines keep the rules of an input, and go before those of the replies.
abbrev pub traced : Result (List Line) (ℕ × ℕ) → Result (List Reply) (ℕ × ℕ)
    → Result (List Request × List Reply) (ℕ × ℕ)
traced (Ok lines) replies = beside (filter_map request_in lines) replies
traced (Err e) replies = Err e

abbrev pub audit_lines : ℕ → List (List ℕ × Bool) → Result (List Request × List Reply) (ℕ × ℕ)
audit_lines cores lines =
    let front = before_replies lines in
    traced (lines_from cores 1 (record { bytes = 0; requests = 0; turns = 0 }) front)
    (replies_behind front (from_replies lines))

-- The trace and the replies of an input, of which no more is read than one byte past those that it may have.
unfoldable pub audit_input_of : ℕ → List ℕ → Result (List Request × List Reply) (ℕ × ℕ)
audit_input_of cores bytes = audit_lines cores (lines_of (take MOST_READ bytes))
