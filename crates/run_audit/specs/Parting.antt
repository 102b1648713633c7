-- The parts of an audit's input, and what its reading answers.
use Rattle.std.specs.Prelude.{◌≡◌, ℕ, ◌+◌, ◌≤◌, List, [], ◌∷◌, ◌++◌, length, true, false, Result, Ok, Err, codes}
use Rattle.std.specs.Global.{Vec}
use Rattle.std.specs.List.{AllByRecursion}
use Rattle.fs_model.specs.declared.model.Request.{Request}
use Rattle.fs_model.specs.declared.model.Reply.{Reply}
use Rattle.fs_text.specs.declared.input.InputError.{InputError}
use Rattle.fs_text.specs.declared.input_limits.TheConstants.{LONGEST_LINE, MOST_INPUT_BYTES}
use Rattle.fs_text.specs.declared.line.Line.{Line}
use Rattle.fs_text.specs.Input.{lines_of, input_of}
use Rattle.fs_text.specs.Output.{ended, reply_line, replies_text}
use Rattle.run_audit.specs.declared.parted_line.PartedLine.{PartedLine}
use Rattle.run_audit.specs.declared.parting.Parts.{Parts}
use Rattle.run_audit.specs.declared.audit_input.AuditInput.{AuditInput}
use Rattle.run_audit.specs.declared.reply_lines.TheConstants.{MOST_REPLIES}
use Rattle.run_audit.specs.Replies.{before_replies, from_replies}

-- no newline byte
abbrev pub HasNoNewline : List ℕ → Type 0
HasNoNewline bytes = AllByRecursion (λ b. b ≡ 10 → ⊥) bytes

-- A text that isn't empty is its first line and the rest.
pub record IsParted (bytes : List ℕ) (x : PartedLine) : Type 0 where
  pub lines : lines_of bytes ≡ (x.text.now, x.ended) ∷ lines_of x.rest.now
  pub line : x.ended ≡ true → bytes ≡ ended x.text.now ++ x.rest.now
  pub last : x.ended ≡ false → (bytes ≡ x.text.now) × (x.rest.now ≡ [])
  pub short : HasNoNewline x.text.now

-- The text is parted before its first line `replies`.
pub record IsPartedAtReplies (bytes : List ℕ) (x : Parts) : Type 0 where
  pub trace : lines_of x.trace.now ≡ before_replies (lines_of bytes)
  pub rest : lines_of x.rest.now ≡ from_replies (lines_of bytes)
  pub lines : x.lines ≡ length (lines_of x.trace.now)
  pub sizes : length x.trace.now + length x.rest.now ≡ length bytes

-- Replies whose texts can be read back behind so many bytes: none has a newline byte, and they keep the rules on
-- lengths and numbers.
abbrev pub IsWritable : Reply → Type 0
IsWritable r = HasNoNewline (reply_line r) × (length (reply_line r) ≤ LONGEST_LINE)

pub record AreWritable (bytes : ℕ) (rs : List Reply) : Type 0 where
  pub each : AllByRecursion IsWritable rs
  pub small : bytes + length (replies_text rs) ≤ MOST_INPUT_BYTES
  pub few : length rs ≤ MOST_REPLIES

-- An input that was written: the lines of a trace, each with its newline, then `replies`, then the texts of replies.
pub record IsWritten (cores : ℕ) (bytes : List ℕ) (lines : List Line) (rs : List Reply) : Type 0 where
  pub trace : List ℕ
  pub good : input_of cores trace ≡ Ok lines
  pub whole : (more : List ℕ) → lines_of (trace ++ more) ≡ lines_of trace ++ lines_of more
  pub all : bytes ≡ trace ++ (ended (codes "replies") ++ replies_text rs)
  pub writable : AreWritable (length trace + 8) rs

-- what was read, as lists
abbrev pub items_of : {A : Type 0} → Result (Vec A) InputError → Result (List A) InputError
items_of (Ok v) = Ok v.items
items_of (Err e) = Err e

abbrev pub listed : Result AuditInput InputError → Result (List Request × List Reply) InputError
listed (Ok a) = Ok (a.trace.items, a.replies.items)
listed (Err e) = Err e
