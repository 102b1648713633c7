-- How what the reading of a line or an input answers stands to what is read.
use Rattle.std.specs.Prelude.{◌≡◌, ℕ, ◌^◌, nat_lt, Bool, true, false, Option, Some, None, Result, Ok, Err, if◌then◌else◌}
use Rattle.fs_text.specs.declared.parsing.LineError.{LineError}
use Rattle.fs_text.specs.declared.parsing.LineError.TheVariants as lines
use Rattle.fs_text.specs.declared.read_source.ReadError.{ReadError}
use Rattle.fs_text.specs.declared.read_source.ReadError.TheVariants as reads
use Rattle.fs_text.specs.declared.input.InputError.{InputError}
use Rattle.fs_text.specs.declared.input.InputError.TheVariants as inputs

-- the number, where it fits 64 bits
abbrev pub fitting : Option ℕ → Option ℕ
fitting None = None
fitting (Some n) = if nat_lt n (2 ^ 64) then Some n else None

-- The answer is what the rules say of the line, unless memory ran out.
abbrev pub Says : {A : Type 0} → Result A LineError → Result A ℕ → Type 0
Says (Ok x) said = said ≡ Ok x
Says (Err (lines.Broken rule)) said = said ≡ Err rule
Says (Err lines.Memory) said = Unit {0}

-- a broken rule, beside the number of the line that breaks it
abbrev pub numbered : {A : Type 0} → ℕ → Result A ℕ → Result A (ℕ × ℕ)
numbered number (Ok x) = Ok x
numbered number (Err rule) = Err (number, rule)

-- The same of an input: its lines, or the first line that breaks a rule, and the rule. A fault says nothing of it.
abbrev pub Answers : {A : Type 0} → Result A InputError → Result A (ℕ × ℕ) → Type 0
Answers (Ok x) said = said ≡ Ok x
Answers (Err (inputs.BadInput line rule)) said = said ≡ Err (line, rule)
Answers (Err inputs.SourceFault) said = Unit {0}
Answers (Err inputs.Memory) said = Unit {0}

-- whether it says something of the input
abbrev pub is_said : {A : Type 0} → Result A InputError → Bool
is_said (Ok x) = true
is_said (Err (inputs.BadInput line rule)) = true
is_said (Err inputs.SourceFault) = false
is_said (Err inputs.Memory) = false

abbrev pub as_input_error : ReadError → InputError
as_input_error reads.SourceFault = inputs.SourceFault
as_input_error reads.Memory = inputs.Memory
