-- What the number of a table's word says.
use Rattle.std.specs.Prelude.{◌≡◌, ℕ, ◌<◌, Option, Some, None}
use Rattle.group_laws.specs.declared.group_sizes.TheConstants.{SLOTS}
use Rattle.group_machine.specs.declared.machine.Word.{Word}
use Rattle.group_machine.specs.declared.machine.Word.TheVariants.{Slot, Mail}
use Rattle.group_board.specs.WordNumbers.{slot_word, mail_word}

-- the word with this number is that of a slot or a mailbox of n members, or of none
abbrev pub IsWordOf : ℕ → ℕ → Option Word → Type 0
IsWordOf n word (Some (Slot a s)) = (a < n) × (s < SLOTS) × (word ≡ slot_word n a s)
IsWordOf n word (Some (Mail a b)) = (a < n) × (b < n) × (word ≡ mail_word n a b)
IsWordOf n word None = ((a s : ℕ) → a < n → s < SLOTS → word ≡ slot_word n a s → ⊥)
    × ((a b : ℕ) → a < n → b < n → word ≡ mail_word n a b → ⊥)
