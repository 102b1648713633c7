-- How the words of a table are numbered.
use Rattle.std.specs.Prelude.{ℕ, ◌+◌, ◌*◌}
use Rattle.group_laws.specs.declared.group_sizes.TheConstants.{LOCK_WORDS, SLOTS}

-- The words of a table with n members, by number: the lock, a word of its own for each member, the members' slots, and a mailbox for each pair of members.
abbrev pub first_slot_word : ℕ → ℕ
first_slot_word n = LOCK_WORDS + n

abbrev pub slot_word : ℕ → ℕ → ℕ → ℕ
slot_word n a s = first_slot_word n + SLOTS * a + s

abbrev pub first_mail_word : ℕ → ℕ
first_mail_word n = LOCK_WORDS + (1 + SLOTS) * n

abbrev pub mail_word : ℕ → ℕ → ℕ → ℕ
mail_word n a b = first_mail_word n + n * a + b
