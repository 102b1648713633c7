-- How the plain data of a board agree with its journal.
use Rattle.std.specs.Prelude.{◌≡◌, ℕ, ◌+◌, ◌*◌, ◌<◌, List, get_or, Option, None, option_map}
use Rattle.atomic_table.specs.Seated.{TableId, table_id_coded}
use Rattle.std.specs.Coded.{Coded-set}
use mathlib.Core.Logic.{∥∥₁_map}
use Rattle.group_laws.specs.declared.types.Slot.{Slot}
use Rattle.group_laws.specs.declared.types.Slot.TheVariants.{Empty}
use Rattle.group_laws.specs.declared.group_sizes.TheConstants.{SLOTS}
use Rattle.group_board.specs.declared.slots.TheConstants.{ROW_LENGTH}
use Rattle.group_laws.specs.Places.{members}
use Rattle.group_laws.specs.Invariant.{Lawful}
use Rattle.group_board.specs.declared.names.Notices.{Notices}
use Rattle.group_board.specs.Mailing.{notices_of}
use Rattle.group_board.specs.declared.board_journal.BoardJournal.{BoardJournal}
use Rattle.group_board.specs.Journals.{names, state}
use Rattle.group_board.specs.Tidies.{Covers}

-- Slots stand in rows, one for each owner, and mailboxes in rows, one for each sender.
pub record IsKept (n : ℕ) (holder : Option ℕ) (slots : List Slot) (mail : List (Option Notices))
    (j : BoardJournal) : Type 0 where
  pub size : members (state j).place ≡ n
  pub holder_is : (state j).holder ≡ holder
  pub slots_are : (a s : ℕ) → a < n → s < SLOTS → (state j).slot a s
      ≡ get_or slots (ROW_LENGTH * a + s) Empty
  pub mail_is : (a b : ℕ) → a < n → b < n → (state j).mail a b
      ≡ option_map notices_of (get_or mail (ROW_LENGTH * a + b) None)
  pub covers : Covers (names j) (state j)
  pub lawful : Lawful (state j)

-- two proofs that two tables are the same are equal
pub TableId-set : (a b : TableId) → IsProp (a ≡ b)
TableId-set = Coded-set table_id_coded

-- the state that a board tells is lawful
pub kept_lawful : (n : ℕ) (holder : Option ℕ) (slots : List Slot) (mail : List (Option Notices))
    (j : BoardJournal) → ∥ IsKept n holder slots mail j ∥₁ → ∥ Lawful (state j) ∥₁
kept_lawful n holder slots mail j k = ∥∥₁_map k (λ o. o.lawful)
