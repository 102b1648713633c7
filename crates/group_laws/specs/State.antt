-- The state of a group. Each field of a member's view is a function of the member; what a view has by key is a function of the key alone, since each key has one owner.
use Rattle.std.specs.Prelude.{ℕ, Bool, true, false, List, length, Option, Some, None}
use Rattle.log_entry.specs.declared.entry.Entry.{Entry}
use Rattle.log_entry.specs.declared.entry.EntryName.{EntryName}
use Rattle.log_entry.specs.Spelling.{words_of}
use Rattle.group_laws.specs.declared.types.Slot.{Slot}
use Rattle.group_laws.specs.declared.types.Slot.TheVariants.{Empty, Posted, Taken, Done, Failed}
use Rattle.group_laws.specs.declared.types.Pending.{Pending}
use Rattle.group_laws.specs.declared.types.Block.{Block}
use Rattle.group_laws.specs.declared.types.Seen.{Seen}
use Rattle.group_laws.specs.declared.types.SlotWord.{SlotWord}
use Rattle.group_laws.specs.declared.types.SlotWord.TheVariants as words
use Rattle.group_laws.specs.Places.{Place}

-- what the word of a slot tells
abbrev pub word_shown : Slot → SlotWord
word_shown Empty = words.Empty
word_shown (Posted e) = words.Posted (length (words_of e))
word_shown Taken = words.Taken
word_shown (Done e h) = words.Done h
word_shown (Failed e) = words.Failed

-- what one member tells another: which entries in the other's log are dead, and which of the other's keys' entries vanished from the own log
pub record Notices : Type 0 where
  pub dead : List EntryName
  pub gone : List EntryName

abbrev pub is_full : Option Notices → Bool
is_full None = false
is_full (Some n) = true

pub record Group : Type 0 where
  -- where the group stands; no step changes it
  pub place : Place
  -- The shared words: who holds the lock; the slots, by member and number; the mailboxes, by sender and receiver.
  pub holder : Option ℕ
  pub slot : ℕ → ℕ → Slot
  pub mail : ℕ → ℕ → Option Notices
  -- What a member has as a writer of its log: the entries that are certain there; those that it took and did not commit; the changes that it took and did not give back, by their owner and slot; whether a write failed; whether it holds the lock.
  pub kept : ℕ → List Entry
  pub flying : ℕ → List Entry
  pub taken : ℕ → ℕ → ℕ → Option Entry
  pub broken : ℕ → Bool
  pub holds : ℕ → Bool
  -- what it loaded since its last other step
  pub looked : ℕ → List Seen
  -- What the owner of a key has of it: the version of the last finished change, 0 where there is none; the cell; the posted change that isn't finished; the versions that may stand in a log, each with its home; those whose death it told.
  pub last : ℕ → ℕ
  pub cell : ℕ → Option (List ℕ)
  pub pending : ℕ → Option Pending
  pub present : ℕ → ℕ → Option ℕ
  pub told : ℕ → ℕ → Bool
  -- What a member has of the names in its log, by key and version: those told dead; those of them that may vanish; those that vanished and aren't yet reported to their owner. And what it last sent to each other member.
  pub dead : ℕ → ℕ → ℕ → Bool
  pub doomed : ℕ → ℕ → ℕ → Bool
  pub leaving : ℕ → ℕ → ℕ → Bool
  pub mailed : ℕ → ℕ → Notices
  -- the blocks of its part that must hold a value, by pointer
  pub blocks : ℕ → ℕ → Option Block
  -- all entries that it posted, and all that it took, since the opening
  pub posted : ℕ → List Entry
  pub took : ℕ → List Entry
