-- What a call finds in a state, or that it finds nothing.
use Rattle.std.specs.Prelude.{ℕ, List, Option, Some, None}
use Rattle.log_entry.specs.declared.entry.Body.{Body}
use Rattle.log_entry.specs.declared.entry.Body.TheVariants.{Pointer, Embedded, Tombstone}
use Rattle.log_entry.specs.declared.entry.Entry.{Entry}
use Rattle.group_laws.specs.declared.types.Block.{Block}
use Rattle.group_laws.specs.declared.types.Slot.{Slot}
use Rattle.group_laws.specs.declared.types.Slot.TheVariants.{Empty, Posted, Taken, Done, Failed}
use Rattle.group_laws.specs.Steps.{bytes_of}

-- the entry of a slot that is Posted
abbrev pub posted_in : Slot → Option Entry
posted_in Empty = None
posted_in (Posted e) = Some e
posted_in Taken = None
posted_in (Done e h) = None
posted_in (Failed e) = None

-- the entry of a slot that is Done, and its home
abbrev pub done_in : Slot → Option (Entry × ℕ)
done_in Empty = None
done_in (Posted e) = None
done_in Taken = None
done_in (Done e h) = Some (e, h)
done_in (Failed e) = None

-- the entry of a slot that is Failed
abbrev pub failed_in : Slot → Option Entry
failed_in Empty = None
failed_in (Posted e) = None
failed_in Taken = None
failed_in (Done e h) = None
failed_in (Failed e) = Some e

-- the cell that a body leaves, by these blocks
abbrev pub left_in : (ℕ → Option Block) → Body → Option (List ℕ)
left_in blocks (Pointer p) = bytes_of (blocks p)
left_in blocks (Embedded v) = Some v
left_in blocks Tombstone = None
