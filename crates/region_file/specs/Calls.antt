-- The calls of the system on an open file, as clauses see them, and what they leave in the file.
use Rattle.std.specs.Prelude.{◌≡◌, ◌⊎◌, ℕ, ◌+◌, ◌-◌, ◌==◌, nat_le, nat_lt, Bool, ◌&&◌, if◌then◌else◌, List, [], ◌∷◌, ◌++◌, length, slice_index}

pub data Call : Type 0 where
  -- the file was synced, so that what a read gives is on the disk
  settled : Call
  -- the file had so many bytes
  measured : ℕ → Call
  -- a read from a place gave these bytes
  gave : ℕ → List ℕ → Call
  -- these bytes were written at a place
  wrote : ℕ → List ℕ → Call
  -- an empty file of this name was made, in place of one that had been given up
  emptied : List ℕ → Call
  -- what was written before is on the disk
  synced : Call
  -- the names in its folder are on the disk
  named : Call
  -- the file of this name was opened
  opened : List ℕ → Call
  -- this name still led to the file
  stood : List ℕ → Call
  -- the file took this name, in place of the one that had it
  placed : List ℕ → Call
  -- this name of the file was taken away
  removed : List ℕ → Call
  -- a call that changes no file was refused
  refused : Call
  -- a write, a sync or a rename failed: the write may have left any part of its bytes
  failed : Call

-- the call of this kind, from its numbers (the kind, and a place or a size) and bytes, which may be a name
abbrev pub call_of : List ℕ → List ℕ → Call
call_of numbers bytes =
    if slice_index numbers 0 == 0 then settled else
    if slice_index numbers 0 == 1 then measured (slice_index numbers 1) else
    if slice_index numbers 0 == 2 then gave (slice_index numbers 1) bytes else
    if slice_index numbers 0 == 3 then wrote (slice_index numbers 1) bytes else
    if slice_index numbers 0 == 4 then emptied bytes else
    if slice_index numbers 0 == 5 then synced else
    if slice_index numbers 0 == 6 then named else
    if slice_index numbers 0 == 7 then opened bytes else
    if slice_index numbers 0 == 8 then stood bytes else
    if slice_index numbers 0 == 9 then placed bytes else
    if slice_index numbers 0 == 10 then removed bytes else
    if slice_index numbers 0 == 11 then refused else failed

-- a write of n bytes at a place covers the byte
abbrev pub covers : ℕ → ℕ → ℕ → Bool
covers at n byte = nat_le at byte && nat_lt byte (at + n)

-- The byte of the file after these calls, of which the newest comes first, on a file that had the bytes `before`. What
-- a write that failed left isn't said.
abbrev pub byte_after : (ℕ → ℕ) → List Call → ℕ → ℕ
byte_after before [] byte = before byte
byte_after before (settled ∷ calls) byte = byte_after before calls byte
byte_after before (measured n ∷ calls) byte = byte_after before calls byte
byte_after before (gave at bytes ∷ calls) byte = byte_after before calls byte
byte_after before (wrote at bytes ∷ calls) byte = if covers at (length bytes) byte
    then slice_index bytes (byte - at) else byte_after before calls byte
byte_after before (emptied name ∷ calls) byte = 0
byte_after before (synced ∷ calls) byte = byte_after before calls byte
byte_after before (named ∷ calls) byte = byte_after before calls byte
byte_after before (opened name ∷ calls) byte = byte_after before calls byte
byte_after before (stood name ∷ calls) byte = byte_after before calls byte
byte_after before (placed name ∷ calls) byte = byte_after before calls byte
byte_after before (removed name ∷ calls) byte = byte_after before calls byte
byte_after before (refused ∷ calls) byte = byte_after before calls byte
byte_after before (failed ∷ calls) byte = byte_after before calls byte

-- all of them are writes
abbrev pub AreWrites : List Call → Type 0
AreWrites [] = Unit {0}
AreWrites (wrote at bytes ∷ calls) = AreWrites calls
AreWrites (_ ∷ calls) = ⊥

-- from the one list to the other only writes were made
abbrev pub OnlyWrites : List Call → List Call → Type 0
OnlyWrites before after = (writes : List Call) × (after ≡ writes ++ before) × AreWrites writes

-- none of them changes a file or a name
abbrev pub AreReads : List Call → Type 0
AreReads [] = Unit {0}
AreReads (settled ∷ calls) = AreReads calls
AreReads (measured n ∷ calls) = AreReads calls
AreReads (gave at bytes ∷ calls) = AreReads calls
AreReads (opened name ∷ calls) = AreReads calls
AreReads (stood name ∷ calls) = AreReads calls
AreReads (refused ∷ calls) = AreReads calls
AreReads (_ ∷ calls) = ⊥

-- from the one list to the other nothing was changed
abbrev pub OnlyReads : List Call → List Call → Type 0
OnlyReads before after = (reads : List Call) × (after ≡ reads ++ before) × AreReads reads

-- a first part of these calls
abbrev pub IsStartOf : List Call → List Call → Type 0
IsStartOf [] made = made ≡ []
IsStartOf (call ∷ calls) made = (made ≡ call ∷ calls) ⊎ IsStartOf calls made
