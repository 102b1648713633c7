-- What the calls of the words of a file do, and which calls of the system they make.
use Rattle.std.specs.Prelude.{◌≡◌, ◌≢◌, ◌⊎◌, ℕ, ◌+◌, ◌-◌, ◌*◌, ◌/◌, ◌≤◌, ◌<◌, true, false, Bool, List, [], ◌∷◌, ◌++◌, codes, replicate, length, slice_index, Option, Some, None}
use Rattle.pm_region.specs.declared.region_sizes.TheConstants.{LINE_BYTES, LINE_WORDS, WORD_BYTES}
use Rattle.pm_region.specs.Bytes.{word_at}
use Rattle.pm_region.specs.Split.{words_in}
use Rattle.region_file.specs.Lines.{has_line, Adds}
use Rattle.region_file.specs.Calls.{Call, settled, measured, wrote, emptied, synced, named, opened, stood, placed, removed, refused, failed, byte_after, OnlyWrites, OnlyReads, IsStartOf}
use Rattle.region_file.specs.LineRuns.{AreCutShort}
use Rattle.region_file.specs.Reads.{pages_in, reads_of}
use Rattle.region_file.specs.declared.device.Device.{Device}
use Rattle.region_file.specs.declared.file_words.FileWords.{FileWords}

-- the word at a place
abbrev pub word_of : FileWords → ℕ → ℕ
word_of w k = word_at w.bytes.items k

-- the next fence writes the line at this place, which is counted from the first of these words
abbrev pub flushes : FileWords → ℕ → Bool
flushes w line = has_line w.flushed line

-- the calls on a file, none where there is no file
abbrev pub calls_on : Option Device → List Call
calls_on (Some d) = d.calls.made
calls_on None = []

pub record IsStored (old new : FileWords) (place value : ℕ) : Type 0 where
  pub size : new.size ≡ old.size
  pub flushed : new.flushed ≡ old.flushed
  pub this : word_of new place ≡ value
  pub others : (k : ℕ) → k ≢ place → word_of new k ≡ word_of old k

pub record IsFlushed (old new : FileWords) (line : ℕ) : Type 0 where
  pub size : new.size ≡ old.size
  pub bytes : new.bytes ≡ old.bytes
  pub flushed : Adds old.flushed new.flushed line

-- the words stay, and what is flushed of them
pub record IsKept (old new : FileWords) : Type 0 where
  pub size : new.size ≡ old.size
  pub bytes : new.bytes ≡ old.bytes
  pub flushed : (line : ℕ) → flushes new line ≡ flushes old line

-- the byte of the file is in none of the flushed lines of these words, which begin at the byte `start`
abbrev pub IsBeside : FileWords → ℕ → ℕ → Type 0
IsBeside w start byte = (line : ℕ) → flushes w line ≡ true → (byte < start + LINE_BYTES * line)
    ⊎ (start + LINE_BYTES * line + LINE_BYTES ≤ byte)

-- From some calls to others, the flushed lines of these words were written: only writes were made. Each byte of those
-- lines has its place, and no other byte of the file changed.
pub record IsWritten (w : FileWords) (start : ℕ) (before after : List Call) : Type 0 where
  pub writes : OnlyWrites before after
  pub lines : (disk : ℕ → ℕ) (line byte : ℕ) → flushes w line ≡ true → byte < LINE_BYTES
      → byte_after disk after (start + (LINE_BYTES * line + byte)) ≡ slice_index w.bytes.items
      (LINE_BYTES * line + byte)
  pub others : (disk : ℕ → ℕ) (byte : ℕ) → IsBeside w start byte → byte_after disk after byte
      ≡ byte_after disk before byte

-- a fence wrote the flushed lines, synced the file, and nothing is flushed any more
pub record IsFenced (old new : FileWords) (start : ℕ) (before after : List Call) : Type 0 where
  pub size : new.size ≡ old.size
  pub bytes : new.bytes ≡ old.bytes
  pub none : (line : ℕ) → flushes new line ≡ false
  pub writes : List Call
  pub written : IsWritten old start before writes
  pub synced_last : after ≡ synced ∷ writes

-- before a fence of the region in a file of this name writes, the name leads to the file and the file has so many bytes
abbrev pub looked : List ℕ → ℕ → List Call → List Call
looked path size before = measured size ∷ stood path ∷ before

-- A fence that failed at a call on the file: the first flushed lines were written, in the order in which they stand in
-- the list, and then that call failed. No call followed it.
abbrev pub IsCutShort : FileWords → ℕ → List Call → List Call → Type 0
IsCutShort w start before after =
    AreCutShort start w.flushed.lines.items w.bytes.items before after

-- a fence that failed changed nothing, or had looked first and was cut short
abbrev pub IsNotFenced : FileWords → ℕ → List Call → List Call → List Call → Type 0
IsNotFenced w start before looks after = OnlyReads before after ⊎ IsCutShort w start looks after

-- nothing was flushed and no call made, or a fence was made in the file of this name
abbrev pub IsSettled : List ℕ → FileWords → FileWords → List Call → List Call → Type 0
IsSettled path old new before after = (((line : ℕ) → flushes old line ≡ false)
    × (after ≡ before)) ⊎ IsFenced old new 0 (looked path old.size before) after

-- what a split that was refused wrote: what is flushed, or a part of it where the fence failed
pub record IsNotSplit (path : List ℕ) (old new : FileWords) (before after : List Call) : Type 0 where
  pub ways : IsSettled path old new before after
      ⊎ IsNotFenced new 0 before (looked path old.size before) after

-- the words from one place to another, with nothing flushed
pub record IsPart (w : FileWords) (from end : ℕ) (part : FileWords) : Type 0 where
  pub size : part.size ≡ WORD_BYTES * (end - from)
  pub words : (k : ℕ) → k < end - from → word_of part k ≡ word_of w (from + k)
  pub none : (line : ℕ) → flushes part line ≡ false

-- a part that begins at the place `first` was taken back, with what is flushed of it
pub record TakesPart (old new part : FileWords) (first : ℕ) : Type 0 where
  pub size : new.size ≡ old.size
  pub inner : (k : ℕ) → k < words_in part.size → word_of new (first + k) ≡ word_of part k
  pub outer : (k : ℕ) → (k < first) ⊎ (first + words_in part.size ≤ k)
      → word_of new k ≡ word_of old k
  pub keeps : (line : ℕ) → flushes old line ≡ true → flushes new line ≡ true
  pub takes : (line : ℕ) → flushes part line ≡ true → flushes new (first / LINE_WORDS + line) ≡ true

-- The file of this name was opened, settled, then measured, and then read page by page: these are its words, and nothing
-- is flushed.
pub record IsOpened (path : List ℕ) (device : Device) (w : FileWords) : Type 0 where
  pub calls : device.calls.made ≡ reads_of w.bytes.items (pages_in (length w.bytes.items))
      ++ measured w.size ∷ settled ∷ opened path ∷ []
  pub none : (line : ℕ) → flushes w line ≡ false

-- what was tried on the file of this name, where it wasn't opened: no file was changed
abbrev pub IsNotAttached : List ℕ → List Call → Type 0
IsNotAttached path made = (made ≡ refused ∷ []) ⊎ OnlyReads (opened path ∷ []) made

-- where a file is made before it takes this name
abbrev pub beside : List ℕ → List ℕ
beside path = path ++ codes ".unfinished"

-- an empty file was made beside the one of this name, so many zero words were written and synced
abbrev pub filling : List ℕ → ℕ → List Call
filling path count = synced ∷ wrote 0 (replicate (WORD_BYTES * count) 0) ∷ emptied (beside path) ∷ []

-- a file of so many zero words was made, took this name, and its folder was synced
pub record IsMade (path : List ℕ) (count : ℕ) (device : Device) (w : FileWords) : Type 0 where
  pub size : w.size ≡ WORD_BYTES * count
  pub zeros : w.bytes.items ≡ replicate (WORD_BYTES * count) 0
  pub calls : device.calls.made ≡ named ∷ placed path ∷ filling path count
  pub none : (line : ℕ) → flushes w line ≡ false

-- of a write of these bytes, a sync and a rename one failed, and no call followed it
abbrev pub HasStopped : List ℕ → List Call → List Call → Type 0
HasStopped bytes before after = (made : List Call) × (after ≡ failed ∷ made)
    × ((made ≡ before) ⊎ (made ≡ wrote 0 bytes ∷ before) ⊎ (made ≡ synced ∷ wrote 0 bytes ∷ before))

-- One of them failed, and the file's own name was taken away; or only the sync of the folder behind them failed.
abbrev pub HasFailed : List ℕ → List ℕ → List ℕ → List Call → List Call → Type 0
HasFailed path own bytes before after = ((stopped : List Call) × HasStopped bytes before stopped
    × (after ≡ removed own ∷ stopped)) ⊎ (after ≡ failed ∷ placed path ∷ synced ∷ wrote 0 bytes ∷ before)

-- Some call before the name was taken failed, and what was made beside the file of that name was taken away again.
pub record IsGivenUp (path : List ℕ) (count : ℕ) (made : List Call) : Type 0 where
  pub calls : List Call
  pub start : IsStartOf (filling path count) calls
  pub removed_last : made ≡ removed (beside path) ∷ failed ∷ calls

-- What was tried where no file was made. The file of that name is the old one and wasn't changed; or, where only the
-- last call failed, it is the new one, and its folder wasn't synced.
pub record IsNotMade (path : List ℕ) (count : ℕ) (made : List Call) : Type 0 where
  pub ways : (made ≡ []) ⊎ (made ≡ refused ∷ []) ⊎ IsGivenUp path count made
      ⊎ (made ≡ failed ∷ placed path ∷ filling path count)
