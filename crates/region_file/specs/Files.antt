-- What a region in a file and its pieces say of themselves: nothing of their contents.
use Rattle.std.specs.Prelude.{◌≡◌, ◌⊎◌, ℕ, ◌+◌, ◌/◌, ◌≤◌, ◌<◌, length, slice_index, slice_index_or, Bool, true, false, if◌then◌else◌, [], ◌∷◌, List, Option, IsSome, IfSome}
use Rattle.std.specs.declared.fs.File.{File}
use Rattle.std.specs.declared.io.traits.Read as Read
use Rattle.std.specs.declared.io.traits.Write as Write
use Rattle.std.specs.declared.io.traits.Seek as Seek
use Rattle.pm_region.specs.declared.region_sizes.TheConstants.{LINE_WORDS}
use Rattle.pm_region.specs.Cell.{certain}
use Rattle.pm_region.specs.State.{State, Frame}
use Rattle.pm_region.specs.Split.{words_in}
use Rattle.region_file.specs.Calls.{measured, opened}
use Rattle.region_file.specs.Filed.{IsPart, IsOpened, IsMade, word_of, flushes}
use Rattle.region_file.specs.declared.device.Device.{Device}
use Rattle.region_file.specs.declared.file_words.FileWords.{FileWords}
use Rattle.region_file.specs.declared.file_piece.FilePiece.{FilePiece}
use Rattle.region_file.specs.declared.file.FileRegion.{FileRegion}

abbrev pub silent_state : Frame → ℕ → ℕ → State
silent_state frame stamp faults = record {
  frame = frame;
  stamp = stamp;
  faults = faults;
  told =
      λ t. false;
  cells = λ t w. certain 0;
}

abbrev pub file_piece_state : FilePiece → State
file_piece_state p = silent_state
    (record {
      first = p.first;
      words = words_in p.words.size;
      since = p.since;
      parted = false;
      cuts = [];
      bytes = 0;
      refusals = 0;
      opens = 0;
      validations = 0;
    }) p.stamp p.faults

abbrev pub file_frame : ℕ → Bool → List ℕ → ℕ → ℕ → ℕ → ℕ → Frame
file_frame size parted cuts since refusals opens validations = record {
  first = 0;
  words = if parted then 0 else words_in size;
  since = since;
  parted = parted;
  cuts = cuts;
  bytes = size;
  refusals = refusals;
  opens = opens;
  validations = validations;
}

abbrev pub file_state : {R F : Type 0} {reads : Read.Ghosts File} {writes : Write.Ghosts File}
    {seeks : Seek.Ghosts File} {lists : Read.Ghosts F} → FileRegion R F reads writes seeks lists
    → State
file_state r = silent_state (file_frame r.words.size r.parted r.cuts.items r.since r.refusals
    r.opens r.validations) r.stamp r.faults

-- The piece from one cut to the next of these words, at this stamp and count. It has opened the file of this name for
-- itself, whose length was that of the words.
pub record IsFilePart (path : List ℕ) (w : FileWords) (cuts : List ℕ) (stamp faults : ℕ) (i : ℕ)
    (p : FilePiece) : Type 0 where
  pub first : p.first ≡ slice_index cuts i
  pub words : IsPart w (slice_index cuts i) (slice_index cuts (i + 1)) p.words
  pub since : p.since ≡ stamp
  pub stamp_is : p.stamp ≡ stamp
  pub faults_are : p.faults ≡ faults
  pub size : p.size ≡ w.size
  pub calls : p.device.calls.made ≡ measured w.size ∷ opened path ∷ []

-- the first n parts between the cuts, at this stamp and count
pub record AreFileParts (path : List ℕ) (w : FileWords) (cuts : List ℕ) (stamp faults : ℕ)
    (pieces : List FilePiece) (n : ℕ) : Type 0 where
  pub count : length pieces ≡ n
  pub each : (i : ℕ) (p : FilePiece) → i < n
      → IsFilePart path w cuts stamp faults i (slice_index_or pieces i p)

-- where the words of a piece end
abbrev pub end_of : FilePiece → ℕ
end_of p = p.first + words_in p.words.size

-- the pieces lie one behind the other in so many words
pub record ArePlaced (words : ℕ) (pieces : List FilePiece) : Type 0 where
  pub within : (i : ℕ) (p : FilePiece) → i < length pieces → end_of (slice_index_or pieces i p)
      ≤ words
  pub apart : (j i : ℕ) (p : FilePiece) → j < i → i < length pieces
      → end_of (slice_index_or pieces j p) ≤ (slice_index_or pieces i p).first

-- the word is in none of the first n pieces
abbrev pub IsInNone : List FilePiece → ℕ → ℕ → Type 0
IsInNone pieces n k = (j : ℕ) (p : FilePiece) → j < n → (k < (slice_index_or pieces j p).first)
    ⊎ (end_of (slice_index_or pieces j p) ≤ k)

-- the words of the first n pieces came to their places, with what is flushed of them
pub record HaveTaken (old new : FileWords) (pieces : List FilePiece) (n : ℕ) : Type 0 where
  pub size : new.size ≡ old.size
  pub inner : (i : ℕ) (p : FilePiece) (k : ℕ) → i < n
      → k < words_in (slice_index_or pieces i p).words.size
      → word_of new ((slice_index_or pieces i p).first + k)
      ≡ word_of (slice_index_or pieces i p).words k
  pub outer : (k : ℕ) → IsInNone pieces n k → word_of new k ≡ word_of old k
  pub keeps : (line : ℕ) → flushes old line ≡ true → flushes new line ≡ true
  pub takes : (i : ℕ) (p : FilePiece) (line : ℕ) → i < n → flushes (slice_index_or pieces i p).words
      line ≡ true
      → flushes new ((slice_index_or pieces i p).first / LINE_WORDS + line) ≡ true

-- the file of this name was opened, and these are its words
abbrev pub HasOpened : List ℕ → Option Device → FileWords → Type 0
HasOpened path found w = IfSome found (λ d. IsOpened path d w) × IsSome found

-- the file of this name was made, with so many zero words
abbrev pub HasMade : List ℕ → ℕ → Option Device → FileWords → Type 0
HasMade path count found w = IfSome found (λ d. IsMade path count d w) × IsSome found
