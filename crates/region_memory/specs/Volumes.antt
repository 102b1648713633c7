-- What a volume says, whatever its counts.
use Rattle.std.specs.Prelude.{◌&&◌, ℕ, ◌≤◌, not, Bool, false, if◌then◌else◌, [], List, length, slice_index}
use Rattle.pm_region.specs.Cell.{Cell}
use Rattle.pm_region.specs.State.{State, Frame, Goes}
use Rattle.pm_region.specs.Split.{Attached, Stays, Parted, CameFrom, TakesPiece, Joined, ComesNext}
use Rattle.region_memory.specs.Moves.{history_state}
use Rattle.region_memory.specs.declared.history.History.{History}
use Rattle.region_memory.specs.declared.volume.Volume.{Volume}

-- the words that a caller may use
abbrev pub words_open : History → Bool → Bool → ℕ
words_open h attached parted = if attached && not parted then length h.words.items else 0

-- the frame and the state, from the parts of a volume, with o opens, a answers of `revalidate`, r refusals and n faults
abbrev pub frame_of : History → Bool → Bool → List ℕ → ℕ → ℕ → ℕ → ℕ → Frame
frame_of h attached parted cuts bytes o a r = record {
  first = 0;
  words = words_open h attached parted;
  since = h.journal.since;
  parted = parted;
  cuts = cuts;
  bytes = bytes;
  refusals = r;
  opens = o;
  validations = a;
}

abbrev pub state_with : History → Bool → Bool → List ℕ → ℕ → ℕ → ℕ → ℕ → ℕ → State
state_with h attached parted cuts bytes o a r n = history_state
    (frame_of h attached parted cuts bytes o a r) n h

abbrev pub volume_words : Volume → ℕ
volume_words v = words_open v.history v.attached v.parted

abbrev pub volume_state : Volume → ℕ → ℕ → State
volume_state v r n = state_with v.history v.attached v.parted v.cuts.items v.bytes v.opens v.validations r
    n

-- the words that an attach finds
abbrev pub found_in : Volume → ℕ → ℕ
found_in v w = slice_index v.history.words.items w

-- the last stamp that it may tell
abbrev pub limit_of : Volume → ℕ
limit_of v = v.history.journal.limit

-- A piece that isn't parted; its last fields say nothing.
abbrev pub part_frame : History → Frame
part_frame h = record {
  first = h.first;
  words = length h.words.items;
  since = h.journal.since;
  parted = false;
  cuts = [];
  bytes = 0;
  refusals = 0;
  opens = 0;
  validations = 0;
}

abbrev pub part_state : History → ℕ → State
part_state h n = history_state (part_frame h) n h

abbrev pub VolumeMoves : Volume → Volume → (ℕ → Cell → Cell) → Type 0
VolumeMoves old new change = (r n n' : ℕ) → n ≤ n'
    → Goes (volume_state old r n) (volume_state new r n') change

abbrev pub VolumeAttached : Volume → Volume → ℕ → (ℕ → ℕ) → Type 0
VolumeAttached old new bytes image = (r n r' n' : ℕ)
    → Attached (volume_state old r n) (volume_state new r' n') bytes image

abbrev pub VolumeStays : Volume → Volume → Type 0
VolumeStays old new = (r n r' n' : ℕ) → Stays (volume_state old r n) (volume_state new r' n')

abbrev pub VolumeParted : Volume → Volume → List ℕ → Type 0
VolumeParted old new cuts = (r n : ℕ) → Parted (volume_state old r n) (volume_state new r n) cuts

abbrev pub CamePart : Volume → ℕ → History → Type 0
CamePart v i part = CameFrom (volume_state v 0 0) i (part_state part 0)

abbrev pub TakesPart : Volume → History → Type 0
TakesPart new part = (r n m : ℕ) → m ≤ n → TakesPiece (volume_state new r n) (part_state part m)

abbrev pub VolumeJoined : Volume → Volume → Type 0
VolumeJoined old new = (r n n' : ℕ) → n ≤ n' → Joined (volume_state old r n) (volume_state new r n')

-- whatever the counts, those of the pieces too
abbrev pub ComesAfter : {P : Type 0} → (P → History) → Volume → Volume → List P → Type 0
ComesAfter {P = P} part old new pieces = (r n r' n' : ℕ) (m : P → ℕ)
    → ComesNext (λ p. part_state (part p) (m p)) (volume_state old r n) (volume_state new r' n')
    pieces
