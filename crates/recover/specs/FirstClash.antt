-- The first entry that contradicts one in front of it.
use Rattle.std.specs.Prelude.{◌≡◌, ℕ, ◌<◌, ◌≤◌, nat_lt, List, Option, Some, None, true, false, if◌then◌else◌}
use Rattle.chunk_map.specs.declared.layouts.Geometry.{Geometry}
use Rattle.store_image.specs.Facts.{In, Agree}
use Rattle.store_image.specs.Soundness.{contradicts}
use Rattle.recover.specs.declared.found_entries.Found.{Found}
use Rattle.recover.specs.FoundEntries.{placed_at, entries_at}

-- the lower of two words, where there is a first one
abbrev pub lower : Option ℕ → ℕ → ℕ
lower None w = w
lower (Some v) w = if nat_lt v w then v else w

-- An entry that begins at this word contradicts one in front of it, and of those in front no two contradict each other.
pub record IsFirstClash (l : Geometry) (image : ℕ → ℕ) (fs : List Found) (w : ℕ) : Type 0 where
  pub clash : Found
  pub there : In clash fs
  pub word : clash.at ≡ w
  pub other : Found
  pub other_there : In other fs
  pub in_front : other.at ≤ w
  pub contradict : contradicts (placed_at l image clash) (placed_at l image other) ≡ true
  pub none_before : (f g : Found) → In f fs → In g fs → f.at < w → g.at < w
      → contradicts (placed_at l image f) (placed_at l image g) ≡ false

-- the word of the first one; without one all agree
abbrev pub IsFirst : Geometry → (ℕ → ℕ) → List Found → Option ℕ → Type 0
IsFirst l image fs None = Agree (entries_at l image fs)
IsFirst l image fs (Some w) = IsFirstClash l image fs w
