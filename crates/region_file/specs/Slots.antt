-- Which of the stored pages a page is.
use Rattle.std.specs.Prelude.{◌≡◌, ℕ, ◌+◌, ◌-◌, ◌*◌, ◌/◌, ◌%◌, ◌≤◌, ◌<◌, ◌==◌, if◌then◌else◌, List, length, slice_index}
use Rattle.std.specs.List.{sum_by}
use Rattle.pm_region.specs.declared.region_sizes.TheConstants.{WORD_BYTES}
use Rattle.pm_region.specs.Bytes.{word_at}
use Rattle.region_file.specs.declared.page_size.TheConstants.{PAGE, PAGE_WORDS}

-- Of the page with the byte at this place: which of the stored ones it is, counted from 1; 0 where it isn't stored.
abbrev pub slot_at : List ℕ → ℕ → ℕ
slot_at slots k = slice_index slots (k / PAGE)

-- the byte at this place, where its page is stored
abbrev pub page_byte : List ℕ → List ℕ → ℕ → ℕ
page_byte slots bytes k = slice_index bytes (PAGE * (slot_at slots k - 1) + k % PAGE)

-- one for a page that is stored
abbrev pub one_if : ℕ → ℕ
one_if slot = if slot == 0 then 0 else 1

-- The stored pages stand one behind the other, each once.
pub record ArePages (slots bytes : List ℕ) : Type 0 where
  pub count : length bytes ≡ PAGE * sum_by one_if slots
  pub within : (g : ℕ) → PAGE * slice_index slots g ≤ length bytes
  pub apart : (g h : ℕ) → 0 < slice_index slots g → slice_index slots g ≡ slice_index slots h → g ≡ h

-- this is the word at a place, whose page is stored
pub record IsStoredWord (slots bytes : List ℕ) (place word : ℕ) : Type 0 where
  pub stored : 0 < slot_at slots (WORD_BYTES * place)
  pub word_is : word ≡ word_at bytes (PAGE_WORDS * (slot_at slots (WORD_BYTES * place) - 1)
      + place % PAGE_WORDS)

-- the pages of the first n words stand at their own places
abbrev pub AreOrdered : List ℕ → ℕ → Type 0
AreOrdered slots n = (g : ℕ) → PAGE_WORDS * g < n → slice_index slots g ≡ g + 1
