-- What an image says, by the definitions of soundness and of recovery.
use Rattle.std.specs.Prelude.{◌≡◌, ℕ, List, length, slice_index, Some, None}
use Rattle.pm_region.specs.Bytes.{AreWords}
use Rattle.pm_region.specs.Split.{words_in}
use Rattle.chunk_map.specs.Layouts.{layout_of}
use Rattle.store_image.specs.Soundness.{first_fault}
use Rattle.store_image.specs.Winners.{recovered}
use Rattle.store_image.specs.Listing.{ListsCells}
use Rattle.image_reader.specs.declared.image_reading.ImageContents.{ImageContents}
use Rattle.image_reader.specs.declared.image_reading.ImageContents.TheVariants.{Faulty, Sound}

-- a fault is the first of the image, and pairs are the cells of an image that has none
abbrev pub ShowsWords : ImageContents → ℕ → (ℕ → ℕ) → Type 0
ShowsWords (Faulty fault) bytes image = first_fault bytes image ≡ Some fault
ShowsWords (Sound pairs) bytes image = (first_fault bytes image ≡ None)
    × ListsCells (recovered (layout_of image) image) pairs.items

-- the same of bytes: the image has their words
abbrev pub ShowsBytes : ImageContents → List ℕ → Type 0
ShowsBytes found bytes = (words : List ℕ) × AreWords bytes words (words_in (length bytes))
    × ShowsWords found (length bytes) (λ w. slice_index words w)
