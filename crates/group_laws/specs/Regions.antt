-- All groups of a region together: what one image says of each, and what it then says of the region.
use Rattle.std.specs.Prelude.{◌≡◌, ℕ, ◌/◌, ◌<◌, ◌⊎◌}
use Rattle.chunk_map.specs.declared.layouts.Geometry.{Geometry}
use Rattle.chunk_map.specs.Layouts.{owner}
use Rattle.store_image.specs.Winners.{recovered}
use Rattle.group_laws.specs.Places.{Place}
use Rattle.group_laws.specs.State.{Group}
use Rattle.group_laws.specs.Crashes.{IsNext}
use Rattle.group_laws.specs.Images.{IsSafe}

-- how many groups a layout has, where each stands, and which one a key belongs to
abbrev pub groups_in : Geometry → ℕ
groups_in l = l.cores / l.group

abbrev pub place_at : Geometry → ℕ → Place
place_at l g = record { layout = l; group = g }

abbrev pub key_group : Geometry → ℕ → ℕ
key_group l k = owner l k / l.group

-- each group of the layout stands at its place, and the image is safe for it
pub record AreSafe (l : Geometry) (w : ℕ → Group) (image : ℕ → ℕ) : Type 0 where
  pub place : (g : ℕ) → g < groups_in l → (w g).place ≡ place_at l g
  pub safe : (g : ℕ) → g < groups_in l → IsSafe (w g) (λ h. image)

-- the image recovers the key's cell as its group has it, or as the key's pending change leaves it
abbrev pub ShowsCell : Geometry → (ℕ → Group) → (ℕ → ℕ) → ℕ → Type 0
ShowsCell l w image k = (recovered l image k ≡ (w (key_group l k)).cell k)
    ⊎ IsNext (w (key_group l k)) k (recovered l image k)
