-- What an input has to keep so that none of its requests is refused.
use Rattle.std.specs.Prelude.{◌≡◌, ℕ, ◌+◌, ◌<◌, ◌==◌, nat_lt, List, ◌∷◌, ◌++◌, length, Bool, false, Option, Some, None, slice_get, option_map, count_by}
use Rattle.std.specs.List.{AllByRecursion}
use Rattle.fs_model.specs.declared.model.Request.{Request}
use Rattle.fs_model.specs.declared.model.Request.TheVariants.{Put, Get, Delete}
use Rattle.fs_model.specs.Cells.{key_of}
use Rattle.log_entry.specs.declared.entry_limits.TheConstants.{LAST_PUT_VERSION}
use Rattle.chunk_map.specs.declared.layouts.Geometry.{Geometry}
use Rattle.chunk_map.specs.Layouts.{layout_of, longest_value}
use Rattle.store_image.specs.declared.types.PlacedEntry.{PlacedEntry}
use Rattle.store_image.specs.Winners.{winner}
use Rattle.headline.specs.Ample.{IsAmple}

-- the request with this number is one of this key
abbrev pub IsAsked : List Request → ℕ → ℕ → Type 0
IsAsked trace n k = option_map key_of (slice_get trace n) ≡ Some k

-- the version of a key's newest entry, 0 where there is none
abbrev pub version_in : Option PlacedEntry → ℕ
version_in None = 0
version_in (Some x) = x.entry.version

abbrev pub version_of : (ℕ → ℕ) → ℕ → ℕ
version_of image k = version_in (winner (layout_of image) image k)

-- how many of these requests may give the key a new version
abbrev pub may_change : ℕ → Request → Bool
may_change j (Put k v) = k == j
may_change j (Get k) = false
may_change j (Delete k) = k == j

abbrev pub changes_asked : ℕ → List Request → ℕ
changes_asked k trace = count_by (may_change k) trace

-- the versions are not used up before any put
abbrev pub HasVersions : (ℕ → ℕ) → List Request → Type 0
HasVersions image trace = (front rest : List Request) (k : ℕ) (v : List ℕ)
    → trace ≡ front ++ Put k v ∷ rest → version_of image k + changes_asked k front
    < LAST_PUT_VERSION

abbrev pub is_too_long : Geometry → Request → Bool
is_too_long l (Put k v) = nat_lt (longest_value l) (length v)
is_too_long l (Get k) = false
is_too_long l (Delete k) = false

-- there is room, there are versions, and a block holds each value
pub record IsWithinLimits (image : ℕ → ℕ) (trace : List Request) : Type 0 where
  pub room : IsAmple (layout_of image) image trace
  pub versions : HasVersions image trace
  pub lengths : AllByRecursion (λ q. is_too_long (layout_of image) q ≡ false) trace
