-- What the cores of a region begin with, as recovery gives it.
use Rattle.std.specs.Prelude.{◌≡◌, ℕ, ◌*◌, true, List, Option, Some}
use Rattle.fs_model.specs.declared.model.Pair.{Pair}
use Rattle.pm_region.specs.State.{State, IsTelling}
use Rattle.pm_region.specs.Words.{lasts}
use Rattle.chunk_map.specs.declared.layout_sizes.TheConstants.{UNIT_WORDS}
use Rattle.chunk_map.specs.Layouts.{has_class}
use Rattle.store_image.specs.Listing.{ListsCells}
use Rattle.lazy_alloc.specs.Sets.{Sets, class_at}
use Rattle.recover.specs.declared.types.CoreStart.{CoreStart}
use Rattle.recover.specs.declared.types.Recovered.{Recovered}
use Rattle.recover.specs.Regions.{Covers}
use Rattle.recover.specs.Recovering.{IsMade, IsFound}
use Rattle.range_scan.specs.Ranges.{keys_of}

-- recovery gives these of a region with these words
pub record AreStartsOf (image : ℕ → ℕ) (starts : List CoreStart) : Type 0 where
  pub bytes : ℕ
  pub all : Recovered
  pub starts_are : all.starts.items ≡ starts
  pub made : IsMade bytes all
  pub found : IsFound bytes image all

-- recovery gives these of a region as it stands
pub record AreStartsIn (s : State) (starts : List CoreStart) : Type 0 where
  pub bytes : ℕ
  pub all : Recovered
  pub starts_are : all.starts.items ≡ starts
  pub made : IsMade bytes all
  pub covers : Covers s.frame all.layout
  pub found : IsTelling s → IsFound bytes (lasts s) all

-- a block of the allocator begins there, with a length of its class
abbrev pub HasBlock : (ℕ → ℕ) → Sets → ℕ → Type 0
HasBlock image a p =
    (class : ℕ) × (class_at a p ≡ Some class) × (has_class (image (UNIT_WORDS * p)) class ≡ true)

-- the keys are those of the pairs that list the cells
abbrev pub HasLivePairs : (ℕ → Option (List ℕ)) → List ℕ → Type 0
HasLivePairs cells keys = (pairs : List Pair) × ListsCells cells pairs × (keys ≡ keys_of pairs)
