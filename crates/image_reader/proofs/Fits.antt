-- What the layout and the first fault say of an image.
use Rattle.std.specs.Prelude.{◌≡◌, ℕ, Some}
use Rattle.std.proofs.Common.{ap}
use Rattle.store_image.specs.declared.types.Fault.TheVariants.{NotARegion}
use Rattle.chunk_map.specs.Layouts.{superblock_rule}
use Rattle.store_image.specs.Soundness.{first_fault, fault_by}

pub not_a_region : (bytes : ℕ) (image : ℕ → ℕ) (rule : ℕ) → superblock_rule bytes image ≡ Some rule → first_fault bytes image ≡ Some (NotARegion rule)
unfolding first_fault
not_a_region bytes image rule is = ap (fault_by image) is
