-- What the entries of a region give the cores.
use Rattle.std.specs.Prelude.{◌≡◌, ℕ, Result, Ok, Err, None}
use Rattle.chunk_map.specs.declared.layouts.Geometry.{Geometry}
use Rattle.store_image.specs.Parts.{all_entries}
use Rattle.store_image.specs.Soundness.{damage}
use Rattle.recover.specs.declared.recover_region.Division.{Division}
use Rattle.recover.specs.declared.types.RecoverError.{RecoverError}
use Rattle.recover.specs.Causes.{HasCause}
use Rattle.recover.specs.Gathering.{AllSpell}
use Rattle.recover.specs.Shares.{AreShares}
use Rattle.recover.specs.LogNames.{AreNames}

-- the shares and the names of an image that keeps rules 4 to 11, or the first that it breaks
abbrev pub Divides : Geometry → (ℕ → ℕ) → Result Division RecoverError → Type 0
Divides l image (Ok division) = (damage l image ≡ None) × AllSpell l image
    × AreShares l (all_entries l image) division.shares.items × AreNames l image division.names.items
Divides l image (Err e) = HasCause (damage l image) e
