-- Why the requests of one key are refused, and how their changes raise its last version.
use Rattle.std.specs.Prelude.{◌≡◌, ℕ, ◌+◌, ◌≤◌, List, [], ◌∷◌, true, if◌then◌else◌}
use Rattle.std.specs.List.{AllByRecursion}
use Rattle.fs_model.specs.declared.model.Request.{Request}
use Rattle.fs_model.specs.declared.model.Reply.{Reply}
use Rattle.fs_model.specs.declared.model.Reply.TheVariants.{Full, VersionsSpent, TooLong}
use Rattle.fs_model.specs.Lawful.{is_finish}
use Rattle.log_entry.specs.declared.entry_limits.TheConstants.{LAST_PUT_VERSION}
use Rattle.chunk_map.specs.declared.layouts.Geometry.{Geometry}
pub use Rattle.headline.specs.Limits.{is_too_long}
use Rattle.engine_laws.specs.FreeStock.{Stock, LacksRoom}

-- the last version after a reply: a finish takes one
abbrev pub raised : ℕ → Reply → ℕ
raised last r = if is_finish r then last + 1 else last

abbrev pub raised_by : ℕ → List (Request × Reply) → ℕ
raised_by last [] = last
raised_by last (x ∷ xs) = raised_by (raised last x.1) xs

-- A request of a key with this last version is refused for its version only where that is the last one there is, and for its length only where the value is too long.
pub record HasCause (l : Geometry) (last : ℕ) (q : Request) (r : Reply) : Type 0 where
  pub spent : r ≡ VersionsSpent → LAST_PUT_VERSION ≤ last
  pub long : r ≡ TooLong → is_too_long l q ≡ true

-- so it is with each of these, in order, from this last version on
abbrev pub HaveCauses : Geometry → ℕ → List (Request × Reply) → Type 0
HaveCauses l last [] = Unit {0}
HaveCauses l last (x ∷ xs) = HasCause l last x.0 x.1 × HaveCauses l (raised last x.1) xs

-- What one call says of a key's replies, by what the core had free before it, and of the key's last version before and after.
pub record Refuses (l : Geometry) (s : Stock) (last now : ℕ)
    (xs : List (Request × Reply)) : Type 0 where
  pub causes : HaveCauses l last xs
  pub full : AllByRecursion (λ x. x.1 ≡ Full → LacksRoom l s x.0) xs
  pub last_now : now ≤ raised_by last xs
