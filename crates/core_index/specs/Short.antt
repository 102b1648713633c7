-- A version and a home in three bytes.
use Rattle.std.specs.Prelude.{◌≡◌, ℕ, ◌+◌, ◌*◌, ◌/◌, ◌%◌}
use Rattle.core_index.specs.declared.short_names.TheConstants.{HOMES, LOW_VERSIONS}

-- of the version's lower two bytes, and of a byte with its upper half and the home
abbrev pub version_of : ℕ → ℕ → ℕ
version_of low rest = low + LOW_VERSIONS * (rest / HOMES)

abbrev pub home_of : ℕ → ℕ
home_of rest = rest % HOMES

-- the two of a version and a home
pub record AreShort (version home : ℕ) (short : ℕ × ℕ) : Type 0 where
  pub version_is : version_of short.0 short.1 ≡ version
  pub home_is : home_of short.1 ≡ home
