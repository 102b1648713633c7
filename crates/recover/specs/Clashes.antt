-- Names: the key and the version.
use Rattle.std.specs.Prelude.{◌≡◌, ℕ}
use Rattle.std.specs.Ordering.{nat_cmp, ordering_then}
use Rattle.std.specs.declared.cmp.Ordering.{Ordering}
use Rattle.store_image.specs.declared.types.PlacedEntry.{PlacedEntry}

abbrev pub name_cmp : ℕ × ℕ → ℕ × ℕ → Ordering
name_cmp = λ x y. ordering_then (nat_cmp x.0 y.0) (nat_cmp x.1 y.1)

-- the entry has this name
pub record HasName (k v : ℕ) (x : PlacedEntry) : Type 0 where
  pub key : x.entry.key ≡ k
  pub version : x.entry.version ≡ v
