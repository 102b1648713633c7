-- All entries that stand in the logs, superseded ones and copies too.
use Rattle.std.specs.Prelude.{◌≡◌, ℕ, Some, None, Result, Ok, Err, Vec}
use Rattle.std.specs.Global.{Global}
use Rattle.chunk_map.specs.declared.layouts.Geometry.{Geometry}
use Rattle.chunk_map.specs.Layouts.{layout_of}
use Rattle.store_image.specs.declared.types.PlacedEntry.{PlacedEntry}
use Rattle.store_image.specs.Parts.{all_entries}
use Rattle.store_image.specs.Soundness.{damage, first_fault}
use Rattle.store_image.specs.Facts.{IsStore}
use Rattle.recover.specs.declared.types.RecoverError.{RecoverError}
use Rattle.recover.specs.declared.types.RecoverError.TheVariants as errors
use Rattle.recover.specs.Causes.{HasCause}

-- the entries of an image that keeps rules 4 to 11 by core, chunk and place, or the first that it breaks
abbrev pub Logs : Geometry → (ℕ → ℕ) → Result (Vec PlacedEntry Global) RecoverError → Type 0
Logs l image (Ok es) = (damage l image ≡ None) × (es.items ≡ all_entries l image)
Logs l image (Err e) = HasCause (damage l image) e

-- the entries of a sound image of so many bytes, or the first broken rule
abbrev pub ListsLogs : ℕ → (ℕ → ℕ) → Result (Vec PlacedEntry Global) RecoverError → Type 0
ListsLogs bytes image (Ok es) = IsStore bytes image × (es.items ≡ all_entries (layout_of image) image)
ListsLogs bytes image (Err (errors.Fault fault)) = first_fault bytes image ≡ Some fault
ListsLogs bytes image (Err errors.Memory) = Unit {0}
