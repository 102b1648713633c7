-- The entries that are listed.
use Rattle.std.proofs.Common.{◌≡◌, ℕ, List, None, ◌∙◌}
use Rattle.std.specs.Prelude.{Result, Ok, Err, Vec}
use Rattle.std.specs.Global.{Global}
use Rattle.chunk_map.specs.declared.layouts.Geometry.{Geometry}
use Rattle.store_image.specs.declared.types.PlacedEntry.{PlacedEntry}
use Rattle.store_image.specs.Parts.{all_entries}
use Rattle.store_image.specs.Soundness.{damage}
use Rattle.recover.specs.declared.found_entries.Found.{Found}
use Rattle.recover.specs.declared.types.RecoverError.{RecoverError}
use Rattle.recover.specs.FoundEntries.{entries_at, ReadsAll}
use Rattle.recover.specs.Logged.{Logs}
use Rattle.recover.proofs.CauseLaws.{memory_cause}

module _ (l : Geometry) (image : ℕ → ℕ) where
  -- what was read of an image that breaks no rule
  pub logs_read : damage l image ≡ None → (fs : List Found) → entries_at l image fs ≡ all_entries l image → (r : Result (Vec PlacedEntry Global) RecoverError) → ReadsAll l image fs r → Logs l image r
  logs_read none fs back (Ok es) reads = (none, reads ∙ back)
  logs_read none fs back (Err e) reads = memory_cause (damage l image) e reads
