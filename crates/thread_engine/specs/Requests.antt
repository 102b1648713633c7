-- Requests that are made one by one.
use Rattle.std.specs.Prelude.{◌≡◌, List, [], ◌∷◌, Option, Some, None}
use Rattle.fs_model.specs.declared.model.Request.{Request}

-- the next one was made, or none was left
abbrev pub Makes : List Request → List Request → Option Request → Type 0
Makes old new None = (old ≡ []) × (new ≡ [])
Makes old new (Some q) = old ≡ q ∷ new
