-- What a call with the words of `dump` promises.
use Rattle.std.specs.Prelude.{◌≡◌, ℕ, List}
use Rattle.fs_model.specs.declared.model.Pair.{Pair}
use Rattle.pm_region.specs.State.{State}
use Rattle.store_image.specs.Listing.{ListsCells}
use Rattle.fs_text.specs.Output.{pairs_text}
use Rattle.headline.specs.Headline.{cells_of}
use Rattle.flatstore_commands.specs.Ends.{SinkUse}
use Rattle.flatstore_commands.specs.Shows.{Shows}
use Rattle.flatstore_commands.specs.declared.report.CommandReport.{CommandReport}

-- a text of the live pairs of the cells that these words recover, by rising key
abbrev pub IsDumpText : (ℕ → ℕ) → List ℕ → Type 0
IsDumpText word text =
    (pairs : List Pair) × ListsCells (cells_of word) pairs × (text ≡ pairs_text pairs)

-- Of a region before and after the call, the words that an attach finds and those that the region then reads, the sink
-- and the report.
abbrev pub Dumps : State → State → (ℕ → ℕ) → (ℕ → ℕ) → SinkUse → CommandReport → Type 0
Dumps old new found word sink r = Shows (IsDumpText word) old new found word sink r
