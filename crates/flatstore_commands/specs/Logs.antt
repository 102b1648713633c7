-- What a call with the words of `log` promises.
use Rattle.std.specs.Prelude.{◌≡◌, ℕ, List}
use Rattle.pm_region.specs.State.{State}
use Rattle.chunk_map.specs.Layouts.{layout_of}
use Rattle.store_image.specs.Parts.{all_entries}
use Rattle.fs_text.specs.Output.{entries_text}
use Rattle.flatstore_commands.specs.Ends.{SinkUse}
use Rattle.flatstore_commands.specs.Shows.{Shows}
use Rattle.flatstore_commands.specs.declared.report.CommandReport.{CommandReport}

-- A text of entries with their places: all that these words spell in the logs, by core, chunk and place, superseded ones
-- and copies too.
abbrev pub IsLogText : (ℕ → ℕ) → List ℕ → Type 0
IsLogText word text = text ≡ entries_text (all_entries (layout_of word) word)

-- Of a region before and after the call, the words that an attach finds and those that the region then reads, the sink
-- and the report.
abbrev pub Logs : State → State → (ℕ → ℕ) → (ℕ → ℕ) → SinkUse → CommandReport → Type 0
Logs old new found word sink r = Shows (IsLogText word) old new found word sink r
