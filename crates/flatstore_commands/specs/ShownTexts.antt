-- The texts of what a call shows of a region.
use Rattle.std.specs.Prelude.{ℕ, List}
use Rattle.fs_text.specs.Output.{entries_text, pairs_text}
use Rattle.flatstore_commands.specs.declared.showing.Items.{Items}
use Rattle.flatstore_commands.specs.declared.showing.Items.TheVariants as items
use Rattle.flatstore_commands.specs.declared.showing.Showing.{Showing}
use Rattle.flatstore_commands.specs.declared.showing.Showing.TheVariants.{Pairs, Entries}
use Rattle.flatstore_commands.specs.Dumps.{IsDumpText}
use Rattle.flatstore_commands.specs.Logs.{IsLogText}

-- by what the words of the region say
abbrev pub IsTextOf : Showing → (ℕ → ℕ) → List ℕ → Type 0
IsTextOf Pairs = IsDumpText
IsTextOf Entries = IsLogText

-- by what there is to show
abbrev pub text_of : Items → List ℕ
text_of (items.Pairs pairs) = pairs_text pairs.items
text_of (items.Entries entries) = entries_text entries.items
