-- How an input is read.
use Rattle.std.specs.Prelude.{◌≡◌, ◌⊎◌, ℕ, List, true, Ok}
use Rattle.pm_region.specs.State.{Rose}
use Rattle.fs_text.specs.declared.line.Line.{Line}
use Rattle.fs_text.specs.Input.{input_of}
use Rattle.fs_text.specs.declared.input.InputError.{InputError}
use Rattle.fs_text.specs.declared.input.InputError.TheVariants as inputs
use Rattle.fs_text.specs.Streams.{IsReadOut}
use Rattle.flatstore_commands.specs.Ends.{SourceUse}
use Rattle.flatstore_commands.specs.Promise.{IsInput}
use Rattle.flatstore_commands.specs.Ordering.{status_of, is_broken}
use Rattle.flatstore_commands.specs.declared.report.Status.{Status}
use Rattle.flatstore_commands.specs.declared.report.Status.TheVariants as statuses

-- these are the lines of an input that was read to its end, to a region of so many cores
pub record IsRead (source : SourceUse) (cores : ℕ) (lines : List Line) : Type 0 where
  pub whole : IsReadOut source.coming source.left
  pub input : List ℕ
  pub is_input : IsInput source.coming input
  pub good : input_of cores input ≡ Ok lines

-- a line breaks a rule, or a read failed, or there was no memory
abbrev pub IsUnread : SourceUse → ℕ → Status → Type 0
IsUnread source cores status =
    (IsReadOut source.coming source.left × (input : List ℕ) × IsInput source.coming input
    × (is_broken (input_of cores input) ≡ true) × (status ≡ status_of (input_of cores input)))
    ⊎ (((status ≡ statuses.SourceFault) × Rose source.faults source.faults')
    ⊎ (status ≡ statuses.Memory))

-- the status for an input that was not read
abbrev pub unread_as : InputError → Status
unread_as (inputs.BadInput line rule) = statuses.BadInput line rule
unread_as inputs.SourceFault = statuses.SourceFault
unread_as inputs.Memory = statuses.Memory
