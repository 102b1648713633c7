-- What a scan is answered from.
use Rattle.std.specs.Prelude.{◌≡◌, ◌⊎◌, ℕ, List, true, false, Bool, None, Result, Ok, Err}
use Rattle.fs_model.specs.declared.model.Pair.{Pair}
use Rattle.pm_region.specs.State.{State, IsTelling, Rose}
use Rattle.pm_region.specs.Words.{lasts}
use Rattle.store_image.specs.Listing.{ListsCells}
use Rattle.store_image.specs.Soundness.{first_fault}
use Rattle.fs_text.specs.Streams.{IsReadOut}
use Rattle.recover.specs.Recovering.{cells_found}
use Rattle.range_scan.specs.Ranges.{keys_of}
use Rattle.range_scan.specs.LiveKeys.{AreLiveKeys}
use Rattle.range_scan.specs.Starts.{HasLivePairs}
use Rattle.query_text.specs.declared.query.Query.{Query}
use Rattle.query_text.specs.Queries.{queries_of}
use Rattle.engine_core.specs.RunStarts.{StandsAsFound}
use Rattle.flatstore_commands.specs.Ends.{SourceUse}
use Rattle.flatstore_commands.specs.Played.{IsUnserved}
use Rattle.flatstore_commands.specs.Promise.{IsInput}
use Rattle.flatstore_commands.specs.Scans.{queries_status}
use Rattle.flatstore_commands.specs.declared.scan_ranges.Scan.{Scan}
use Rattle.flatstore_commands.specs.declared.report.Status.{Status}
use Rattle.flatstore_commands.specs.declared.report.Status.TheVariants as statuses

-- these are the queries of an input that was read to its end
pub record AreAsked (source : SourceUse) (queries : List Query) : Type 0 where
  pub whole : IsReadOut source.coming source.left
  pub input : List ℕ
  pub is_input : IsInput source.coming input
  pub good : queries_of input ≡ Ok queries

-- a line breaks a rule
abbrev pub is_refused : Result (List Query) (ℕ × ℕ) → Bool
is_refused (Ok queries) = false
is_refused (Err at) = true

-- a line breaks a rule, or a read failed, or there was no memory
abbrev pub AreUnread : SourceUse → Status → Type 0
AreUnread source status =
    (IsReadOut source.coming source.left × (input : List ℕ) × IsInput source.coming input
    × (is_refused (queries_of input) ≡ true) × (status ≡ queries_status (queries_of input)))
    ⊎ (((status ≡ statuses.SourceFault) × Rose source.faults source.faults')
    ⊎ (status ≡ statuses.Memory))

-- The region was recovered by the words that it reads, and its live keys are those of the pairs that these recover.
pub record IsReadyFor (s : State) (word : ℕ → ℕ) (source : SourceUse) (scan : Scan) : Type 0 where
  pub stands : StandsAsFound s word scan.recovered
  pub asked : AreAsked source scan.queries
  pub live : AreLiveKeys scan.recovered.starts.items scan.directory
  pub pairs : HasLivePairs (cells_found word) scan.directory

-- the region keeps its rules, where it tells
abbrev pub KeepsAll : State → Type 0
KeepsAll s = IsTelling s → first_fault s.frame.bytes (lasts s) ≡ None

-- why nothing is answered
abbrev pub IsUnasked : State → SourceUse → Status → Type 0
IsUnasked s source status = IsUnserved s status ⊎ (KeepsAll s × AreUnread source status)

-- the pairs of these keys list the cells
abbrev pub ListsLive : (ℕ → ℕ) → List ℕ → List Pair → Type 0
ListsLive image keys pairs = ListsCells (cells_found image) pairs × (keys ≡ keys_of pairs)
