-- What a call with the words of `scan` promises.
use Rattle.std.specs.Prelude.{◌≡◌, ◌⊎◌, ℕ, List, length, true, Option, Some, None, Result, Ok, Err}
use Rattle.std.specs.List.{flat_map}
use Rattle.fs_model.specs.declared.model.Pair.{Pair}
use Rattle.pm_region.specs.State.{State, InRange, IsTelling, Rose}
use Rattle.pm_region.specs.Split.{Attached}
use Rattle.store_image.specs.declared.types.Fault.{Fault}
use Rattle.store_image.specs.Listing.{ListsCells}
use Rattle.store_image.specs.Soundness.{first_fault}
use Rattle.fs_text.specs.Streams.{IsReadOut}
use Rattle.range_scan.specs.Ranges.{Shown, kept, ranged}
use Rattle.query_text.specs.declared.query.Query.{Query}
use Rattle.query_text.specs.declared.query.Query.TheVariants.{Range, Count}
use Rattle.query_text.specs.Queries.{queries_of}
use Rattle.query_text.specs.Answers.{page_text, count_text}
use Rattle.headline.specs.Headline.{cells_of}
use Rattle.flatstore_commands.specs.Attaching.{Attaches}
use Rattle.flatstore_commands.specs.Ends.{SourceUse, SinkUse}
use Rattle.flatstore_commands.specs.Ordering.{IsServed, is_of_line}
use Rattle.flatstore_commands.specs.Promise.{IsInput}
use Rattle.flatstore_commands.specs.Shows.{WritesText, BeginsText, is_of_writing}
use Rattle.flatstore_commands.specs.Statuses.{fault_status}
use Rattle.flatstore_commands.specs.declared.report.Status.{Status}
use Rattle.flatstore_commands.specs.declared.report.Status.TheVariants as statuses
use Rattle.flatstore_commands.specs.declared.report.CommandReport.{CommandReport}

abbrev pub shown_text : Shown → List ℕ
shown_text shown = page_text shown.pairs shown.more

-- what a query gets of pairs by rising key
abbrev pub answer_text : List Pair → Query → List ℕ
answer_text pairs (Range lo hi limit) = shown_text (ranged pairs lo hi limit)
answer_text pairs (Count lo hi) = count_text (length (kept pairs lo hi))

-- query by query
abbrev pub answers_text : List Pair → List Query → List ℕ
answers_text pairs queries = flat_map (answer_text pairs) queries

-- A text of answers to the queries of an input, over the live pairs of the cells that these words recover, by rising
-- key.
pub record IsScanText (word : ℕ → ℕ) (input : List ℕ) (text : List ℕ) : Type 0 where
  pub queries : List Query
  pub judged : queries_of input ≡ Ok queries
  pub pairs : List Pair
  pub live : ListsCells (cells_of word) pairs
  pub answers : text ≡ answers_text pairs queries

-- the status that the words found and the input alone decide
abbrev pub queries_status : Result (List Query) (ℕ × ℕ) → Status
queries_status (Ok queries) = statuses.Done
queries_status (Err (line, rule)) = statuses.BadInput line rule

abbrev pub scan_due : Option Fault → List ℕ → Status
scan_due None input = queries_status (queries_of input)
scan_due (Some fault) input = fault_status fault

-- want of memory, or a read or a write that failed
abbrev pub IsScanFault : SourceUse → SinkUse → Status → Type 0
IsScanFault source sink status =
    (status ≡ statuses.Memory)
    ⊎ (((status ≡ statuses.SourceFault) × Rose source.faults source.faults')
    ⊎ ((status ≡ statuses.SinkFault) × Rose sink.faults sink.faults'))

-- Of a region that was attached, the words that it then reads, and this input.
pub record AnswersQueries (old new : State) (found word : ℕ → ℕ) (source : SourceUse) (input : List ℕ)
    (sink : SinkUse) (r : CommandReport) : Type 0 where
  -- Where the region tells, the words read are those found.
  pub reads : IsTelling new → (w : ℕ) → InRange new.frame w → word w ≡ found w
  -- The words found and the input decide on the status, but for want of memory and faults that were counted.
  pub due : IsTelling new
      → (r.status ≡ scan_due (first_fault new.frame.bytes found) input)
      ⊎ IsScanFault source sink r.status
  pub no_fault : r.status ≡ statuses.RegionFault → ⊥
  -- The rules of the region go before the source,
  pub read : r.status ≡ statuses.SourceFault → IsServed new found
  -- and both before the rules of the input, which are those of all of it.
  pub line : is_of_line r.status ≡ true
      → IsServed new found × IsReadOut source.coming source.left
      × (r.status ≡ queries_status (queries_of input))
  -- All of these go before the first answer.
  pub judged : r.complete ≡ true → IsServed new found × IsReadOut source.coming source.left
  pub written : is_of_writing r.status ≡ true → r.complete ≡ true
  -- At the end the whole text was written and flushed, and else the beginning of it, where the writing began.
  pub done : r.status ≡ statuses.Done
      → WritesText (IsScanText word input) sink × (sink.flushed ≡ true)
  pub begins : r.complete ≡ true → BeginsText (IsScanText word input) sink
  -- The region is as it was attached.
  pub untouched : Attached old new new.frame.bytes found

-- Of a region before and after the call, the words that an attach finds and those that the region then reads, the
-- source, the sink and the report.
pub record Scans (old new : State) (found word : ℕ → ℕ) (source : SourceUse) (sink : SinkUse)
    (r : CommandReport) : Type 0 where
  pub attaches : Attaches old new found r
  pub answers : r.attached ≡ true
      → (input : List ℕ) × IsInput source.coming input
      × AnswersQueries old new found word source input sink r
