-- What a call with the words of `audit` promises.
use Rattle.std.specs.Prelude.{◌≡◌, ◌⊎◌, ℕ, List, Bool, true, false, Option, Some, None, Result, Ok, Err}
use Rattle.pm_region.specs.State.{State, InRange, IsTelling, Rose}
use Rattle.pm_region.specs.Split.{Attached}
use Rattle.fs_model.specs.declared.model.Request.{Request}
use Rattle.fs_model.specs.declared.model.Reply.{Reply}
use Rattle.fs_text.specs.Streams.{IsReadOut}
use Rattle.store_image.specs.declared.types.Fault.{Fault}
use Rattle.store_image.specs.Soundness.{first_fault}
use Rattle.headline.specs.Headline.{cells_of}
use Rattle.run_audit.specs.FirstFault.{Judges}
use Rattle.run_audit.specs.Replies.{audit_input_of}
use Rattle.run_audit.specs.VerdictText.{verdict_text}
use Rattle.run_audit.specs.declared.audit_input.AuditInput.{AuditInput}
use Rattle.run_audit.specs.declared.verdict.Verdict.{Verdict}
use Rattle.flatstore_commands.specs.Attaching.{Attaches}
use Rattle.flatstore_commands.specs.Ends.{SourceUse, SinkUse}
use Rattle.flatstore_commands.specs.Ordering.{IsServed, IsFault, is_of_line}
use Rattle.flatstore_commands.specs.Played.{IsCounted, IsUnserved}
use Rattle.flatstore_commands.specs.Promise.{IsInput}
use Rattle.flatstore_commands.specs.Shows.{WritesText, BeginsText, is_of_writing}
use Rattle.flatstore_commands.specs.Statuses.{fault_status}
use Rattle.flatstore_commands.specs.declared.report.Status.{Status}
use Rattle.flatstore_commands.specs.declared.report.Status.TheVariants as statuses
use Rattle.flatstore_commands.specs.declared.report.CommandReport.{CommandReport}

-- the status that the rules of an audit's input decide
abbrev pub input_status : Result (List Request × List Reply) (ℕ × ℕ) → Status
input_status (Ok x) = statuses.Done
input_status (Err (line, rule)) = statuses.BadInput line rule

abbrev pub is_bad_input : Result (List Request × List Reply) (ℕ × ℕ) → Bool
is_bad_input (Ok x) = false
is_bad_input (Err e) = true

-- the status that the words found and the input alone decide; word 2 is the number of cores
abbrev pub due_by : (ℕ → ℕ) → List ℕ → Option Fault → Status
due_by found input (Some fault) = fault_status fault
due_by found input None = input_status (audit_input_of (found 2) input)

-- The verdict on the trace and the replies of an input: lawful exactly where the replies are lawful for the trace, from
-- the cells on that these words recover, and else the first request up to and with which they aren't.
abbrev pub IsVerdict : (ℕ → ℕ) → List ℕ → Verdict → Type 0
IsVerdict word input verdict =
    (x : List Request × List Reply) × (audit_input_of (word 2) input ≡ Ok x)
    × Judges (cells_of word) x.0 x.1 verdict

-- its text
abbrev pub IsVerdictText : (ℕ → ℕ) → List ℕ → List ℕ → Type 0
IsVerdictText word input text =
    (verdict : Verdict) × IsVerdict word input verdict × (text ≡ verdict_text verdict)

-- Of a region before and after the call, the words that an attach finds and those that the region then reads, the source,
-- the input, the sink and the report.
pub record AuditsBy (old new : State) (found word : ℕ → ℕ) (source : SourceUse)
    (input : List ℕ) (sink : SinkUse) (r : CommandReport) : Type 0 where
  -- Where the region tells, the words read are those found.
  pub reads : IsTelling new → (w : ℕ) → InRange new.frame w → word w ≡ found w
  -- The words found and the input decide on the status, but for faults that were counted and want of memory.
  pub due : IsTelling new → (r.status ≡ due_by found input (first_fault new.frame.bytes found))
      ⊎ IsFault old new source sink r.status
  pub no_fault : r.status ≡ statuses.RegionFault → ⊥
  -- The rules of the region go before those of the input, which are those of all of it.
  pub line : is_of_line r.status ≡ true → IsServed new found × IsReadOut source.coming source.left
      × (r.status ≡ input_status (audit_input_of (word 2) input))
  -- At the end the whole verdict was written and flushed, and else the beginning of it, where the writing began.
  pub done : r.status ≡ statuses.Done
      → WritesText (IsVerdictText word input) sink × (sink.flushed ≡ true)
  pub begins : r.complete ≡ true → BeginsText (IsVerdictText word input) sink
  pub read : r.complete ≡ true → IsServed new found × IsReadOut source.coming source.left
  pub written : is_of_writing r.status ≡ true → r.complete ≡ true
  -- The region is as it was attached.
  pub untouched : Attached old new new.frame.bytes found

-- the same, of an input that the source tells, where the region was attached
pub record Audits (old new : State) (found word : ℕ → ℕ) (source : SourceUse) (sink : SinkUse)
    (r : CommandReport) : Type 0 where
  pub attaches : Attaches old new found r
  pub audits : r.attached ≡ true → (input : List ℕ) × IsInput source.coming input
      × AuditsBy old new found word source input sink r

-- ---- between attaching and writing

-- the region keeps its rules, the input was read to its end, and this is the verdict on it
pub record IsJudged (s : State) (word : ℕ → ℕ) (source : SourceUse) (verdict : Verdict) : Type 0 where
  pub counted : IsCounted s (word 2)
  pub whole : IsReadOut source.coming source.left
  pub input : List ℕ
  pub is_input : IsInput source.coming input
  pub verdict_is : IsVerdict word input verdict

-- these are the trace and the replies of an input that was read to its end, for a region of so many cores
pub record IsReadAudit (source : SourceUse) (cores : ℕ) (x : AuditInput) : Type 0 where
  pub whole : IsReadOut source.coming source.left
  pub input : List ℕ
  pub is_input : IsInput source.coming input
  pub good : audit_input_of cores input ≡ Ok (x.trace.items, x.replies.items)

-- a line breaks a rule, or a read failed, or there was no memory
abbrev pub IsUnreadAudit : SourceUse → ℕ → Status → Type 0
IsUnreadAudit source cores status =
    (IsReadOut source.coming source.left × (input : List ℕ) × IsInput source.coming input
    × (is_bad_input (audit_input_of cores input) ≡ true)
    × (status ≡ input_status (audit_input_of cores input)))
    ⊎ (((status ≡ statuses.SourceFault) × Rose source.faults source.faults')
    ⊎ (status ≡ statuses.Memory))

-- why there is no verdict
abbrev pub IsUnjudged : State → (ℕ → ℕ) → SourceUse → Status → Type 0
IsUnjudged s word source status =
    IsUnserved s status ⊎ (IsCounted s (word 2) × IsUnreadAudit source (word 2) status)
