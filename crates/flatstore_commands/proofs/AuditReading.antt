-- What was read of an audit's input, or why it wasn't.
use Rattle.std.proofs.Common.{◌≡◌, inl, inr, ℕ, List, refl, sym, ap, subst, Option, Some, None, Result, Ok, Err, IfSome, true}
use Rattle.pm_region.specs.State.{Rose}
use Rattle.fs_model.specs.declared.model.Request.{Request}
use Rattle.fs_model.specs.declared.model.Reply.{Reply}
use Rattle.fs_text.specs.declared.input.InputError.{InputError}
use Rattle.fs_text.specs.declared.input.InputError.TheVariants as inputs
use Rattle.fs_text.specs.Reading.{Answers, is_said}
use Rattle.fs_text.specs.Streams.{IsReadOut}
use Rattle.run_audit.specs.declared.audit_input.AuditInput.{AuditInput}
use Rattle.run_audit.specs.Parting.{listed}
use Rattle.run_audit.specs.Replies.{audit_input_of}
use Rattle.flatstore_commands.specs.Audits.{IsReadAudit, IsUnreadAudit, input_status, is_bad_input}
use Rattle.flatstore_commands.specs.Ends.{SourceUse}
use Rattle.flatstore_commands.specs.Promise.{IsInput}
use Rattle.flatstore_commands.specs.Reads.{unread_as}

module _ (cores : ℕ) (source : SourceUse) (r : Result AuditInput InputError) (exact : IfSome source.coming (λ bytes. Answers (listed r) (audit_input_of cores bytes))) (some : (bytes : List ℕ) × Answers (listed r) (audit_input_of cores bytes)) (whole : is_said (listed r) ≡ true → IsReadOut source.coming source.left) where
  -- the input, where something is said of it
  read_as : (input : List ℕ) × IsInput source.coming input × Answers (listed r) (audit_input_of cores input)
  read_as = by source.coming exact where
    by : (o : Option (List ℕ)) → IfSome o (λ bytes. Answers (listed r) (audit_input_of cores bytes)) → (input : List ℕ) × IsInput o input × Answers (listed r) (audit_input_of cores input)
    by None e = (some.0, tt, some.1)
    by (Some bytes) e = (bytes, refl, e)

  said_by : (x : Result AuditInput InputError) → r ≡ x → Answers (listed x) (audit_input_of cores read_as.0)
  said_by x is = subst (λ q. Answers (listed q) (audit_input_of cores read_as.0)) is read_as.2

  pub is_read : (x : AuditInput) → r ≡ Ok x → IsReadAudit source cores x
  is_read x is = record {
    whole = whole (ap (λ q. is_said (listed q)) is);
    input = read_as.0;
    is_input = read_as.1;
    good = said_by (Ok x) is;
  }

  pub is_unread : (e : InputError) → r ≡ Err e → (r ≡ Err inputs.SourceFault → Rose source.faults source.faults') → IsUnreadAudit source cores (unread_as e)
  is_unread (inputs.BadInput line rule) is cause =
      let at : audit_input_of cores read_as.0 ≡ Err (line, rule) = said_by (Err (inputs.BadInput line rule)) is in
      inl (whole (ap (λ q. is_said (listed q)) is), read_as.0, read_as.1, ap is_bad_input at, ap input_status (sym at))
  is_unread inputs.SourceFault is cause = inr (inl (refl, cause is))
  is_unread inputs.Memory is cause = inr (inr refl)
