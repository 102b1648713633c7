-- Why queries were not read.
use Rattle.std.proofs.Common.{◌≡◌, inl, inr, ℕ, List, refl, sym, ap, subst, Option, Some, None, Result, Ok, Err, IfSome, true}
use Rattle.pm_region.specs.State.{Rose}
use Rattle.fs_text.specs.declared.input.InputError.{InputError}
use Rattle.fs_text.specs.declared.input.InputError.TheVariants as inputs
use Rattle.fs_text.specs.Reading.{Answers, is_said}
use Rattle.fs_text.specs.Streams.{IsReadOut}
use Rattle.query_text.specs.declared.query.Query.{Query}
use Rattle.query_text.specs.Queries.{queries_of}
use Rattle.flatstore_commands.specs.Ends.{SourceUse}
use Rattle.flatstore_commands.specs.Promise.{IsInput}
use Rattle.flatstore_commands.specs.Reads.{unread_as}
use Rattle.flatstore_commands.specs.Scans.{queries_status}
use Rattle.flatstore_commands.specs.Asking.{AreAsked, AreUnread, is_refused}

-- the input, where something is said of it
module _ (source : SourceUse) (r : Result (List Query) InputError) (exact : IfSome source.coming (λ bytes. Answers r (queries_of bytes))) (some : (bytes : List ℕ) × Answers r (queries_of bytes)) (whole : is_said r ≡ true → IsReadOut source.coming source.left) where
  read_as : (input : List ℕ) × IsInput source.coming input × Answers r (queries_of input)
  read_as = by source.coming exact where
    by : (o : Option (List ℕ)) → IfSome o (λ bytes. Answers r (queries_of bytes)) → (input : List ℕ) × IsInput o input × Answers r (queries_of input)
    by None e = (some.0, tt, some.1)
    by (Some bytes) e = (bytes, refl, e)

  pub are_asked : (queries : List Query) → r ≡ Ok queries → AreAsked source queries
  are_asked queries is = record {
    whole = whole (ap is_said is);
    input = read_as.0;
    is_input = read_as.1;
    good = subst (λ q. Answers q (queries_of read_as.0)) is read_as.2;
  }

  pub are_unread : (e : InputError) → r ≡ Err e → (r ≡ Err inputs.SourceFault → Rose source.faults source.faults') → AreUnread source (unread_as e)
  are_unread (inputs.BadInput line rule) is cause =
      let at : queries_of read_as.0 ≡ Err (line, rule) = subst (λ q. Answers q (queries_of read_as.0)) is read_as.2 in
      inl (whole (ap is_said is), read_as.0, read_as.1, ap is_refused at, ap queries_status (sym at))
  are_unread inputs.SourceFault is cause = inr (inl (refl, cause is))
  are_unread inputs.Memory is cause = inr (inr refl)
