-- Why an input was not read.
use Rattle.std.proofs.Common.{◌≡◌, inl, inr, ℕ, List, refl, sym, ap, subst, Option, Some, None, Result, Ok, Err, IfSome, true}
use Rattle.pm_region.specs.State.{Rose}
use Rattle.fs_text.specs.declared.line.Line.{Line}
use Rattle.fs_text.specs.declared.input.InputError.{InputError}
use Rattle.fs_text.specs.declared.input.InputError.TheVariants as inputs
use Rattle.fs_text.specs.Input.{input_of}
use Rattle.fs_text.specs.Reading.{Answers, is_said}
use Rattle.fs_text.specs.Streams.{IsReadOut}
use Rattle.flatstore_commands.specs.Ends.{SourceUse}
use Rattle.flatstore_commands.specs.Ordering.{status_of, is_broken}
use Rattle.flatstore_commands.specs.Promise.{IsInput}
use Rattle.flatstore_commands.specs.Reads.{IsRead, IsUnread, unread_as}

-- the input, where something is said of it
module _ (cores : ℕ) (source : SourceUse) (r : Result (List Line) InputError) (exact : IfSome source.coming (λ bytes. Answers r (input_of cores bytes))) (some : (bytes : List ℕ) × Answers r (input_of cores bytes)) (whole : is_said r ≡ true → IsReadOut source.coming source.left) where
  read_as : (input : List ℕ) × IsInput source.coming input × Answers r (input_of cores input)
  read_as = by source.coming exact where
    by : (o : Option (List ℕ)) → IfSome o (λ bytes. Answers r (input_of cores bytes)) → (input : List ℕ) × IsInput o input × Answers r (input_of cores input)
    by None e = (some.0, tt, some.1)
    by (Some bytes) e = (bytes, refl, e)

  pub is_read : (lines : List Line) → r ≡ Ok lines → IsRead source cores lines
  is_read lines is = record {
    whole = whole (ap is_said is);
    input = read_as.0;
    is_input = read_as.1;
    good = subst (λ q. Answers q (input_of cores read_as.0)) is read_as.2;
  }

  pub is_unread : (e : InputError) → r ≡ Err e → (r ≡ Err inputs.SourceFault → Rose source.faults source.faults') → IsUnread source cores (unread_as e)
  is_unread (inputs.BadInput line rule) is cause =
      let at : input_of cores read_as.0 ≡ Err (line, rule) = subst (λ q. Answers q (input_of cores read_as.0)) is read_as.2 in
      inl (whole (ap is_said is), read_as.0, read_as.1, ap is_broken at, ap status_of (sym at))
  is_unread inputs.SourceFault is cause = inr (inl (refl, cause is))
  is_unread inputs.Memory is cause = inr (inr refl)
