-- The causes of what recovery answers in place of a result.
use Rattle.std.specs.Prelude.{◌≡◌, Option, Some, None, Result, Ok, Err}
use Rattle.store_image.specs.declared.types.Fault.{Fault}
use Rattle.recover.specs.declared.types.RecoverError.{RecoverError}
use Rattle.recover.specs.declared.types.RecoverError.TheVariants as errors

-- A fault is this one. Memory may be wanting whatever the image has.
abbrev pub HasCause : Option Fault → RecoverError → Type 0
HasCause first (errors.Fault fault) = first ≡ Some fault
HasCause first errors.Memory = Unit {0}

-- what is answered where this is the first fault
abbrev pub AnswersFault : {T : Type 0} → Option Fault → Result T RecoverError → Type 0
AnswersFault first (Ok x) = first ≡ None
AnswersFault first (Err e) = HasCause first e
