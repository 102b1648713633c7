-- Words are a form where `clap` takes them, and none where it refuses them for another cause than memory.
use Rattle.std.proofs.Common.{◌∙◌, sym, ap, subst, inl, inr}
use Rattle.clap.specs.Words.{App, is_simple, is_simple_and_free, HasKind, kind_of, fault_of, subcommand_of}
use Rattle.flatstore_commands.specs.Commands.{form_in, program, words_of}
use Rattle.flatstore_commands.proofs.Forms.{program_is_simple, program_is_free, taken, refused}
use Rattle.clap.specs.declared.error.kind.ErrorKind.TheVariants as kind
use Rattle.clap.specs.contracts.error.kind.ErrorKind.{the_type}
use denote.Enum.Bare.{same_false}
use Rattle.flatstore_commands.proofs.command.parse_command.Goals as goal

pub returns-in-Ok : goal.returns-in-Ok
returns-in-Ok c =
    let app = c.in_ok-program.ensures.app in
    let words = words_of c.args.words.now in
    let none = c.in-Ok.ensures.kinds (ap is_simple_and_free app ∙ program_is_free) in
    let rows = (c.in-Ok.ensures.matches (ap is_simple app ∙ program_is_simple)).1 in
    c.command_in.ensures ∙ ap form_in (rows ∙ ap (λ (a : App). subcommand_of a words) app)
    ∙ taken words (sym (ap (λ (a : App). fault_of a words) app) ∙ none)

pub returns : goal.returns
returns c =
    let app = c.in_ok-program.ensures.app in
    let words = words_of c.args.words.now in
    let by : HasKind (fault_of program words) c.in-Err.error = subst (λ (a : App). HasKind (fault_of a words) c.in-Err.error) app (c.in-Err.ensures.kinds (ap is_simple_and_free app ∙ program_is_free)) in
    elim by [
      | inl memory ↦ absurd (same_false the_type c.kind.result kind.OutOfMemory (sym c.eq.ensures ∙ c.if-eq.false) (c.kind.ensures ∙ memory))
      | inr among ↦ refused words (kind_of c.in-Err.error) among
    ]
