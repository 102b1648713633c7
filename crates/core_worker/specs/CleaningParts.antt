-- What a try to receive did.
use Rattle.std.specs.Prelude.{◌≡◌, ℕ, Bool, true, false, Option}
use Rattle.group_laws.specs.declared.types.Seen.TheVariants.{Mail}
use Rattle.group_laws.specs.Runs.{Kind}
use Rattle.group_laws.specs.State.{Group}
use Rattle.group_laws.specs.MemberViews.{View}
use Rattle.group_board.specs.Views.{after_find}
use Rattle.group_board.specs.Told.{Makes, MakesBoth}

-- it received, or loaded the mailbox and found it empty
abbrev pub ReceivesOrLooks : Bool → ℕ → ℕ → Option Group → Option Group → View → View → Type 0
ReceivesOrLooks true m from before after v u = MakesBoth before m (Kind.LookMail from m) (Kind.Receive from)
    after u
ReceivesOrLooks false m from before after v u = (u ≡ after_find (Mail from m false) v)
    × Makes before m (Kind.LookMail from m) after u
