-- The loads of a turn.
use Rattle.std.specs.Prelude.{ℕ, List, map, Option}
use Rattle.group_laws.specs.State.{Group}
use Rattle.group_laws.specs.Runs.{Kind}
use Rattle.group_laws.specs.Runs.Kind.{Look, LookMail}
use Rattle.group_laws.specs.MemberViews.{View}
use Rattle.batch_leader.specs.Leading.{MakesAll}

-- A load: of an own slot, or of the mailbox from one member to another.
pub data Load : Type 0 where
  Own : ℕ → Load
  Mailbox : ℕ → ℕ → Load

abbrev pub load_kind : ℕ → Load → Kind
load_kind m (Load.Own s) = Look m s
load_kind m (Load.Mailbox a b) = LookMail a b

-- loads of own slots and of mailboxes
abbrev pub looks_at : ℕ → List Load → List (ℕ × Kind)
looks_at m ls = map (λ l. (m, load_kind m l)) ls

-- and no other step
abbrev pub LooksMade : Option Group → Option Group → ℕ → View → Type 0
LooksMade before after m v = (loads : List Load) × MakesAll before (looks_at m loads) after m v
