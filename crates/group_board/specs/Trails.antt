-- A member's steps, each with the view that it left.
use Rattle.group_laws.specs.Runs.{Kind}
use Rattle.group_laws.specs.MemberViews.{View}

-- A step of the machine, and the member's view after it.
pub record TrailStep : Type 0 where
  pub kind : Kind
  pub view : View

abbrev pub step_with : Kind → View → TrailStep
step_with kind view = record { kind = kind; view = view }
