-- Changes are given back, one or all.
use Rattle.std.specs.Prelude.{◌≡◌, ℕ, Bool, true, false, List, [], ◌∷◌, map, Option}
use Rattle.group_laws.specs.State.{Group}
use Rattle.group_laws.specs.MemberViews.{View}
use Rattle.group_laws.specs.Runs.{Kind}
use Rattle.group_board.specs.Views.{after_mark, after_fail}
use Rattle.group_board.specs.Told.{Makes}
use Rattle.batch_leader.specs.declared.taken.Taken.{Taken}

-- what giving a change back makes of the view
abbrev pub marked : Taken → View → View
marked t v = after_mark t.member t.slot v

abbrev pub failed : Taken → View → View
failed t v = after_fail t.member t.slot v

-- The first change was given back, by one step of this kind.
pub record GivesFirst (gives : Taken → View → View) (kind : ℕ → ℕ → Kind) (m : ℕ)
    (before after : Option Group) (v v' : View) (old new : List Taken) : Type 0 where
  pub first : Taken
  pub rest : old ≡ first ∷ new
  pub view : v' ≡ gives first v
  pub whole : Makes before m (kind first.member first.slot) after v'

-- the same, or there was none left
abbrev pub GivesBack : Bool → (Taken → View → View) → (ℕ → ℕ → Kind) → ℕ → Option Group
    → Option Group → View → View → List Taken → List Taken → Type 0
GivesBack true gives kind m before after v v' old new = GivesFirst gives kind m before after v v'
    old new
GivesBack false gives kind m before after v v' old new = (old ≡ []) × (new ≡ []) × (v' ≡ v)
    × (after ≡ before)

-- the view after these are marked, one after another, and the steps of that
abbrev pub marked_all : List Taken → View → View
marked_all [] v = v
marked_all (t ∷ ts) v = marked_all ts (marked t v)

abbrev pub marks_of : ℕ → List Taken → List (ℕ × Kind)
marks_of m ts = map (λ t. (m, Kind.Mark t.member t.slot)) ts
