-- Which names are dead and which keys are spent, as one view has it.
use Rattle.std.specs.Prelude.{◌≡◌, ℕ, ◌<◌, Some, None, false, ◌⊎◌}
use Rattle.std.specs.Ordering.{nat_cmp}
use Rattle.std.specs.BTreeMap.{get}
use Rattle.group_laws.specs.Places.{Place, owner}
use Rattle.group_laws.specs.Updates.{has}
use Rattle.group_machine.specs.declared.state.MemberView.{MemberView}
use Rattle.group_machine.specs.Shows.{pair_cmp, last_in}

abbrev pub IsDeadIn : MemberView → ℕ → ℕ → Type 0
IsDeadIn v k n = (n < last_in v k) ⊎ ((n ≡ last_in v k) × (get nat_cmp v.cell k ≡ None)
    × ((u h : ℕ) → get pair_cmp v.present (k, u) ≡ Some h → u ≡ n))

abbrev pub IsSpentIn : MemberView → ℕ → Type 0
IsSpentIn v k = (get nat_cmp v.cell k ≡ None) × ((u h : ℕ) → get pair_cmp v.present (k, u) ≡ Some h
    → ⊥) × (get nat_cmp v.pending k ≡ None)

-- a dead entry of an own key that stands in the own log
abbrev pub MustTell : Place → ℕ → MemberView → ℕ → ℕ → Type 0
MustTell p m v k n = (owner p k ≡ m) × (get pair_cmp v.present (k, n) ≡ Some m) × IsDeadIn v k n

-- the member may tell another that this entry in its log is dead
abbrev pub MayTell : Place → ℕ → MemberView → ℕ → ℕ → ℕ → Type 0
MayTell p m v to k n = (owner p k ≡ m) × IsDeadIn v k n × (get pair_cmp v.present (k, n) ≡ Some to)
    × (has v.told.items k n ≡ false)
