-- Which slots have a change that can be taken out.
use Rattle.group_laws.specs.declared.types.Slot.{Slot}
use Rattle.group_laws.specs.declared.types.Slot.TheVariants.{Empty, Posted, Taken, Done, Failed}

-- the owner offers a change
abbrev pub IsPosted : Slot → Type 0
IsPosted Empty = ⊥
IsPosted (Posted e) = Unit {0}
IsPosted Taken = ⊥
IsPosted (Done e h) = ⊥
IsPosted (Failed e) = ⊥

-- a leader gave the change back
abbrev pub IsOver : Slot → Type 0
IsOver Empty = ⊥
IsOver (Posted e) = ⊥
IsOver Taken = ⊥
IsOver (Done e h) = Unit {0}
IsOver (Failed e) = Unit {0}
