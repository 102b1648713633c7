-- The two rules on a member's own keys: a key of which nothing stands is forgotten, and a dead entry in the own log needs no mail.
use Rattle.std.specs.Prelude.{◌≡◌, ℕ, Bool, true, Some, None, ◌⊎◌, ◌↔◌}
use Rattle.group_laws.specs.Places.{owner}
use Rattle.group_laws.specs.State.{Group}
use Rattle.group_laws.specs.Invariant.{IsDead}

-- m's key is deleted, nothing of it stands in a log, and no change of it is under way
abbrev pub IsSpent : Group → ℕ → ℕ → Type 0
IsSpent w m k = (owner w.place k ≡ m) × (w.cell k ≡ None) × ((v : ℕ) → w.present k v ≡ None)
    × (w.pending k ≡ None)

-- a dead entry of m's key stands in m's own log
abbrev pub TellsItself : Group → ℕ → ℕ → ℕ → Type 0
TellsItself w m k v = (owner w.place k ≡ m) × (w.present k v ≡ Some m) × IsDead w k v

-- what the rules make of the last versions, the names told and the names dead
pub record IsTidy (w : Group) (m : ℕ) (last : ℕ → ℕ) (told : ℕ → ℕ → Bool) (dead : ℕ → ℕ → ℕ
    → Bool) : Type 0 where
  pub forgets : (k : ℕ) → IsSpent w m k → last k ≡ 0
  pub keeps : (k : ℕ) → (IsSpent w m k × (last k ≡ 0)) ⊎ (last k ≡ w.last k)
  pub tells : (k v : ℕ) → (told k v ≡ true) ↔ ((w.told k v ≡ true) ⊎ TellsItself w m k v)
  pub learns : (h k v : ℕ) → (dead h k v ≡ true) ↔ ((w.dead h k v ≡ true)
      ⊎ ((h ≡ m) × TellsItself w m k v))

abbrev pub tidies : Group → (ℕ → ℕ) → (ℕ → ℕ → Bool) → (ℕ → ℕ → ℕ → Bool) → Group
tidies w last told dead = record w { last = last; told = told; dead = dead }

-- u is w after the rules on m's keys
abbrev pub Tidied : Group → ℕ → Group → Type 0
Tidied w m u = (last : ℕ → ℕ) × (told : ℕ → ℕ → Bool) × (dead : ℕ → ℕ → ℕ → Bool)
    × IsTidy w m last told dead × (u ≡ tidies w last told dead)
